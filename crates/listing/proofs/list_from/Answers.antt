-- `listing::list_from` meets its contract: the rows decoded from the requirement's body are listed, where there is such a requirement.
use borrow.Author.Tests.{lt-ltb, le-ltb}
use native.Mathlib.Omega.{arith}
use mathlib.Core.Path.{◌≡◌, refl, sym, ◌∙◌, ap, subst}
use mathlib.Core.Bool.{Bool, cond}
use mathlib.Core.List.{List}
use Prim.Native.Nat.{ℕ, ◌≤◌, ◌<◌}
use lib.ListN.{length}
use Rattle.figures.specs.declared.Refusal.TheVariants.{NoSuch}
use Rattle.figures.specs.Refusals.{Outcome, refusal}
use Rattle.rows.specs.Rows.{Row}
use Rattle.layout.specs.Layout.{form1, requirements_in, runs_in}
use Rattle.layout.specs.Checks.{requirement_rows_in, run_words_in}
use Rattle.bench.proofs.Decoded.{decoded, decoded_ready}
use Rattle.listing.specs.Answers.{pairs_of, rows_listed, list_from}
use Rattle.laws.proofs.Lent.{Answered, along, answered}
use Rattle.listing.proofs.list_from.Goals as goal

module _ (ours theirs : List ℕ) (q : ℕ) (out : List ℕ) where
  -- what rows say of the runs, an answer, and the lent bytes that it leaves
  abbrev Listed : List Row → ℕ → Outcome ℕ → List ℕ → Type 0
  Listed rows runs =
      Answered (pairs_of rows runs (run_words_in form1 theirs)) out (rows_listed rows runs (run_words_in form1 theirs) (length out))

  -- the same of the requirement
  abbrev bytes : List ℕ
  bytes = pairs_of (requirement_rows_in form1 ours q) (runs_in theirs) (run_words_in form1 theirs)

  abbrev Says : Outcome ℕ → List ℕ → Type 0
  Says = Answered bytes out (list_from ours theirs q (length out))

  abbrev from-number : Bool → Outcome ℕ
  from-number there =
      cond there (rows_listed (requirement_rows_in form1 ours q) (runs_in theirs) (run_words_in form1 theirs) (length out)) (refusal NoSuch)

  by_rows :
      {rows : List Row} {runs : ℕ} {o : Outcome ℕ} {after : List ℕ} → q < requirements_in ours → rows ≡ requirement_rows_in form1 ours q →
      runs ≡ runs_in theirs → Listed rows runs o after → Says o after
  by_rows {runs = runs} {o} {after} l rows_are runs-are h =
      along bytes out (ap from-number (sym (lt-ltb q (requirements_in ours) l)))
      (subst (λ n. Listed (requirement_rows_in form1 ours q) n o after) runs-are (subst (λ r. Listed r runs o after) rows_are h))

pub list_rows-requires : goal.list_rows-requires
list_rows-requires c =
    let requirements = c.args.requirements in
    rw c.deref.ensures.0 (decoded_ready requirements.ready (omega (arith, requirements.counted)) c.requirement_bytes.ensures c.decode-rows.ensures)

pub returns : goal.returns
returns c =
    let requirements = c.args.requirements in
    let runs = c.args.runs in
    let there : c.args.q.0 < requirements_in requirements.file.now = omega (arith, requirements.counted) in
    let both = by_rows requirements.file.now runs.file.now c.args.q.0 c.args.out.now there
    (c.deref.ensures.0 ∙ decoded requirements.ready there c.requirement_bytes.ensures c.decode-rows.ensures) runs.counted
    (c.list_rows.ensures.result_value, c.list_rows.ensures.out_after) in
    record { result_value = both.0; out_after = both.1 }
