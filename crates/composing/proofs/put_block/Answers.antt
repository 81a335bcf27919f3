-- `composing::put_block` meets its contract: the rows decoded from the requirement's body give its block.
use native.Mathlib.Omega.{arith}
use mathlib.Core.Path.{◌≡◌, ◌∙◌, subst}
use mathlib.Core.Bool.{Bool}
use mathlib.Core.List.{List, ◌++◌}
use Prim.Native.Nat.{ℕ, ◌<◌}
use Rattle.rows.specs.Rows.{Row}
use Rattle.layout.specs.Layout.{form1, requirements_in}
use Rattle.layout.specs.Checks.{run_words_in}
use Rattle.bench.specs.Sheet.{block_from}
use Rattle.bench.specs.Tables.{RequirementNoted}
use Rattle.bench.proofs.Decoded.{decoded, decoded_ready}
use Rattle.composing.proofs.put_block.Goals as goal

-- what rows over runs leave of the page and the notes
module _ (words : ℕ → List ℕ) (q : ℕ) (before after : List ℕ) (notes notes' : List Bool) where
  abbrev Done : List Row → ℕ → Type 0
  Done rows runs = (after ≡ before ++ block_from rows runs words q) × RequirementNoted rows runs words q notes notes'

  of-rows : {rows rows' : List Row} {runs runs' : ℕ} → rows ≡ rows' → runs ≡ runs' → Done rows runs → Done rows' runs'
  of-rows {rows} {runs' = runs'} e n h = subst (λ (r : List Row). Done r runs') e (subst (Done rows) n h)

pub put_block_of-requires : goal.put_block_of-requires
put_block_of-requires g c =
    let fits = c.well_formed in
    let requirements = c.args.requirements in
    let few = requirements.ready.few_requirements in
    let there : c.args.q.0 < requirements_in requirements.file.now = omega (arith, requirements.counted, c.requires.0) in (
      omega arith,
      (
        rw c.deref.ensures.0 (decoded_ready requirements.ready there c.requirement_bytes.ensures c.decode-rows.ensures),
        omega (arith, few),
        c.requires.1,
      ),
    )

pub returns : goal.returns
returns g c =
    let requirements = c.args.requirements in
    let runs = c.args.runs in
    let there : c.args.q.0 < requirements_in requirements.file.now = omega (arith, requirements.counted, c.requires.0) in
    let put = c.put_block_of.ensures in
    let both = of-rows (run_words_in form1 runs.file.now) c.args.q.0 c.args.page.now.text.items _ c.args.notes.now.cells _
    (c.deref.ensures.0 ∙ decoded requirements.ready there c.requirement_bytes.ensures c.decode-rows.ensures) runs.counted
    (put.puts, put.requirement_noted) in
    record { puts = both.0; ends = put.ends; requirement_noted = both.1 }
