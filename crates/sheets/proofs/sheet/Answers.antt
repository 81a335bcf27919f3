-- `sheets::sheet` meets its contract: a file that is refused gives its refusal, and the page of one that passes is its sheet.
use mathlib.Core.Path.{◌≡◌, refl, sym, ap, subst}
use mathlib.Core.List.{List}
use Prim.Native.Nat.{ℕ}
use lib.ListN.{length}
use Rattle.limits.specs.declared.Suite.{Suite}
use Rattle.figures.specs.Refusals.{Outcome, ◌then◌}
use Rattle.figures.specs.Refusals.Outcome.{gives}
use Rattle.laws.proofs.Lent.{Answered, along, answered}
use Rattle.layout.specs.Layout.{form1}
use Rattle.layout.specs.Checks.{file_says}
use Rattle.lines.specs.Texts.{page_by, text_of}
use Rattle.sheets.specs.Answers.{sheet_of_file, page_text, sheet_of}
use Rattle.std.proofs.lemmas.Result.{err_from_is_err_and}
use Rattle.sheets.proofs.sheet.Goals as goal

module _ (file out : List ℕ) where
  -- the answer from the file's checks on
  by_file : {o : Outcome Suite} → o ≡ file_says form1 file → (o then λ _. text_of (sheet_of_file file) (length out)) ≡ sheet_of file (length out)
  unfolding sheet_of
  by_file e = ap (λ (o : Outcome Suite). o then λ _. text_of (sheet_of_file file) (length out)) e

  abbrev Says : List ℕ → Outcome ℕ → List ℕ → Type 0
  Says text = Answered text out (text_of text (length out))

  by-page :
      {s : Suite} {o : Outcome ℕ} {after : List ℕ} → gives s ≡ file_says form1 file → Says (page_text file) o after →
      Answered (sheet_of_file file) out (sheet_of file (length out)) o after
  unfolding page_text
  by-page {o = o} {after} e h =
      along (sheet_of_file file) out (by_file e)
      (subst (λ (x : Outcome Suite). Says (page_by x (sheet_of_file file)) o after) (sym e) h)

pub returns-in_err-check : goal.returns-in_err-check
returns-in_err-check c =
    let a = c.args in
    let both = answered (sheet_of_file a.file.now) a.out.now (by_file a.file.now a.out.now c.in_err-check.ensures) refl in
    let p = err_from_is_err_and c.from_residual.result c.from_residual.ensures.1 in
    rw (p.1, p.2) (record { result_value = both.0; out_after = both.1 })

pub returns : goal.returns
returns c =
    let a = c.args in
    let both = by-page a.file.now a.out.now c.in_ok-check.ensures (c.page.ensures.result_value, c.page.ensures.out_after) in
    record { result_value = both.0; out_after = both.1 }
