-- `sheets::put_page` meets its contract: a file that is refused gives its line, and one that passes is ready for its sheet.
use mathlib.Core.Path.{◌≡◌, ◌∙◌, ap}
use mathlib.Core.List.{List, ◌++◌}
use Prim.Native.Nat.{ℕ}
use Rattle.limits.specs.declared.Suite.{Suite}
use Rattle.figures.specs.Refusals.{Outcome}
use Rattle.lines.specs.Texts.{page_by}
use Rattle.layout.specs.Layout.{form1}
use Rattle.layout.specs.Checks.{file_says}
use Rattle.bench.specs.Files.{bench_of}
use Rattle.bench.specs.Sheet.{sheet_text}
use Rattle.sheets.specs.Answers.{sheet_of_file, page_text}
use Rattle.sheets.proofs.put_page.Goals as goal

-- the page from the file's checks on
by_file : (file before : List ℕ) {o : Outcome Suite} → o ≡ file_says form1 file → before ++ page_by o (sheet_of_file file) ≡ before ++ page_text file
unfolding page_text
by_file file before e = ap (λ (o : Outcome Suite). before ++ page_by o (sheet_of_file file)) e

pub returns-in-Err : goal.returns-in-Err
returns-in-Err g c = c.put_refused.ensures ∙ by_file c.args.file.now c.args.page.now.text.items c.in-Err.ensures

pub returns-in-Ok : goal.returns-in-Ok
returns-in-Ok g c =
    let put = rw (c.of.ensures, c.of-in-Ok.ensures) at c.put_sheet.ensures in
    put ∙ by_file c.args.file.now c.args.page.now.text.items c.in-Ok.ensures
