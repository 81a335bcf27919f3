-- A suite file is accepted exactly when it is the bytes of a suite within the limits, and that suite is unique.
-- Assumes nothing.
use mathlib.Core.Path.{◌≡◌, refl, sym, ◌∙◌, ap, ap₂, subst}
use mathlib.Core.Logic.{◌↔◌}
use mathlib.Core.List.{List, []}
use Prim.Native.Nat.{ℕ}
use Rattle.figures.specs.Refusals.Outcome.{gives}
use Rattle.laws.proofs.Order.{Passes}
use Rattle.rows.specs.Rows.{Row}
use Rattle.layout.specs.Layout.{form1}
use Rattle.layout.specs.Written.{Parts, bytes_of_suite, SuiteSound}
use Rattle.layout.specs.Checks.{counts_of, file_says, requirement_rows_in, run_words_in}
use Rattle.suite_laws.proofs.Parts.{parts_in, Bytes}
use Rattle.suite_laws.proofs.Listed.{tabulate_is}
use Rattle.suite_laws.proofs.Right.{file_gives}
use Rattle.suite_laws.proofs.Written.{rows_there, words_there, written_right}
use Rattle.suite_laws.proofs.Found.{found_bytes, found_sound}

-- the bytes of a suite within the limits are accepted, and it is read back from them
pub written_accepted : (parts : Parts) → SuiteSound form1 parts → file_says form1 (bytes_of_suite form1 parts) ≡ gives (counts_of (bytes_of_suite form1 parts))
written_accepted parts sound =
    let file = bytes_of_suite form1 parts in (file_gives form1 file (counts_of file)).1 (written_right parts sound, refl)

pub read_back : (parts : Parts) → SuiteSound form1 parts → parts_in form1 (bytes_of_suite form1 parts) ≡ parts
read_back parts sound =
    let file = bytes_of_suite form1 parts in
    ap₂ parts_of
    (tabulate_is (requirement_rows_in form1 file) parts.requirements [] (rows_there parts sound))
    (tabulate_is (run_words_in form1 file) parts.runs [] (words_there parts sound))
  where
    parts_of : List (List Row) → List (List ℕ) → Parts
    parts_of requirements runs = record { conditions = parts.conditions; requirements = requirements; runs = runs }

-- two suites with the same bytes are one suite
pub suite_unique : (a b : Parts) → SuiteSound form1 a → SuiteSound form1 b → bytes_of_suite form1 a ≡ bytes_of_suite form1 b → a ≡ b
suite_unique a b s t e = sym (read_back a s) ∙ ap (parts_in form1) e ∙ read_back b t

-- what is accepted is the bytes of what is found in it
pub accepted_written :
    (file : List ℕ) → Bytes file → Passes (file_says form1 file) →
    SuiteSound form1 (parts_in form1 file) × (bytes_of_suite form1 (parts_in form1 file) ≡ file)
accepted_written file small (counts, e) =
    let right = ((file_gives form1 file counts).0 e).0 in (found_sound file small right, found_bytes file small right)

pub accepted_iff :
    (file : List ℕ) → Bytes file →
    Passes (file_says form1 file) ↔ ((parts : Parts) × (SuiteSound form1 parts × (bytes_of_suite form1 parts ≡ file)))
accepted_iff file small = (
  λ h. (parts_in form1 file, accepted_written file small h),
  λ h. subst (λ (bytes : List ℕ). Passes (file_says form1 bytes)) h.1.1 (_, written_accepted h.0 h.1.0),
)
