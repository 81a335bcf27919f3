-- Each refusal is given exactly when document 01 says: 1, 3, 7 and 10; and the order of checks in plain logic.
-- Assumes nothing.
use mathlib.Core.Path.{◌≡◌, refl}
use mathlib.Core.Logic.Iff
use mathlib.Core.Logic.{◌↔◌, ◌⊎◌, inl, inr, ⊎_elim, ⊎_map}
use mathlib.Core.Bool.{Bool, true, false, cond, ◌&&◌, So, and-eq-true_iff, false≢true}
use Prim.Native.Nat.{ℕ, ◌≤◌, ◌<◌, ◌/◌, ◌%◌}
use native.Mathlib.Omega.{arith}
use native.Mathlib.Decide.{dec_lt}
use borrow.Author.Tests.{leb-true, le-leb, eqb-true, eq-eqb}
use lib.Dec.{leb}
use Rattle.figures.specs.declared.Place.{Place}
use Rattle.figures.specs.declared.Place.TheVariants as place
use Rattle.figures.specs.declared.Refusal.{Refusal}
use Rattle.figures.specs.declared.Refusal.TheVariants.{FileBytes, Counts, TableLength, RunLength}
use Rattle.figures.specs.Refusals.{Outcome, refusal}
use Rattle.figures.specs.Refusals.Outcome.{refused, gives}
use Rattle.limits.specs.Limits.{within, counts_within, suite_of, file_of, most_conditions, most_requirements, most_runs, least_bytes, most_bytes}
use Rattle.lengths.specs.Lengths.{rows_within, row_bytes, rows_of, table_of, requirement_of, run_of, most_requirement_rows, most_table_rows, most_steps}

-- a refusal is no value
pub not_both : {A B : Type 0} {n : ℕ} {p : Place} {a : A} {o : Outcome A} → o ≡ refused n p → o ≡ gives a → B
not_both e f = absurd (let z : ◌≡◌ {A = ℕ} 0 1 = cc in omega arith)

-- a check that is one test: it gives where the test passes, and refuses exactly where it fails
module _ {A : Type 0} (x : A) (r : Refusal) where
  pub gives_when : (b : Bool) {y : A} → cond b (gives x) (refusal r) ≡ gives y → So b
  gives_when true e = refl
  gives_when false e = not_both refl e

  pub refused_when : (b : Bool) → (cond b (gives x) (refusal r) ≡ refusal r) ↔ (So b → ⊥)
  refused_when true = (λ e. not_both e refl, λ h. absurd (h refl))
  refused_when false = (λ _. false≢true, λ _. refl)

-- a test of a limit, in plain logic
pub within_means : (least most n : ℕ) → So (within least most n) ↔ ((least ≤ n) × (n ≤ most))
within_means least most n = (
  λ t. let h = (and-eq-true_iff (leb least n) (leb n most)).0 t in (leb-true least n h.0, leb-true n most h.1),
  λ h. (and-eq-true_iff (leb least n) (leb n most)).1 (le-leb least n h.0, le-leb n most h.1),
)

pub over_means : (n most : ℕ) → (So (leb n most) → ⊥) ↔ (most < n)
over_means n most = (λ h. go h (dec_lt most n), λ l t. let e = leb-true n most t in omega arith)
  where
    go : (So (leb n most) → ⊥) → Dec (most < n) → most < n
    go h (yes l) = l
    go h (no l) = absurd (h (le-leb n most (omega arith)))

-- beyond its limits
abbrev pub Beyond : ℕ → ℕ → ℕ → Type 0
Beyond least most n = (n < least) ⊎ (most < n)

pub beyond_means : (least most n : ℕ) → (So (within least most n) → ⊥) ↔ Beyond least most n
beyond_means least most n = (
  λ h. go h (dec_lt n least) (dec_lt most n),
  λ b t. let w = (within_means least most n).0 t in ⊎_elim (λ l. omega (arith, w.0)) (λ l. omega (arith, w.1)) b,
)
  where
    go : (So (within least most n) → ⊥) → Dec (n < least) → Dec (most < n) → Beyond least most n
    go h (yes l) d = inl l
    go h (no l) (yes g) = inr g
    go h (no l) (no g) = absurd (h ((within_means least most n).1 (omega arith, omega arith)))

pub either_iff : {A B C D : Type 0} → A ↔ C → B ↔ D → (A ⊎ B) ↔ (C ⊎ D)
either_iff f g = (⊎_map f.0 g.0, ⊎_map f.1 g.1)

-- two tests do not both pass exactly where one fails
pub not_and : (a b : Bool) → (So (a && b) → ⊥) ↔ ((So a → ⊥) ⊎ (So b → ⊥))
not_and true b = (inr, ⊎_elim (λ h. absurd (h refl)) (λ h. h))
not_and false b = (λ _. inl false≢true, λ _. false≢true)

-- 1
pub given_1 : (bytes : ℕ) → (file_of bytes ≡ refused 1 place.None) ↔ Beyond least_bytes most_bytes bytes
unfolding file_of
given_1 bytes = Iff.trans (refused_when tt FileBytes _) (beyond_means least_bytes most_bytes bytes)

-- 3
pub given_3 :
    (c q r : ℕ) →
    (suite_of c q r ≡ refused 3 place.None) ↔ (Beyond 1 most_conditions c ⊎ (Beyond 1 most_requirements q ⊎ Beyond 1 most_runs r))
unfolding suite_of
given_3 c q r =
    Iff.trans (refused_when _ Counts (counts_within c q r))
    (Iff.trans (not_and _ _)
    (either_iff (beyond_means 1 most_conditions c)
    (Iff.trans (not_and _ _) (either_iff (beyond_means 1 most_requirements q) (beyond_means 1 most_runs r)))))

-- 7, of a table of at most so many rows
abbrev pub WrongLength : ℕ → ℕ → Type 0
WrongLength most bytes = (bytes % row_bytes ≡ 0 → ⊥) ⊎ Beyond 1 most (bytes / row_bytes)

length_means : (most bytes : ℕ) → (So (rows_within most bytes) → ⊥) ↔ WrongLength most bytes
length_means most bytes =
    Iff.trans (not_and _ _)
    (either_iff (λ h e. h (eq-eqb _ _ e), λ h t. h (eqb-true _ _ t)) (beyond_means 1 most (bytes / row_bytes)))

pub given_7 : (bytes : ℕ) → (table_of bytes ≡ refused 7 place.None) ↔ WrongLength most_table_rows bytes
unfolding rows_of
given_7 bytes = Iff.trans (refused_when _ TableLength _) (length_means most_table_rows bytes)

pub given_7_requirement : (bytes : ℕ) → (requirement_of bytes ≡ refused 7 place.None) ↔ WrongLength most_requirement_rows bytes
unfolding rows_of
given_7_requirement bytes = Iff.trans (refused_when _ TableLength _) (length_means most_requirement_rows bytes)

-- 10
pub given_10 : (steps : ℕ) → (run_of steps ≡ refused 10 place.None) ↔ Beyond 1 most_steps steps
unfolding run_of
given_10 steps = Iff.trans (refused_when _ RunLength _) (beyond_means 1 most_steps steps)
