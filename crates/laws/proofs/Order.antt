-- Checks in order: which refusal is given, in plain logic. A check has one number, and a later one is asked where the earlier pass.
-- Assumes nothing.
use mathlib.Core.Path.{◌≡◌, refl, sym, ◌∙◌, ap}
use mathlib.Core.Logic.Iff
use mathlib.Core.Logic.{◌↔◌}
use mathlib.Core.Bool.{Bool, true, false, cond, So, false≢true}
use Rattle.std.specs.Prelude.{Option, None, Some}
use Prim.Native.Nat.{ℕ}
use native.Mathlib.Omega.{arith}
use Rattle.figures.specs.declared.Place.{Place}
use Rattle.figures.specs.declared.Refusal.{Refusal}
use Rattle.figures.specs.Refusals.{Outcome, refusal, number_of, ◌then◌}
use Rattle.figures.specs.Refusals.Outcome.{refused, gives}
use Rattle.figures.specs.Numbers.{lowest, refused_at}
use Rattle.laws.proofs.Given.{not_both}
use Rattle.laws.proofs.Lowest.{Holds, Lowest, lowest_none, lowest_some, lowest_holds, lowest_is}

-- a check passes; it refuses by one number alone; it never refuses by a number
abbrev pub Passes : {A : Type 0} → Outcome A → Type 0
Passes {A} o = (a : A) × (o ≡ gives a)

abbrev pub Numbered : {A : Type 0} → Outcome A → ℕ → Type 0
Numbered o n = (m : ℕ) (p : Place) → o ≡ refused m p → m ≡ n

abbrev pub Never : {A : Type 0} → ℕ → Outcome A → Type 0
Never n o = (p : Place) → o ≡ refused n p → ⊥

pub same_number : {A : Type 0} {m n : ℕ} {p q : Place} → ◌≡◌ {A = Outcome A} (refused m p) (refused n q) → m ≡ n
same_number e = cc

same_value : {A : Type 0} {a b : A} → ◌≡◌ {A = Outcome A} (gives a) (gives b) → a ≡ b
same_value e = cc

-- a check passes, and what it gives is so
abbrev pub Giving : {A : Type 0} → Outcome A → (A → Type 0) → Type 0
Giving {A} o P = (a : A) × ((o ≡ gives a) × P a)

pub numbered_never : {A : Type 0} (n : ℕ) (x : Outcome A) {m : ℕ} → Numbered x m → (m ≡ n → ⊥) → Never n x
numbered_never n x one d p e = d (sym (one n p e))

pub never_gives : {A : Type 0} (n : ℕ) (a : A) → Never n (gives a)
never_gives n a p e = not_both e refl

-- an outcome in another's place
pub instead : {A : Type 0} {x y o : Outcome A} → x ≡ y → (x ≡ o) ↔ (y ≡ o)
instead e = (λ h. sym e ∙ h, λ h. e ∙ h)

-- a later check may ask for what an earlier one gives
module _ {A B : Type 0} (f : A → Outcome B) where
  -- what the earlier check does not say, the later one says
  pub past : (x : Outcome A) (o : Outcome B) → ((k : ℕ) (q : Place) → x ≡ refused k q → refused k q ≡ o → ⊥) → ((x then f) ≡ o) ↔ Giving x (λ a. f a ≡ o)
  past (refused k q) o other = (λ e. absurd (other k q refl e), λ h. not_both refl h.1.0)
  past (gives a) o other = (λ e. (a, (refl, e)), λ h. ap f (same_value h.1.0) ∙ h.1.1)

  pub passes_by : (x : Outcome A) (b : B) → ((x then f) ≡ gives b) ↔ Giving x (λ a. f a ≡ gives b)
  passes_by x b = past x (gives b) (λ k q _ e. not_both refl e)

  module _ (n : ℕ) where
    -- an earlier check by another number passes, and the rest refuses
    pub skip_by : (x : Outcome A) (p : Place) → Never n x → ((x then f) ≡ refused n p) ↔ Giving x (λ a. f a ≡ refused n p)
    skip_by x p other = past x (refused n p) (λ k q e g. other q (e ∙ ap (λ i. refused i q) (same_number g)))

    -- the rest never refuses by this number, so this check does
    pub stop_by : (x : Outcome A) (p : Place) → ((a : A) → Never n (f a)) → ((x then f) ≡ refused n p) ↔ (x ≡ refused n p)
    stop_by (refused k q) p none_after = (λ e. let z = same_number e in cc, λ e. cc)
    stop_by (gives a) p none_after = (λ e. absurd (none_after a p e), λ e. not_both e refl)

    pub never_by : (x : Outcome A) → Never n x → ((a : A) → Never n (f a)) → Never n (x then f)
    never_by x before after p e = let h = (skip_by x p before).0 e in after h.0 p h.1.1

-- the same where it does not
giving_both : {A Q : Type 0} (x : Outcome A) → Giving x (λ _. Q) ↔ (Passes x × Q)
giving_both x = (λ h. ((h.0, h.1.0), h.1.1), λ h. (h.0.0, (h.0.1, h.1)))

module _ {A B : Type 0} (o : Outcome B) (n : ℕ) where
  pub skip_never : (x : Outcome A) (p : Place) → Never n x → ((x then λ _. o) ≡ refused n p) ↔ (Passes x × (o ≡ refused n p))
  skip_never x p other = Iff.trans (skip_by (λ _. o) n x p other) (giving_both x)

  pub skip : (x : Outcome A) {m : ℕ} (p : Place) → Numbered x m → (m ≡ n → ⊥) → ((x then λ _. o) ≡ refused n p) ↔ (Passes x × (o ≡ refused n p))
  skip x p one d = skip_never x p (numbered_never n x one d)

  pub stop : (x : Outcome A) (p : Place) → Never n o → ((x then λ _. o) ≡ refused n p) ↔ (x ≡ refused n p)
  stop x p none_after = stop_by (λ _. o) n x p (λ _. none_after)

  pub never_then : (x : Outcome A) {m : ℕ} → Numbered x m → (m ≡ n → ⊥) → Never n o → Never n (x then λ _. o)
  never_then x one d after = never_by (λ _. o) n x (numbered_never n x one d) (λ _. after)

-- all pass, and the last gives its value
pub passes : {A B : Type 0} (x : Outcome A) (o : Outcome B) (b : B) → ((x then λ _. o) ≡ gives b) ↔ (Passes x × (o ≡ gives b))
passes x o b = Iff.trans (passes_by (λ _. o) x b) (giving_both x)

pub both_pass : {A B : Type 0} (x : Outcome A) (y : Outcome B) → Passes (x then λ _. y) ↔ (Passes x × Passes y)
both_pass x y = (λ h. let e = (passes x y h.0).0 h.1 in (e.0, (h.0, e.1)), λ h. (h.1.0, (passes x y h.1.0).1 (h.0, h.1.1)))

pub passes_alone : {A : Type 0} (x : Outcome A) → Passes (x then λ _. gives (tt {0})) ↔ Passes x
passes_alone x = (λ h. ((both_pass x _).0 h).0, λ h. (both_pass x _).1 (h, (tt, refl)))

pub then_assoc : {A B C : Type 0} (x : Outcome A) (y : Outcome B) (z : Outcome C) → ((x then λ _. y) then λ _. z) ≡ (x then λ _. y then λ _. z)
then_assoc (refused k q) y z = refl
then_assoc (gives a) y z = refl

-- a check that is one test
module _ {A : Type 0} (x : A) (r : Refusal) where
  pub test_numbered : (b : Bool) → Numbered (cond b (gives x) (refusal r)) (number_of r)
  test_numbered true m p e = not_both e refl
  test_numbered false m p e = sym (same_number e)

  pub test_passes : (b : Bool) → Passes (cond b (gives x) (refusal r)) ↔ So b
  test_passes true = (λ _. refl, λ _. (x, refl))
  test_passes false = (λ h. not_both refl h.1, λ e. (x, ap (λ t. cond t (gives x) (refusal r)) e))

  pub test_gives : (b : Bool) (y : A) → (cond b (gives x) (refusal r) ≡ gives y) ↔ (So b × (x ≡ y))
  test_gives true y = (λ e. (refl, same_value e), λ h. ap gives h.1)
  test_gives false y = (λ e. not_both refl e, λ h. absurd (false≢true h.0))

-- a test before a check
pub test_then : {A : Type 0} (b : Bool) (o : Outcome A) (r : Refusal) → cond b o (refusal r) ≡ (cond b (gives (tt {0})) (refusal r) then λ _. o)
test_then true o r = refl
test_then false o r = refl

-- a check that refuses at the lowest place
module _ (at : ℕ → Refusal) (m : ℕ) (f : ℕ → Bool) where
  pub lowest_numbered : (n : ℕ) → ((k : ℕ) → number_of (at k) ≡ n) → Numbered (refused_at at (lowest m 0 f)) n
  lowest_numbered n same k p = go (lowest m 0 f)
    where
      go : (l : Option ℕ) → refused_at at l ≡ refused k p → k ≡ n
      go None e = not_both e refl
      go (Some j) e = sym (same_number e) ∙ same j

  pub lowest_passes : Passes (refused_at at (lowest m 0 f)) ↔ Holds f 0 m
  lowest_passes = (
    λ h. let e = go (lowest m 0 f) refl h.1 in λ k l g. lowest_holds m 0 f e k l (omega arith),
    λ h. (tt, ap (refused_at at) (lowest_none m 0 f (λ k l g. h k l (omega arith)))),
  )
    where
      go : (l : Option ℕ) → lowest m 0 f ≡ l → refused_at at l ≡ gives tt → lowest m 0 f ≡ None
      go None q e = q
      go (Some j) q e = not_both refl e

  -- given at a place exactly where it is the lowest that fails, if a place says where it is
  pub lowest_refused :
      (n : ℕ) (place : ℕ → Place) (where_is : Place → ℕ) → ((k : ℕ) → refusal {A = Unit {0}} (at k) ≡ refused n (place k)) →
      ((k : ℕ) → where_is (place k) ≡ k) → (j : ℕ) → (refused_at at (lowest m 0 f) ≡ refused n (place j)) ↔ Lowest f m 0 j
  lowest_refused n place where_is is tells j = (
    λ e. lowest_is m 0 f j (go (lowest m 0 f) refl e),
    λ h. ap (refused_at at) (lowest_some m 0 f j h) ∙ is j,
  )
    where
      same_place : {k l : ℕ} {p q : Place} → ◌≡◌ {A = Outcome (Unit {0})} (refused k p) (refused l q) → p ≡ q
      same_place e = cc

      go : (l : Option ℕ) → lowest m 0 f ≡ l → refused_at at l ≡ refused n (place j) → lowest m 0 f ≡ Some j
      go None q e = not_both e refl
      go (Some k) q e = q ∙ ap Some (sym (tells k) ∙ ap where_is (same_place (sym (is k) ∙ e)) ∙ tells j)
