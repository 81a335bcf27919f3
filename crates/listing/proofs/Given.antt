-- The operation `list`: each refusal is given exactly when document 01 says, no other is, and the list is written exactly where none is.
-- Assumes nothing.
use mathlib.Core.Path.{◌≡◌, refl, ap}
use mathlib.Core.Logic.Iff
use mathlib.Core.Logic.{◌↔◌, ◌⊎◌, inl, inr}
use mathlib.Core.Bool.{Bool, cond, So}
use mathlib.Core.List.{List}
use Prim.Native.Nat.{ℕ, ◌*◌, ◌≤◌, ◌<◌}
use native.Mathlib.Omega.{arith}
use native.Mathlib.Decide.{dec_lt}
use borrow.Author.Tests.{ltb-true, lt-ltb, leb-true, le-leb}
use lib.Dec.{leb, ltb}
use lib.ListN.{length}
use Rattle.figures.specs.declared.Place.{Place}
use Rattle.figures.specs.declared.Place.TheVariants as place
use Rattle.figures.specs.declared.Refusal.TheVariants.{NoSuch, ShortOutput}
use Rattle.figures.specs.Refusals.{Outcome, refusal, ◌then◌}
use Rattle.figures.specs.Refusals.Outcome.{refused, gives}
use Rattle.laws.proofs.Given.{refused_when, over_means}
use Rattle.laws.proofs.Order.{Passes, Numbered, Never, instead, numbered_never, never_then, skip, skip_never, stop, passes, test_numbered, test_passes, test_gives, test_then}
use Rattle.rows.specs.Checks.{occurrences}
use Rattle.layout.specs.Layout.{form1, requirements_in, runs_in}
use Rattle.layout.specs.Checks.{counts_of, file_says, requirement_rows_in}
use Rattle.suite_laws.proofs.Given.{OfFile, no_other as file_numbers, never_other}
use Rattle.suite_laws.proofs.Refused.{refuses_then}
use Rattle.suite_laws.proofs.Right.{FileRight, file_gives}
use Rattle.listing.specs.Answers.{list_of, listed}

not_below : (a b : ℕ) → (So (ltb a b) → ⊥) ↔ (b ≤ a)
not_below a b = (λ h. go h (dec_lt a b), λ l t. let e = ltb-true a b t in omega arith)
  where
    go : (So (ltb a b) → ⊥) → Dec (a < b) → b ≤ a
    go h (yes l) = absurd (h (lt-ltb a b l))
    go h (no l) = omega arith

-- "2 times occurrences times runs"
abbrev pub needed : List ℕ → ℕ → ℕ
needed file q = 2 * (length (occurrences (requirement_rows_in form1 file q)) * runs_in file)

-- the numbers that the operation can refuse by
abbrev pub OfList : ℕ → Type 0
OfList n = OfFile n ⊎ ((n ≡ 12) ⊎ (n ≡ 14))

module _ (file : List ℕ) (q room : ℕ) where
  abbrev answer : Outcome ℕ
  answer = list_of file q room

  -- the checks after the file's: 12, then 14
  abbrev there : Bool
  there = ltb q (requirements_in file)

  abbrev number : Outcome (Unit {0})
  number = cond there (gives tt) (refusal NoSuch)

  abbrev enough : Bool
  enough = leb (needed file q) room

  abbrev bytes : ℕ
  bytes = length (listed file q)

  abbrev size : Outcome ℕ
  size = cond enough (gives bytes) (refusal ShortOutput)

  abbrev after : Outcome ℕ
  after = number then λ _. size

  along : {o : Outcome ℕ} → (answer ≡ o) ↔ ((file_says form1 file then λ _. after) ≡ o)
  unfolding list_of
  along = instead (ap (λ (x : Outcome ℕ). file_says form1 file then λ _. x) (test_then there size NoSuch))

  file_passes : Passes (file_says form1 file) ↔ FileRight form1 file
  file_passes = (
    λ h. ((file_gives form1 file h.0).0 h.1).0,
    λ right. (counts_of file, (file_gives form1 file (counts_of file)).1 (right, refl)),
  )

  number_passes : Passes number ↔ (q < requirements_in file)
  number_passes = Iff.trans (test_passes tt NoSuch there) (ltb-true q _, lt-ltb q _)

  number_12 : Numbered number 12
  number_12 = test_numbered tt NoSuch there

  size_14 : Numbered size 14
  size_14 = test_numbered bytes ShortOutput enough

  never_size : (n : ℕ) → n < 14 → Never n size
  never_size n l = numbered_never n size size_14 (λ e. omega arith)

  -- no other number is given: 7, 10, 13 and those past 14 never are
  pub no_other : (n : ℕ) (p : Place) → answer ≡ refused n p → OfList n
  no_other n p e =
      refuses_then OfList (file_says form1 file) _ (λ k r g. inl (file_numbers form1 file k r g))
      (λ _. refuses_then OfList number _ (λ k r g. inr (inl (number_12 k r g))) (λ _ k r g. inr (inr (size_14 k r g))))
      n p (along.0 e)

  -- below 12 they are the file's alone, given exactly when `suite` says of them
  pub by_file : (n : ℕ) (p : Place) → n < 12 → (answer ≡ refused n p) ↔ (file_says form1 file ≡ refused n p)
  by_file n p l = Iff.trans along (stop after n _ p (never_then size n number number_12 (λ e. omega arith) (never_size n (omega arith))))

  -- past them the file is right
  past_file : (n : ℕ) (p : Place) → 11 < n → (answer ≡ refused n p) ↔ (FileRight form1 file × (after ≡ refused n p))
  past_file n p l =
      Iff.trans along (Iff.trans (skip_never after n _ p (never_other form1 file n (inr (inr l)))) (Iff.and file_passes Iff.rfl))

  pub given_12 : (answer ≡ refused 12 place.None) ↔ (FileRight form1 file × (requirements_in file ≤ q))
  given_12 =
      Iff.trans (past_file 12 _ (omega arith))
      (Iff.and Iff.rfl
      (Iff.trans (stop size 12 number _ (never_size 12 (omega arith)))
      (Iff.trans (refused_when tt NoSuch there) (not_below q (requirements_in file)))))

  pub given_14 : (answer ≡ refused 14 place.None) ↔ (FileRight form1 file × (q < requirements_in file) × (room < needed file q))
  given_14 =
      Iff.trans (past_file 14 _ (omega arith))
      (Iff.trans
      (Iff.and Iff.rfl
      (Iff.trans (skip size 14 number _ number_12 (λ e. omega arith))
      (Iff.and number_passes (Iff.trans (refused_when bytes ShortOutput enough) (over_means _ room)))))
      (λ h. (h.0, h.1.0, h.1.1), λ h. (h.0, (h.1, h.2))))

  -- nothing is refused
  pub written :
      (n : ℕ) → (answer ≡ gives n) ↔ (FileRight form1 file × (q < requirements_in file) × (needed file q ≤ room) × (length (listed file q) ≡ n))
  written n =
      Iff.trans along
      (Iff.trans (passes (file_says form1 file) after n)
      (Iff.trans
      (Iff.and file_passes
      (Iff.trans (passes number size n)
      (Iff.and number_passes (Iff.trans (test_gives bytes ShortOutput enough n) (Iff.and (leb-true _ room, le-leb _ room) Iff.rfl)))))
      (λ h. (h.0, h.1.0, h.1.1.0, h.1.1.1), λ h. (h.0, (h.1, (h.2, h.3))))))
