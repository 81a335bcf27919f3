-- A suite file: each refusal is given exactly when document 01 says, the first wrong entry, requirement and run counting, and no other.
-- Assumes nothing.
use mathlib.Core.Path.{◌≡◌, refl, ◌∙◌, ap}
use mathlib.Core.Logic.Iff
use mathlib.Core.Logic.{◌↔◌, ◌⊎◌, inl, inr, ⊎_elim}
use mathlib.Core.List.{List}
use Prim.Native.Nat.{ℕ, ◌≤◌, ◌<◌}
use native.Mathlib.Omega.{arith}
use native.Mathlib.Decide.{ℕ_discrete}
use lib.ListN.{length}
use Rattle.figures.specs.declared.Place.{Place}
use Rattle.figures.specs.declared.Place.TheVariants as place
use Rattle.limits.specs.declared.Suite.{Suite}
use Rattle.figures.specs.Refusals.{Outcome, ◌then◌}
use Rattle.figures.specs.Refusals.Outcome.{refused, gives}
use Rattle.limits.specs.Limits.{least_bytes, most_bytes}
use Rattle.laws.proofs.Given.{Beyond}
use Rattle.laws.proofs.Lowest.{Lowest}
use Rattle.laws.proofs.Order.{Passes, Never, never_gives, never_by, never_then, skip_by, skip_never, stop, stop_by}
use Rattle.laws.proofs.Passed.{Within}
use Rattle.layout.specs.Layout.{Layout, requirements_in, runs_in, items_in, contents_end, entry_at, must_begin, entry_right}
use Rattle.layout.specs.Checks.{of_suite, counts_of, contents_of_file, requirement_of_file, run_of_file, requirements_of_file, runs_of_file, file_says}
use Rattle.suite_laws.proofs.GivenContents.{SizeRight, FormRight, CountsRight, InsideRight, EntriesRight, CountsBeyond, contents_numbers, contents_1, contents_2, contents_3, contents_4, contents_5, contents_6}
use Rattle.suite_laws.proofs.GivenParts.{FirstAt, place_of_row, word_place, UnsoundAt, UnrequiredAt, StrayAt, requirements_numbers, runs_numbered, requirements_8, requirements_9, runs_11}
use Rattle.suite_laws.proofs.Refused.{refuses_gives, refuses_then}
use Rattle.suite_laws.proofs.Right.{ContentsRight, in_turn_passes, contents_give}

-- the numbers that a file can be refused by
abbrev pub OfFile : ℕ → Type 0
OfFile n = Within 1 6 n ⊎ ((n ≡ 8) ⊎ ((n ≡ 9) ⊎ (n ≡ 11)))

-- each requirement passes
abbrev pub RequirementsPass : Layout → List ℕ → Type 0
RequirementsPass form file = (q : ℕ) → q < requirements_in file → Passes (requirement_of_file form file q)

module _ (form : Layout) (file : List ℕ) where
  abbrev contents : Outcome Suite
  contents = contents_of_file form of_suite file

  abbrev after_requirements : Suite → Outcome Suite
  after_requirements counts = runs_of_file form file then λ _. gives counts

  abbrev after_contents : Suite → Outcome Suite
  after_contents counts = requirements_of_file form file then λ _. after_requirements counts

  -- no other number is given: 7, 10 and those past 11 never are
  pub no_other : (n : ℕ) (p : Place) → file_says form file ≡ refused n p → OfFile n
  unfolding file_says
  no_other =
      refuses_then OfFile contents after_contents (λ n p e. inl (contents_numbers form of_suite file n p e))
      (λ counts. refuses_then OfFile (requirements_of_file form file) _ (λ n p e. of_requirements n (requirements_numbers form file n p e))
      (λ _. refuses_then OfFile (runs_of_file form file) _ (λ n p e. inr (inr (inr (runs_numbered form file n p e))))
      (λ _. refuses_gives OfFile counts)))
    where
      of_requirements : (n : ℕ) → Within 8 9 n → OfFile n
      of_requirements n w = go (ℕ_discrete n 8)
        where
          go : Dec (n ≡ 8) → OfFile n
          go (yes e) = inr (inl e)
          go (no d) = inr (inr (inl (omega arith)))

  pub never_other : (n : ℕ) → ((n ≡ 7) ⊎ ((n ≡ 10) ⊎ (11 < n))) → Never n (file_says form file)
  never_other n other p e =
      let h = not_other (no_other n p e) in
      ⊎_elim h.0 (⊎_elim h.1.0 (λ l. let few = h.1.1 in omega arith)) other
    where
      not_other : OfFile n → (n ≡ 7 → ⊥) × ((n ≡ 10 → ⊥) × (n ≤ 11))
      not_other (inl w) = (λ e. omega arith, (λ e. omega arith, omega arith))
      not_other (inr (inl s)) = (λ e. omega arith, (λ e. omega arith, omega arith))
      not_other (inr (inr (inl s))) = (λ e. omega arith, (λ e. omega arith, omega arith))
      not_other (inr (inr (inr s))) = (λ e. omega arith, (λ e. omega arith, omega arith))

  never_requirements : (n : ℕ) → (n < 8) ⊎ (9 < n) → Never n (requirements_of_file form file)
  never_requirements n other p e =
      let w = requirements_numbers form file n p e in ⊎_elim (λ l. omega arith) (λ l. omega arith) other

  never_runs : (n : ℕ) (counts : Suite) → n < 11 → Never n (after_requirements counts)
  never_runs n counts l = never_then _ n _ (runs_numbered form file) (λ e. omega arith) (never_gives n counts)

  -- 1 to 6 are the contents'
  by_contents : (n : ℕ) (p : Place) → n < 7 → (file_says form file ≡ refused n p) ↔ (contents ≡ refused n p)
  unfolding file_says
  by_contents n p l =
      stop_by after_contents n contents p
      (λ counts. never_by _ n (requirements_of_file form file) (never_requirements n (inl (omega arith))) (λ _. never_runs n counts (omega arith)))

  pub given_1 : (file_says form file ≡ refused 1 place.None) ↔ Beyond least_bytes most_bytes (length file)
  given_1 = Iff.trans (by_contents 1 _ (omega arith)) (contents_1 form of_suite file)

  pub given_2 : (file_says form file ≡ refused 2 place.None) ↔ (SizeRight file × (FormRight form file → ⊥))
  given_2 = Iff.trans (by_contents 2 _ (omega arith)) (contents_2 form of_suite file)

  pub given_3 : (file_says form file ≡ refused 3 place.None) ↔ (SizeRight file × (FormRight form file × CountsBeyond of_suite file))
  given_3 = Iff.trans (by_contents 3 _ (omega arith)) (contents_3 form of_suite file)

  pub given_4 :
      (file_says form file ≡ refused 4 place.None)
      ↔ (SizeRight file × (FormRight form file × (CountsRight of_suite file × (length file < contents_end form file))))
  given_4 = Iff.trans (by_contents 4 _ (omega arith)) (contents_4 form of_suite file)

  pub given_5 :
      0 < form.entry_size → (k : ℕ) →
      (file_says form file ≡ refused 5 (place.Byte (record { 0 = entry_at form k })))
      ↔ (SizeRight file
      × (FormRight form file × (CountsRight of_suite file × (InsideRight form file × Lowest (entry_right form file) (items_in file) 0 k))))
  given_5 some k = Iff.trans (by_contents 5 _ (omega arith)) (contents_5 form of_suite file some k)

  pub given_6 :
      (file_says form file ≡ refused 6 place.None)
      ↔ (SizeRight file
      × (FormRight form file
      × (CountsRight of_suite file
      × (InsideRight form file × (EntriesRight form file × (length file ≡ must_begin form file (items_in file) → ⊥))))))
  given_6 = Iff.trans (by_contents 6 _ (omega arith)) (contents_6 form of_suite file)

  -- past them the contents are right
  past_contents : (n : ℕ) (p : Place) → 6 < n → (file_says form file ≡ refused n p) ↔ (ContentsRight form of_suite file × (after_contents (counts_of file) ≡ refused n p))
  unfolding file_says
  past_contents n p l =
      Iff.trans (skip_by after_contents n contents p (λ q e. let w = contents_numbers form of_suite file n q e in omega arith)) (
        λ h.
            let (counts, (first, later)) = h in
            let (right, same) = (contents_give form file of_suite counts).0 first in
            (right, ap after_contents same ∙ later),
        λ h. (counts_of file, ((contents_give form file of_suite (counts_of file)).1 (h.0, refl), h.1)),
      )

  -- 8 and 9
  by_requirements : (n : ℕ) (p : Place) → 6 < n → n < 11 → (file_says form file ≡ refused n p) ↔ (ContentsRight form of_suite file × (requirements_of_file form file ≡ refused n p))
  by_requirements n p l g =
      Iff.trans (past_contents n p l) (Iff.and Iff.rfl (stop _ n (requirements_of_file form file) p (never_runs n (counts_of file) g)))

  pub given_8 :
      (p : Place) →
      (file_says form file ≡ refused 8 p)
      ↔ (ContentsRight form of_suite file
      × FirstAt (requirements_in file) (requirement_of_file form file) (place_of_row form file) (UnsoundAt form file) p)
  given_8 p = Iff.trans (by_requirements 8 p (omega arith) (omega arith)) (Iff.and Iff.rfl (requirements_8 form file p))

  pub given_9 :
      (p : Place) →
      (file_says form file ≡ refused 9 p)
      ↔ (ContentsRight form of_suite file
      × FirstAt (requirements_in file) (requirement_of_file form file) (place_of_row form file) (UnrequiredAt form file) p)
  given_9 p = Iff.trans (by_requirements 9 p (omega arith) (omega arith)) (Iff.and Iff.rfl (requirements_9 form file p))

  -- 11
  requirements_pass : Passes (requirements_of_file form file) ↔ RequirementsPass form file
  requirements_pass =
      Iff.trans (in_turn_passes (requirements_in file) 0 _)
      (λ h q l. h q (omega arith) (omega arith), λ h q _ l. h q (omega arith))

  pub given_11 :
      (p : Place) →
      (file_says form file ≡ refused 11 p)
      ↔ (ContentsRight form of_suite file
      × (RequirementsPass form file × FirstAt (runs_in file) (run_of_file form file) (word_place form file) (StrayAt form file) p))
  given_11 p =
      Iff.trans (past_contents 11 p (omega arith))
      (Iff.and Iff.rfl
      (Iff.trans (skip_never _ 11 (requirements_of_file form file) p (never_requirements 11 (inr (omega arith))))
      (Iff.and requirements_pass (Iff.trans (stop _ 11 (runs_of_file form file) p (never_gives 11 (counts_of file))) (runs_11 form file p)))))
