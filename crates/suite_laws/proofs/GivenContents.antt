-- Refusals 1 to 6 of a suite file are given exactly when document 01 says, the first wrong entry counting.
-- Assumes nothing.
use mathlib.Core.Path.{◌≡◌, refl, ◌∙◌, ap}
use mathlib.Core.Logic.Iff
use mathlib.Core.Logic.{◌↔◌, ◌⊎◌}
use mathlib.Core.List.{List}
use Prim.Native.Nat.{ℕ, ◌*◌, ◌-◌, ◌/◌, ◌≤◌, ◌<◌}
use native.Mathlib.Omega.{arith}
use native.Mathlib.Nat.{mul-div_cancel_left}
use borrow.Author.Tests.{eqb-true, eq-eqb}
use lib.Dec.{leb, eqb}
use lib.ListN.{length}
use Rattle.figures.specs.declared.Place.{Place}
use Rattle.figures.specs.declared.Place.TheVariants as place
use Rattle.limits.specs.declared.Suite.{Suite}
use Rattle.figures.specs.declared.Refusal.TheVariants.{Entry, FileBytes, Form, Counts, ContentsCut, FileEnd}
use Rattle.figures.specs.Refusals.{Outcome, printed_place, ◌then◌}
use Rattle.figures.specs.Refusals.Outcome.{refused, gives}
use Rattle.limits.specs.Limits.{within, file_of, least_bytes, most_bytes, most_conditions, most_runs}
use Rattle.laws.proofs.Given.{Beyond, beyond_means, over_means, not_and, either_iff, refused_when, given_1 as bytes_refused}
use Rattle.laws.proofs.Lowest.{Lowest}
use Rattle.laws.proofs.Order.{Numbered, test_numbered, lowest_numbered, lowest_refused}
use Rattle.laws.proofs.Passed.{Within}
use Rattle.layout.specs.Layout.{Layout, head_size, form_in, conditions_in, requirements_in, runs_in, items_in, contents_end, entry_at, must_begin, entry_right}
use Rattle.layout.specs.Checks.{Range, counts_right, form_checked, counts_checked, contents_checked, entries_checked, end_checked, counts_of, contents_of_file}
use Rattle.suite_laws.proofs.Refused.{Refuses, refuses_gives, in_order, stop_at, past_it}
use Rattle.suite_laws.proofs.Right.{EntryRight, size_passes, form_passes, counts_pass, inside_passes, entries_pass}

-- what passed: 1; 2; 3; 4; 5
abbrev pub SizeRight : List ℕ → Type 0
SizeRight file = Within least_bytes most_bytes (length file)

abbrev pub FormRight : Layout → List ℕ → Type 0
FormRight form file = form_in file ≡ form.form

abbrev pub CountsRight : Range → List ℕ → Type 0
CountsRight range file =
    Within 1 most_conditions (conditions_in file)
    × (Within range.least range.most (requirements_in file) × Within 1 most_runs (runs_in file))

abbrev pub InsideRight : Layout → List ℕ → Type 0
InsideRight form file = contents_end form file ≤ length file

abbrev pub EntriesRight : Layout → List ℕ → Type 0
EntriesRight form file = (k : ℕ) → k < items_in file → EntryRight form file k

-- a count of conditions, requirements or runs is beyond its limits
abbrev pub CountsBeyond : Range → List ℕ → Type 0
CountsBeyond range file =
    Beyond 1 most_conditions (conditions_in file)
    ⊎ (Beyond range.least range.most (requirements_in file) ⊎ Beyond 1 most_runs (runs_in file))

module _ (form : Layout) (range : Range) (file : List ℕ) where
  -- the number of each
  size_1 : Numbered (file_of (length file)) 1
  unfolding file_of
  size_1 = test_numbered tt FileBytes (within least_bytes most_bytes (length file))

  form_2 : Numbered (form_checked form file) 2
  form_2 = test_numbered tt Form (eqb (form_in file) form.form)

  counts_3 : Numbered (counts_checked range file) 3
  counts_3 = test_numbered tt Counts (counts_right range file)

  inside_4 : Numbered (contents_checked form file) 4
  inside_4 = test_numbered tt ContentsCut (leb (contents_end form file) (length file))

  entries_5 : Numbered (entries_checked form file) 5
  entries_5 = lowest_numbered (λ x. Entry record { 0 = entry_at form x }) _ _ 5 (λ k. refl)

  end_6 : Numbered (end_checked form file) 6
  end_6 = test_numbered tt FileEnd (eqb (length file) (must_begin form file (items_in file)))

  -- the checks from each on, and the numbers that they refuse by
  abbrev from_6 : Outcome Suite
  from_6 = end_checked form file then λ _. gives (counts_of file)

  abbrev from_5 : Outcome Suite
  from_5 = entries_checked form file then λ _. from_6

  abbrev from_4 : Outcome Suite
  from_4 = contents_checked form file then λ _. from_5

  abbrev from_3 : Outcome Suite
  from_3 = counts_checked range file then λ _. from_4

  abbrev from_2 : Outcome Suite
  from_2 = form_checked form file then λ _. from_3

  numbers_6 : Refuses (Within 6 6) from_6
  numbers_6 = in_order _ _ 6 (omega arith) end_6 (refuses_gives _ _)

  numbers_5 : Refuses (Within 5 6) from_5
  numbers_5 = in_order _ _ 6 (omega arith) entries_5 numbers_6

  numbers_4 : Refuses (Within 4 6) from_4
  numbers_4 = in_order _ _ 6 (omega arith) inside_4 numbers_5

  numbers_3 : Refuses (Within 3 6) from_3
  numbers_3 = in_order _ _ 6 (omega arith) counts_3 numbers_4

  numbers_2 : Refuses (Within 2 6) from_2
  numbers_2 = in_order _ _ 6 (omega arith) form_2 numbers_3

  pub contents_numbers : Refuses (Within 1 6) (contents_of_file form range file)
  unfolding contents_of_file
  contents_numbers = in_order _ from_2 6 (omega arith) size_1 numbers_2

  -- past each, those before it passed
  module _ {n : ℕ} {p : Place} where
    past_1 : {Q : Type 0} → 1 < n → (from_2 ≡ refused n p) ↔ Q → (contents_of_file form range file ≡ refused n p) ↔ (SizeRight file × Q)
    unfolding contents_of_file
    past_1 l q = past_it _ from_2 size_1 l (size_passes form file) q

    past_2 : {Q : Type 0} → 2 < n → (from_3 ≡ refused n p) ↔ Q → (contents_of_file form range file ≡ refused n p) ↔ (SizeRight file × (FormRight form file × Q))
    past_2 l q = past_1 (omega arith) (past_it _ from_3 form_2 l (form_passes form file) q)

    past_3 :
        {Q : Type 0} → 3 < n → (from_4 ≡ refused n p) ↔ Q →
        (contents_of_file form range file ≡ refused n p) ↔ (SizeRight file × (FormRight form file × (CountsRight range file × Q)))
    past_3 l q = past_2 (omega arith) (past_it _ from_4 counts_3 l (counts_pass form file range) q)

    past_4 :
        {Q : Type 0} → 4 < n → (from_5 ≡ refused n p) ↔ Q →
        (contents_of_file form range file ≡ refused n p) ↔ (SizeRight file × (FormRight form file × (CountsRight range file × (InsideRight form file × Q))))
    past_4 l q = past_3 (omega arith) (past_it _ from_5 inside_4 l (inside_passes form file) q)

  -- 1
  pub contents_1 : (contents_of_file form range file ≡ refused 1 place.None) ↔ Beyond least_bytes most_bytes (length file)
  unfolding contents_of_file
  contents_1 = stop_at _ from_2 numbers_2 (bytes_refused (length file))

  -- 2
  pub contents_2 : (contents_of_file form range file ≡ refused 2 place.None) ↔ (SizeRight file × (FormRight form file → ⊥))
  contents_2 =
      past_1 (omega arith) (stop_at _ from_3 numbers_3 (Iff.trans (refused_when tt Form _) (Iff.not (eqb-true _ _, eq-eqb _ _))))

  -- 3
  pub contents_3 :
      (contents_of_file form range file ≡ refused 3 place.None)
      ↔ (SizeRight file × (FormRight form file × CountsBeyond range file))
  contents_3 =
      past_2 (omega arith)
      (stop_at _ from_4 numbers_4
      (Iff.trans (refused_when tt Counts _)
      (Iff.trans (not_and _ _)
      (either_iff (beyond_means 1 most_conditions _)
      (Iff.trans (not_and _ _) (either_iff (beyond_means range.least range.most _) (beyond_means 1 most_runs _)))))))

  -- 4
  pub contents_4 :
      (contents_of_file form range file ≡ refused 4 place.None)
      ↔ (SizeRight file × (FormRight form file × (CountsRight range file × (length file < contents_end form file))))
  contents_4 =
      past_3 (omega arith)
      (stop_at _ from_5 numbers_5 (Iff.trans (refused_when tt ContentsCut _) (over_means (contents_end form file) (length file))))

  -- 5, at the byte where the entry starts
  pub contents_5 :
      0 < form.entry_size → (k : ℕ) →
      (contents_of_file form range file ≡ refused 5 (place.Byte (record { 0 = entry_at form k })))
      ↔ (SizeRight file
      × (FormRight form file × (CountsRight range file × (InsideRight form file × Lowest (entry_right form file) (items_in file) 0 k))))
  contents_5 some k =
      past_4 (omega arith)
      (stop_at _ from_6 numbers_6
      (lowest_refused (λ x. Entry record { 0 = entry_at form x }) _ _ 5 (λ j. place.Byte (record { 0 = entry_at form j })) entry_of (λ j. refl) tells k))
    where
      entry_of : Place → ℕ
      entry_of p = (printed_place p - head_size) / form.entry_size

      tells : (j : ℕ) → (entry_at form j - head_size) / form.entry_size ≡ j
      tells j =
          let past_head : entry_at form j - head_size ≡ form.entry_size * j = omega arith in
          ap (λ (b : ℕ). b / form.entry_size) past_head ∙ mul-div_cancel_left j some

  -- 6
  pub contents_6 :
      (contents_of_file form range file ≡ refused 6 place.None)
      ↔ (SizeRight file
      × (FormRight form file
      × (CountsRight range file
      × (InsideRight form file × (EntriesRight form file × (length file ≡ must_begin form file (items_in file) → ⊥))))))
  contents_6 =
      past_4 (omega arith)
      (past_it _ from_6 entries_5 (omega arith) (entries_pass form file)
      (stop_at _ (gives (counts_of file)) {most = 6} (refuses_gives _ _)
      (Iff.trans (refused_when tt FileEnd _) (Iff.not (eqb-true _ _, eq-eqb _ _)))))
