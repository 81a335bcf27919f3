-- Refusals 8, 9 and 11 of a suite file's bodies: at the first requirement or run that does not pass, its lowest wrong row or word.
-- Assumes nothing.
use Rattle.figures.specs.declared.StepPlace.TheVariants.{File}
use mathlib.Core.Path.{◌≡◌, refl}
use mathlib.Core.Logic.Iff
use mathlib.Core.Logic.{◌↔◌}
use mathlib.Core.Bool.{◌&&◌}
use mathlib.Core.List.{List}
use Prim.Native.Nat.{ℕ, ◌+◌, ◌<◌}
use native.Mathlib.Omega.{arith}
use lib.ListN.{length, get_or}
use Rattle.figures.specs.declared.Place.{Place}
use Rattle.figures.specs.declared.Place.TheVariants as place
use Rattle.figures.specs.declared.Refusal.TheVariants.{StrayBit, UnsoundRow, NotRequirement}
use Rattle.figures.specs.declared.RowPlace.TheVariants as row_place
use Rattle.figures.specs.Refusals.{Outcome}
use Rattle.figures.specs.Refusals.Outcome.{refused}
use Rattle.figures.specs.Numbers.{refused_at}
use Rattle.laws.proofs.Lowest.{Lowest}
use Rattle.laws.proofs.Order.{Passes, Numbered, numbered_never, skip, stop, lowest_numbered, lowest_passes}
use Rattle.laws.proofs.Passed.{Within}
use Rattle.rows.specs.Rows.{Row, row_at}
use Rattle.rows.specs.Checks.{row_sound, named_once, not_over_condition, lowest_unsound, lowest_unrequired}
use Rattle.row_laws.proofs.Sound.{Sound}
use Rattle.signals.specs.Truth.{word_sound}
use Rattle.layout.specs.Layout.{Layout, word_size, conditions_in, requirements_in, runs_in, start_in}
use Rattle.layout.specs.Checks.{requirement_rows_in, run_words_in, offset_of, requirement_of_file, run_of_file, in_turn, requirements_of_file, runs_of_file}
use Rattle.suite_laws.proofs.Refused.{Refuses, in_order, lowest_at}
use Rattle.suite_laws.proofs.Turn.{turn_refused}

-- the first of m checks that does not pass, and the place of the part of it that is wrong
pub record FirstAt (m : ℕ) (f : ℕ → Outcome (Unit {0})) (at : ℕ → ℕ → Place) (Wrong : ℕ → ℕ → Type 0) (p : Place) : Type 0 where
  pub item : ℕ
  pub inside : item < m
  pub earlier : (k : ℕ) → k < item → Passes (f k)
  pub part : ℕ
  pub there : p ≡ at item part
  pub wrong : Wrong item part

module _ (m : ℕ) (f : ℕ → Outcome (Unit {0})) where
  turn_numbers : (P : ℕ → Type 0) → ((k : ℕ) → Refuses P (f k)) → Refuses P (in_turn m 0 f)
  turn_numbers P each n p e = let (k, (_, (_, (_, is)))) = (turn_refused m 0 n p f).0 e in each k n p is

  first_at :
      (at : ℕ → ℕ → Place) (Wrong : ℕ → ℕ → Type 0) (n : ℕ) (p : Place) →
      ((k : ℕ) → (f k ≡ refused n p) ↔ ((r : ℕ) × ((p ≡ at k r) × Wrong k r))) → (in_turn m 0 f ≡ refused n p) ↔ FirstAt m f at Wrong p
  first_at at Wrong n p is =
      Iff.trans (turn_refused m 0 n p f) (
        λ h.
            let (k, (_, (inside, (earlier, e)))) = h in
            let (r, (there, wrong)) = (is k).0 e in
            record { item = k; inside = omega arith; earlier = λ l b. earlier l (omega arith) b; part = r; there = there; wrong = wrong },
        λ h.
            let inside = h.inside in
            (h.item, (omega arith, (omega arith, (λ l _ b. h.earlier l b, (is h.item).1 (h.part, (h.there, h.wrong)))))),
      )

module _ (form : Layout) (file : List ℕ) where
  -- "the byte offset where the row or word starts": row r of requirement q, word i of run j
  abbrev pub place_of_row : ℕ → ℕ → Place
  place_of_row q r = place.Byte (record { 0 = offset_of (start_in form file q) form.row_size r })

  abbrev pub word_place : ℕ → ℕ → Place
  word_place j i = place.Byte (record { 0 = offset_of (start_in form file (requirements_in file + j)) word_size i })

  -- r is the lowest unsound row of requirement q; its rows are sound, and r is the lowest that is not as required
  abbrev pub UnsoundAt : ℕ → ℕ → Type 0
  UnsoundAt q r =
      Lowest (λ r. row_sound (conditions_in file) r (row_at (requirement_rows_in form file q) r)) (length (requirement_rows_in form file q)) 0 r

  abbrev pub UnrequiredAt : ℕ → ℕ → Type 0
  UnrequiredAt q r =
      Sound (conditions_in file) (requirement_rows_in form file q)
      × Lowest (λ r. named_once (requirement_rows_in form file q) r && not_over_condition (requirement_rows_in form file q) r)
      (length (requirement_rows_in form file q)) 0 r

  -- i is the lowest word of run j with a stray bit
  abbrev pub StrayAt : ℕ → ℕ → Type 0
  StrayAt j i = Lowest (λ i. word_sound (conditions_in file) (get_or (run_words_in form file j) i 0)) (length (run_words_in form file j)) 0 i

  -- one requirement
  module _ (q : ℕ) where
    abbrev rows : List Row
    rows = requirement_rows_in form file q

    abbrev sound : Outcome (Unit {0})
    sound =
        refused_at (λ r. UnsoundRow (row_place.File (record { 0 = offset_of (start_in form file q) form.row_size r })))
        (lowest_unsound (conditions_in file) rows)

    abbrev required : Outcome (Unit {0})
    required =
        refused_at (λ r. NotRequirement (row_place.File (record { 0 = offset_of (start_in form file q) form.row_size r }))) (lowest_unrequired rows)

    sound_8 : Numbered sound 8
    sound_8 = lowest_numbered (λ x. UnsoundRow (row_place.File record { 0 = offset_of (start_in form file q) form.row_size x })) _ _ 8 (λ k. refl)

    required_9 : Numbered required 9
    required_9 = lowest_numbered (λ x. NotRequirement (row_place.File record { 0 = offset_of (start_in form file q) form.row_size x })) _ _ 9 (λ k. refl)

    requirement_numbers : Refuses (Within 8 9) (requirement_of_file form file q)
    requirement_numbers =
        in_order sound required 9 (omega arith) sound_8 (λ n p e. let same = required_9 n p e in (omega arith, omega arith))

    module _ (p : Place) where
      unsound_at : (requirement_of_file form file q ≡ refused 8 p) ↔ ((r : ℕ) × ((p ≡ place_of_row q r) × UnsoundAt q r))
      unsound_at =
          Iff.trans (stop required 8 sound p (numbered_never 8 required required_9 (λ e. omega arith)))
          (lowest_at (λ x. UnsoundRow (row_place.File record { 0 = offset_of (start_in form file q) form.row_size x })) 8 (place_of_row q) (λ r. refl) _ _ p)

      unrequired_at : (requirement_of_file form file q ≡ refused 9 p) ↔ ((r : ℕ) × ((p ≡ place_of_row q r) × UnrequiredAt q r))
      unrequired_at =
          Iff.trans (skip required 9 sound p sound_8 (λ e. omega arith))
          (Iff.trans (Iff.and (lowest_passes (λ x. UnsoundRow (row_place.File record { 0 = offset_of (start_in form file q) form.row_size x })) _ _) (lowest_at (λ x. NotRequirement (row_place.File record { 0 = offset_of (start_in form file q) form.row_size x })) 9 (place_of_row q) (λ r. refl) _ _ p)) (
            λ h. let (all, (r, (there, low))) = h in (r, (there, (all, low))),
            λ h. let (r, (there, (all, low))) = h in (all, (r, (there, low))),
          ))

  -- all requirements, and all runs
  pub requirements_numbers : Refuses (Within 8 9) (requirements_of_file form file)
  requirements_numbers = turn_numbers _ _ (Within 8 9) requirement_numbers

  pub runs_numbered : Numbered (runs_of_file form file) 11
  runs_numbered = turn_numbers _ _ (λ n. n ≡ 11) (λ j. lowest_numbered (λ x. StrayBit (File record { 0 = offset_of (start_in form file (requirements_in file + j)) word_size x })) _ _ 11 (λ i. refl))

  module _ (p : Place) where
    pub requirements_8 :
        (requirements_of_file form file ≡ refused 8 p) ↔ FirstAt (requirements_in file) (requirement_of_file form file) place_of_row UnsoundAt p
    requirements_8 = first_at _ _ place_of_row UnsoundAt 8 p (λ q. unsound_at q p)

    pub requirements_9 :
        (requirements_of_file form file ≡ refused 9 p) ↔ FirstAt (requirements_in file) (requirement_of_file form file) place_of_row UnrequiredAt p
    requirements_9 = first_at _ _ place_of_row UnrequiredAt 9 p (λ q. unrequired_at q p)

    pub runs_11 : (runs_of_file form file ≡ refused 11 p) ↔ FirstAt (runs_in file) (run_of_file form file) word_place StrayAt p
    runs_11 = first_at _ _ word_place StrayAt 11 p (λ j. lowest_at (λ x. StrayBit (File record { 0 = offset_of (start_in form file (requirements_in file + j)) word_size x })) 11 (word_place j) (λ i. refl) _ _ p)
