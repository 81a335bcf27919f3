-- The operation `trap`: its answer is unique, and each refusal is given exactly when document 01 says.
-- Assumes nothing.
use mathlib.Core.Path.{◌≡◌, refl, sym, ◌∙◌}
use mathlib.Core.Logic.Iff
use mathlib.Core.Logic.{◌↔◌}
use mathlib.Core.Bool.{Bool, cond}
use mathlib.Core.List.{List}
use Prim.Native.Nat.{ℕ, ◌*◌, ◌≤◌, ◌<◌}
use native.Mathlib.Omega.{arith}
use borrow.Author.Tests.{leb-true, le-leb}
use lib.Dec.{leb}
use lib.ListN.{length, get_or}
use Rattle.figures.specs.declared.Place.{Place}
use Rattle.figures.specs.declared.Place.TheVariants as place
use Rattle.std.specs.Prelude.{Result}
use Rattle.figures.specs.declared.ByteCount.{ByteCount}
use Rattle.figures.specs.declared.Refusal.{Refusal}
use Rattle.figures.specs.declared.Refusal.TheVariants.{TrapRows}
use Rattle.figures.specs.Refusals.{Outcome, refusal, ◌then◌}
use Rattle.figures.specs.Refusals.Outcome.{refused, gives}
use Rattle.lengths.specs.Lengths.{row_bytes, most_table_rows}
use Rattle.laws.proofs.Given.{refused_when, over_means}
use Rattle.laws.proofs.Order.{Passes, Numbered, Never, instead, numbered_never, never_by, never_then, skip, skip_by, skip_never, stop, stop_by, passes, passes_by, test_numbered, test_passes, test_then, then_assoc}
use Rattle.laws.proofs.Unique.{result_unique}
use Rattle.rows.specs.Rows.{Row}
use Rattle.codec.specs.Codec.{rows_of, encode_of}
use Rattle.rows.specs.Checks.{requirement_sized, requirement_rows, occurrences, occurrence_of}
use Rattle.row_laws.proofs.Given.{encode_numbered, given_14 as encode_refused, given_written as encode_gives}
use Rattle.row_laws.proofs.Occurring.{occurrence_numbered, occurrence_gives, given_12 as no_occurrence}
use Rattle.row_laws.proofs.Taken.{taken, Taken, taken_passes, never_taken}
use Rattle.rules.specs.TrapRows.{trap_table}
use Rattle.trap.specs.Answers.{trap_says, trap_for, trap_of}

-- two answers that say the same are equal
pub trap_unique : {a b : Result ByteCount Refusal} {o : Outcome ℕ} → trap_says a ≡ o → trap_says b ≡ o → a ≡ b
trap_unique = result_unique (λ bytes. bytes.0) (λ n. record { 0 = n }) (λ bytes. refl)

-- 13 and 14 of a table, in order
module _ (rows : List Row) (room p : ℕ) where
  abbrev table : List Row
  table = trap_table rows p

  abbrev small : Bool
  small = leb (length table) most_table_rows

  abbrev few : Outcome (Unit {0})
  few = cond small (gives tt) (refusal TrapRows)

  in_order : trap_for rows room p ≡ (few then λ _. encode_of table room)
  in_order = test_then small (encode_of table room) TrapRows

  few_13 : Numbered few 13
  few_13 = test_numbered tt TrapRows small

  few_passes : Passes few ↔ (length table ≤ most_table_rows)
  few_passes = Iff.trans (test_passes tt TrapRows small) (leb-true _ _, le-leb _ _)

  never_for : (n : ℕ) → n < 13 → Never n (trap_for rows room p)
  never_for n l q e =
      never_then _ n few few_13 (λ e. omega arith) (numbered_never n _ (encode_numbered table room) (λ e. omega arith)) q
      (sym in_order ∙ e)

  for_13 : (trap_for rows room p ≡ refused 13 place.None) ↔ (most_table_rows < length table)
  for_13 =
      Iff.trans (instead in_order)
      (Iff.trans (stop _ 13 few _ (numbered_never 13 _ (encode_numbered table room) (λ e. omega arith)))
      (Iff.trans (refused_when tt TrapRows small) (over_means (length table) most_table_rows)))

  for_14 : (trap_for rows room p ≡ refused 14 place.None) ↔ ((length table ≤ most_table_rows) × (room < row_bytes * length table))
  for_14 =
      Iff.trans (instead in_order)
      (Iff.trans (skip _ 14 few _ few_13 (λ e. omega arith)) (Iff.and few_passes (encode_refused table room)))

  for_written :
      (n : ℕ) →
      (trap_for rows room p ≡ gives n)
      ↔ ((length table ≤ most_table_rows) × ((row_bytes * length table ≤ room) × (row_bytes * length table ≡ n)))
  for_written n =
      Iff.trans (instead in_order) (Iff.trans (passes few _ n) (Iff.and few_passes (encode_gives table room n)))

module _ (requirement : List ℕ) (conditions occurrence room : ℕ) where
  abbrev pub rows : List Row
  rows = rows_of requirement

  -- the trap table of the occurrence, where there is one
  abbrev pub There : Type 0
  There = occurrence < length (occurrences rows)

  abbrev pub trap : List Row
  trap = trap_table rows (get_or (occurrences rows) occurrence 0)

  abbrev answer : Outcome ℕ
  answer = trap_of requirement conditions occurrence room

  abbrev after : Outcome ℕ
  after = occurrence_of rows occurrence then trap_for rows room

  along : {o : Outcome ℕ} → (answer ≡ o) ↔ ((taken conditions requirement then λ _. after) ≡ o)
  unfolding trap_of
  along = instead (sym (then_assoc (requirement_sized conditions (length requirement)) (requirement_rows conditions rows) after))

  -- 3, 7, 8 and 9 are the requirement's alone, given exactly when `rows` says of them
  pub by_requirement : (n : ℕ) (p : Place) → n < 12 → (answer ≡ refused n p) ↔ (taken conditions requirement ≡ refused n p)
  by_requirement n p l =
      Iff.trans along
      (stop _ n _ p
      (never_by _ n _ (numbered_never n _ (occurrence_numbered rows occurrence) (λ e. omega arith)) (λ q. never_for rows room q n (omega arith))))

  -- past them the occurrence is asked for
  past_taken : (n : ℕ) (p : Place) → 9 < n → (answer ≡ refused n p) ↔ (Taken conditions requirement × (after ≡ refused n p))
  past_taken n p l =
      Iff.trans along
      (Iff.trans (skip_never after n _ p (never_taken conditions requirement n l)) (Iff.and (taken_passes conditions requirement) Iff.rfl))

  pub given_12 : (answer ≡ refused 12 place.None) ↔ (Taken conditions requirement × (length (occurrences rows) ≤ occurrence))
  given_12 =
      Iff.trans (past_taken 12 _ (omega arith))
      (Iff.and Iff.rfl
      (Iff.trans (stop_by _ 12 _ _ (λ p. never_for rows room p 12 (omega arith))) (no_occurrence rows occurrence)))

  -- and past that its trap table
  past_occurrence :
      (n : ℕ) (p : Place) {Q : Type 0} → 12 < n → (trap_for rows room (get_or (occurrences rows) occurrence 0) ≡ refused n p) ↔ Q →
      (answer ≡ refused n p) ↔ (Taken conditions requirement × (There × Q))
  past_occurrence n p l q =
      Iff.trans (past_taken n p (omega arith))
      (Iff.and Iff.rfl
      (Iff.trans (skip_by _ n _ p (numbered_never n _ (occurrence_numbered rows occurrence) (λ e. omega arith)))
      (Iff.trans (occurrence_gives rows occurrence _) (Iff.and Iff.rfl q))))

  pub given_13 : (answer ≡ refused 13 place.None) ↔ (Taken conditions requirement × (There × (most_table_rows < length trap)))
  given_13 = past_occurrence 13 _ (omega arith) (for_13 rows room _)

  pub given_14 :
      (answer ≡ refused 14 place.None)
      ↔ (Taken conditions requirement × (There × ((length trap ≤ most_table_rows) × (room < row_bytes * length trap))))
  given_14 = past_occurrence 14 _ (omega arith) (for_14 rows room _)

  -- and the bytes written where nothing is refused
  pub given_written :
      (n : ℕ) →
      (answer ≡ gives n)
      ↔ (Taken conditions requirement × (There × ((length trap ≤ most_table_rows) × ((row_bytes * length trap ≤ room) × (row_bytes * length trap ≡ n)))))
  given_written n =
      Iff.trans along
      (Iff.trans (passes _ after n)
      (Iff.and (taken_passes conditions requirement)
      (Iff.trans (passes_by _ _ n)
      (Iff.trans (occurrence_gives rows occurrence _) (Iff.and Iff.rfl (for_written rows room _ n))))))
