-- The operation `truth`: its answer is unique, and each refusal is given exactly when document 01 says.
-- Assumes nothing.
use mathlib.Core.Path.{◌≡◌, refl, sym, ◌∙◌, ap}
use mathlib.Core.Logic.Iff
use mathlib.Core.Logic.{◌↔◌}
use mathlib.Core.Bool.{Bool}
use mathlib.Core.List.{List}
use Prim.Native.Nat.{ℕ}
use native.Mathlib.Omega.{arith}
use lib.ListN.{length, get_or}
use Rattle.figures.specs.declared.Place.{Place}
use Rattle.figures.specs.declared.Place.TheVariants as place
use Rattle.std.specs.Prelude.{Result}
use Rattle.figures.specs.declared.Refusal.{Refusal}
use Rattle.figures.specs.declared.Refusal.TheVariants.{UnsoundRow, StrayBit}
use Rattle.figures.specs.declared.StepPlace.TheVariants as step_place
use Rattle.figures.specs.Refusals.{Outcome, ◌then◌, printed_place}
use Rattle.figures.specs.Refusals.Outcome.{refused, gives}
use Rattle.limits.specs.declared.Suite.{Suite}
use Rattle.figures.specs.Numbers.{refused_at}
use Rattle.limits.specs.Limits.{suite_of, most_conditions}
use Rattle.lengths.specs.Lengths.{table_of, run_of, most_table_rows, most_steps}
use Rattle.laws.proofs.Given.{Beyond, WrongLength, given_7 as table_refused, given_10 as run_refused}
use Rattle.laws.proofs.Lowest.{Holds, Lowest}
use Rattle.laws.proofs.Order.{Numbered, Never, skip, stop, never_then, never_gives, passes, then_assoc, lowest_numbered, lowest_passes, lowest_refused}
use Rattle.laws.proofs.Passed.{Within, RightLength, lone_passes, lone_refused, suite_numbered, table_numbered, table_passes, run_numbered, run_passes}
use Rattle.laws.proofs.Unique.{result_unique}
use Rattle.rows.specs.Rows.{row_at}
use Rattle.codec.specs.Codec.{rows_of}
use Rattle.rows.specs.Checks.{lone_row, row_sound, rows_checked}
use Rattle.row_laws.proofs.Sound.{Sound}
use Rattle.signals.specs.Truth.{word_sound, lowest_stray, holds}
use Rattle.truth.specs.Answers.{verdict_says, truth_says}

-- two verdicts that say the same are equal
pub verdict_unique : {a b : Result Bool Refusal} {o : Outcome Bool} → verdict_says a ≡ o → verdict_says b ≡ o → a ≡ b
verdict_unique = result_unique (λ holds. holds) (λ holds. holds) (λ holds. refl)

module _ (table run : List ℕ) (conditions : ℕ) where
  -- the five checks
  abbrev suite : Outcome Suite
  suite = suite_of conditions 1 1

  abbrev sized : Outcome ℕ
  sized = table_of (length table)

  abbrev rows : Outcome (Unit {0})
  rows = rows_checked conditions (rows_of table)

  abbrev steps : Outcome ℕ
  steps = run_of (length run)

  abbrev words : Outcome (Unit {0})
  words = refused_at (λ i. StrayBit (step_place.Lone (record { 0 = i }))) (lowest_stray conditions run)

  abbrev answer : Outcome Bool
  answer = gives (holds (rows_of table) run)

  abbrev after_steps : Outcome Bool
  after_steps = words then λ _. answer

  abbrev after_rows : Outcome Bool
  after_rows = steps then λ _. after_steps

  abbrev after_sized : Outcome Bool
  after_sized = rows then λ _. after_rows

  abbrev after_suite : Outcome Bool
  after_suite = sized then λ _. after_sized

  -- in one line, in order
  in_order : truth_says table run conditions ≡ (suite then λ _. after_suite)
  unfolding truth_says
  in_order =
      then_assoc suite _ _
      ∙ ap (λ o. suite then λ _. o)
      (then_assoc sized _ _ ∙ ap (λ o. sized then λ _. rows then λ _. o) (then_assoc steps words answer))

  along : {o : Outcome Bool} → (truth_says table run conditions ≡ o) ↔ ((suite then λ _. after_suite) ≡ o)
  along = (λ e. sym in_order ∙ e, λ e. in_order ∙ e)

  -- the number of each
  rows_8 : Numbered rows 8
  rows_8 = lowest_numbered (λ x. UnsoundRow (lone_row x)) _ _ 8 (λ k. refl)

  words_11 : Numbered words 11
  words_11 = lowest_numbered (λ x. StrayBit (step_place.Lone record { 0 = x })) _ _ 11 (λ k. refl)

  suite_3 : Numbered suite 3
  suite_3 = suite_numbered conditions 1 1

  sized_7 : Numbered sized 7
  sized_7 = table_numbered (length table)

  steps_10 : Numbered steps 10
  steps_10 = run_numbered (length run)

  -- what passed, in plain logic
  abbrev pub ConditionsWithin : Type 0
  ConditionsWithin = Within 1 most_conditions conditions

  abbrev pub TableRight : Type 0
  TableRight = RightLength most_table_rows (length table)

  abbrev pub AllSound : Type 0
  AllSound = Sound conditions (rows_of table)

  abbrev pub RunRight : Type 0
  RunRight = Within 1 most_steps (length run)

  abbrev clean : ℕ → Bool
  clean i = word_sound conditions (get_or run i 0)

  abbrev pub AllClean : Type 0
  AllClean = Holds clean 0 (length run)

  -- past the earlier checks, in order
  past_suite : {o : Outcome Bool} {n : ℕ} (p : Place) → (3 ≡ n → ⊥) → ((suite then λ _. o) ≡ refused n p) ↔ (ConditionsWithin × (o ≡ refused n p))
  past_suite {o} {n} p d = Iff.trans (skip o n suite p suite_3 d) (Iff.and (lone_passes conditions) Iff.rfl)

  past_sized : {o : Outcome Bool} {n : ℕ} (p : Place) → (7 ≡ n → ⊥) → ((sized then λ _. o) ≡ refused n p) ↔ (TableRight × (o ≡ refused n p))
  past_sized {o} {n} p d = Iff.trans (skip o n sized p sized_7 d) (Iff.and (table_passes (length table)) Iff.rfl)

  past_rows : {o : Outcome Bool} {n : ℕ} (p : Place) → (8 ≡ n → ⊥) → ((rows then λ _. o) ≡ refused n p) ↔ (AllSound × (o ≡ refused n p))
  past_rows {o} {n} p d = Iff.trans (skip o n rows p rows_8 d) (Iff.and (lowest_passes (λ x. UnsoundRow (lone_row x)) _ _) Iff.rfl)

  past_steps : {o : Outcome Bool} {n : ℕ} (p : Place) → (10 ≡ n → ⊥) → ((steps then λ _. o) ≡ refused n p) ↔ (RunRight × (o ≡ refused n p))
  past_steps {o} {n} p d = Iff.trans (skip o n steps p steps_10 d) (Iff.and (run_passes (length run)) Iff.rfl)

  -- nothing after a check refuses by its number
  never_11 : (n : ℕ) → (11 ≡ n → ⊥) → Never n after_steps
  never_11 n d = never_then answer n words words_11 d (never_gives n _)

  never_10 : (n : ℕ) → (10 ≡ n → ⊥) → (11 ≡ n → ⊥) → Never n after_rows
  never_10 n d e = never_then after_steps n steps steps_10 d (never_11 n e)

  never_8 : (n : ℕ) → (8 ≡ n → ⊥) → (10 ≡ n → ⊥) → (11 ≡ n → ⊥) → Never n after_sized
  never_8 n c d e = never_then after_rows n rows rows_8 c (never_10 n d e)

  pub given_3 : (truth_says table run conditions ≡ refused 3 place.None) ↔ Beyond 1 most_conditions conditions
  given_3 =
      Iff.trans along
      (Iff.trans
      (stop after_suite 3 suite place.None (never_then after_sized 3 sized sized_7 (λ e. omega arith) (never_8 3 (λ e. omega arith) (λ e. omega arith) (λ e. omega arith))))
      (lone_refused conditions))

  pub given_7 : (truth_says table run conditions ≡ refused 7 place.None) ↔ (ConditionsWithin × WrongLength most_table_rows (length table))
  given_7 =
      Iff.trans along
      (Iff.trans (past_suite place.None (λ e. omega arith))
      (Iff.and Iff.rfl
      (Iff.trans (stop after_sized 7 sized place.None (never_8 7 (λ e. omega arith) (λ e. omega arith) (λ e. omega arith))) (table_refused (length table)))))

  pub given_8 :
      (r : ℕ) →
      (truth_says table run conditions ≡ refused 8 (place.Row (record { 0 = r })))
      ↔ (ConditionsWithin × (TableRight × Lowest (λ r. row_sound conditions r (row_at (rows_of table) r)) (length (rows_of table)) 0 r))
  given_8 r =
      Iff.trans along
      (Iff.trans (past_suite _ (λ e. omega arith))
      (Iff.and Iff.rfl
      (Iff.trans (past_sized _ (λ e. omega arith))
      (Iff.and Iff.rfl
      (Iff.trans (stop after_rows 8 rows _ (never_10 8 (λ e. omega arith) (λ e. omega arith)))
      (lowest_refused (λ x. UnsoundRow (lone_row x)) _ _ 8 (λ k. place.Row (record { 0 = k })) printed_place (λ k. refl) (λ k. refl) r))))))

  pub given_10 :
      (truth_says table run conditions ≡ refused 10 place.None)
      ↔ (ConditionsWithin × (TableRight × (AllSound × Beyond 1 most_steps (length run))))
  given_10 =
      Iff.trans along
      (Iff.trans (past_suite _ (λ e. omega arith))
      (Iff.and Iff.rfl
      (Iff.trans (past_sized _ (λ e. omega arith))
      (Iff.and Iff.rfl
      (Iff.trans (past_rows _ (λ e. omega arith))
      (Iff.and Iff.rfl
      (Iff.trans (stop after_steps 10 steps _ (never_11 10 (λ e. omega arith))) (run_refused (length run)))))))))

  pub given_11 :
      (i : ℕ) →
      (truth_says table run conditions ≡ refused 11 (place.Step (record { 0 = i })))
      ↔ (ConditionsWithin × (TableRight × (AllSound × (RunRight × Lowest clean (length run) 0 i))))
  given_11 i =
      Iff.trans along
      (Iff.trans (past_suite _ (λ e. omega arith))
      (Iff.and Iff.rfl
      (Iff.trans (past_sized _ (λ e. omega arith))
      (Iff.and Iff.rfl
      (Iff.trans (past_rows _ (λ e. omega arith))
      (Iff.and Iff.rfl
      (Iff.trans (past_steps _ (λ e. omega arith))
      (Iff.and Iff.rfl
      (Iff.trans (stop answer 11 words _ (never_gives 11 _))
      (lowest_refused (λ x. StrayBit (step_place.Lone record { 0 = x })) _ _ 11 (λ k. place.Step (record { 0 = k })) printed_place (λ k. refl) (λ k. refl) i))))))))))

  -- and the verdict where nothing is refused
  pub given_verdict :
      (b : Bool) →
      (truth_says table run conditions ≡ gives b)
      ↔ (ConditionsWithin × (TableRight × (AllSound × (RunRight × (AllClean × (holds (rows_of table) run ≡ b))))))
  given_verdict b =
      Iff.trans along
      (Iff.trans (passes suite _ b)
      (Iff.and (lone_passes conditions)
      (Iff.trans (passes sized _ b)
      (Iff.and (table_passes (length table))
      (Iff.trans (passes rows _ b)
      (Iff.and (lowest_passes (λ x. UnsoundRow (lone_row x)) _ _)
      (Iff.trans (passes steps _ b)
      (Iff.and (run_passes (length run))
      (Iff.trans (passes words _ b) (Iff.and (lowest_passes (λ x. StrayBit (step_place.Lone record { 0 = x })) _ _) (λ e. cc, λ e. ap gives e)))))))))))
