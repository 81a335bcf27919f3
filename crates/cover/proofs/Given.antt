-- The operation `witness`: its answer is unique, its bytes make the requirement false, and each answer is given exactly when document 01 says.
-- Assumes nothing.
use mathlib.Core.Path.{◌≡◌, refl, sym, ◌∙◌, ap}
use mathlib.Core.Logic.Iff
use mathlib.Core.Logic.{◌↔◌}
use mathlib.Core.Bool.{Bool, true, false, cond, So, false≢true}
use mathlib.Core.List.{List}
use Rattle.std.specs.Prelude.{Result, Option, None, Some}
use Prim.Native.Nat.{ℕ, ◌≤◌, ◌<◌}
use native.Mathlib.Omega.{arith}
use borrow.Author.Tests.{not-true, leb-true, le-leb}
use lib.Dec.{leb}
use lib.ListN.{length, get_or}
use Rattle.figures.specs.declared.Place.{Place}
use Rattle.figures.specs.declared.Place.TheVariants as place
use Rattle.figures.specs.declared.ByteCount.{ByteCount}
use Rattle.figures.specs.declared.Refusal.{Refusal}
use Rattle.figures.specs.declared.Refusal.TheVariants.{StrayBit, ShortOutput}
use Rattle.figures.specs.declared.StepPlace.TheVariants as step_place
use Rattle.figures.specs.Refusals.{Outcome, printed_place, ◌then◌}
use Rattle.figures.specs.Refusals.Outcome.{refused, gives}
use Rattle.lengths.specs.Lengths.{most_steps}
use Rattle.figures.specs.Numbers.{refused_at}
use Rattle.laws.proofs.Given.{not_both, Beyond, refused_when, over_means, given_10 as run_refused}
use Rattle.laws.proofs.Lowest.{Holds, Lowest}
use Rattle.laws.proofs.Order.{Passes, Numbered, Never, instead, numbered_never, never_by, never_then, skip, skip_by, skip_never, stop, stop_by, passes, passes_by, both_pass, then_assoc, test_numbered, test_gives, lowest_numbered, lowest_passes, lowest_refused}
use Rattle.laws.proofs.Passed.{Within, run_numbered, run_passes}
use Rattle.laws.proofs.Unique.{result_unique}
use Rattle.rows.specs.Rows.{Row, row_at}
use Rattle.codec.specs.Codec.{rows_of}
use Rattle.rows.specs.Checks.{is_condition, IsRequirement, requirement_sized, requirement_rows, occurrences, occurrence_of}
use Rattle.row_laws.proofs.Occurring.{occurrence_numbered, occurrence_gives, given_12 as no_occurrence}
use Rattle.row_laws.proofs.Taken.{taken, Taken, taken_passes, never_taken}
use Rattle.signals.specs.Truth.{Reading, reads_of, verdict_of, word_sound, lowest_stray, sequence_of}
use Rattle.run_checks.specs.RunChecks.{run_checked}
use Rattle.signal_laws.proofs.Bools.{right}
use Rattle.coverage.specs.Coverage.{flip, Covered, covered}
use Rattle.cover.specs.Answers.{bytes_said, witness_says, room_for, pair_says, witness_of}
use Rattle.coverage.specs.Coverage.{witness_bytes}
use Rattle.flips.proofs.Decide.{covered_means, covered_by_bytes}

-- two answers that say the same are equal
given : Option ℕ → Option ByteCount
given None = None
given (Some bytes) = Some (record { 0 = bytes })

pub witness_unique :
    {a b : Result (Option ByteCount) Refusal} {o : Outcome (Option ℕ)} → witness_says a ≡ o → witness_says b ≡ o → a ≡ b
unfolding given
witness_unique = result_unique bytes_said given read
  where
    read : (a : Option ByteCount) → given (bytes_said a) ≡ a
    read (Some bytes) = refl
    read None = refl

-- "makes it false": the witness of a covered pair, read by the occurrence
pub witness_falsifies :
    (rows : List Row) → IsRequirement rows → (p : ℕ) → p < length rows → So (is_condition (row_at rows p)) → (n : ℕ) → 0 < n →
    (reads : Reading) → So (covered rows reads n p) →
    verdict_of rows (flip p (sequence_of (witness_bytes rows p n)) reads) n ≡ false
witness_falsifies rows is p p_in p_cond n some_step reads c =
    not-true _ (right (verdict_of rows reads n) _ (sym (covered_by_bytes rows is p p_in p_cond n some_step reads) ∙ c))

none_some : {n : ℕ} → gives None ≡ gives (Some n) → ⊥
none_some e = let z : ◌≡◌ {A = ℕ} 0 1 = cc in omega arith

-- the answer for a pair, by its coverage
module _ (rows : List Row) (run : List ℕ) (room p : ℕ) where
  abbrev test : Bool
  test = covered rows (reads_of rows run) (length run) p

  abbrev enough : Bool
  enough = leb (length run) room

  abbrev IsCovered : Type 0
  IsCovered = Covered rows (reads_of rows run) (length run) p

  asked : {o : Outcome (Option ℕ)} → (gives None ≡ o → ⊥) → (pair_says rows run room p ≡ o) ↔ (IsCovered × (room_for (length run) room ≡ o))
  asked {o} other = Iff.trans (go test) (Iff.and (covered_means rows (reads_of rows run) (length run) p) Iff.rfl)
    where
      go : (b : Bool) → (cond b (room_for (length run) room) (gives None) ≡ o) ↔ (So b × (room_for (length run) room ≡ o))
      go true = (λ e. (refl, e), λ h. h.1)
      go false = (λ e. absurd (other e), λ h. absurd (false≢true h.0))

  never_pair : (n : ℕ) → n < 14 → Never n (pair_says rows run room p)
  never_pair n l q e =
      numbered_never n _ (test_numbered (Some (length run)) ShortOutput enough) (λ e. omega arith) q ((asked (λ g. not_both g refl)).0 e).1

  pair_14 : (pair_says rows run room p ≡ refused 14 place.None) ↔ (IsCovered × (room < length run))
  pair_14 =
      Iff.trans (asked (λ g. not_both g refl))
      (Iff.and Iff.rfl (Iff.trans (refused_when (Some (length run)) ShortOutput enough) (over_means (length run) room)))

  pair_covered_lem : (n : ℕ) → (pair_says rows run room p ≡ gives (Some n)) ↔ (IsCovered × ((length run ≤ room) × (length run ≡ n)))
  pair_covered_lem n =
      Iff.trans (asked none_some)
      (Iff.and Iff.rfl
      (Iff.trans (test_gives (Some (length run)) ShortOutput enough (Some n))
      (Iff.and (leb-true _ _, le-leb _ _) (λ e. cc, λ e. ap Some e))))

  pair_uncovered : (pair_says rows run room p ≡ gives None) ↔ (IsCovered → ⊥)
  pair_uncovered = Iff.trans (go test) (Iff.not (covered_means rows (reads_of rows run) (length run) p))
    where
      go : (b : Bool) → (cond b (room_for (length run) room) (gives None) ≡ gives None) ↔ (So b → ⊥)
      go true = (
        λ e. absurd (none_some (ap gives (sym ((test_gives (Some (length run)) ShortOutput enough None).0 e).1))),
        λ h. absurd (h refl),
      )
      go false = (λ _. false≢true, λ _. refl)

module _ (requirement run : List ℕ) (conditions occurrence room : ℕ) where
  abbrev pub rows : List Row
  rows = rows_of requirement

  -- 10 and 11 passed; there is such an occurrence; and the run covers it
  abbrev pub RunTaken : Type 0
  RunTaken = Within 1 most_steps (length run) × Holds (λ i. word_sound conditions (get_or run i 0)) 0 (length run)

  abbrev pub There : Type 0
  There = occurrence < length (occurrences rows)

  abbrev pub IsCoveredBy : Type 0
  IsCoveredBy = Covered rows (reads_of rows run) (length run) (get_or (occurrences rows) occurrence 0)

  abbrev answer : Outcome (Option ℕ)
  answer = witness_of requirement run conditions occurrence room

  abbrev after_run : Outcome (Option ℕ)
  after_run = occurrence_of rows occurrence then pair_says rows run room

  abbrev after : Outcome (Option ℕ)
  after = run_checked conditions run then λ _. after_run

  along : {o : Outcome (Option ℕ)} → (answer ≡ o) ↔ ((taken conditions requirement then λ _. after) ≡ o)
  unfolding witness_of
  along =
      instead (sym (then_assoc (requirement_sized conditions (length requirement)) (requirement_rows conditions rows) after))

  run_taken : Passes (run_checked conditions run) ↔ RunTaken
  run_taken = Iff.trans (both_pass _ _) (Iff.and (run_passes (length run)) (lowest_passes (λ x. StrayBit (step_place.Lone record { 0 = x })) _ _))

  stray_11 : Numbered (refused_at (λ i. StrayBit (step_place.Lone (record { 0 = i }))) (lowest_stray conditions run)) 11
  stray_11 = lowest_numbered (λ x. StrayBit (step_place.Lone record { 0 = x })) _ _ 11 (λ k. refl)

  never_run : (n : ℕ) → (10 ≡ n → ⊥) → (11 ≡ n → ⊥) → Never n (run_checked conditions run)
  never_run n d e = never_then _ n _ (run_numbered (length run)) d (numbered_never n _ stray_11 e)

  never_after_run : (n : ℕ) → n < 12 → Never n after_run
  never_after_run n l =
      never_by _ n _ (numbered_never n _ (occurrence_numbered rows occurrence) (λ e. omega arith)) (λ p. never_pair rows run room p n (omega arith))

  -- 3, 7, 8 and 9 are the requirement's alone, given exactly when `rows` says of them
  pub by_requirement : (n : ℕ) (p : Place) → n < 10 → (answer ≡ refused n p) ↔ (taken conditions requirement ≡ refused n p)
  by_requirement n p l =
      Iff.trans along
      (stop _ n _ p (never_by _ n _ (never_run n (λ e. omega arith) (λ e. omega arith)) (λ _. never_after_run n (omega arith))))

  -- past them the run is checked
  past_taken : (n : ℕ) (p : Place) → 9 < n → (answer ≡ refused n p) ↔ (Taken conditions requirement × (after ≡ refused n p))
  past_taken n p l =
      Iff.trans along
      (Iff.trans (skip_never after n _ p (never_taken conditions requirement n l)) (Iff.and (taken_passes conditions requirement) Iff.rfl))

  pub given_10 : (answer ≡ refused 10 place.None) ↔ (Taken conditions requirement × Beyond 1 most_steps (length run))
  given_10 =
      Iff.trans (past_taken 10 _ (omega arith))
      (Iff.and Iff.rfl
      (Iff.trans (stop after_run 10 _ _ (never_after_run 10 (omega arith)))
      (Iff.trans (stop _ 10 _ _ (numbered_never 10 _ stray_11 (λ e. omega arith))) (run_refused (length run)))))

  pub given_11 :
      (i : ℕ) →
      (answer ≡ refused 11 (place.Step (record { 0 = i })))
      ↔ (Taken conditions requirement × (Within 1 most_steps (length run) × Lowest (λ i. word_sound conditions (get_or run i 0)) (length run) 0 i))
  given_11 i =
      Iff.trans (past_taken 11 _ (omega arith))
      (Iff.and Iff.rfl
      (Iff.trans (stop after_run 11 _ _ (never_after_run 11 (omega arith)))
      (Iff.trans (skip _ 11 _ _ (run_numbered (length run)) (λ e. omega arith))
      (Iff.and (run_passes (length run))
      (lowest_refused (λ x. StrayBit (step_place.Lone record { 0 = x })) _ _ 11 (λ k. place.Step (record { 0 = k })) printed_place (λ k. refl) (λ k. refl) i)))))

  -- and past that the occurrence is asked for
  past_run : (n : ℕ) (p : Place) → 11 < n → (answer ≡ refused n p) ↔ (Taken conditions requirement × (RunTaken × (after_run ≡ refused n p)))
  past_run n p l =
      Iff.trans (past_taken n p (omega arith))
      (Iff.and Iff.rfl
      (Iff.trans (skip_never after_run n _ p (never_run n (λ e. omega arith) (λ e. omega arith))) (Iff.and run_taken Iff.rfl)))

  pub given_12 : (answer ≡ refused 12 place.None) ↔ (Taken conditions requirement × (RunTaken × (length (occurrences rows) ≤ occurrence)))
  given_12 =
      Iff.trans (past_run 12 _ (omega arith))
      (Iff.and Iff.rfl
      (Iff.and Iff.rfl
      (Iff.trans (stop_by _ 12 _ _ (λ p. never_pair rows run room p 12 (omega arith))) (no_occurrence rows occurrence))))

  pub given_14 : (answer ≡ refused 14 place.None) ↔ (Taken conditions requirement × (RunTaken × (There × (IsCoveredBy × (room < length run)))))
  given_14 =
      Iff.trans (past_run 14 _ (omega arith))
      (Iff.and Iff.rfl
      (Iff.and Iff.rfl
      (Iff.trans (skip_by _ 14 _ _ (numbered_never 14 _ (occurrence_numbered rows occurrence) (λ e. omega arith)))
      (Iff.trans (occurrence_gives rows occurrence _) (Iff.and Iff.rfl (pair_14 rows run room _))))))

  -- nothing is refused
  answered :
      (v : Option ℕ) {Q : Type 0} → (pair_says rows run room (get_or (occurrences rows) occurrence 0) ≡ gives v) ↔ Q →
      (answer ≡ gives v) ↔ (Taken conditions requirement × (RunTaken × (There × Q)))
  answered v q =
      Iff.trans along
      (Iff.trans (passes _ after v)
      (Iff.and (taken_passes conditions requirement)
      (Iff.trans (passes _ after_run v)
      (Iff.and run_taken (Iff.trans (passes_by _ _ v) (Iff.trans (occurrence_gives rows occurrence _) (Iff.and Iff.rfl q)))))))

  pub given_covered :
      (n : ℕ) →
      (answer ≡ gives (Some n))
      ↔ (Taken conditions requirement × (RunTaken × (There × (IsCoveredBy × ((length run ≤ room) × (length run ≡ n))))))
  given_covered n = answered (Some n) (pair_covered_lem rows run room _ n)

  pub given_uncovered : (answer ≡ gives None) ↔ (Taken conditions requirement × (RunTaken × (There × (IsCoveredBy → ⊥))))
  given_uncovered = answered None (pair_uncovered rows run room _)
