-- `listing::list_rows` meets its contract: marks that are right list the covered pairs, and the list fits where the room does.
use borrow.Author.Tests.{le-leb}
use native.Mathlib.Omega.{arith}
use native.Mathlib.Nat.{mul-le-mul}
use mathlib.Core.Path.{◌≡◌, refl, sym, ◌∙◌, ap}
use mathlib.Core.Bool.{Bool, ◌&&◌}
use mathlib.Core.List.{List, ◌++◌}
use Prim.Native.Nat.{ℕ, ◌*◌, ◌≤◌, ◌<◌}
use lib.ListN.{length, drop}
use lib.Seq.{length-take-le}
use Rattle.figures.specs.declared.Refusal.TheVariants.{ShortOutput}
use Rattle.figures.specs.Refusals.{Outcome, refusal}
use Rattle.figures.specs.Refusals.Outcome.{gives}
use Rattle.laws.proofs.Given.{refused_when, over_means}
use Rattle.laws.proofs.Order.{test_gives}
use Rattle.rows.specs.Rows.{Row}
use Rattle.rows.specs.Checks.{occurrences}
use Rattle.layout.specs.Layout.{form1}
use Rattle.layout.specs.Checks.{run_words_in}
use Rattle.bench.specs.Coverage.{covered_of, pairs_listed, pair_bytes}
use Rattle.bench.specs.Tables.{marked, Marked}
use Rattle.bench.proofs.Alike.{listed_same}
use Rattle.bench.proofs.Exactly.{list_fits}
use Rattle.covs.proofs.Occurring.{few_occurrences}
use Rattle.listing.specs.Answers.{pairs_of, rows_listed}
use Rattle.laws.proofs.Lent.{Answered, answered}
use Rattle.listing.proofs.list_rows.Goals as goal
use Rattle.listing.proofs.list_rows.Goals.{After-list_pairs-pairs}

-- the room that is asked for is small
few_pairs : (rows : List Row) {many runs : ℕ} → length rows ≤ 32 → runs ≤ 64 → many ≡ length (occurrences rows) → many * runs ≤ 32 * 64
few_pairs rows {many} {runs} few few_runs is =
    mul-le-mul {n₁ = many} {m₁ = runs} {n₂ = 32} {m₂ = 64} (omega (arith, few_occurrences rows)) few_runs

module _ (rows : List Row) (runs : ℕ) (words : ℕ → List ℕ) where
  abbrev bytes : List ℕ
  bytes = pairs_of rows runs words

  module _ (out : List ℕ) {many : ℕ} (is : many ≡ length (occurrences rows)) where
    abbrev says : Outcome ℕ
    says = rows_listed rows runs words (length out)

    too_short : length out < 2 * (many * runs) → Answered bytes out says (refusal ShortOutput) out
    too_short l =
        answered bytes out (sym ((refused_when (length bytes) ShortOutput _).1 ((over_means _ (length out)).1 (rw is at l)))) refl

    written :
        {end : ℕ} {list after : List ℕ} → 2 * (many * runs) ≤ length out → end ≡ length list → list ≡ bytes →
        after ≡ list ++ drop end out → Answered bytes out says (gives end) after
    written {end} l end_is list_is copied =
        answered bytes out
        (sym ((test_gives (length bytes) ShortOutput _ end).1 (le-leb _ (length out) (rw is at l), sym (end_is ∙ ap length list_is))))
        (copied ∙ ap (λ (x : List ℕ). x ++ drop end out) list_is)

  -- marks that are right list the covered pairs
  module _ (marks : List Bool) (right : Marked rows words runs marks) {list : List ℕ} (listed : list ≡ pairs_listed rows runs (marked marks) pair_bytes) where
    right-list : list ≡ bytes
    right-list =
        listed
        ∙ listed_same rows runs pair_bytes (λ p j inside is l. right p j inside l ∙ ap (λ (t : Bool). t && covered_of rows words p j) is)

    fits : {many room : ℕ} → many ≡ length (occurrences rows) → 2 * (many * runs) ≤ room → length list ≤ room
    fits is l =
        let enough = rw is at l in
        omega (arith, ap length right-list, list_fits rows runs (covered_of rows words))

pub overflow_mul-many : goal.overflow_mul-many
overflow_mul-many c =
    let runs = c.args.runs in
    let few : c.occurrence_count-many.result.0 * runs.many.0 ≤ 32 * 64 = few_pairs c.args.rows.now c.requires.few_rows (omega (arith, runs.counted, runs.ready.few_runs)) c.occurrence_count-many.ensures in
    record { fits = omega arith }

pub overflow_mul-many-2 : goal.overflow_mul-many-2
overflow_mul-many-2 c =
    let runs = c.args.runs in
    let few : c.occurrence_count-many.result.0 * runs.many.0 ≤ 32 * 64 = few_pairs c.args.rows.now c.requires.few_rows (omega (arith, runs.counted, runs.ready.few_runs)) c.occurrence_count-many.ensures in
    record { fits = omega arith }

-- there is room for what is copied
room_there : (c : After-list_pairs-pairs) → length c.list_pairs-pairs.result.items ≤ length c.args.out.now
room_there c =
    let runs = c.args.runs in
    fits c.args.rows.now runs.many.0 (run_words_in form1 runs.file.now) c.mark_runs.new.marks.cells c.mark_runs.ensures.marked
    c.list_pairs-pairs.ensures c.occurrence_count-many.ensures c.if-out-many.false

pub slice_bounds-copy_from_slice-end : goal.slice_bounds-copy_from_slice-end
slice_bounds-copy_from_slice-end c =
    omega (arith, c.len.ensures.value, room_there (goal.at.slice_bounds-copy_from_slice-end c).After-list_pairs-pairs)

pub slice_bounds-copy_from_slice-end-2 : goal.slice_bounds-copy_from_slice-end-2
slice_bounds-copy_from_slice-end-2 c =
    sym (length-take-le _ _ (omega (arith, c.len.ensures.value, room_there (goal.at.slice_bounds-copy_from_slice-end-2 c).After-list_pairs-pairs)))

pub copy_from_slice-requires : goal.copy_from_slice-requires
copy_from_slice-requires c =
    length-take-le _ _ (omega (arith, c.len.ensures.value, room_there (goal.at.copy_from_slice-requires c).After-list_pairs-pairs))
    ∙ omega (arith, c.len.ensures.value, ap length c.deref.ensures.0)

pub returns : goal.returns
returns c =
    let rows = c.args.rows.now in
    let runs = c.args.runs in
    let words = run_words_in form1 runs.file.now in
    let made = c.mark_runs in
    let both = written rows runs.many.0 words c.args.out.now c.occurrence_count-many.ensures c.if-out-many.false
    c.len-2.ensures.value
    (right-list rows runs.many.0 words made.new.marks.cells made.ensures.marked c.list_pairs-pairs.ensures)
    (rw (c.copy_from_slice.ensures.after, c.deref.ensures.0, c.len.ensures.value, c.len-2.ensures.value)) in
    record { result_value = both.0; out_after = both.1 }
