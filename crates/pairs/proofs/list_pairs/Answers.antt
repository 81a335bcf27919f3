-- `pairs::list_pairs` meets its contract: the pairs passed stand in order, by occurrence and then by run.
use native.Mathlib.Omega.{arith}
use mathlib.Core.Bool.{Bool, true, false, cond}
use mathlib.Core.List.{[], ◌∷◌}
use mathlib.Core.Path.{◌≡◌, ◌∙◌, ap}
use Prim.Native.Nat.{ℕ, ◌*◌, ◌/◌, ◌%◌, ◌≤◌}
use lib.ListN.{length, length-append}
use Rattle.lines.specs.Texts.{in_order}
use Rattle.lines.proofs.InOrder.{order_nested, turn_none, turn_room, turn_more}
use Rattle.covs.proofs.Occurring.{few_occurrences}
use Rattle.pairs.proofs.PairNumbers.{few_pairs, parts_within}
use Rattle.pairs.proofs.list_pairs.Invariants.{said}
use Rattle.pairs.proofs.list_pairs.Goals as goal

-- a pair takes two bytes, and no pair none
two_bytes : (mark : Bool) (o j : ℕ) → length (cond mark (o ∷ j ∷ []) []) ≤ 2
two_bytes true o j = omega arith
two_bytes false o j = omega arith

pub overflow_mul-n-end : goal.overflow_mul-n-end
overflow_mul-n-end c =
    record { fits = omega (arith, few_pairs c.args.rows.now c.occurrence_count-occs.ensures c.requires.1) }

pub loop-n-init : goal.loop-n-init
loop-n-init c = rw c.new-pairs.ensures (turn_none _ 2 [])

pub put_pair_if-requires : goal.put_pair_if-requires
put_pair_if-requires c =
    let parts = parts_within _ _ c.loop-n-test.true in
    let few = few_occurrences c.args.rows.now in
    let all = few_pairs c.args.rows.now c.occurrence_count-occs.ensures c.requires.1 in
    (omega (arith, c.occurrence_count-occs.ensures), omega arith, turn_room c.loop-n.invariant (omega arith) c.loop-n-test.true)

pub loop-n-preserved : goal.loop-n-preserved
loop-n-preserved c =
    let put = c.put_pair_if.ensures in
    let mark = c.is_marked-mark.result in
    let n = c.loop-n.n in
    let many = c.args.runs.0 in
    let long = two_bytes mark (n / many) (n % many) in
    turn_more c.loop-n.invariant (rw (c.is_marked-mark.ensures, c.row_of.ensures.0) at put)
    (omega (arith, ap length put, length-append {A = ℕ}))

pub returns : goal.returns
returns c =
    let rows = c.args.rows.now in
    let marks = c.args.marks.now.cells in
    let many = c.args.runs.0 in
    let occs = c.occurrence_count-occs.result.0 in
    let all : c.loop-n.n ≡ occs * many = omega arith in
    c.loop-n.invariant.text
    ∙ ap (λ (m : ℕ). in_order m (λ k. said rows marks (k / many) (k % many))) all
    ∙ order_nested (said rows marks) many occs
    ∙ ap (λ (m : ℕ). in_order m (λ o. in_order many (said rows marks o))) c.occurrence_count-occs.ensures
