-- `travels::put_travels` meets its contract: the lines of the steps passed stand in order, and the travel carried is that at the step in hand.
use native.Mathlib.Omega.{arith}
use native.Mathlib.Numerals.{add-one}
use mathlib.Core.Path.{◌≡◌, refl, ◌∙◌, ap, sym}
use mathlib.Core.List.{List, ◌++◌}
use Prim.Native.Nat.{ℕ, ◌*◌, ◌≤◌, ◌<◌}
use lib.IntN.{ℤ, pos, nat_abs}
use Rattle.lengths.specs.Lengths.{most_steps}
use Rattle.lines.proofs.InOrder.{turn_none, turn_room, turn_more}
use Rattle.encoder.specs.Log.{half_turn, travel}
use Rattle.encoder.proofs.Bounds.{travel_size}
use Rattle.travels.specs.Travels.{travel_line}
use Rattle.travels.proofs.put_travels.Goals as goal

zero-travel : (log : List ℕ) → pos 0 ≡ travel log 0
unfolding travel
zero-travel log = refl

-- how far it can be at a step
near : (log : List ℕ) {t : ℤ} {k : ℕ} → t ≡ travel log k → k ≤ most_steps → nat_abs t ≤ half_turn * most_steps
near log {k = k} e l = rw e (omega (arith, travel_size log k))

pub loop-k-init : goal.loop-k-init
loop-k-init g c = (turn_none _ 11 c.args.page.now.text.items, zero-travel c.args.log.now)

pub put_travel-requires : goal.put_travel-requires
put_travel-requires g c =
    let fits = c.well_formed in
    let loop = c.loop-k in
    let log = c.args.log.now in
    let few : loop.k < c.args.steps.0 = c.loop-k-test.true in
    let gone = near log loop.invariant.1 (omega (arith, c.requires.0)) in
    let next = near log c.travel_after-next.ensures (omega (arith, c.requires.0)) in
    (omega arith, (omega arith, turn_room loop.invariant.0 c.requires.1 few))

pub loop-k-preserved : goal.loop-k-preserved
loop-k-preserved g c =
    let loop = c.loop-k in
    let log = c.args.log.now in
    let put = c.put_travel.ensures in (
      turn_more loop.invariant.0 (put.puts ∙ ap (λ t. loop.page.text.items ++ travel_line t) loop.invariant.1) put.ends,
      c.travel_after-next.ensures ∙ ap (travel log) (sym (add-one loop.k)),
    )
