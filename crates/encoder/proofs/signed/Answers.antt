-- `encoder::signed` meets its contract: the two casts keep the number, and a turn is taken off from half a turn on.
use Rattle.std.proofs.Common.{◌≡◌, ℤ, pos, ◌-ℤ◌, sym, ap, ◌∙◌, subst, arith, w32, SFits, to_z, rules}
use mir.ValLaws.{to_z_pos, to_z-of_z}
use Rattle.encoder.specs.Log.{turn, signed}
use Rattle.encoder.proofs.Readings.{read_front, read_less, read_fits}
use Rattle.std.proofs.Common.{rules}
use Rattle.encoder.proofs.signed.Goals as goal
use Rattle.encoder.proofs.signed.Goals.{Else-d-lt-HALF_TURN}

-- the machine's difference is the reading
less : (c : Else-d-lt-HALF_TURN) → to_z w32 c.args.difference.0 -ℤ pos turn ≡ signed c.args.difference.0
less c =
    let d = c.args.difference.0 in
    ap (λ (z : ℤ). z -ℤ pos turn) (to_z_pos w32 d (omega arith)) ∙ read_less d (omega arith) (search rules)

pub overflow_sub-result : goal.overflow_sub-result
overflow_sub-result c = subst (SFits w32) (sym (less (goal.at.overflow_sub-result c).Else-d-lt-HALF_TURN)) (read_fits _ (search rules))

pub returns-then-d-lt-HALF_TURN : goal.returns-then-d-lt-HALF_TURN
returns-then-d-lt-HALF_TURN c =
    let d = c.args.difference.0 in
    to_z_pos w32 d (omega arith) ∙ sym (read_front d c.if-d-lt-HALF_TURN.true)

pub returns-else-d-lt-HALF_TURN : goal.returns-else-d-lt-HALF_TURN
returns-else-d-lt-HALF_TURN c = to_z-of_z w32 _ (overflow_sub-result c) ∙ less (goal.at.returns-else-d-lt-HALF_TURN c).Else-d-lt-HALF_TURN
