-- `encoder::travel_after` meets its contract: travel so far is small enough to add one difference more.
use Rattle.std.proofs.Common.{ℕ, ℤ, ◌+ℤ◌, nat_abs, ap, ◌∙◌, ap₂, arith}
use Rattle.encoder.specs.Log.{signed, travel}
use Rattle.encoder.proofs.Bounds.{travel_size}
use Rattle.encoder.proofs.travel_after.Goals as goal

pub add-requires : goal.add-requires
add-requires c =
    let l = c.requires.step_lt_most_steps in
    omega (arith, travel_size c.args.log.now c.args.step.0, ap nat_abs c.requires.gone_value)

pub returns : goal.returns
unfolding travel
returns c =
    c.add.ensures
    ∙ ap₂ (λ (x : ℤ) (d : ℕ). x +ℤ signed d) c.requires.gone_value c.difference_at.ensures
