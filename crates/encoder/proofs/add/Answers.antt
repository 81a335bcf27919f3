-- `encoder::add` meets its contract: both numbers and their sum are small enough for the machine's.
use Rattle.std.proofs.Common.{◌≡◌, ℤ, ◌+ℤ◌, sym, ◌∙◌, subst, ap₂, arith, w32, SFits, to_z, of_z, rules}
use mir.ValLaws.{to_z-of_z}
use Rattle.encoder.specs.Log.{signed}
use Rattle.encoder.proofs.Sides.{mag_size, size_sum}
use Rattle.encoder.proofs.Readings.{read_size, read_fits}
use Rattle.encoder.proofs.add.Goals as goal
use Rattle.encoder.proofs.add.Goals.{After-signed-more}

-- what the machine reads back of the two numbers is the two numbers
plain : (x y z : ℤ) → y ≡ z → SFits w32 x → SFits w32 z → to_z w32 (of_z w32 x) +ℤ to_z w32 (of_z w32 y) ≡ x +ℤ z
plain x y z e fx fz = ap₂ ◌+ℤ◌ (to_z-of_z w32 x fx) (rw e (to_z-of_z w32 z fz))

module _ (c : After-signed-more) where
  abbrev x : ℤ
  x = c.args.travel.0

  abbrev z : ℤ
  z = signed c.args.difference.0

  sum : to_z w32 (of_z w32 x) +ℤ to_z w32 (of_z w32 c.signed-more.result.0) ≡ x +ℤ z
  sum =
      plain x c.signed-more.result.0 z c.signed-more.ensures
      (record { sfits = omega (arith, mag_size x, c.requires) }) (read_fits _ (search rules))

pub overflow_add-result : goal.overflow_add-result
overflow_add-result c =
    let s = (goal.at.overflow_add-result c).After-signed-more in
    subst (SFits w32) (sym (sum s))
    (record {
      sfits = omega (arith, mag_size (x s +ℤ z s), size_sum (x s) (z s), c.requires, read_size c.args.difference.0 (search rules));
    })

pub returns : goal.returns
returns c = to_z-of_z w32 _ (overflow_add-result c) ∙ sum (goal.at.returns c).After-signed-more
