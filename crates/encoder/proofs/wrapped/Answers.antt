-- `encoder::wrapped` meets its contract: what the library's wrapping difference ensures has one number below a turn.
use Rattle.std.proofs.Common.{rules}
use Rattle.encoder.proofs.Readings.{wrapped_is}
use Rattle.std.proofs.Common.{rules}
use Rattle.encoder.proofs.wrapped.Goals as goal

pub returns : goal.returns
returns c =
    let a = c.args in
    wrapped_is a.from.0 a.to.0 _ (search rules) (search rules) (search rules) c.wrapping_sub_u16.ensures.value
