-- `wire::refused` meets its contract: the answer has the number and the place of the refusal.
use Rattle.wire.proofs.Refusing.{refused_as}
use Rattle.wire.proofs.refused.Goals as goal

pub returns : goal.returns
returns c = refused_as c.refused_by.ensures c.number.ensures c.place.ensures
