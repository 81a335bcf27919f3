-- `encoder::difference_at` meets its contract: it is the wrapped difference of the counts at the two steps.
use Rattle.std.proofs.Common.{ap, ◌∙◌, ap₂, add-one}
use Rattle.encoder.specs.Log.{count_in, wrapped}
use Rattle.encoder.proofs.difference_at.Goals as goal

pub returns : goal.returns
returns c =
    let a = c.args in
    c.wrapped.ensures
    ∙ ap₂ wrapped c.count_at-from.ensures (c.count_at-to.ensures ∙ ap (count_in a.log.now) (add-one a.step.0))
