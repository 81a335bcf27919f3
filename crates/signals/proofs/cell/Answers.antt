-- `signals::cell` meets its contract: where one operator stands in another, each in turn works on a lane apart.
use Rattle.signals.proofs.cell.Goals as goal

pub returns-in-Until : goal.returns-in-Until
returns-in-Until g c k l =
    let laws = g.met.V.Values in
    simp (
      laws.or_law _ _ _ c.bitor-in-Until.ensures k,
      laws.and_law _ _ _ c.bitand-in-Until-2.ensures k,
      laws.and_law _ _ _ c.bitand-in-Until.ensures k,
      c.not-in-Until.ensures k l,
      c.in-Until.is,
    )

pub returns-in-Release : goal.returns-in-Release
returns-in-Release g c k l =
    let laws = g.met.V.Values in
    simp (
      laws.and_law _ _ _ c.bitand-in-Release.ensures k,
      laws.or_law _ _ _ c.bitor-in-Release-2.ensures k,
      laws.or_law _ _ _ c.bitor-in-Release.ensures k,
      c.in-Release.is,
    )

pub returns-in-Finally : goal.returns-in-Finally
returns-in-Finally g c k l =
    let laws = g.met.V.Values in
    simp (
      laws.or_law _ _ _ c.bitor-in-Finally.ensures k,
      laws.and_law _ _ _ c.bitand-in-Finally.ensures k,
      c.not-in-Finally.ensures k l,
      c.in-Finally.is,
    )

pub returns-in-Globally : goal.returns-in-Globally
returns-in-Globally g c k l =
    let laws = g.met.V.Values in
    simp (laws.and_law _ _ _ c.bitand-in-Globally.ensures k, laws.or_law _ _ _ c.bitor-in-Globally.ensures k, c.in-Globally.is)

pub returns-in-WeakUntil : goal.returns-in-WeakUntil
returns-in-WeakUntil g c k l =
    let laws = g.met.V.Values in
    simp (
      laws.or_law _ _ _ c.bitor-in-WeakUntil-2.ensures k,
      laws.and_law _ _ _ c.bitand-in-WeakUntil.ensures k,
      laws.or_law _ _ _ c.bitor-in-WeakUntil.ensures k,
      c.in-WeakUntil.is,
    )
