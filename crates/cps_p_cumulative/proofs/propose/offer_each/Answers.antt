-- Each proposal of the list is on a subject of the store.
use Rattle.cps_p_cumulative.proofs.propose.offer_each.Goals as goal

pub offer_some-requires-clause-resource : goal.offer_some-requires-clause-resource
offer_some-requires-clause-resource c = c.requires.resource

pub offer_some-requires-clause-found : goal.offer_some-requires-clause-found
offer_some-requires-clause-found c = c.loop-one.invariant
