-- Each span is one of the resource's.
use Rattle.cps_p_cumulative.proofs.propose.propose.Goals as goal

pub offer_some-requires-clause-resource : goal.offer_some-requires-clause-resource
offer_some-requires-clause-resource c = c.requires.resource

pub offer_some-requires-clause-found : goal.offer_some-requires-clause-found
offer_some-requires-clause-found c = c.requires.found

pub propose_span-requires-clause-resource : goal.propose_span-requires-clause-resource
propose_span-requires-clause-resource c = c.requires.resource

pub propose_span-requires-clause-found : goal.propose_span-requires-clause-found
propose_span-requires-clause-found c = c.loop-k.invariant
