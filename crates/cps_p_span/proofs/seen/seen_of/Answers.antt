-- Its times and its presence are as they were seen.
use Rattle.std.proofs.Common.{List, subst}
use Rattle.cps_literal.specs.declared.atom.Atom.{Atom}
use Rattle.cps_p_span.specs.Spans.{IsPresence}
use Rattle.cps_p_span.proofs.seen.seen_of.Goals as goal

pub returns : goal.returns
returns c = record {
  times = c.times_of.ensures;
  presence = subst (λ (us : List Atom). IsPresence c.args.store.now us c.presence_of.result) c.as_slice.ensures c.presence_of.ensures;
}
