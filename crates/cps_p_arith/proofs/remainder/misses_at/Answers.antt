use Rattle.std.proofs.Common.{rules}
use Rattle.cps_p_arith.proofs.remainder.misses_at.Goals as goal

pub returns-then-needs_more-clause-sound : goal.returns-then-needs_more-clause-sound
returns-then-needs_more-clause-sound c = λ t n d r hn hd h hr. c.needs_more.ensures.sound (search rules) n d r hn.to hd.from h hr.from

pub returns-else-needs_more-clause-sound : goal.returns-else-needs_more-clause-sound
returns-else-needs_more-clause-sound c = λ t n d r hn hd h hr. c.leaves_more.ensures.sound t n d r hn.from hd.to h hr.to
