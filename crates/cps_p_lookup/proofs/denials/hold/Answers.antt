use Rattle.std.proofs.Common.{w64}
use Rattle.std.proofs.lemmas.Int.{to_z-of_z}
use Rattle.cps_p_lookup.proofs.Excluding.{holds_fact, holds_off}
use Rattle.cps_p_lookup.proofs.denials.hold.Goals as goal

pub returns : goal.returns
returns c = λ e. holds_off c.args.past.now c.args.subject c.args.value c.args.goal c.in-Some.target c.args.facts.now.items c.in-Some.is (rw (to_z-of_z w64 c.args.value c.ranges.value) at (c.is_off.ensures c.if-is_off.true c.args.facts.now.items))

pub returns-2 : goal.returns-2
returns-2 c = λ e. holds_fact c.args.past.now c.args.subject c.args.value c.args.goal c.atom.result c.args.facts.now.items c.push_fact.new.facts.items (rw (to_z-of_z w64 c.args.value c.ranges.value) at c.atom.ensures) (c.push_fact.ensures.yes e)
