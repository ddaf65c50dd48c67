use Rattle.cps_p_circuit.proofs.ArcsAtNodes.{untaken_given, give_more, give_none, leaves_found}
use Rattle.cps_p_circuit.proofs.degrees.Degrees.exclude_at.Goals as goal

pub returns-clause-given : goal.returns-clause-given
returns-clause-given c =
    let g = c.args.graph.now in
    let ls = c.args.literals.now in
    let d = c.args.self.now in
    give_more g ls d.states.items c.args.found.now.items c.args.found.now.items _ _ c.in_ok-push.ensures.items
    (λ s known inside. untaken_given g ls c.requires.tails c.requires.heads s d known inside c.requires.counted c.args.k _ _ c.requires.arc c.in-Some.ensures.0 c.in-Some.ensures.1 c.negate-target.ensures.subject c.negate-target.ensures.negated)
    (give_none g ls d.states.items c.args.found.now.items)

pub returns-clause-rests : goal.returns-clause-rests
returns-clause-rests c =
    leaves_found c.args.graph.now c.args.literals.now c.args.self.now c.args.k _ c.args.found.now.items _ _ c.requires.arc c.negate-target.ensures.subject c.negate-target.ensures.negated c.in_ok-push.ensures.items
