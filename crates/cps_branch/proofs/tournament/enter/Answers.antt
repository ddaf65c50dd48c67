use Rattle.std.proofs.Common.{◌+◌, ◌∙◌, set, arith}
use Rattle.std.proofs.lemmas.List.{get_or-set_other, get_or-set_same}
use Rattle.cps_branch.specs.Tournament.{nobody}
use Rattle.cps_branch.proofs.Tournaments.{others_set, won_below}
use Rattle.cps_branch.proofs.tournament.enter.Goals as goal

pub play_up-requires-clause-below : goal.play_up-requires-clause-below
play_up-requires-clause-below c =
    let node = c.args.count + c.args.contender.variable in
    won_below c.args.count node c.args.nodes.now (set c.args.nodes.now node c.args.contender) (omega arith) c.requires.won (others_set c.args.nodes.now node c.args.contender)

pub returns-clause-here : goal.returns-clause-here
returns-clause-here c =
    let node = c.args.count + c.args.contender.variable in
    c.play_up.ensures.variables node (omega arith) ∙ get_or-set_same c.args.nodes.now node c.args.contender nobody (omega arith)

pub returns-clause-others : goal.returns-clause-others
returns-clause-others c = λ i ne.
    let node = c.args.count + c.args.contender.variable in
    c.play_up.ensures.variables (c.args.count + i) (omega arith) ∙ get_or-set_other c.args.nodes.now node (c.args.count + i) c.args.contender nobody (λ e. ne (omega (arith, e)))
