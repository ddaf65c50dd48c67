use Rattle.cps_instance.specs.declared.task.Body.TheVariants.{NoOverlap}
use Rattle.cps_p_span.proofs.Timing.{IfSome-map}
use Rattle.cps_p_span.proofs.Pairing.{gives_proposed}
use Rattle.cps_p_nooverlap.proofs.Claims.{given_reasoned}
use Rattle.cps_p_nooverlap.proofs.sets.push_next.Goals as goal

pub returns-in_ok-propose-in-Some : goal.returns-in_ok-propose-in-Some
returns-in_ok-propose-in-Some c =
    gives_proposed (NoOverlap c.args.spans.now) c.args.past.now c.in_ok-target-in-Some.target c.args.found.now.items c.propose.new.found.items
    (IfSome-map c.in_ok-target-in-Some.target (λ u r. given_reasoned c.args.past.now c.args.spans.now c.give.new.desk.facts.items u r) c.in_ok-target-in-Some.ensures) c.in_ok-propose-in-Some.ensures
