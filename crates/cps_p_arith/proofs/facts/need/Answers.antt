use Rattle.std.proofs.Common.{rules, arith}
use Rattle.std.proofs.lemmas.Int.{ints}
use Rattle.cps_rule.specs.Rules.{IsFact}
use Rattle.cps_p_arith.proofs.Holding.{one_more}
use Rattle.cps_p_arith.proofs.facts.need.Goals as goal

pub returns-in_ok-push-in-Yes : goal.returns-in_ok-push-in-Yes
returns-in_ok-push-in-Yes c = λ _.
    let a = c.if-atom.false in
    let b = c.if-atom-ge-LIMIT.false in
    let fact : IsFact c.args.past.now c.args.atom = record {
      subject = c.requires.subject;
      inside = record { low = omega (arith, ints); high = omega (arith, ints) };
      true_now = search rules;
    } in
    rw c.in_ok-push-in-Yes.ensures.items (one_more c.args.past.now c.args.supposed c.args.atom c.args.facts.now.items c.requires.facts fact)
