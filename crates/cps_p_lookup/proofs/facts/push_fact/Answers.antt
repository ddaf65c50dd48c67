-- What is added is about a subject that there is, can be negated and was true.
use Rattle.std.proofs.Common.{rules, FitsSigned, w64}
use Rattle.std.proofs.lemmas.Int.{to_z-of_z}
use Rattle.cps_p_lookup.proofs.facts.push_fact.Goals as goal

pub returns-in_ok-push-in-Yes-clause-yes : goal.returns-in_ok-push-in-Yes-clause-yes
returns-in_ok-push-in-Yes-clause-yes c =
    let v = c.args.atom.value in
    let fits : FitsSigned w64 v = search rules in
    λ _. record {
      is = c.in_ok-push-in-Yes.ensures.items;
      fact = record { subject = c.requires; inside = rw (to_z-of_z w64 v fits) at (c.is_inside.ensures c.if-not-is_inside.false); true_now = c.truth.ensures.yes.0 c.in-Yes.is };
    }
