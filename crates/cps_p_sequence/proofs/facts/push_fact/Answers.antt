-- An atom that is added was true, and can be negated.
use Rattle.std.proofs.Common.{rules, w64, FitsSigned}
use Rattle.std.proofs.lemmas.Int.{to_z-of_z}
use Rattle.cps_p_sequence.proofs.facts.push_fact.Goals as goal

pub returns-in_ok-push-in-Yes-clause-yes : goal.returns-in_ok-push-in-Yes-clause-yes
returns-in_ok-push-in-Yes-clause-yes c =
    let fits : FitsSigned w64 c.args.atom.value = search rules in
    let inside = simp to_z-of_z at c.is_inside.ensures in
    λ _. record {
      is = c.in_ok-push-in-Yes.ensures.items;
      fact = record { subject = c.requires; inside = inside c.if-not-is_inside.false; true_now = c.truth.ensures.yes.0 c.in-Yes.is };
    }
