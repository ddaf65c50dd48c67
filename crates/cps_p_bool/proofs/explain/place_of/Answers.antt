use Rattle.std.proofs.Common.{◌≡◌, get_or, ◌∙◌, sym, rules, arith}
use Rattle.std.proofs.lemmas.List.{get_or_default}
use Rattle.std.proofs.lemmas.Grind.{common_steps}
use Rattle.cps_propagate.proofs.Past.{none}
use Rattle.cps_p_bool.proofs.explain.place_of.Goals as goal

pub returns-then-eq-clause-found : goal.returns-then-eq-clause-found
returns-then-eq-clause-found c = λ d l.
    let same : get_or c.args.atoms.now c.loop-place.place none ≡ c.args.atom = first_of (search rules, cc, grind (arith, common_steps)) in
    sym (get_or_default c.args.atoms.now c.loop-place.place none d l) ∙ same
