use Rattle.std.proofs.Common.{◌≡◌, rules, arith}
use Rattle.std.proofs.lemmas.Grind.{common_steps}
use Rattle.cps_p_bool.proofs.LazyReasons.{IsExplanation-given}
use Rattle.cps_p_bool.proofs.explain.explain_as.Goals as goal

pub returns-then-eq : goal.returns-then-eq
returns-then-eq c = λ _ body g.
    let same : c.args.given ≡ c.args.atom = first_of (search rules, cc, grind (arith, common_steps)) in
    IsExplanation-given c.args.past.now c.args.from.now.enforcement.now c.args.from.now.used.now body c.args.given c.args.atom c.explain.new.reason.items same c.requires.subject c.in_ok-explain.ensures g
