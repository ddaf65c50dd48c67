use Rattle.std.proofs.Common.{Ok, ◌≡◌, true, rules}
use Rattle.cps_p_nooverlap.proofs.Claims.{impossible_cited}
use Rattle.cps_p_nooverlap.proofs.sets.overload.Goals as goal

pub returns-then-branch : goal.returns-then-branch
returns-then-branch c =
    let one : c.refute_anew.result ≡ Ok true = search rules in
    impossible_cited c.args.past.now c.args.spans.now c.refute_anew.new.facts.items (c.refute_anew.ensures one)
