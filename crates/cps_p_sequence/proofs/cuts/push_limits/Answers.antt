use Rattle.std.proofs.Common.{◌∷◌, []}
use Rattle.cps_p_sequence.proofs.Growing.{grows_trans}
use Rattle.cps_p_sequence.proofs.cuts.push_limits.Goals as goal

pub returns : goal.returns
returns c =
    let first = c.in_ok-low.ensures in
    let second = c.in_ok-high.ensures in
    record {
      grows = grows_trans c.args.past.now (c.args.subject ∷ []) c.args.facts.now.items c.push_bound.new.facts.items c.push_bound-2.new.facts.items first.grows second.grows;
      limited = record { low = λ xs all. first.bounded xs (second.grows.kept xs all); high = λ xs all. second.bounded xs all };
    }
