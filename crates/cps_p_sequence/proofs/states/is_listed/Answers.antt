-- A number is listed where it is found.
use Rattle.std.proofs.Common.{◌∙◌, pos, true≢false}
use Rattle.std.proofs.lemmas.Int.{to_z-of_z}
use Rattle.std.proofs.lemmas.List.{get_or_default}
use Rattle.cps_p_sequence.proofs.states.is_listed.Goals as goal

pub returns-in-Some : goal.returns-in-Some
returns-in-Some c =
    let number = simp (to_z-of_z, c.ranges.number) at c.in-Some.ensures.some in
    record {
      listed = λ e. (_, number.inside, get_or_default c.args.numbers.now _ c.args.number (pos 0) number.inside ∙ number.is);
      missing = λ e has. absurd (true≢false e);
    }
