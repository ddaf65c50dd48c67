-- No number before the one that is looked at is the one that is searched for.
use Rattle.std.proofs.Common.{arith, rules, ap, ◌≢◌, ℕ, pos, sym, ◌∙◌, get_or, to_z, of_z, below_more, FitsSigned, w32}
use Rattle.std.proofs.lemmas.Int.{to_z-of_z}
use Rattle.std.proofs.lemmas.List.{get_or_default}
use Rattle.cps_p_circuit.proofs.numbers.place_in.Goals as goal

pub loop-place-preserved : goal.loop-place-preserved
loop-place-preserved c =
    let n = to_z-of_z w32 c.args.number c.ranges.number in
    below_more (λ (k : ℕ). get_or c.args.numbers.now k (pos 0) ≢ to_z w32 (of_z w32 c.args.number)) c.loop-place.place c.loop-place.invariant (λ e. c.if-numbers-place-2.false (ap (of_z w32) (e ∙ n)))

pub returns-clause-is : goal.returns-clause-is
returns-clause-is c =
    let l = c.requires.1 in
    let fits : FitsSigned w32 c.args.number = search rules in
    absurd (c.loop-place.invariant c.requires.0 (omega (arith, c.requires.1, c.loop-place-test.false)) (get_or_default c.args.numbers.now c.requires.0 (pos 0) c.args.number l ∙ c.requires.2 ∙ sym (to_z-of_z w32 c.args.number fits)))
