-- The lists are copies, and the numbers are those of their states.
use Rattle.std.proofs.Common.{refl, w64, FitsSigned}
use Rattle.std.proofs.lemmas.Int.{to_z-of_z}
use Rattle.cps_p_sequence.proofs.automaton.Automaton.over.Goals as goal

pub invariant_of-result : goal.invariant_of-result
invariant_of-result c =
    let fits : FitsSigned w64 c.args.start = c.ranges.start in
    let network = rw (to_z-of_z w64 c.args.start fits) at c.in_ok-states.ensures.network in
    (rw (to_z-of_z w64 c.args.start fits, c.in_ok-own_finals.ensures.items, c.in_ok-tails.ensures.items, c.in_ok-heads.ensures.items, c.in_ok-labels.ensures.items) network, c.in_ok-states.ensures.alphabet)

pub returns : goal.returns
returns c =
    let fits : FitsSigned w64 c.args.start = c.ranges.start in
    rw (to_z-of_z w64 c.args.start fits, c.in_ok-own_finals.ensures.items, c.in_ok-tails.ensures.items, c.in_ok-heads.ensures.items, c.in_ok-labels.ensures.items, c.in_ok-own_exprs.ensures.items) refl
