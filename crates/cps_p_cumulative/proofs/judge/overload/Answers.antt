-- Both orders have the same parts.
use Rattle.std.proofs.Common.{◌≡◌, ◌∙◌, ◌++◌, [], List, pos, ap, sym, subst}
use Rattle.std.specs.List.Sorted.{IsPermutation}
use Rattle.cps_p_cumulative.specs.declared.part.Part.{Part}
use Rattle.cps_p_cumulative.proofs.DemandSums.{AreParts-permutation, FitsCapacity-swept}
use Rattle.cps_p_cumulative.proofs.judge.overload.Goals as goal
use Rattle.cps_p_cumulative.proofs.judge.overload.Goals.{After-as_slice-2}

abbrev no_part : Part
no_part = record { from = pos 0; to = pos 0; demand = 0 }

moved_to : (ps cleared copied sorted read : List Part) → cleared ≡ [] → copied ≡ cleared ++ ps → IsPermutation copied sorted → read ≡ sorted → IsPermutation ps read
moved_to ps cleared copied sorted read none is moved same =
    let begun : copied ≡ ps = is ∙ ap (λ (l : List Part). l ++ ps) none in
    subst (λ (l : List Part). IsPermutation ps l) (sym same) (subst (λ (l : List Part). IsPermutation l sorted) begun moved)

starts_moved : (c : After-as_slice-2) → IsPermutation c.args.parts.now c.as_slice.result.now
starts_moved c = moved_to c.args.parts.now c.clear.new.self.items c.extend_from_slice.new.self.items c.sort_unstable_by_key.new.self.items c.as_slice.result.now
    c.clear.ensures.items c.in_ok-extend_from_slice.ensures.items c.sort_unstable_by_key.ensures.permutation c.as_slice.ensures.value

ends_moved : (c : After-as_slice-2) → IsPermutation c.args.parts.now c.as_slice-2.result.now
ends_moved c = moved_to c.args.parts.now c.clear-2.new.self.items c.extend_from_slice-2.new.self.items c.sort_unstable_by_key-2.new.self.items c.as_slice-2.result.now
    c.clear-2.ensures.items c.in_ok-extend_from_slice-2.ensures.items c.sort_unstable_by_key-2.ensures.permutation c.as_slice-2.ensures.value

pub sweep-requires-clause-starts : goal.sweep-requires-clause-starts
sweep-requires-clause-starts c = AreParts-permutation c.args.parts.now c.as_slice.result.now c.requires.parts (starts_moved (goal.at.sweep-requires-clause-starts c).After-as_slice-2)

pub returns-in-None : goal.returns-in-None
returns-in-None c =
    let at = (goal.at.returns-in-None c).After-as_slice-2 in
    FitsCapacity-swept c.args.parts.now c.as_slice.result.now c.as_slice-2.result.now c.args.capacity no_part c.requires.parts (starts_moved at) (ends_moved at) (c.sweep.ensures c.in-None.is)

pub sweep-requires-clause-capacity : goal.sweep-requires-clause-capacity
sweep-requires-clause-capacity c = c.requires.capacity

pub is_over-requires-clause-parts : goal.is_over-requires-clause-parts
is_over-requires-clause-parts c = c.requires.parts

pub is_over-requires-clause-capacity : goal.is_over-requires-clause-capacity
is_over-requires-clause-capacity c = c.requires.capacity

pub scan-requires-clause-parts : goal.scan-requires-clause-parts
scan-requires-clause-parts c = c.requires.parts

pub scan-requires-clause-capacity : goal.scan-requires-clause-capacity
scan-requires-clause-capacity c = c.requires.capacity
