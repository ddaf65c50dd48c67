use Rattle.std.proofs.Common.{◌≡◌, ◌++◌, ◌∙◌, ap, List, ℤ}
use Rattle.cps_p_circuit.proofs.TakenArcs.{all_left, all_right, all_listed, numbering}
use Rattle.cps_p_circuit.proofs.build.graph_of.Goals as goal

pub places_of-requires : goal.places_of-requires
places_of-requires c =
    let all : c.extend_from_slice.new.self.items ≡ c.args.tails.now ++ c.args.heads.now = c.in_ok-extend_from_slice.ensures.items ∙ ap (λ (xs : List ℤ). xs ++ c.args.heads.now) c.in_ok-nodes.ensures.items in
    rw c.as_slice.ensures.value (all_left c.args.tails.now c.args.heads.now _ c.make_distinct.new.numbers.items all c.make_distinct.ensures.kept)

pub places_of-requires-2 : goal.places_of-requires-2
places_of-requires-2 c =
    let all : c.extend_from_slice.new.self.items ≡ c.args.tails.now ++ c.args.heads.now = c.in_ok-extend_from_slice.ensures.items ∙ ap (λ (xs : List ℤ). xs ++ c.args.heads.now) c.in_ok-nodes.ensures.items in
    rw c.as_slice-2.ensures.value (all_right c.args.tails.now c.args.heads.now _ c.make_distinct.new.numbers.items all c.make_distinct.ensures.kept)

pub invariant_of-result : goal.invariant_of-result
invariant_of-result c =
    let nodes = c.make_distinct.new.numbers.items in
    let all : c.extend_from_slice.new.self.items ≡ c.args.tails.now ++ c.args.heads.now = c.in_ok-extend_from_slice.ensures.items ∙ ap (λ (xs : List ℤ). xs ++ c.args.heads.now) c.in_ok-nodes.ensures.items in
    record {
      numbered = numbering nodes c.in_ok-from.from.items c.in_ok-to.to.items c.make_distinct.ensures.rising
          (rw c.as_slice.ensures.value at c.in_ok-from.ensures.within) (rw c.as_slice-2.ensures.value at c.in_ok-to.ensures.within)
          (all_listed nodes c.extend_from_slice.new.self.items c.args.tails.now c.args.heads.now c.in_ok-from.from.items c.in_ok-to.to.items all
          (rw c.as_slice.ensures.value at c.in_ok-from.ensures.are) (rw c.as_slice-2.ensures.value at c.in_ok-to.ensures.are) c.make_distinct.ensures.added_none);
    }
