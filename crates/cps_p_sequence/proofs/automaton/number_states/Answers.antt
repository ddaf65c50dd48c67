-- The steps by numbers make the network of the transitions, sorted or not, and the alphabet has their labels.
use Rattle.std.proofs.Common.{w64, FitsSigned}
use Rattle.std.proofs.lemmas.Int.{to_z-of_z}
use Rattle.cps_p_sequence.proofs.Numbering.{network_from, network_sorted, labels_covered}
use Rattle.cps_p_sequence.proofs.automaton.number_states.Goals as goal

pub number_of-first-requires-clause-rising : goal.number_of-first-requires-clause-rising
number_of-first-requires-clause-rising c = rw c.as_slice-named.ensures.value c.in_ok-states.ensures.rising

pub number_of-first-requires-clause-listed : goal.number_of-first-requires-clause-listed
number_of-first-requires-clause-listed c = rw c.as_slice-named.ensures.value c.in_ok-states.ensures.start

pub mark_finals-requires : goal.mark_finals-requires
mark_finals-requires c = rw c.as_slice-named.ensures.value c.in_ok-states.ensures.rising

pub steps_of-requires-clause-rising : goal.steps_of-requires-clause-rising
steps_of-requires-clause-rising c = rw c.as_slice-named.ensures.value c.in_ok-states.ensures.rising

pub steps_of-requires-clause-tails : goal.steps_of-requires-clause-tails
steps_of-requires-clause-tails c = rw c.as_slice-named.ensures.value c.in_ok-states.ensures.tails

pub steps_of-requires-clause-heads : goal.steps_of-requires-clause-heads
steps_of-requires-clause-heads c = rw c.as_slice-named.ensures.value c.in_ok-states.ensures.heads

pub returns : goal.returns
returns c =
    let fits : FitsSigned w64 c.args.start = c.ranges.start in
    let states = c.in_ok-states.states.items in
    let number = simp to_z-of_z at (rw c.as_slice-named.ensures.value at c.number_of-first.ensures) in
    let finals = rw c.as_slice-named.ensures.value at c.in_ok-last.ensures in
    let within = rw c.as_slice-named.ensures.value at c.in_ok-numbered.ensures.within in
    let named = rw (c.as_slice-named.ensures.value, c.as_slice-listed.ensures.value) at c.in_ok-numbered.ensures.named in
    let net = network_from c.in_ok-raw.raw.items c.args.finals.now c.args.start states c.number_of-first.result c.in_ok-last.last.items c.in_ok-numbered.numbered.items c.in_ok-states.ensures.rising number finals within named in
    let sorted = network_sorted c.in_ok-raw.raw.items c.args.finals.now c.args.start states c.number_of-first.result c.in_ok-last.last.items c.in_ok-numbered.numbered.items c.sort_by_label.new.steps.items c.sort_by_label.ensures net in
    let network = rw c.in_ok-raw.ensures at sorted in
    let kept = rw c.in_ok-alphabet.ensures.items at c.make_distinct.ensures.kept in
    record {
      network = network;
      alphabet = labels_covered c.args.steps.0.now c.args.steps.1.now c.args.steps.2.now c.args.finals.now c.args.start states c.number_of-first.result c.in_ok-last.last.items c.sort_by_label.new.steps.items c.make_distinct.new.numbers.items kept network;
    }
