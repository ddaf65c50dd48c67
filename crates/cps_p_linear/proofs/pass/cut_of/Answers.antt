-- A term that is within the end of its room stays there, and the cut of one that is not leaves it there.
use Rattle.std.proofs.Common.{pos, arith, get_or}
use Rattle.cps_instance.specs.declared.term.Term.{Term}
use Rattle.cps_p_linear.specs.declared.ends.Ends.{Ends}
use Rattle.cps_p_linear.specs.declared.ends.Side.TheVariants.{Low, High}
use Rattle.cps_p_linear.specs.Ends.{IsBounded, value_at_end, end_at}
use Rattle.cps_p_linear.proofs.Reaches.{zip_length, zip_at, term_reach}
use Rattle.cps_p_linear.proofs.Explained.{cut_kept, coeff_off, goal_between, has_bits, room_small, room_is}
use Rattle.cps_p_linear.proofs.Forced.{cut_everywhere}
use Rattle.cps_p_linear.proofs.pass.cut_of.Goals as goal

abbrev no_term : Term
no_term = record { coeff = pos 0; subject = 0 }

abbrev no_ends : Ends
no_ends = record { low = pos 0; high = pos 0 }

pub bounds-end-place : goal.bounds-end-place
bounds-end-place c = c.requires.1.place

pub bounds-end-place-2 : goal.bounds-end-place-2
bounds-end-place-2 c =
    let same = zip_length (IsBounded c.requires.0) c.args.end.now.measured.task.terms.now c.args.end.now.measured.values.now c.requires.1.measured.bounded in
    let l = c.requires.1.place in
    omega arith

pub term_ends-own-requires : goal.term_ends-own-requires
term_ends-own-requires c =
    let m = c.args.end.now.measured in
    term_reach c.requires.0 m.task.terms.now c.args.end.now.place no_term (get_or m.values.now c.args.end.now.place no_ends) c.requires.1.measured.range.measurable c.requires.1.place
    (zip_at (IsBounded c.requires.0) m.task.terms.now m.values.now c.args.end.now.place no_term no_ends c.requires.1.measured.bounded c.requires.1.place)

pub room_beside-room-requires : goal.room_beside-room-requires
room_beside-room-requires c =
    let m = c.args.end.now.measured in
    has_bits c.requires.0 m.task.terms.now m.values.now m.task.admitted.now m.sum c.args.end.now.goal c.term_ends-own.result c.args.end.now.place no_term no_ends c.requires.1.measured c.requires.1.goal c.requires.1.place c.term_ends-own.ensures.low c.term_ends-own.ensures.high

pub term_cut-requires-clause-nonzero : goal.term_cut-requires-clause-nonzero
term_cut-requires-clause-nonzero c =
    let m = c.args.end.now.measured in
    let t = get_or m.task.terms.now c.args.end.now.place no_term in
    let e = get_or m.values.now c.args.end.now.place no_ends in
    coeff_off c.args.end.now.side t.coeff (value_at_end Low t e) (value_at_end High t e) m.sum c.args.end.now.goal c.term_ends-own.result c.room_beside-room.result (goal_between m.task.admitted.now m.sum c.args.end.now.goal c.requires.1.goal)
    c.term_ends-own.ensures.low c.term_ends-own.ensures.high c.room_beside-room.ensures.low c.room_beside-room.ensures.high (c.is_within.ensures.no c.if-is_within.false)

pub term_cut-requires-clause-small : goal.term_cut-requires-clause-small
term_cut-requires-clause-small c =
    let m = c.args.end.now.measured in
    let bits = has_bits c.requires.0 m.task.terms.now m.values.now m.task.admitted.now m.sum c.args.end.now.goal c.term_ends-own.result c.args.end.now.place no_term no_ends c.requires.1.measured c.requires.1.goal c.requires.1.place c.term_ends-own.ensures.low c.term_ends-own.ensures.high in
    room_small c.args.end.now.side m.sum c.args.end.now.goal c.term_ends-own.result c.room_beside-room.result bits c.room_beside-room.ensures.low c.room_beside-room.ensures.high

pub returns-then-is_within-clause-cut : goal.returns-then-is_within-clause-cut
returns-then-is_within-clause-cut c = λ s h.
    let m = c.args.end.now.measured in
    cut_kept c.args.end.now.side s m.sum c.args.end.now.goal c.term_ends-own.result c.room_beside-room.result m.task.terms.now m.values.now c.args.end.now.place no_term no_ends h.place h.measured.bounded
    c.term_ends-own.ensures.low c.term_ends-own.ensures.high c.room_beside-room.ensures.low c.room_beside-room.ensures.high (c.is_within.ensures.yes c.if-is_within.true)

pub returns-clause-cut : goal.returns-clause-cut
returns-clause-cut c =
    let m = c.args.end.now.measured in
    cut_everywhere c.args.end.now.side m.sum c.args.end.now.goal m.task.terms.now m.values.now c.args.end.now.place no_term no_ends (end_at c.args.end.now.side c.room_beside-room.result) c.term_cut.result c.requires.1.place
    (zip_length (IsBounded c.requires.0) m.task.terms.now m.values.now c.requires.1.measured.bounded)
    (room_is c.args.end.now.side m.sum c.args.end.now.goal c.term_ends-own.result c.room_beside-room.result (get_or m.task.terms.now c.args.end.now.place no_term) (get_or m.values.now c.args.end.now.place no_ends)
    c.term_ends-own.ensures.low c.term_ends-own.ensures.high c.room_beside-room.ensures.low c.room_beside-room.ensures.high) c.term_cut.ensures
