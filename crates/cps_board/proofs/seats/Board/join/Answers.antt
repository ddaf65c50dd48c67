use Rattle.std.proofs.Common.{rules, arith, ◌+◌, ◌∙◌, ap, sym, length, min, max, true, if◌then◌else◌}
use Rattle.atomic_table.specs.Table.{Me}
use Rattle.cps_board.specs.declared.view.View.{View}
use Rattle.cps_board.proofs.Basics.{length_longer}
use Rattle.cps_board.proofs.Keeps.{joins}
use Rattle.cps_board.proofs.seats.Board.join.Goals as goal

pub join_seat-requires : goal.join_seat-requires
join_seat-requires c = (search rules, search rules, search rules, search rules, joins _ _ _ _ _ (search rules) (search rules))

pub invariant_of-seat : goal.invariant_of-seat
invariant_of-seat c = let j = c.join_seat.ensures.2 in let v = c.args.seat.now in let w = c.args.other in record {
  same_splits = c.min-seat.ensures ∙ ((λ i. min (v.same_splits i + w.same_splits i) 4294967296) ∙ sym (ap (λ (m : Me (Unit {0}) View). m.0.splits) j));
  some_part = let a = v.some_part in let e = c.min-seat.ensures in omega arith;
  not_more = let e = c.min-seat.ensures in omega arith;
  same_taken = c.max-seat.ensures ∙ ((λ i. max (v.same_taken i) (w.same_taken i)) ∙ (sym (length_longer v.seat.me.0.part.taken w.seat.me.0.part.taken) ∙ sym (ap (λ (m : Me (Unit {0}) View). length m.0.part.taken) j)));
  same_full = c.either-seat.ensures ∙ ((λ i. if v.same_full i then true else w.same_full i) ∙ sym (ap (λ (m : Me (Unit {0}) View). m.0.part.full) j));
  none_drawn = ap (λ (m : Me (Unit {0}) View). m.0.part.drawn) j ∙ v.none_drawn;
  holds_none = ap (λ (m : Me (Unit {0}) View). m.1) j ∙ v.holds_none;
}
