-- The first workers have their seats; what is left was halved as often.
use Rattle.std.proofs.Common.{◌≡◌, ◌+◌, ◌-◌, ◌^◌, vec_len}
use Rattle.cps_port.specs.Parts.{newcomer}
use Rattle.cps_port.specs.Totals.{total}
use Rattle.cps_board.specs.Seats as boards
use Rattle.cps_bounds.specs.Seats as words
use Rattle.cps_bounds.specs.Rule.{all_splits}
use Rattle.cps_crew.specs.Ports.{part_of}
use Rattle.cps_crew.specs.Crews.{words_splits, IsCrew}
use Rattle.cps_crew.proofs.threads.seat_all.Given as goal

abbrev pub invariant-loop-number : goal.invariant-loop-number
invariant-loop-number l = record {
  tables : (l.kept.board.now ≡ l.initial.kept.board.now) × (l.kept.bounds.now ≡ l.initial.kept.bounds.now);
  board_left : boards.splits_of l.kept.board_seat ≡ 2 ^ (32 - l.number);
  bounds_left : words.splits_of l.kept.bounds_seat ≡ 2 ^ (32 - l.number);
  part : part_of l.kept.board_seat l.kept.bounds_seat ≡ newcomer;
  splits : words.splits_of l.kept.bounds_seat + total words_splits l.crew.items ≡ all_splits;
  count : vec_len l.crew ≡ l.number;
  crew : IsCrew l.initial.kept.board.now l.initial.kept.bounds.now l.crew.items;
}
