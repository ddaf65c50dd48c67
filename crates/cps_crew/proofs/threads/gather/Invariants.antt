-- The seats of the last workers were joined, and the ends of these are there.
use Rattle.std.proofs.Common.{◌≡◌, ◌+◌, length, vec_len, All}
use Rattle.cps_model.specs.declared.model.CpModel.{CpModel}
use Rattle.cps_options.specs.declared.options.Options.{Options}
use Rattle.cps_port.specs.Totals.{total}
use Rattle.cps_bounds.specs.Seats as words
use Rattle.cps_bounds.specs.Rule.{all_splits}
use Rattle.cps_crew.specs.Crews.{words_splits, IsBackAt, HaveReturned, AreGathered}
use Rattle.cps_crew.proofs.threads.gather.Given as goal

abbrev pub invariant-loop-seated : goal.invariant-loop-seated
invariant-loop-seated l = record {
  tables : (l.kept.board.now ≡ l.initial.kept.board.now) × (l.kept.bounds.now ≡ l.initial.kept.bounds.now);
  splits : words.splits_of l.kept.bounds_seat + total words_splits l.crew.items ≡ all_splits;
  crew : All (IsBackAt l.initial.kept.board.now l.initial.kept.bounds.now) l.crew.items;
  returned : (m : CpModel) (o : Options) → HaveReturned m o l.initial.kept.board.now l.initial.kept.bounds.now l.initial.crew.items
      → HaveReturned m o l.initial.kept.board.now l.initial.kept.bounds.now l.crew.items;
  count : length l.crew.items + length l.ends.items ≡ length l.initial.crew.items;
  gathered : (m : CpModel) (o : Options) → HaveReturned m o l.initial.kept.board.now l.initial.kept.bounds.now l.initial.crew.items
      → AreGathered m o (length l.crew.items) (length l.ends.items) (words.part_of l.kept.bounds_seat) l.ends.items;
}

abbrev pub decreases-loop-seated : goal.decreases-loop-seated
decreases-loop-seated l = vec_len l.crew
