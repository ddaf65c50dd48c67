use Rattle.std.proofs.Common.{arith, ◌≡◌, ℕ, List, get_or, sym, ap, ◌∙◌}
use Rattle.std.specs.Slots.{slots_counts}
use Rattle.cps_board.proofs.Basics.{first_of}
use Rattle.cps_board.proofs.Keeps.{counts, covers_draws, covers_taken, whole}
use Rattle.cps_board.proofs.seats.Board.close.Goals as goal

pub returns : goal.returns
returns c = let f = c.close_with-closed.ensures.values.2 in let k = counts _ f.0 f.1.0 in let n = (slots_counts c.close_with-closed.result.slots).0 in
    let e : get_or f.0.words 0 0 ≡ c.word-draws.result = ap (λ (l : List ℕ). get_or l 0 0) f.2 ∙ first_of _ c.word-draws.result c.word-draws.ensures in let m = f.3 in let a = c.close_with-closed.ensures.counts in let b = c.args.self.slots in record {
      at_most = omega arith;
      drawn = let d = covers_draws _ f.0 f.1.0 _ _ f.1.1 in omega arith;
      taken = let t = covers_taken _ f.0 f.1.0 _ _ f.1.1 in omega arith;
      whole = λ all. sym e ∙ whole _ f.0 f.1.0 _ _ f.1.1 all;
    }
