-- One more worker has its seats.
use Rattle.std.proofs.Common.{◌≡◌, ℕ, length, sym, ap, subst, ◌∙◌, List, [], ◌∷◌, ◌++◌, arith, ◌<◌, get_or}
use Rattle.cps_port.specs.Totals.{total}
use Rattle.cps_board.specs.declared.seats.Board.{Board}
use Rattle.cps_bounds.specs.declared.seats.Bounds.{Bounds}
use Rattle.cps_board.specs.Seats as boards
use Rattle.cps_bounds.specs.Seats as words
use Rattle.cps_crew.specs.declared.seats.Seated.{Seated}
use Rattle.cps_crew.specs.Crews.{words_splits, IsSeated}
use Rattle.cps_crew.proofs.Crews.{each_push, total_push, halves}
use Rattle.cps_crew.proofs.threads.seat_all.Goals as goal

pub seat-requires : goal.seat-requires
seat-requires c =
    let i = c.loop-number.invariant in
    let n = c.loop-number.number in
    record {
      room = (
        (halves n c.args.workers (boards.splits_of c.loop-number.kept.board_seat) c.loop-number-test.true c.requires.few i.board_left).0,
        (halves n c.args.workers (words.splits_of c.loop-number.kept.bounds_seat) c.loop-number-test.true c.requires.few i.bounds_left).0,
      );
      knows_nothing = i.part;
    }

pub loop-number-preserved : goal.loop-number-preserved
loop-number-preserved c =
    let n = c.loop-number.number in
    let i = c.loop-number.invariant in
    let k = c.seat.ensures in
    let board : Board = c.args.kept.now.board.now in
    let bounds : Bounds = c.args.kept.now.bounds.now in
    let x : Seated = c.seat.result in
    let xs : List Seated = c.loop-number.crew.items in
    let e : c.push.new.self.items ≡ xs ++ x ∷ [] = c.in_ok-push.ensures.items in
    let len : length xs ≡ n = omega (arith, i.count, c.loop-number.crew.ok.0) in
    let by_board = halves n c.args.workers (boards.splits_of c.loop-number.kept.board_seat) c.loop-number-test.true c.requires.few i.board_left in
    let by_bounds = halves n c.args.workers (words.splits_of c.loop-number.kept.bounds_seat) c.loop-number-test.true c.requires.few i.bounds_left in
    let here : IsSeated board bounds n x =
    subst (λ (b : Board). IsSeated b bounds n x) i.tables.0
    (subst (λ (b : Bounds). IsSeated c.loop-number.kept.board.now b n x) i.tables.1 k.seated) in
    let all = each_push (IsSeated board bounds) xs x i.crew.each (subst (λ (j : ℕ). IsSeated board bounds j x) (sym len) here) in
    record {
      tables = (k.tables.0 ∙ i.tables.0, k.tables.1 ∙ i.tables.1);
      board_left = k.board_splits ∙ by_board.1;
      bounds_left = k.splits ∙ by_bounds.1;
      part = k.part;
      splits = omega (arith, i.splits, k.given, k.splits, ap (λ (l : List Seated). total words_splits l) e, total_push words_splits xs x);
      count = (let more = c.in_ok-push.ensures.len in omega (arith, i.count, more));
      crew = record { each = subst (λ (l : List Seated). (j : ℕ) (d : Seated) → j < length l → IsSeated board bounds j (get_or l j d)) (sym e) all };
    }
