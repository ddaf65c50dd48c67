-- All workers are back, and the words are what their seats know together.
use Rattle.std.proofs.Common.{rules, ◌≡◌, ◌↔◌, IsTrue, Bool, ℕ, ◌+◌, length, sym, ap, ap₂, subst, ◌∙◌, List, All}
use Rattle.cps_board.specs.declared.seats.Board.{Board}
use Rattle.cps_bounds.specs.declared.seats.Bounds.{Bounds}
use Rattle.cps_model.specs.declared.bound.Bound.TheVariants.{At}
use Rattle.cps_model.specs.declared.model.CpModel.{CpModel}
use Rattle.cps_model.specs.Start.{objective_start}
use Rattle.cps_port.specs.declared.part.BoardPart.{BoardPart}
use Rattle.cps_port.specs.declared.part.BoundsPart.{BoundsPart}
use Rattle.cps_port.specs.declared.part.Part.{Part}
use Rattle.cps_port.specs.Incumbents.{IsLowerBound}
use Rattle.cps_port.specs.Order.{raised_above}
use Rattle.cps_port.specs.Totals.{total}
use Rattle.cps_bounds.specs.Seats as words
use Rattle.cps_crew.specs.declared.seats.Seated.{Seated}
use Rattle.cps_crew.specs.Workers.{SearchesNear}
use Rattle.cps_crew.specs.Crews.{words_splits, MayWork, AreGathered}
use Rattle.cps_crew.proofs.Crews.{written, written_back, all_at, all_ready, splits_back, came_to}
use Rattle.cps_crew.proofs.threads.solve_in_threads.Goals as goal

pub work_all-requires-clause-ready : goal.work_all-requires-clause-ready
work_all-requires-clause-ready g c =
    let m = c.args.brief.now.model.now in
    let o = c.args.brief.now.options.now in
    let xs : List Seated = c.in_ok-crew.crew.items in
    let full : c.in_ok-crew.crew.len ≡ length xs = search rules in
    let count : length xs ≡ o.workers = sym full ∙ c.in_ok-crew.ensures.count in
    let reads = subst (λ (b : Bool). IsTrue b ↔ SearchesNear o.workers) (sym c.in_ok-pool.ensures.is_read) c.reads_pool.ensures in
    let ready = all_ready g.T.Recruiter.suits m _ _ o c.in_ok-board.board c.in_ok-bounds.bounds c.in_ok-crew.crew.items c.in_ok-bounds.ensures.model c.in_ok-pool.ensures.model reads count c.requires.range c.requires.suits c.in_ok-crew.ensures.crew in
    λ κs outlive. subst (All (MayWork g.T.Recruiter.suits m o _ _)) (sym c.as_mut_slice.ensures.value) ready

pub seat_all-requires-clause-knows_nothing : goal.seat_all-requires-clause-knows_nothing
seat_all-requires-clause-knows_nothing g c =
    ap₂ (λ (b : BoardPart) (q : BoundsPart). let p : Part = record { board = b; bounds = q } in p) c.in_ok-board.ensures.seat.1 c.in_ok-bounds.ensures.seat.1

pub gather-requires-clause-idle : goal.gather-requires-clause-idle
gather-requires-clause-idle g c = let new = c.in_ok-crew.ensures.part in (ap (λ (p : Part). p.bounds.offered) new, ap (λ (p : Part). p.bounds.raised) new)

pub gather-requires-clause-splits : goal.gather-requires-clause-splits
gather-requires-clause-splits g c =
    let m = c.args.brief.now.model.now in
    let o = c.args.brief.now.options.now in
    let xs : List Seated = c.in_ok-crew.crew.items in
    let ys : List Seated = c.work_all.new.crew in
    let same : c.as_mut_slice.result.now ≡ xs = c.as_mut_slice.ensures.value in
    let len : length ys ≡ length xs = c.work_all.ensures.len ∙ ap (λ (l : List Seated). length l) same in
    let full : c.in_ok-crew.crew.len ≡ length xs = search rules in
    let w = written c.in_ok-crew.crew.len xs ys full len in
    let k = splits_back m o c.as_mut_slice.result.now ys c.work_all.ensures.len c.work_all.ensures.each in
    ap (λ (l : List Seated). words.splits_of c.seat_all.new.kept.bounds_seat + total words_splits l) w ∙ ap (λ (n : ℕ). words.splits_of c.seat_all.new.kept.bounds_seat + n) (k ∙ ap (total words_splits) same) ∙ c.in_ok-crew.ensures.splits

pub gather-requires-clause-crew : goal.gather-requires-clause-crew
gather-requires-clause-crew g c =
    let m = c.args.brief.now.model.now in
    let o = c.args.brief.now.options.now in
    let board : Board = c.seat_all.new.kept.board.now in
    let bounds : Bounds = c.seat_all.new.kept.bounds.now in
    let xs : List Seated = c.in_ok-crew.crew.items in
    let same : c.as_mut_slice.result.now ≡ xs = c.as_mut_slice.ensures.value in
    let full : c.in_ok-crew.crew.len ≡ length xs = search rules in
    let tables = c.in_ok-crew.ensures.tables in
    all_at m o board bounds _
    (written_back m o board c.in_ok-board.board bounds c.in_ok-bounds.bounds c.in_ok-crew.crew.len xs c.as_mut_slice.result.now c.work_all.new.crew full same c.work_all.ensures.len tables.0 tables.1 c.in_ok-board.ensures.board.1
    c.in_ok-crew.ensures.crew c.work_all.ensures.each)

pub outcome_of-requires-clause-came : goal.outcome_of-requires-clause-came
outcome_of-requires-clause-came g c =
    let m = c.args.brief.now.model.now in
    let o = c.args.brief.now.options.now in
    let k = c.close-upper.ensures in
    let seat = c.gather.new.kept.bounds_seat in
    let model : words.model_of c.in_ok-bounds.bounds ≡ m = c.in_ok-bounds.ensures.model in
    let all = c.in_ok-ends.ensures.splits in
    let board : Board = c.seat_all.new.kept.board.now in
    let bounds : Bounds = c.seat_all.new.kept.bounds.now in
    let xs : List Seated = c.in_ok-crew.crew.items in
    let same : c.as_mut_slice.result.now ≡ xs = c.as_mut_slice.ensures.value in
    let full : c.in_ok-crew.crew.len ≡ length xs = search rules in
    let tables = c.in_ok-crew.ensures.tables in
    let back = written_back m o board c.in_ok-board.board bounds c.in_ok-bounds.bounds c.in_ok-crew.crew.len xs c.as_mut_slice.result.now c.work_all.new.crew full same c.work_all.ensures.len tables.0 tables.1 c.in_ok-board.ensures.board.1
    c.in_ok-crew.ensures.crew c.work_all.ensures.each in
    let came = subst (λ (n : ℕ). AreGathered m o 0 n (words.part_of seat) c.in_ok-ends.ends.items) c.in_ok-crew.ensures.count (c.in_ok-ends.ensures.gathered m o back) in
    came_to m o (words.part_of seat) c.close-upper.result.0 c.close-upper.result.1 c.in_ok-ends.ends.items came (k.whole_upper all)
    (k.whole_lower all ∙ ap (λ (x : CpModel). raised_above (words.part_of seat).raised (At (objective_start x))) model)
    (subst (λ (x : CpModel). IsLowerBound x c.close-upper.result.1) model k.lower) k.no_worse.0 k.no_worse.1 c.requires.no_log
