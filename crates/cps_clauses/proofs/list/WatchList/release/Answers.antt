use Rattle.std.proofs.Common.{ℕ, Bool, List, ◌≡◌, ◌<◌, true, false, length, get_or, sym, ◌∙◌, ap, subst, arith}
use Rattle.std.specs.List.{All, Contains}
use Rattle.std.proofs.lemmas.List.Elements.{All-contains}
use Rattle.cps_clauses.specs.declared.watch.Watcher.{Watcher}
use Rattle.cps_clauses.specs.InForce.{is_dropped}
use Rattle.cps_clauses.specs.Watches.{no_watcher}
use Rattle.cps_clauses.proofs.ReleasedWatchers.{IsReleasedTo, released_none, released_past, released_out, released_all}
use Rattle.cps_clauses.proofs.list.WatchList.release.Goals as goal

pub loop-place-init : goal.loop-place-init
loop-place-init c = released_none c.args.dropped.now c.args.self.now

-- each watcher left came from the list, so its clause has a mark
bound : (dropped : List Bool) (old xs : List Watcher) (n : ℕ) (w : Watcher) → n < length xs → w ≡ get_or xs n no_watcher → All (λ v. v.clause < length dropped) old → All (Contains old) xs → w.clause < length dropped
bound dropped old xs n w here is all origin =
    subst (λ (v : Watcher). v.clause < length dropped) (sym is) (All-contains (λ (v : Watcher). v.clause < length dropped) old (get_or xs n no_watcher) all (origin n no_watcher here))

pub bounds-dropped-watcher : goal.bounds-dropped-watcher
bounds-dropped-watcher c =
    bound c.args.dropped.now c.args.self.now c.loop-place.self c.loop-place.place c.watcher.result (omega (arith, c.loop-place-test.true, c.len.ensures)) c.watcher.ensures c.requires c.loop-place.invariant.origin

pub loop-place-preserved-then-dropped-watcher : goal.loop-place-preserved-then-dropped-watcher
loop-place-preserved-then-dropped-watcher c =
    let here : c.loop-place.place < length c.loop-place.self = omega (arith, c.loop-place-test.true, c.len.ensures) in
    let gone : is_dropped c.args.dropped.now c.watcher.result.clause ≡ true = c.if-dropped-watcher.true in
    subst (λ (xs : List Watcher). IsReleasedTo c.args.dropped.now c.args.self.now xs c.loop-place.place) (sym c.remove.ensures)
    (released_out c.args.dropped.now c.args.self.now c.loop-place.self c.loop-place.place here (ap (λ (w : Watcher). is_dropped c.args.dropped.now w.clause) (sym c.watcher.ensures) ∙ gone) c.loop-place.invariant)

pub loop-place-preserved : goal.loop-place-preserved
loop-place-preserved c =
    let here : c.loop-place.place < length c.loop-place.self = omega (arith, c.loop-place-test.true, c.len.ensures) in
    let keeps : is_dropped c.args.dropped.now c.watcher.result.clause ≡ false = c.if-dropped-watcher.false in
    released_past c.args.dropped.now c.args.self.now c.loop-place.self c.loop-place.place here (ap (λ (w : Watcher). is_dropped c.args.dropped.now w.clause) (sym c.watcher.ensures) ∙ keeps) c.loop-place.invariant

pub returns : goal.returns
returns c = released_all c.args.dropped.now c.args.self.now c.loop-place.self c.loop-place.place (omega (arith, c.loop-place-test.false, c.len.ensures)) c.loop-place.invariant
