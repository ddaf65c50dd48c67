-- One entry after another: what its watchers left is safe after it.
use Rattle.std.proofs.Common.{Option, ℕ, ◌+◌, ◌≡◌, List, length, sym, ◌∙◌, ap, subst, arith, length-append}
use Rattle.std.specs.List.{All}
use Rattle.cps_trail.specs.Trail.{Domains, Entry}
use Rattle.cps_clauses.specs.Quiet.{Fits}
use Rattle.cps_clauses.specs.Watches.{IsStill}
use Rattle.cps_clauses.specs.Visits.{AreSafe, IsOutcome, IsUntouched, IsWoken}
use Rattle.cps_clauses.proofs.Guards.{outcome_trans, untouched_trans, still_untouched, still_later}
use Rattle.cps_clauses.proofs.propagate.wake_all.Goals as goal
use Rattle.cps_clauses.proofs.propagate.wake_all.Goals.{In_ok-clause}

pub wake-requires-clause-fits : goal.wake-requires-clause-fits
wake-requires-clause-fits c = subst (λ (f : Domains). All (Fits f) c.args.clauses.now) (sym c.loop-next.invariant.outcome.infers.first) c.requires.fits

outcome : (c : In_ok-clause) → IsOutcome c.args.clauses.now c.args.store.now c.args.watching.now.watches.items c.wake.new.store c.wake.new.watching.watches.items
outcome c = outcome_trans c.args.clauses.now c.args.store.now c.loop-next.store c.wake.new.store c.args.watching.now.watches.items c.loop-next.watching.watches.items c.wake.new.watching.watches.items c.loop-next.invariant.outcome c.in_ok-clause.ensures.outcome

still : (c : In_ok-clause) → IsStill c.args.clauses.now c.args.watching.now.watches.items c.args.store.now c.args.from → IsUntouched c.args.store.now c.args.watching.now.watches.items c.args.watching.now.visits c.wake.new.store c.wake.new.watching.watches.items c.wake.new.watching.visits
still c h =
    let u = c.loop-next.invariant.still h in
    let s = still_untouched c.args.clauses.now c.args.store.now c.loop-next.store c.args.watching.now.watches.items c.loop-next.watching.watches.items c.args.watching.now.visits c.loop-next.watching.visits c.args.from u h in
    untouched_trans c.args.store.now c.loop-next.store c.wake.new.store c.args.watching.now.watches.items c.loop-next.watching.watches.items c.wake.new.watching.watches.items c.args.watching.now.visits c.loop-next.watching.visits c.wake.new.watching.visits u
    (c.in_ok-clause.ensures.still (still_later c.args.clauses.now c.loop-next.watching.watches.items c.loop-next.store c.args.from c.loop-next.next c.loop-next.invariant.from s))

pub returns-in-Some-clause-outcome : goal.returns-in-Some-clause-outcome
returns-in-Some-clause-outcome c = outcome (goal.at.returns-in-Some-clause-outcome c).In_ok-clause

pub returns-in-Some-clause-still : goal.returns-in-Some-clause-still
returns-in-Some-clause-still c = still (goal.at.returns-in-Some-clause-still c).In_ok-clause

pub loop-next-preserved : goal.loop-next-preserved
loop-next-preserved c =
    let d = (goal.at.loop-next-preserved c).In_ok-clause in
    record {
      outcome = outcome d;
      watching = c.in_ok-clause.ensures.watching;
      from = omega (arith, c.loop-next.invariant.from);
      within = omega (arith, c.loop-next-test.true, c.entries.ensures.views.same_length, ap (λ (es : List Entry). length es) c.in_ok-clause.ensures.outcome.infers.entries, length-append c.loop-next.store.entries c.in_ok-clause.ensures.outcome.infers.added);
      safe = subst (λ (v : Option ℕ). IsWoken c.args.clauses.now c.wake.new.watching.watches.items (c.loop-next.next + 1) c.wake.new.store v) c.in_default.is c.in_ok-clause.ensures.woken;
      still = still d;
      room = c.in_ok-clause.ensures.room ∙ c.loop-next.invariant.room;
      attached = c.in_ok-clause.ensures.attached ∙ c.loop-next.invariant.attached;
    }

pub loop-next-smaller : goal.loop-next-smaller
loop-next-smaller c =
    let infers = c.in_ok-clause.ensures.outcome.infers in
    omega (arith, c.loop-next-test.true, c.entries.ensures.views.same_length, infers.fewer, ap (λ (es : List Entry). length es) infers.entries, length-append c.loop-next.store.entries infers.added)

pub returns-clause-woken : goal.returns-clause-woken
returns-clause-woken c =
    let last : c.loop-next.next ≡ length c.loop-next.store.entries = omega (arith, c.loop-next-test.false, c.entries.ensures.views.same_length, c.loop-next.invariant.within) in
    subst (λ (k : ℕ). AreSafe c.args.clauses.now c.loop-next.watching.watches.items c.loop-next.store k) last c.loop-next.invariant.safe
