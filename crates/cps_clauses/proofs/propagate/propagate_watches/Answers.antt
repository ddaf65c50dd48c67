-- The looks at the clauses that are new, and then what the entries wake.
use Rattle.std.proofs.Common.{Result, Ok, Err, OnOk, Option, ℕ, ◌≡◌, ◌+◌, List, length, sym, ◌∙◌, ap, subst, arith, length-append}
use Rattle.std.specs.List.{All}
use Rattle.cps_trail.specs.Trail.{Domains, Entry}
use Rattle.cps_clauses.specs.Quiet.{Fits}
use Rattle.cps_clauses.specs.Watches.{IsWatching, list_at}
use Rattle.cps_clauses.specs.Visits.{AreSafe}
use Rattle.cps_clauses.specs.Settles.{IsLookedAt, IsLookedThrough}
use Rattle.cps_clauses.proofs.Guards.{still_untouched, still_later}
use Rattle.cps_clauses.proofs.Looks.{settled_by}
use Rattle.cps_clauses.proofs.GuardsByLevel.{safe_start, settled_whole, stopped_moved, stopped_looks}
use Rattle.cps_clauses.proofs.propagate.propagate_watches.Goals as goal
use Rattle.cps_clauses.proofs.propagate.propagate_watches.Goals.{In_default}

through : (c : In_default) → IsLookedThrough c.args.clauses.now c.args.store.now c.args.watching.now.watches.items c.choose_all_watches.new.store c.choose_all_watches.new.watching.watches.items c.first_looked-looked.result
through c = subst (λ (v : Option ℕ). IsLookedAt c.args.clauses.now c.args.store.now c.args.watching.now.watches.items c.choose_all_watches.new.store c.choose_all_watches.new.watching.watches.items c.first_looked-looked.result v) c.in_default.is c.in_ok-clause.ensures.looked

pub first_looked-looked-requires-clause-watching : goal.first_looked-looked-requires-clause-watching
first_looked-looked-requires-clause-watching c = (c.args.clauses.now, c.requires.watching)

pub returns-in-Some-clause-settles : goal.returns-in-Some-clause-settles
returns-in-Some-clause-settles c =
    let looked = subst (λ (v : Option ℕ). IsLookedAt c.args.clauses.now c.args.store.now c.args.watching.now.watches.items c.choose_all_watches.new.store c.choose_all_watches.new.watching.watches.items c.first_looked-looked.result v) c.in-Some.is c.in_ok-clause.ensures.looked in
    record {
      infers = looked.over.infers;
      guarded = stopped_looks c.args.clauses.now c.args.store.now c.args.watching.now.watches.items c.args.progress.settled c.args.progress.from c.end_below-below.result c.first_looked-looked.result c.end_below-below.ensures.sound c.requires.within c.end_below-below.ensures.within c.requires.in_step c.first_looked-looked.ensures.within (omega (arith, c.requires.settled, c.requires.watching.counted)) (c.first_looked-looked.ensures.stays c.args.clauses.now c.requires.watching) c.requires.watching.pairs c.choose_all_watches.new.store c.choose_all_watches.new.watching.watches.items (c.in-Some.clause + 1) looked.over;
      failed = looked.failed;
    }

-- once all clauses were looked at, each has its watchers in the lists
whole : (c : In_default) → c.choose_all_watches.new.watching.attached ≡ length c.args.clauses.now
whole c = c.choose_all_watches.ensures.attached (c.in_ok-clause.was ∙ ap Ok c.in_default.is)

pub wake_all-requires-clause-watching : goal.wake_all-requires-clause-watching
wake_all-requires-clause-watching c =
    subst (λ (n : ℕ). IsWatching c.args.clauses.now c.choose_all_watches.new.watching.watches.items n (list_at c.choose_all_watches.new.watching.lists.items)) (whole (goal.at.wake_all-requires-clause-watching c).In_default) c.choose_all_watches.ensures.watching

pub wake_all-requires-clause-within : goal.wake_all-requires-clause-within
wake_all-requires-clause-within c =
    let infers = (through (goal.at.wake_all-requires-clause-within c).In_default).over.infers in
    omega (arith, c.max.ensures, c.requires.within, c.end_below-below.ensures.within, ap (λ (es : List Entry). length es) infers.entries, length-append c.args.store.now.entries infers.added)

pub wake_all-requires-clause-fits : goal.wake_all-requires-clause-fits
wake_all-requires-clause-fits c = subst (λ (f : Domains). All (Fits f) c.args.clauses.now) (sym (through (goal.at.wake_all-requires-clause-fits c).In_default).over.infers.first) c.requires.fits

pub wake_all-requires-clause-safe : goal.wake_all-requires-clause-safe
wake_all-requires-clause-safe c =
    subst (λ (k : ℕ). AreSafe c.args.clauses.now c.choose_all_watches.new.watching.watches.items c.choose_all_watches.new.store k) (sym c.max.ensures)
    (safe_start c.args.clauses.now c.args.store.now c.args.watching.now.watches.items c.args.progress.settled c.args.progress.from c.end_below-below.result c.first_looked-looked.result c.end_below-below.ensures.sound c.requires.within c.end_below-below.ensures.within c.requires.in_step c.first_looked-looked.ensures.within (omega (arith, c.requires.settled, c.requires.watching.counted)) (c.first_looked-looked.ensures.stays c.args.clauses.now c.requires.watching) c.requires.watching.pairs c.choose_all_watches.new.store c.choose_all_watches.new.watching.watches.items (through (goal.at.wake_all-requires-clause-safe c).In_default))

pub returns-clause-settles : goal.returns-clause-settles
returns-clause-settles c =
    let d = through (goal.at.returns-clause-settles c).In_default in
    settled_by c.wake_all.result c.args.clauses.now c.args.store.now c.choose_all_watches.new.store c.wake_all.new.store c.choose_all_watches.new.watching.watches.items c.wake_all.new.watching.watches.items c.args.progress.settled c.args.progress.from d.over.infers c.wake_all.ensures.outcome c.wake_all.ensures.woken c.wake_all.ensures.sound
    (λ outcome sound safe. settled_whole c.args.clauses.now c.args.store.now c.args.watching.now.watches.items c.args.progress.settled c.args.progress.from c.end_below-below.result c.first_looked-looked.result c.end_below-below.ensures.sound c.requires.within c.end_below-below.ensures.within c.requires.in_step c.first_looked-looked.ensures.within (omega (arith, c.requires.settled, c.requires.watching.counted)) (c.first_looked-looked.ensures.stays c.args.clauses.now c.requires.watching) c.requires.watching.pairs c.choose_all_watches.new.store c.wake_all.new.store c.choose_all_watches.new.watching.watches.items c.wake_all.new.watching.watches.items c.requires.quiet c.end_below-below.ensures.end d outcome sound safe)
    (λ outcome. stopped_moved c.args.clauses.now c.args.store.now c.args.watching.now.watches.items c.args.progress.settled c.args.progress.from c.end_below-below.result c.first_looked-looked.result c.end_below-below.ensures.sound c.requires.within c.end_below-below.ensures.within c.requires.in_step c.first_looked-looked.ensures.within (omega (arith, c.requires.settled, c.requires.watching.counted)) (c.first_looked-looked.ensures.stays c.args.clauses.now c.requires.watching) c.requires.watching.pairs c.choose_all_watches.new.store c.wake_all.new.store c.choose_all_watches.new.watching.watches.items c.wake_all.new.watching.watches.items d outcome)

pub returns-clause-attached : goal.returns-clause-attached
returns-clause-attached c = λ _. c.wake_all.ensures.attached ∙ whole (goal.at.returns-clause-attached c).In_default

pub returns-clause-watching : goal.returns-clause-watching
returns-clause-watching c =
    subst (λ (n : ℕ). IsWatching c.args.clauses.now c.wake_all.new.watching.watches.items n (list_at c.wake_all.new.watching.lists.items)) (sym (c.wake_all.ensures.attached ∙ whole (goal.at.returns-clause-watching c).In_default)) c.wake_all.ensures.watching

both : {E : Type 0} (r : Result (Option ℕ) E) (A B : Type 0) → OnOk r A → (A → B) → OnOk r B
both (Ok v) A B h f = f h
both (Err e) A B h f = tt

pub returns-clause-still : goal.returns-clause-still
returns-clause-still c =
    both c.wake_all.result _ _ c.wake_all.ensures.still (λ read all still.
    let every : c.first_looked-looked.result ≡ length c.args.clauses.now = c.first_looked-looked.ensures.still c.args.clauses.now c.requires.watching still ∙ all in
    let u = c.in_ok-clause.ensures.still every in
    let s = still_untouched c.args.clauses.now c.args.store.now c.choose_all_watches.new.store c.args.watching.now.watches.items c.choose_all_watches.new.watching.watches.items c.args.watching.now.visits c.choose_all_watches.new.watching.visits c.args.progress.from u still in
    let v = read (still_later c.args.clauses.now c.choose_all_watches.new.watching.watches.items c.choose_all_watches.new.store c.args.progress.from c.max.result (omega (arith, c.max.ensures)) s) in
    v.unread ∙ u.unread)
