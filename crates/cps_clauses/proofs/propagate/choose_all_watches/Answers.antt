-- One look more, and in the end all.
use Rattle.std.proofs.Common.{ℕ, ◌≤◌, ◌<◌, ◌≡◌, Bool, length, sym, ◌∙◌, subst, arith}
use Rattle.std.specs.List.{All}
use Rattle.cps_trail.specs.Trail.{Domains, Trail, IsFalseNow}
use Rattle.cps_clauses.specs.Watches.{clause_of}
use Rattle.cps_clauses.specs.Quiet.{Fits}
use Rattle.cps_clauses.specs.Looks.{IsLooked}
use Rattle.cps_clauses.specs.Settles.{IsLookedOver, IsLookedNow}
use Rattle.cps_clauses.proofs.Looks.{looked_more, looked_now}
use Rattle.cps_clauses.proofs.propagate.choose_all_watches.Goals as goal

pub choose_watches-requires-clause-fits : goal.choose_watches-requires-clause-fits
choose_watches-requires-clause-fits c = subst (λ (f : Domains). All (Fits f) c.args.clauses.now) (sym c.loop-clause.invariant.over.infers.first) c.requires.fits

pub returns-then-branch-clause-looked : goal.returns-then-branch-clause-looked
returns-then-branch-clause-looked c =
    let b : c.loop-clause.clause < length c.args.clauses.now = omega (arith, c.loop-clause-test.true, c.len-clause-end.ensures) in
    let looked = subst (λ (v : Bool). IsLooked c.loop-clause.store c.loop-clause.watching.watches.items c.choose_watches.new.store c.choose_watches.new.watching.watches.items c.args.clauses.now c.loop-clause.clause v) c.if-branch.true c.in_ok-choose_watches.ensures.looked in
    record {
      over = looked_more c.args.clauses.now c.args.store.now c.loop-clause.store c.choose_watches.new.store c.args.watching.now.watches.items c.loop-clause.watching.watches.items c.choose_watches.new.watching.watches.items c.args.from c.loop-clause.clause (omega (arith, c.loop-clause.auto.clause)) b c.loop-clause.invariant.over c.in_ok-choose_watches.ensures.infers looked.rewatched;
      failed = record { within = b; some_atom = looked.some_atom; all_false = subst (λ (s : Trail). All (IsFalseNow s) (clause_of c.args.clauses.now c.loop-clause.clause)) (sym looked.same) looked.all_false };
    }

pub loop-clause-preserved : goal.loop-clause-preserved
loop-clause-preserved c =
    let b : c.loop-clause.clause < length c.args.clauses.now = omega (arith, c.loop-clause-test.true, c.len-clause-end.ensures) in
    let low : c.args.from ≤ c.loop-clause.clause = omega (arith, c.loop-clause.auto.clause) in
    let looked = subst (λ (v : Bool). IsLooked c.loop-clause.store c.loop-clause.watching.watches.items c.choose_watches.new.store c.choose_watches.new.watching.watches.items c.args.clauses.now c.loop-clause.clause v) c.if-branch.false c.in_ok-choose_watches.ensures.looked in
    record {
      over = looked_more c.args.clauses.now c.args.store.now c.loop-clause.store c.choose_watches.new.store c.args.watching.now.watches.items c.loop-clause.watching.watches.items c.choose_watches.new.watching.watches.items c.args.from c.loop-clause.clause low b c.loop-clause.invariant.over c.in_ok-choose_watches.ensures.infers looked.rewatched;
      now = looked_now c.args.clauses.now c.args.store.now c.loop-clause.store c.choose_watches.new.store c.args.watching.now.watches.items c.loop-clause.watching.watches.items c.choose_watches.new.watching.watches.items c.args.from c.loop-clause.clause b c.loop-clause.invariant.over c.in_ok-choose_watches.ensures.infers c.loop-clause.invariant.now looked;
      attached = omega (arith, c.in_ok-choose_watches.ensures.attached, c.loop-clause.invariant.attached);
      watching = c.in_ok-choose_watches.ensures.watching;
      room = c.in_ok-choose_watches.ensures.room ∙ c.loop-clause.invariant.room;
      still = λ e. absurd (omega (arith, e, low));
    }

pub returns-clause-looked : goal.returns-clause-looked
returns-clause-looked c =
    let all : c.loop-clause.clause ≡ length c.args.clauses.now = omega (arith, c.loop-clause-test.false, c.loop-clause.auto.clause-end, c.len-clause-end.ensures, c.requires.within, c.requires.watching.counted) in
    record {
      over = subst (λ (n : ℕ). IsLookedOver c.args.clauses.now c.args.store.now c.args.watching.now.watches.items c.loop-clause.store c.loop-clause.watching.watches.items c.args.from n) all c.loop-clause.invariant.over;
      now = subst (λ (n : ℕ). IsLookedNow c.args.clauses.now c.args.store.now c.loop-clause.store c.loop-clause.watching.watches.items c.args.from n) all c.loop-clause.invariant.now;
    }
