-- The two atoms that became false last are watched; a clause of at most one keeps its watch.
use Rattle.std.proofs.Common.{IfOk, OnOk, ℕ, ◌<◌, ◌≤◌, List, [], length, sym, ap, subst, arith}
use Rattle.cps_literal.specs.declared.atom.Atom.{Atom}
use Rattle.cps_clauses.specs.Notes.{ByClause}
use Rattle.cps_trail.specs.Adds.{Infers}
use Rattle.cps_clauses.specs.Quiet.{Fits}
use Rattle.cps_clauses.specs.Falls.{AreLastTwo}
use Rattle.cps_clauses.specs.Watches.{clause_of, list_at}
use Rattle.cps_clauses.specs.Looks.{IsLastSettled, IsShortSettled}
use Rattle.cps_clauses.proofs.AttachedWatchers.{watching_short}
use Rattle.cps_clauses.proofs.ChosenWatches.{rewatched_two, rewatched_short, looked_open, looked_settled, looked_short, others_false}
use Rattle.cps_clauses.proofs.choose_watches.choose_watches.Goals as goal
use Rattle.cps_clauses.proofs.choose_watches.choose_watches.Goals.{After-clause-atoms, After-rewatch}

fits : (c : After-clause-atoms) → Fits c.args.store.now.first c.clause-atoms.result
fits c = subst (λ (ts : List Atom). Fits c.args.store.now.first ts) (sym c.clause-atoms.ensures) (c.requires.fits c.args.clause [] c.requires.clause)

pub propagate_short-requires-clause-fits : goal.propagate_short-requires-clause-fits
propagate_short-requires-clause-fits c = fits (goal.at.propagate_short-requires-clause-fits c).After-clause-atoms

pub returns-then-len-lt2-clause-infers : goal.returns-then-len-lt2-clause-infers
returns-then-len-lt2-clause-infers c =
    subst (λ (n : ℕ). OnOk c.propagate_short.result (Infers (ByClause n (clause_of c.args.clauses.now c.args.clause)) c.args.store.now c.propagate_short.new.store)) c.in-Ok.ensures.1
    (subst (λ (ts : List Atom). OnOk c.propagate_short.result (Infers (ByClause c.in-Ok.number ts) c.args.store.now c.propagate_short.new.store)) c.clause-atoms.ensures c.propagate_short.ensures.infers)

pub returns-then-len-lt2-clause-watching : goal.returns-then-len-lt2-clause-watching
returns-then-len-lt2-clause-watching c =
    let short : length (clause_of c.args.clauses.now c.args.clause) < 2 = omega (arith, c.len.ensures, c.if-len-lt2.true, ap (λ (ts : List Atom). length ts) c.clause-atoms.ensures) in
    watching_short c.args.clauses.now c.args.watching.now.watches.items c.args.watching.now.attached c.max-watching.result (list_at c.args.watching.now.lists.items) c.args.clause c.requires.clause c.requires.within c.max-watching.ensures short c.requires.watching

pub returns-then-len-lt2-clause-looked : goal.returns-then-len-lt2-clause-looked
returns-then-len-lt2-clause-looked c =
    let short : length (clause_of c.args.clauses.now c.args.clause) < 2 = omega (arith, c.len.ensures, c.if-len-lt2.true, ap (λ (ts : List Atom). length ts) c.clause-atoms.ensures) in
    looked_short c.propagate_short.result c.args.clauses.now c.args.watching.now.watches.items c.args.watching.now.watches.items c.args.clause c.args.store.now c.propagate_short.new.store
    (rewatched_short c.args.clauses.now c.args.watching.now.watches.items c.args.clause c.args.store.now short)
    (subst (λ (ts : List Atom). IfOk c.propagate_short.result (IsShortSettled c.args.store.now c.propagate_short.new.store ts)) c.clause-atoms.ensures c.propagate_short.ensures.settled)

pub last_two-two-requires-clause-subjects : goal.last_two-two-requires-clause-subjects
last_two-two-requires-clause-subjects c = (fits (goal.at.last_two-two-requires-clause-subjects c).After-clause-atoms).subjects

pub propagate_unit-requires-clause-fits : goal.propagate_unit-requires-clause-fits
propagate_unit-requires-clause-fits c = fits (goal.at.propagate_unit-requires-clause-fits c).After-clause-atoms

pub propagate_unit-requires-clause-others : goal.propagate_unit-requires-clause-others
propagate_unit-requires-clause-others c =
    others_false c.args.store.now c.clause-atoms.result c.last_two-two.result c.last_two-two.ensures (omega (arith, c.if-two-entries.false, c.entries.ensures.views.same_length))

long : (c : After-rewatch) → 2 ≤ length (clause_of c.args.clauses.now c.args.clause)
long c = omega (arith, c.len.ensures, c.if-len-lt2.false, ap (λ (ts : List Atom). length ts) c.clause-atoms.ensures)

last : (c : After-rewatch) → AreLastTwo c.args.store.now (clause_of c.args.clauses.now c.args.clause) (length (clause_of c.args.clauses.now c.args.clause)) c.last_two-two.result
last c = subst (λ (ts : List Atom). AreLastTwo c.args.store.now ts (length ts) c.last_two-two.result) c.clause-atoms.ensures c.last_two-two.ensures

pub returns-then-two-entries-clause-looked : goal.returns-then-two-entries-clause-looked
returns-then-two-entries-clause-looked c =
    let d = (goal.at.returns-then-two-entries-clause-looked c).After-rewatch in
    looked_open c.args.clauses.now c.args.watching.now.watches.items c.rewatch.new.watching.watches.items c.args.clause c.args.store.now c.last_two-two.result (omega (arith, c.requires.watching.sizes, c.requires.clause)) c.in_ok-rewatch.ensures.watches (long d) (last d)
    (omega (arith, c.if-two-entries.true, c.entries.ensures.views.same_length))
    (rewatched_two c.args.clauses.now c.args.watching.now.watches.items c.rewatch.new.watching.watches.items c.args.clause c.args.store.now c.last_two-two.result (omega (arith, c.requires.watching.sizes, c.requires.clause)) c.in_ok-rewatch.ensures.watches (long d) (last d) (c.requires.watching.pairs c.args.clause c.requires.clause))

pub returns-clause-infers : goal.returns-clause-infers
returns-clause-infers c =
    subst (λ (n : ℕ). OnOk c.propagate_unit.result (Infers (ByClause n (clause_of c.args.clauses.now c.args.clause)) c.args.store.now c.propagate_unit.new.store)) c.in-Ok.ensures.1
    (subst (λ (ts : List Atom). OnOk c.propagate_unit.result (Infers (ByClause c.in-Ok.number ts) c.args.store.now c.propagate_unit.new.store)) c.clause-atoms.ensures c.propagate_unit.ensures.infers)

pub returns-clause-looked : goal.returns-clause-looked
returns-clause-looked c =
    let d = (goal.at.returns-clause-looked c).After-rewatch in
    looked_settled c.propagate_unit.result c.args.clauses.now c.args.watching.now.watches.items c.rewatch.new.watching.watches.items c.args.clause c.args.store.now c.propagate_unit.new.store (let l = long d in omega (arith, l))
    (rewatched_two c.args.clauses.now c.args.watching.now.watches.items c.rewatch.new.watching.watches.items c.args.clause c.args.store.now c.last_two-two.result (omega (arith, c.requires.watching.sizes, c.requires.clause)) c.in_ok-rewatch.ensures.watches (long d) (last d) (c.requires.watching.pairs c.args.clause c.requires.clause))
    (subst (λ (ts : List Atom). IfOk c.propagate_unit.result (IsLastSettled c.args.store.now c.propagate_unit.new.store ts)) c.clause-atoms.ensures c.propagate_unit.ensures.settled)
