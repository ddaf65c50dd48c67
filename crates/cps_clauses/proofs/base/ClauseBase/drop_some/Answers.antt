use Rattle.std.proofs.Common.{ℕ, ◌-◌, ◌≡◌, ◌<◌, ◌++◌, List, Bool, length, map, sym, ◌∙◌, ap, subst, arith}
use Rattle.std.specs.List.{All}
use Rattle.std.proofs.lemmas.List.Elements.{All-weaker}
use Rattle.cps_clauses.specs.declared.journal.JournalItem.{JournalItem}
use Rattle.cps_clauses.specs.declared.watching.Watching.{Watching}
use Rattle.cps_clauses.specs.InForce.{blanked, marked}
use Rattle.cps_clauses.specs.Journals.{drops}
use Rattle.cps_clauses.specs.Watches.{IsWatcher, IsWatching, list_at}
use Rattle.cps_clauses.specs.Bases.{Base, IsStored, base_of, number_at}
use Rattle.cps_clauses.specs.Forgets.{Forgets, HasForgotten}
use Rattle.cps_clauses.proofs.DroppedClauses.{length-marked}
use Rattle.cps_clauses.proofs.ForgottenClauses.{forgotten, places_of, stored_forgotten, which_few}
use Rattle.cps_clauses.proofs.base.ClauseBase.drop_some.Goals as goal
use Rattle.cps_clauses.proofs.base.ClauseBase.drop_some.Goals.{In_ok-which, In_ok-dropped, After-release}

-- the base by its fields
abbrev base : (c : In_ok-which) → Base
base c = base_of c.self.inside.clauses c.self.inside.dropped.items c.self.inside.learnt.items c.self.inside.watching.watches.items c.self.inside.settled c.self.inside.watching.visits c.self.inside.journal c.self.inside.refused

forgets : (c : In_ok-which) → Forgets (base c) c.args.store.now c.args.keep c.in_ok-which.which.items
forgets c = subst (λ (b : Base). Forgets b c.args.store.now c.args.keep c.in_ok-which.which.items) (sym c.self.view_is) c.in_ok-which.ensures

pub marks_with-requires : goal.marks_with-requires
marks_with-requires c =
    let d = (goal.at.marks_with-requires c).In_ok-which in
    subst (λ (ns : List ℕ). All (λ n. n < length c.as_slice-2.result.now) ns) (sym c.as_slice-3.ensures.value)
    (subst (λ (ns : List ℕ). All (λ n. n < length ns) c.in_ok-which.which.items) (sym c.as_slice-2.ensures.value) (places_of (base d) c.args.store.now c.args.keep c.in_ok-which.which.items (forgets d)))

marks : (c : In_ok-dropped) → c.in_ok-dropped.dropped.items ≡ marked c.self.inside.dropped.items (map (number_at c.self.inside.learnt.items) c.in_ok-which.which.items)
marks c =
    c.in_ok-dropped.ensures
    ∙ ap (λ (ds : List Bool). marked ds (map (number_at c.as_slice-2.result.now) c.as_slice-3.result.now)) c.as_slice.ensures.value
    ∙ ap (λ (ns : List ℕ). marked c.self.inside.dropped.items (map (number_at ns) c.as_slice-3.result.now)) c.as_slice-2.ensures.value
    ∙ ap (λ (ns : List ℕ). marked c.self.inside.dropped.items (map (number_at c.self.inside.learnt.items) ns)) c.as_slice-3.ensures.value

long : (c : In_ok-dropped) → length c.in_ok-dropped.dropped.items ≡ length c.self.inside.clauses
long c = ap (λ (ds : List Bool). length ds) (marks c) ∙ length-marked c.self.inside.dropped.items (map (number_at c.self.inside.learnt.items) c.in_ok-which.which.items) ∙ c.self.invariant.sound.sizes

pub without-requires : goal.without-requires
without-requires c = ap (λ (ds : List Bool). length ds) c.as_slice-4.ensures.value ∙ long (goal.at.without-requires c).In_ok-dropped

pub release-requires : goal.release-requires
release-requires c = λ k.
    let e : length c.as_slice-6.result.now ≡ length c.self.inside.clauses = ap (λ (ds : List Bool). length ds) c.as_slice-6.ensures.value ∙ long (goal.at.release-requires c).In_ok-dropped in
    All-weaker (IsWatcher c.self.inside.clauses k) (λ w. w.clause < length c.as_slice-6.result.now) (λ w h. (let l = h.clause in omega (arith, e, l))) (list_at c.self.inside.watching.lists.items k) (c.self.invariant.watching.sound k)

pub overflow_sub-self : goal.overflow_sub-self
overflow_sub-self c =
    let d = (goal.at.overflow_sub-self c).In_ok-which in
    let few = which_few (base d) c.args.store.now c.args.keep c.in_ok-which.which.items c.self.inside.watching.lists.items c.self.inside.watching.attached c.self.inside.standing c.self.invariant (forgets d) in
    omega (arith, few, c.len-2.ensures, c.in_ok-which.which.ok.0)

-- no line where memory is refused
pub invariant_of-self : goal.invariant_of-self
invariant_of-self c =
    let i = c.self.inside in
    subst (λ (j : List JournalItem). IsStored (base_of c.self.inside.clauses c.self.inside.dropped.items c.self.inside.learnt.items c.self.inside.watching.watches.items c.self.inside.settled c.self.inside.watching.visits j c.self.inside.refused) c.self.inside.watching.lists.items
    c.self.inside.watching.attached c.self.inside.standing) (sym c.in_err-note_drops.ensures.err) c.self.invariant

-- what is left
left : (c : After-release) → c.in_ok-clauses.clauses ≡ blanked c.self.inside.clauses c.in_ok-dropped.dropped.items
left c = c.in_ok-clauses.ensures ∙ ap (λ (ds : List Bool). blanked c.self.inside.clauses ds) c.as_slice-4.ensures.value

lines : (c : After-release) → c.note_drops.new.self ≡ c.self.inside.journal ++ drops c.in_ok-which.which.items
lines c = c.in_ok-note_drops.ensures.ok ∙ ap (λ (ns : List ℕ). c.self.inside.journal ++ drops ns) c.as_slice-5.ensures.value

pub invariant_of-self-2 : goal.invariant_of-self-2
invariant_of-self-2 c =
    let d = (goal.at.invariant_of-self-2 c).In_ok-which in
    let e = (goal.at.invariant_of-self-2 c).In_ok-dropped in
    let f = (goal.at.invariant_of-self-2 c).After-release in
    let i = c.self.inside in
    let size : length c.as_slice-6.result.now ≡ length c.self.inside.clauses = ap (λ (ds : List Bool). length ds) c.as_slice-6.ensures.value ∙ long e in
    let watching : IsWatching (blanked c.self.inside.clauses c.in_ok-dropped.dropped.items) c.self.inside.watching.watches.items c.self.inside.watching.attached (list_at c.release.new.self.lists.items) =
    subst (λ (ds : List Bool). IsWatching (blanked c.self.inside.clauses ds) c.self.inside.watching.watches.items c.self.inside.watching.attached (list_at c.release.new.self.lists.items)) c.as_slice-6.ensures.value
    (c.release.ensures.watching c.self.inside.clauses size c.self.invariant.watching) in
    let count : length c.in_ok-which.which.items ≡ c.len-2.result = sym (c.len-2.ensures ∙ c.in_ok-which.which.ok.0) in
    subst (λ (w : Watching). IsStored (base_of c.in_ok-clauses.clauses c.in_ok-dropped.dropped.items c.self.inside.learnt.items w.watches.items c.self.inside.settled w.visits c.note_drops.new.self c.self.inside.refused) c.release.new.self.lists.items w.attached
    (c.self.inside.standing - c.len-2.result)) (sym c.release.ensures.same)
    (subst (λ (n : ℕ). IsStored (base_of c.in_ok-clauses.clauses c.in_ok-dropped.dropped.items c.self.inside.learnt.items c.self.inside.watching.watches.items c.self.inside.settled c.self.inside.watching.visits c.note_drops.new.self c.self.inside.refused) c.release.new.self.lists.items
    c.self.inside.watching.attached (c.self.inside.standing - n)) count
    (stored_forgotten (base d) c.args.store.now c.args.keep c.in_ok-which.which.items c.in_ok-clauses.clauses c.in_ok-dropped.dropped.items c.note_drops.new.self i.watching.lists.items c.release.new.self.lists.items i.watching.attached i.standing c.self.invariant (forgets d) (marks e) (left f)
    (lines f) watching c.release.ensures.room))

pub returns-clause-ok : goal.returns-clause-ok
returns-clause-ok c =
    let d = (goal.at.returns-clause-ok c).In_ok-which in
    let e = (goal.at.returns-clause-ok c).In_ok-dropped in
    let f = (goal.at.returns-clause-ok c).After-release in
    let is =
    ap (λ (w : Watching). base_of c.in_ok-clauses.clauses c.in_ok-dropped.dropped.items c.self.inside.learnt.items w.watches.items c.self.inside.settled w.visits c.note_drops.new.self c.self.inside.refused) c.release.ensures.same in
    subst (λ (b : Base). HasForgotten b (base_of c.in_ok-clauses.clauses c.in_ok-dropped.dropped.items c.self.inside.learnt.items c.release.new.self.watches.items c.self.inside.settled c.release.new.self.visits c.note_drops.new.self c.self.inside.refused) c.args.store.now c.args.keep c.in-Ok.count) c.self.view_is
    (forgotten (base d) c.args.store.now c.args.keep c.in-Ok.count c.in_ok-which.which.items c.in_ok-clauses.clauses c.in_ok-dropped.dropped.items c.note_drops.new.self _ c.self.invariant.sound (forgets d) (marks e) (left f) (lines f) is
    (omega (arith, c.in-Ok.ensures.1, c.len.ensures, c.in_ok-which.which.ok.0)))
