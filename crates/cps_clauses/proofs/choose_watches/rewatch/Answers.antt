-- Two watchers more, and the watch of the clause.
use Rattle.std.proofs.Common.{ℕ, ◌≡◌, ◌≢◌, ◌+◌, ◌<◌, ◌≤◌, Bool, true, false, ltb, List, [], length, get_or, set, true≢false, sym, ◌∙◌, ap, subst, arith}
use Rattle.std.proofs.lemmas.List.{get_or_read}
use Rattle.std.specs.Prelude.{max}
use Rattle.cps_literal.specs.declared.atom.Atom.{Atom}
use Rattle.cps_clauses.specs.declared.watch.Watch.{Watch}
use Rattle.cps_clauses.specs.declared.watch.Watcher.{Watcher}
use Rattle.cps_clauses.specs.declared.watching.Watching.{Watching}
use Rattle.cps_clauses.specs.Watches.{first_two, slot_of, clause_of, list_at, StandsInList, IsWatched, IsWatching}
use Rattle.cps_clauses.specs.Looks.{IsAttached}
use Rattle.cps_clauses.proofs.AttachedWatchers.{watching_attached, watching_rewatched}
use Rattle.cps_clauses.proofs.choose_watches.rewatch.Goals as goal
use Rattle.cps_clauses.proofs.choose_watches.rewatch.Goals.{After-attach, After-attach-2, then-known, else-known, then-known-2, else-known-2}

first : (c : After-attach) → IsWatching c.args.clauses.now c.attach.new.watching.watches.items c.attach.new.watching.attached (list_at c.attach.new.watching.lists.items)
first c =
    let h = subst (λ (ts : List Atom). IsAttached c.args.watching.now.lists.items c.attach.new.watching.lists.items c.args.clause ts c.args.one c.args.other) c.clause-atoms.ensures c.attach.ensures.attached in
    subst (λ (w : Watching). IsWatching c.args.clauses.now w.watches.items w.attached (list_at w.lists.items)) (sym c.attach.ensures.same)
    (watching_attached c.args.clauses.now c.args.watching.now.watches.items c.args.watching.now.attached c.args.watching.now.lists.items c.attach.new.watching.lists.items c.args.clause c.args.one c.args.other c.requires.clause c.requires.one c.requires.other c.requires.apart h c.requires.watching)

second : (c : After-attach-2) → IsWatching c.args.clauses.now c.attach.new.watching.watches.items c.attach.new.watching.attached (list_at c.attach.new.watching.lists.items)
    → IsWatching c.args.clauses.now c.attach-2.new.watching.watches.items c.attach-2.new.watching.attached (list_at c.attach-2.new.watching.lists.items)
second c before =
    let h = subst (λ (ts : List Atom). IsAttached c.attach.new.watching.lists.items c.attach-2.new.watching.lists.items c.args.clause ts c.args.other c.args.one) c.clause-atoms.ensures c.attach-2.ensures.attached in
    subst (λ (w : Watching). IsWatching c.args.clauses.now w.watches.items w.attached (list_at w.lists.items)) (sym c.attach-2.ensures.same)
    (watching_attached c.args.clauses.now c.attach.new.watching.watches.items c.attach.new.watching.attached c.attach.new.watching.lists.items c.attach-2.new.watching.lists.items c.args.clause c.args.other c.args.one c.requires.clause c.requires.other c.requires.one (λ e. c.requires.apart (sym e)) h
    before)

-- a watched atom of a clause whose watchers are in the lists stands in one of them
stands_watched : (clauses : List (List Atom)) (watches : List Watch) (count : ℕ) (on : ℕ → List Watcher) (i p q : ℕ) (w : Watch) (atoms : List Atom) → IsWatching clauses watches count on → atoms ≡ clause_of clauses i → i < count → p < length (clause_of clauses i) → q < length (clause_of clauses i) → p ≢ q → w ≡ get_or watches i w
    → IsWatched w p → (d : Atom) → StandsInList (on (slot_of (get_or atoms p d))) 0 i p
stands_watched clauses watches count on i p q w atoms h is l in_one in_other apart read watched d =
    subst (λ (ts : List Atom). StandsInList (on (slot_of (get_or ts p d))) 0 i p) (sym is)
    (h.listed i p d l (omega (arith, in_one, in_other, apart)) (subst (λ (v : Watch). IsWatched v p) (get_or_read watches i w (omega (arith, l, h.counted, h.sizes)) read first_two) watched))

not_below : (n m : ℕ) (b : Bool) → m ≤ n → b ≡ ltb n m → b ≡ true → ⊥
not_below n m b l is on = let no : ltb n m ≡ false = grind arith in true≢false (sym on ∙ is ∙ no)

pub attach-requires-clause-stands : goal.attach-requires-clause-stands
attach-requires-clause-stands c = elim c.if-known.branch [
  | then-known w ↦ λ on. stands_watched c.args.clauses.now c.args.watching.now.watches.items c.args.watching.now.attached (list_at c.args.watching.now.lists.items) c.args.clause c.args.one c.args.other c.index-old.result.now c.clause-atoms.result c.requires.watching c.clause-atoms.ensures w.if-known.true c.requires.one c.requires.other c.requires.apart c.index-old.ensures
      (subst (λ (k : ℕ). IsWatched c.index-old.result.now k) c.in-Ok-Ok.ensures.1 (w.is_watched.ensures (sym w.attach-is ∙ on)))
  | else-known w ↦ λ on. absurd (not_below c.args.clause c.args.watching.now.attached c.if-known.attach w.if-known.false w.attach-is on)
]

pub attach-requires-2-clause-stands : goal.attach-requires-2-clause-stands
attach-requires-2-clause-stands c = elim c.if-known-2.branch [
  | then-known-2 w ↦ λ on d. c.attach.ensures.attached.kept (slot_of (get_or c.clause-atoms.result c.args.other d)) 0 c.args.clause c.args.other
      (stands_watched c.args.clauses.now c.args.watching.now.watches.items c.args.watching.now.attached (list_at c.args.watching.now.lists.items) c.args.clause c.args.other c.args.one c.index-old.result.now c.clause-atoms.result c.requires.watching c.clause-atoms.ensures w.if-known-2.true c.requires.other c.requires.one (λ e. c.requires.apart (sym e)) c.index-old.ensures
      (subst (λ (k : ℕ). IsWatched c.index-old.result.now k) c.in-Ok-Ok.ensures'.1 (w.is_watched-then-known-2.ensures (sym w.attach-is ∙ on))) d)
  | else-known-2 w ↦ λ on. absurd (not_below c.args.clause c.args.watching.now.attached c.if-known-2.attach w.if-known-2.false w.attach-is on)
]

pub attach-requires-clause-place : goal.attach-requires-clause-place
attach-requires-clause-place c = subst (λ (ts : List Atom). c.args.one < length ts) (sym c.clause-atoms.ensures) c.requires.one

pub attach-requires-clause-blocker : goal.attach-requires-clause-blocker
attach-requires-clause-blocker c = subst (λ (ts : List Atom). c.args.other < length ts) (sym c.clause-atoms.ensures) c.requires.other

pub attach-requires-clause-room : goal.attach-requires-clause-room
attach-requires-clause-room c = λ d.
    subst (λ (ts : List Atom). slot_of (get_or ts c.args.one d) < length c.args.watching.now.lists.items) (sym c.clause-atoms.ensures) (c.requires.room.each c.args.clause [] c.requires.clause c.args.one d c.requires.one)

pub attach-requires-2-clause-place : goal.attach-requires-2-clause-place
attach-requires-2-clause-place c = subst (λ (ts : List Atom). c.args.other < length ts) (sym c.clause-atoms.ensures) c.requires.other

pub attach-requires-2-clause-blocker : goal.attach-requires-2-clause-blocker
attach-requires-2-clause-blocker c = subst (λ (ts : List Atom). c.args.one < length ts) (sym c.clause-atoms.ensures) c.requires.one

pub attach-requires-2-clause-room : goal.attach-requires-2-clause-room
attach-requires-2-clause-room c = λ d.
    subst (λ (n : ℕ). slot_of (get_or c.clause-atoms.result c.args.other d) < n) (sym c.attach.ensures.attached.len)
    (subst (λ (ts : List Atom). slot_of (get_or ts c.args.other d) < length c.args.watching.now.lists.items) (sym c.clause-atoms.ensures) (c.requires.room.each c.args.clause [] c.requires.clause c.args.other d c.requires.other))

-- two new watchers change the lists alone
kept : (c : After-attach-2) → (c.attach-2.new.watching.watches.items ≡ c.args.watching.now.watches.items) × (c.attach-2.new.watching.attached ≡ c.args.watching.now.attached)
kept c = (
  ap (λ (w : Watching). w.watches.items) c.attach-2.ensures.same ∙ ap (λ (w : Watching). w.watches.items) c.attach.ensures.same,
  ap (λ (w : Watching). w.attached) c.attach-2.ensures.same ∙ ap (λ (w : Watching). w.attached) c.attach.ensures.same,
)

pub returns-clause-watches : goal.returns-clause-watches
returns-clause-watches c =
    ap (λ (ws : List Watch). set ws c.args.clause (record { one = c.in-Ok-Ok.first; other = c.in-Ok-Ok.second })) (kept (goal.at.returns-clause-watches c).After-attach-2).0
    ∙ ap (λ (p : ℕ). set c.args.watching.now.watches.items c.args.clause (record { one = p; other = c.in-Ok-Ok.second })) c.in-Ok-Ok.ensures.1
    ∙ ap (λ (p : ℕ). set c.args.watching.now.watches.items c.args.clause (record { one = c.args.one; other = p })) c.in-Ok-Ok.ensures'.1

pub returns-clause-attached : goal.returns-clause-attached
returns-clause-attached c = c.max-watching.ensures ∙ ap (λ (n : ℕ). max n (c.args.clause + 1)) (kept (goal.at.returns-clause-attached c).After-attach-2).1

pub returns-clause-beyond : goal.returns-clause-beyond
returns-clause-beyond c = omega (arith, c.max-watching.ensures, (kept (goal.at.returns-clause-beyond c).After-attach-2).1)

pub returns-clause-room : goal.returns-clause-room
returns-clause-room c = c.attach-2.ensures.attached.len ∙ c.attach.ensures.attached.len

pub returns-in_err-attach-clause-watching : goal.returns-in_err-attach-clause-watching
returns-in_err-attach-clause-watching c = first (goal.at.returns-in_err-attach-clause-watching c).After-attach

pub returns-in_err-attach-2-clause-watching : goal.returns-in_err-attach-2-clause-watching
returns-in_err-attach-2-clause-watching c = second (goal.at.returns-in_err-attach-2-clause-watching c).After-attach-2 (first (goal.at.returns-in_err-attach-2-clause-watching c).After-attach)

pub returns-clause-watching : goal.returns-clause-watching
returns-clause-watching c =
    let d = (goal.at.returns-clause-watching c).After-attach-2 in
    let e1 = c.in-Ok-Ok.ensures.1 in
    let e2 = c.in-Ok-Ok.ensures'.1 in
    let same = (kept d).1 in
    let ws = c.attach-2.new.watching.watches.items in
    subst (λ (p : ℕ). IsWatching c.args.clauses.now (set c.attach-2.new.watching.watches.items c.args.clause (record { one = p; other = c.in-Ok-Ok.second })) c.max-watching.result (list_at c.attach-2.new.watching.lists.items)) (sym e1)
    (subst (λ (p : ℕ). IsWatching c.args.clauses.now (set c.attach-2.new.watching.watches.items c.args.clause (record { one = c.args.one; other = p })) c.max-watching.result (list_at c.attach-2.new.watching.lists.items)) (sym e2)
    (watching_rewatched c.args.clauses.now ws c.attach-2.new.watching.attached c.max-watching.result (list_at c.attach-2.new.watching.lists.items) c.args.clause c.args.one c.args.other c.requires.clause (omega (arith, same, c.requires.within)) c.max-watching.ensures c.requires.one c.requires.other c.requires.apart
    (λ e. c.attach-2.ensures.attached.kept (slot_of (get_or (clause_of c.args.clauses.now c.args.clause) c.args.one e)) 0 c.args.clause c.args.one
    (subst (λ (ts : List Atom). StandsInList (list_at c.attach.new.watching.lists.items (slot_of (get_or ts c.args.one e))) 0 c.args.clause c.args.one) c.clause-atoms.ensures (c.in_ok-attach.ensures.stands e)))
    (λ e. subst (λ (ts : List Atom). StandsInList (list_at c.attach-2.new.watching.lists.items (slot_of (get_or ts c.args.other e))) 0 c.args.clause c.args.other) c.clause-atoms.ensures (c.in_ok-attach-2.ensures.stands e))
    (second d (first (goal.at.returns-clause-watching c).After-attach))))
