-- What an entry takes, by what is known of it.
use Rattle.std.specs.Prelude.{Any}
use Rattle.std.proofs.Common.{List, get_or, subst, arith}
use Rattle.std.proofs.lemmas.Int.{ints}
use Rattle.cps_literal.specs.declared.atom.Atom.{Atom}
use Rattle.cps_literal.specs.Truth.{Implies}
use Rattle.cps_conflict.proofs.Uniting.{none_view, read, inside}
use Rattle.cps_conflict.proofs.Certifying.{marked_by, passed_known, passed_bottom, passed_implied, passed_by_last, passed_denied}
use Rattle.cps_conflict.proofs.certifier.Certifier.is_passed.Goals as goal
use Rattle.cps_conflict.proofs.certifier.Certifier.is_passed.Goals.{then-index-via-then-index, then-index-via-else-index+then-entries-place-eq0, then-index-via-else-index+else-entries-place-eq0+then-implies}

pub returns-then-index : goal.returns-then-index
returns-then-index c = λ yes next.
    let s = c.args.store.now in
    let clause = c.args.self.now.clause.items in
    let known = c.args.self.now.known.items in
    let e : Atom = (get_or c.entries-entries.result.now c.args.place none_view).atom in
    let is = read s.entries c.entries-entries.result.now c.args.place c.entries-entries.ensures.views c.requires.place in
    elim c.then-index.branch [
      | then-index-via-then-index w ↦ passed_known s clause known c.args.atom e c.args.place c.requires.place is (marked_by known c.args.place c.index.result.now (omega (arith, c.requires.place, c.requires.size)) c.index.ensures w.if-index.true)
      | then-index-via-else-index+then-entries-place-eq0 w ↦
          passed_bottom s clause known c.args.atom c.args.place c.requires.place (λ d. (let v = c.entries-entries.ensures.views.each c.args.place d none_view c.requires.place in omega (arith, v.level, w.if-entries-place-eq0.true)))
      | then-index-via-else-index+else-entries-place-eq0+then-implies w ↦ passed_implied s clause known c.args.atom e c.args.place is (w.implies.ensures.0 w.if-implies.true)
    ]

pub returns-then-implies-2 : goal.returns-then-implies-2
returns-then-implies-2 c = λ yes next.
    let s = c.args.store.now in
    let vs = c.entries-entries.result.now in
    let e : Atom = (get_or vs c.args.place none_view).atom in
    let f : Atom = (get_or vs c.args.last none_view).atom in
    passed_by_last s c.args.self.now.clause.items c.args.self.now.known.items c.args.atom e f c.args.place c.args.last c.requires.last (read s.entries vs c.args.place c.entries-entries.ensures.views c.requires.place)
    (read s.entries vs c.args.last c.entries-entries.ensures.views c.requires.last) (c.implies-then-place-last.ensures.0 c.if-implies-2.true) (next c.if-place-last.true)

pub negate-requires-clause-low : goal.negate-requires-clause-low
negate-requires-clause-low c = let i = inside c.args.store.now.entries c.entries-entries.result.now c.args.place c.entries-entries.ensures.sound.inside c.entries-entries.ensures.views c.requires.place in omega (arith, ints, i.low)

pub negate-requires-clause-high : goal.negate-requires-clause-high
negate-requires-clause-high c = let i = inside c.args.store.now.entries c.entries-entries.result.now c.args.place c.entries-entries.ensures.sound.inside c.entries-entries.ensures.views c.requires.place in omega (arith, ints, i.high)

pub negate-requires-clause-above : goal.negate-requires-clause-above
negate-requires-clause-above c = λ q. let i = inside c.args.store.now.entries c.entries-entries.result.now c.args.place c.entries-entries.ensures.sound.inside c.entries-entries.ensures.views c.requires.place in omega (arith, ints, i.high)

pub negate-requires-clause-below : goal.negate-requires-clause-below
negate-requires-clause-below c = λ q. let i = inside c.args.store.now.entries c.entries-entries.result.now c.args.place c.entries-entries.ensures.sound.inside c.entries-entries.ensures.views c.requires.place in omega (arith, ints, i.low)

pub returns : goal.returns
returns c = λ yes next.
    let s = c.args.store.now in
    let e : Atom = (get_or c.entries-entries.result.now c.args.place none_view).atom in
    let n = c.negate.result in
    passed_denied s c.args.self.now.clause.items c.args.self.now.known.items c.args.atom e n c.args.place (read s.entries c.entries-entries.result.now c.args.place c.entries-entries.ensures.views c.requires.place) c.negate.ensures.subject c.negate.ensures.negated
    (subst (λ (us : List Atom). Any (Implies n) us) c.as_slice.ensures.value (c.implies_some.ensures yes))
