-- One subject more, and in the end all.
use Rattle.std.proofs.Common.{List, ℕ, [], ◌∷◌, ◌+◌, take, get_or, sym, subst}
use Rattle.std.proofs.lemmas.List.{take_more, take_all}
use Rattle.cps_literal.specs.declared.atom.Atom.{Atom}
use Rattle.cps_propagate.specs.Notes.{DeniesPast}
use Rattle.cps_propagate.proofs.Past.{DeniesPast-none, DeniesPast-append, DeniesPast-same}
use Rattle.cps_enforce.proofs.reasons.deny_all.Goals as goal

pub loop-subject-init : goal.loop-subject-init
loop-subject-init c = subst (λ (l : List Atom). DeniesPast c.args.store.now c.args.place [] [] l) (sym c.clear.ensures.items) (DeniesPast-none c.args.store.now c.args.place [])

pub loop-subject-preserved : goal.loop-subject-preserved
loop-subject-preserved c =
    let s = c.args.store.now in
    let is = c.args.subjects.now in
    let i = c.loop-subject.subject-index in
    DeniesPast-same s c.args.place _ (take (i + 1) is) [] c.deny_past.new.reason.items (sym (take_more is i 0 c.loop-subject-test.true))
    (DeniesPast-append s c.args.place (take i is) (get_or is i 0 ∷ []) [] c.loop-subject.reason.items c.deny_past.new.reason.items c.loop-subject.invariant c.in_ok-deny_past.ensures)

pub returns : goal.returns
returns c = subst (λ (is : List ℕ). DeniesPast c.args.store.now c.args.place is [] c.loop-subject.reason.items) (take_all c.loop-subject.subject-index c.args.subjects.now c.loop-subject-test.false) c.loop-subject.invariant
