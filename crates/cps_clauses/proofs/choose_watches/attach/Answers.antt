use Rattle.std.proofs.Common.{◌≡◌, ◌<◌, List, [], length, get_or, set, refl, ◌∙◌, ap, subst, arith, rules, to_z, of_z, w64, FitsSigned}
use Rattle.std.proofs.lemmas.Int.{to_z-of_z}
use Rattle.std.proofs.lemmas.List.{get_or_default, get_or_read}
use Rattle.cps_literal.specs.declared.atom.Atom.{Atom}
use Rattle.cps_clauses.specs.declared.watch.Watcher.{Watcher}
use Rattle.cps_clauses.specs.Watches.{no_atom, slot_of, list_at}
use Rattle.cps_clauses.specs.Looks.{IsNewWatcher}
use Rattle.cps_clauses.proofs.AttachedWatchers.{PushedTo, pushed_to, attached_push, stands_attached}
use Rattle.cps_clauses.proofs.choose_watches.attach.Goals as goal
use Rattle.cps_clauses.proofs.choose_watches.attach.Goals.{After-push}

abbrev Pushed : After-push → Type 0
Pushed c =
    let w : Watcher = record { clause = c.in-Ok-Ok.number; place = c.in-Ok-Ok.at; value = to_z w64 (of_z w64 c.atom-atom.result.value); blocker = c.atom.result } in
    PushedTo (list_at c.args.watching.now.lists.items c.slot-to.result) c.push.new.self w

slot_is : (c : After-push) → (e : Atom) → c.slot-to.result ≡ slot_of (get_or c.args.atoms.now c.args.watched.place e)
slot_is c e = c.slot-to.ensures.is ∙ ap (λ (t : Atom). slot_of t) (c.atom-atom.ensures ∙ get_or_default c.args.atoms.now c.args.watched.place no_atom e c.requires.place)

within : (c : After-push) → c.slot-to.result < length c.args.watching.now.lists.items
within c = omega (arith, c.requires.room no_atom, slot_is c no_atom)

was_pushed : (c : After-push) → Pushed c
was_pushed c =
    let w : Watcher = record { clause = c.in-Ok-Ok.number; place = c.in-Ok-Ok.at; value = to_z w64 (of_z w64 c.atom-atom.result.value); blocker = c.atom.result } in
    subst (λ (xs : List Watcher). PushedTo xs c.push.new.self w) (get_or_read c.args.watching.now.lists.items c.slot-to.result c.index_mut-target.result.now (within c) c.index_mut-target.ensures.value [])
    (pushed_to c.push.result c.index_mut-target.result.now c.push.new.self w c.push.ensures.ok c.push.ensures.err)

is_new : (c : After-push) → (let w : Watcher = record { clause = c.in-Ok-Ok.number; place = c.in-Ok-Ok.at; value = to_z w64 (of_z w64 c.atom-atom.result.value); blocker = c.atom.result } in IsNewWatcher c.args.watched.clause c.args.atoms.now c.args.watched.place c.args.watched.blocker w)
is_new c =
    let f : FitsSigned w64 c.atom-atom.result.value = search rules in
    record {
      clause_is = c.in-Ok-Ok.ensures.1;
      place_is = c.in-Ok-Ok.ensures'.1;
      value_is = λ d. to_z-of_z w64 c.atom-atom.result.value f ∙ ap (λ (t : Atom). t.value) (c.atom-atom.ensures ∙ get_or_default c.args.atoms.now c.args.watched.place no_atom d c.requires.place);
      blocker_is = λ d. c.atom.ensures ∙ get_or_default c.args.atoms.now c.args.watched.blocker no_atom d c.requires.blocker;
    }

pub returns-clause-attached : goal.returns-clause-attached
returns-clause-attached c =
    let d = (goal.at.returns-clause-attached c).After-push in
    attached_push c.args.watching.now.lists.items (set c.args.watching.now.lists.items c.slot-to.result c.push.new.self) c.slot-to.result c.push.new.self c.args.watched.clause c.args.atoms.now c.args.watched.place c.args.watched.blocker _ (within d) refl (was_pushed d) (slot_is d) (is_new d)

pub returns-clause-stands : goal.returns-clause-stands
returns-clause-stands c =
    let d = (goal.at.returns-clause-stands c).After-push in
    let w : Watcher = record { clause = c.in-Ok-Ok.number; place = c.in-Ok-Ok.at; value = to_z w64 (of_z w64 c.atom-atom.result.value); blocker = c.atom.result } in
    stands_attached c.push.result c.args.watching.now.lists.items c.slot-to.result c.index_mut-target.result.now c.push.new.self c.args.watched.clause c.args.atoms.now c.args.watched.place w (within d) c.push.ensures.ok (slot_is d) c.in-Ok-Ok.ensures.1 c.in-Ok-Ok.ensures'.1
