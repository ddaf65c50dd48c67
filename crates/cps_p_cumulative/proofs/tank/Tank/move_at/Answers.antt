use Rattle.std.proofs.Common.{◌<◌, ◌∙◌, ap, sym, subst, length, List, ℕ, get_or}
use Rattle.cps_literal.specs.declared.atom.Atom.{Atom}
use Rattle.cps_p_cumulative.proofs.Moves.{none_of, some_of, within_times, within_changes, within_active, move_is_free, move_is_tied}
use Rattle.cps_p_cumulative.proofs.tank.Tank.move_at.Goals as goal

pub subject_at-time-requires : goal.subject_at-time-requires
subject_at-time-requires c = subst (λ (xs : List ℕ). c.args.k < length xs) (sym c.as_slice.ensures) (within_times c.args.self.now c.args.k c.requires)

pub subject_at-change-requires : goal.subject_at-change-requires
subject_at-change-requires c = subst (λ (xs : List ℕ). c.args.k < length xs) (sym c.as_slice-2.ensures) (within_changes c.args.self.now c.args.k c.requires)

pub returns-then-is_empty : goal.returns-then-is_empty
returns-then-is_empty c =
    let t = c.args.self.now in
    let k = c.args.k in
    move_is_free t k c.subject_at-time.result c.subject_at-change.result _ (none_of (length t.active) c.is_empty.result c.is_empty.ensures c.if-is_empty.true) c.requires
    (c.subject_at-time.ensures ∙ ap (λ (xs : List ℕ). get_or xs k 0) c.as_slice.ensures) (c.subject_at-change.ensures ∙ ap (λ (xs : List ℕ). get_or xs k 0) c.as_slice-2.ensures)

pub atom_at-atom-requires : goal.atom_at-atom-requires
atom_at-atom-requires c =
    let t = c.args.self.now in
    subst (λ (us : List Atom). c.args.k < length us) (sym c.as_slice-3.ensures) (within_active t c.args.k (some_of (length t.active) c.is_empty.result c.is_empty.ensures c.if-is_empty.false) c.requires)

pub returns : goal.returns
returns c =
    let t = c.args.self.now in
    let k = c.args.k in
    let u = c.atom_at-atom.result in
    move_is_tied t k c.subject_at-time.result c.subject_at-change.result u _ (some_of (length t.active) c.is_empty.result c.is_empty.ensures c.if-is_empty.false) c.requires
    (c.subject_at-time.ensures ∙ ap (λ (xs : List ℕ). get_or xs k 0) c.as_slice.ensures) (c.subject_at-change.ensures ∙ ap (λ (xs : List ℕ). get_or xs k 0) c.as_slice-2.ensures)
    (c.atom_at-atom.ensures ∙ ap (λ (us : List Atom). get_or us k u) c.as_slice-3.ensures)
