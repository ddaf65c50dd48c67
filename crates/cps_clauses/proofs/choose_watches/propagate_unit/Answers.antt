-- The atom is true, or false with all others, or the last that is left.
use Rattle.std.proofs.Common.{ℕ, ◌<◌, List, length, get_or, refl, sym, ◌∙◌, subst}
use Rattle.cps_literal.specs.declared.atom.Atom.{Atom}
use Rattle.cps_trail.specs.Trail.{Trail, IsTrueNow, IsFalseNow}
use Rattle.cps_clauses.proofs.QuietClauses.{all_false, at_any}
use Rattle.cps_clauses.specs.Quiet.{AreFalseBut, IsOneLeft}
use Rattle.cps_clauses.specs.Watches.{no_atom}
use Rattle.cps_clauses.proofs.Guards.{satisfied_at}
use Rattle.cps_clauses.proofs.choose_watches.propagate_unit.Goals as goal

pub returns-in-Yes-clause-settled : goal.returns-in-Yes-clause-settled
returns-in-Yes-clause-settled c =
    satisfied_at c.args.store.now.first c.args.store.now.entries c.args.atoms.now c.args.place c.requires.place (subst (λ (t : Atom). IsTrueNow c.args.store.now t) c.atom.ensures (c.truth.ensures.yes.0 c.in-Yes.is))

pub returns-in-No-clause-settled : goal.returns-in-No-clause-settled
returns-in-No-clause-settled c = (
  refl,
  all_false c.args.store.now.first c.args.store.now.entries c.args.atoms.now c.args.place no_atom c.requires.place c.requires.others (subst (λ (t : Atom). IsFalseNow c.args.store.now t) c.atom.ensures (c.truth.ensures.no.0 c.in-No.is)),
)

-- an undecided atom whose others are false is the last that is left
left_alone : (s : Trail) (atoms : List Atom) (place : ℕ) → place < length atoms → AreFalseBut s.first s.entries atoms place → (IsTrueNow s (get_or atoms place no_atom) → ⊥) → (IsFalseNow s (get_or atoms place no_atom) → ⊥)
    → IsOneLeft s.first s.entries atoms (length atoms) place
left_alone s atoms place l others not_true not_false = record {
  within = l;
  others = others;
  not_true = λ d on. not_true (at_any (IsTrueNow s) atoms place d no_atom l on);
  not_false = λ d off. not_false (at_any (IsFalseNow s) atoms place d no_atom l off);
}

pub imply_last-requires-clause-unit : goal.imply_last-requires-clause-unit
imply_last-requires-clause-unit c =
    left_alone c.args.store.now c.args.atoms.now c.args.place c.requires.place c.requires.others
    (λ on. cc (sym c.in-Undecided.is ∙ c.truth.ensures.yes.1 (subst (λ (t : Atom). IsTrueNow c.args.store.now t) (sym c.atom.ensures) on)))
    (λ off. cc (sym c.in-Undecided.is ∙ c.truth.ensures.no.1 (subst (λ (t : Atom). IsFalseNow c.args.store.now t) (sym c.atom.ensures) off)))
