-- Each atom that was passed over is false, and the one that is found is not.
use Rattle.std.proofs.Common.{ℕ, ◌+◌, ◌<◌, ◌≤◌, ◌≡◌, ◌≢◌, List, length, get_or, sym, ◌∙◌, subst, inl, inr, arith}
use Rattle.std.proofs.lemmas.List.{get_or_default}
use Rattle.cps_literal.specs.declared.atom.Atom.{Atom}
use Rattle.cps_trail.specs.Trail.{Trail, IsFalseNow}
use Rattle.cps_clauses.specs.Watches.{no_atom, IsNotFalse}
use Rattle.cps_clauses.proofs.QuietClauses.{at_any, seam}
use Rattle.cps_clauses.proofs.find.not_false_between.Goals as goal
use Rattle.cps_clauses.proofs.find.not_false_between.Goals.{else-p-other-via-then-p-other+else-is_not_false, else-p-other-via-else-p-other}

-- the atom at a place is not false
open_at : (s : Trail) (clause : List Atom) (p : ℕ) (t : Atom) → p < length clause → t ≡ get_or clause p no_atom → (IsFalseNow s t → ⊥) → IsNotFalse s clause p
open_at s clause p t l is not_false = record {
  within = l;
  not_false = λ d off. not_false (subst (λ (u : Atom). IsFalseNow s u) (get_or_default clause p d no_atom l ∙ sym is) off);
}

pub returns-then-is_not_false-clause-open : goal.returns-then-is_not_false-clause-open
returns-then-is_not_false-clause-open c =
    open_at c.args.store.now c.args.clause.now c.loop-p.p c.atom.result (omega (arith, c.loop-p-test.true, c.requires.within)) c.atom.ensures (c.is_not_false.ensures.yes c.if-is_not_false.true)

-- one atom more is false, or is the one that is passed over
passed_more : (s : Trail) (clause : List Atom) (from p other : ℕ) → p < length clause → ((j : ℕ) (d : Atom) → from ≤ j → j < p → j ≢ other → IsFalseNow s (get_or clause j d)) → (p ≢ other → IsFalseNow s (get_or clause p no_atom))
    → (j : ℕ) (d : Atom) → from ≤ j → j < p + 1 → j ≢ other → IsFalseNow s (get_or clause j d)
passed_more s clause from p other l before here j d low less apart = elim (seam p j less) [
  | inl earlier ↦ before j d low earlier apart
  | inr same ↦ subst (λ (k : ℕ). IsFalseNow s (get_or clause k d)) (sym same) (at_any (IsFalseNow s) clause p no_atom d l (here (λ e. apart (same ∙ e))))
]

pub loop-p-preserved : goal.loop-p-preserved
loop-p-preserved c =
    passed_more c.args.store.now c.args.clause.now c.args.from c.loop-p.p c.args.other (omega (arith, c.loop-p-test.true, c.requires.within)) c.loop-p.invariant (λ apart. elim c.else-p-other.branch [
      | else-p-other-via-then-p-other+else-is_not_false w ↦ subst (λ (t : Atom). IsFalseNow c.args.store.now t) w.atom.ensures (w.is_not_false.ensures.no w.if-is_not_false.false)
      | else-p-other-via-else-p-other w ↦ absurd (apart w.if-p-other.false)
    ])
