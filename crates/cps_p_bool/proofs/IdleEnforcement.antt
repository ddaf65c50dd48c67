-- Enforcement that gives nothing, and one that is in force.
use Rattle.std.proofs.Common.{ℕ, ◌+◌, ◌<◌, ◌≤◌, List, length, get_or, sym, subst, inl, inr, arith}
use Rattle.cps_literal.specs.declared.atom.Atom.{Atom}
use Rattle.cps_trail.specs.Trail.{Trail, IsTrueNow, IsFalseNow}
use Rattle.cps_p_bool.specs.declared.seek.Sought.TheVariants.{Open}
use Rattle.cps_p_bool.specs.Seeking.{IsSought, IsInForce, IsIdle}
use Rattle.cps_p_bool.proofs.AtomPlaces.{same_or_not, others_are}

module _ (s : Trail) (e : List Atom) where
  -- two are not true
  pub IsIdle-two : (i j : ℕ) → i < j → j < length e → ((d : Atom) → IsTrueNow s (get_or e i d) → ⊥) → ((d : Atom) → IsTrueNow s (get_or e j d) → ⊥) → IsIdle s e
  IsIdle-two i j a l not_i not_j = record {
    place = j;
    within = l;
    not_true = not_j;
    last = λ k d b others. elim (same_or_not k i) [
      | inl same ↦ absurd (not_j d (others j d l (λ f. omega (arith, a, same, f))))
      | inr ne ↦ absurd (not_i d (others i d (omega (arith, a, l)) (λ f. ne (sym f))))
    ];
  }

  -- one is false
  pub IsIdle-false : (i : ℕ) → i < length e → ((d : Atom) → IsTrueNow s (get_or e i d) → ⊥) → ((d : Atom) → IsFalseNow s (get_or e i d)) → IsIdle s e
  IsIdle-false i l not_i false_i = record {
    place = i;
    within = l;
    not_true = not_i;
    last = λ k d b others. elim (same_or_not k i) [
      | inl same ↦ subst (λ (n : ℕ). IsFalseNow s (get_or e n d)) (sym same) (false_i d)
      | inr ne ↦ absurd (not_i d (others i d l (λ f. ne (sym f))))
    ];
  }

  -- one is open, and a search passed all others as true
  pub IsInForce-open : (i j : ℕ) → i < length e → ((k : ℕ) (d : Atom) → 0 ≤ k → k < i → IsTrueNow s (get_or e k d)) → ((k : ℕ) (d : Atom) → i + 1 ≤ k → k < j → IsTrueNow s (get_or e k d)) → length e ≤ j
      → ((d : Atom) → IsSought Open s (get_or e i d)) → IsInForce s e i
  IsInForce-open i j l before after past open_i = record {
    within = omega (arith, l);
    others = others_are (IsTrueNow s) e i j before after past;
    undecided = λ d _. open_i d;
  }
