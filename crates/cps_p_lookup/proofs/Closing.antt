-- How atoms close a place of an element.
use Rattle.std.specs.Prelude.{not}
use Rattle.std.specs.List.{All, Contains}
use Rattle.std.proofs.lemmas.List.Elements.{All-nil, All-cons}
use Rattle.std.proofs.Common.{◌≡◌, ℕ, ℤ, pos, Bool, true, false, List, [], ◌∷◌, ◌<◌, length, refl, sym, ap, subst, ◌∙◌, Option, Some, arith}
use Rattle.std.proofs.lemmas.Int.{ints}
use Rattle.cps_domain.specs.Window.{equals}
use Rattle.cps_literal.specs.declared.atom.Atom.{Atom}
use Rattle.cps_literal.specs.declared.atom.Op.TheVariants.{Ne}
use Rattle.cps_literal.specs.Truth.{value_at, atom_holds, meets}
use Rattle.cps_trail.specs.Trail.{Trail}
use Rattle.cps_rule.specs.Facts.{Adds}
use Rattle.cps_p_lookup.specs.Facts.{AddsBoth}
use Rattle.cps_p_lookup.specs.Elements.{Closes, IsAtomMoved, ArePart}
use Rattle.cps_p_lookup.proofs.Growing.{adds_grows, adds_holds, grows_same, grows_among}

both_not : (b : Bool) → b ≡ true → b ≡ false → ⊥
both_not b p q = let e : true ≡ false = sym p ∙ q in cc

equals_self : (v : ℤ) → equals v v ≡ true
equals_self v = grind (arith, ints)

off_not : (a v : ℤ) → not (equals a v) ≡ true → a ≡ v → ⊥
off_not a v h e = both_not (not (equals a v)) h (ap not (ap (λ w. equals w v) e ∙ equals_self v))

-- an atom of the other side gives it
pub closes_moved : (s : Trail) (i t e k : ℕ) (goal u : Atom) (old new : List Atom) → IsAtomMoved e t goal u → Adds s u old new → Closes s i t e k (Some goal) old new
closes_moved s i t e k goal u old new m a = record {
  grows = adds_grows s u (i ∷ t ∷ e ∷ []) old new (m.among (i ∷ t ∷ e ∷ []) (2, omega arith, refl) (1, omega arith, refl)) a;
  closed = record { at = λ xs all c deny. both_not (atom_holds xs goal) (m.at xs c.same (adds_holds s u old new a xs all)) deny };
}

-- the index is off the place
pub closes_off : (s : Trail) (i t e k : ℕ) (goal : Option Atom) (u : Atom) (old new : List Atom) → u ≡ record { subject = i; op = Ne; value = pos k } → Adds s u old new → Closes s i t e k goal old new
closes_off s i t e k goal u old new is a = record {
  grows = adds_grows s u (i ∷ t ∷ e ∷ []) old new (0, omega arith, sym (ap (λ (w : Atom). w.subject) is)) a;
  closed = record { at = λ xs all c deny. off_not (value_at xs i) (pos k) (subst (λ (w : Atom). atom_holds xs w ≡ true) is (adds_holds s u old new a xs all)) c.index };
}

-- the atom is true where the index is the place
pub closes_met : (s : Trail) (i t e k : ℕ) (goal : Atom) (us : List Atom) → goal.subject ≡ i → meets goal.op goal.value (pos k) ≡ true → Closes s i t e k (Some goal) us us
closes_met s i t e k goal us same met = record {
  grows = grows_same s (i ∷ t ∷ e ∷ []) us us refl;
  closed = record { at = λ xs all c deny. both_not (atom_holds xs goal) (ap (λ j. meets goal.op goal.value (value_at xs j)) same ∙ ap (λ v. meets goal.op goal.value v) c.index ∙ met) deny };
}

-- the expression and the target are apart
pub closes_parted : (s : Trail) (i t e k : ℕ) (goal : Option Atom) (u v : Atom) (old new : List Atom) → ArePart e t u v → AddsBoth s u v old new → Closes s i t e k goal old new
closes_parted s i t e k goal u v old new p a = record {
  grows = grows_among s (u.subject ∷ v.subject ∷ []) (i ∷ t ∷ e ∷ []) old new both a.grows;
  closed = record { at = λ xs all c deny. p.at xs c.same (a.first xs all) (a.second xs all) };
}
  where
    both : All (Contains (i ∷ t ∷ e ∷ [])) (u.subject ∷ v.subject ∷ [])
    both = All-cons (Contains (i ∷ t ∷ e ∷ [])) u.subject (v.subject ∷ []) (2, omega arith, sym p.first) (All-cons (Contains (i ∷ t ∷ e ∷ [])) v.subject [] (1, omega arith, sym p.second) (All-nil (Contains (i ∷ t ∷ e ∷ []))))
