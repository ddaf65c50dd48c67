-- What a look found is true already where nothing is left to narrow.
use Rattle.std.specs.Prelude.{not}
use Rattle.std.proofs.Common.{◌≡◌, ◌≤ℤ◌, ◌++◌, ℕ, ℤ, Bool, true, false, List, [], ◌∷◌, subst, arith}
use Rattle.std.proofs.lemmas.Int.{ints}
use Rattle.std.proofs.lemmas.List.Elements.{All-head}
use Rattle.cps_domain.specs.Window.{equals}
use Rattle.cps_domain.proofs.Tests.{true_le}
use Rattle.cps_literal.specs.declared.atom.Atom.{Atom}
use Rattle.cps_literal.specs.declared.atom.Op.TheVariants.{Le, Ge, Ne}
use Rattle.cps_instance.proofs.Agreeing.{All-append_left, All-append_right}
use Rattle.cps_trail.specs.Trail.{Trail, IsTrueNow}
use Rattle.cps_propagate.specs.Now.{IsOpenTo}
use Rattle.cps_rule.specs.declared.rule.Narrowing.{Narrowing}
use Rattle.cps_p_lookup.specs.Resting.{AreTrue, LeavesAtRest}

pub trues_before : (s : Trail) (old new : List Narrowing) (n : Narrowing) → new ≡ old ++ n ∷ [] → AreTrue s new → AreTrue s old
trues_before s old new n is h = All-append_left (λ m. IsTrueNow s m.target) old (n ∷ []) (subst (λ (ns : List Narrowing). AreTrue s ns) is h)

pub true_last : (s : Trail) (old new : List Narrowing) (n : Narrowing) → new ≡ old ++ n ∷ [] → AreTrue s new → IsTrueNow s n.target
true_last s old new n is h = All-head (λ m. IsTrueNow s m.target) n [] (All-append_right (λ m. IsTrueNow s m.target) old (n ∷ []) (subst (λ (ns : List Narrowing). AreTrue s ns) is h))

pub nothing_found : (s : Trail) (P : Type 0) (ns : List Narrowing) → P → LeavesAtRest s P ns ns
nothing_found s P ns p = record { before = λ h. h; left = λ h. p }

pub one_found : (s : Trail) (P : Type 0) (old new : List Narrowing) (n : Narrowing) → new ≡ old ++ n ∷ [] → (IsTrueNow s n.target → P) → LeavesAtRest s P old new
one_found s P old new n is p = record { before = trues_before s old new n is; left = λ h. p (true_last s old new n is h) }

equals_same : (v : ℤ) → equals v v ≡ true
equals_same v = grind (arith, ints)

no_off : (b : Bool) → b ≡ true → not b ≡ true → ⊥
no_off true p q = cc
no_off false p q = cc

-- a value that an atom takes away is not open where the atom is true
pub true_off : (s : Trail) (i : ℕ) (v : ℤ) (u : Atom) → u ≡ record { subject = i; op = Ne; value = v } → IsTrueNow s u → IsOpenTo s i v → ⊥
true_off s i v u is h o = no_off (equals v v) (equals_same v) ((subst (λ (w : Atom). IsTrueNow s w) is h) v o)

pub true_low : (s : Trail) (i : ℕ) (v : ℤ) (u : Atom) → u ≡ record { subject = i; op = Ge; value = v } → IsTrueNow s u → (x : ℤ) → IsOpenTo s i x → v ≤ℤ x
true_low s i v u is h x o = true_le v x ((subst (λ (w : Atom). IsTrueNow s w) is h) x o)

pub true_high : (s : Trail) (i : ℕ) (v : ℤ) (u : Atom) → u ≡ record { subject = i; op = Le; value = v } → IsTrueNow s u → (x : ℤ) → IsOpenTo s i x → x ≤ℤ v
true_high s i v u is h x o = true_le x v ((subst (λ (w : Atom). IsTrueNow s w) is h) x o)
