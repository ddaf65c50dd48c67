-- What a reform needs of a sound core-guided search, and what it gives.
use Rattle.std.specs.Prelude.{unsigned_abs, int_le}
use Rattle.std.proofs.Common.{◌≡◌, ◌⊎◌, inl, inr, ℕ, ◌<◌, ◌≤◌, ◌^◌, Bool, true, false, List, length, sym, ◌∙◌, subst, arith, ℤ, pos, negsuc, to_z, of_z, w64, ◌-ℤ◌, ◌*ℤ◌, ◌<ℤ◌, ◌≤ℤ◌}
use Rattle.std.proofs.lemmas.Int.{ints}
use Rattle.cps_model.specs.declared.bound.Bound.{Bound}
use Rattle.cps_model.specs.declared.bound.Bound.TheVariants.{At, Infinite}
use Rattle.cps_literal.specs.declared.atom.Atom.{Atom}
use Rattle.cps_literal.specs.declared.atom.Op.TheVariants.{Le}
use Rattle.cps_literal.specs.Truth.{value_at}
use Rattle.cps_instance.specs.Problem.{Problem}
use Rattle.cps_instance.specs.Sums.{extended}
use Rattle.cps_trail.specs.Trail.{Trail, IsFalseNow, admits}
use Rattle.cps_port.specs.Order.{BoundLe, IsBelow, IsSmallBound}
use Rattle.cps_port.specs.Incumbents.{IsLowerBound}
use Rattle.cps_search.specs.Searches.{IsSoundSearch, Search}
use Rattle.cps_search.specs.Growing.{IsFalseBelow}
use Rattle.cps_search.proofs.ConflictLessons.{small_of}
use Rattle.cps_reform.specs.declared.held.Held.{Held}
use Rattle.cps_reform.specs.Forms.{Form, lifted, term_at}
use Rattle.cps_reform.specs.Floors.{IsGreatestObjective, IsFormPast, IsReform, OfEachBelow, past_z}
use Rattle.cps_reform.specs.Marks.{IsCoreMarked, assumed}
use Rattle.cps_reform.proofs.Marked.{above-marked, roomy-marked, worth-marked}
use Rattle.cps_reform.proofs.Objectives.{greatest-small, objective-most}
use Rattle.cps_reform.proofs.Steps.{reform-bounds}
use Rattle.cps_core_guided.specs.Reforming.{CoreSearch, IsLeastAdmitted, IsSoundCore}

-- ---- of a sound search
pub z-small : (s : Search) → IsSoundSearch s → IsSmallBound s.z
z-small s h = small_of s.instance.model s.z h.instance.valid h.incumbent

pub most-greatest : (s : CoreSearch) → IsSoundCore s → IsGreatestObjective s.search.instance.model s.greatest
most-greatest s h = subst (λ (v : ℤ). IsGreatestObjective s.search.instance.model v) (sym h.greatest) (objective-most s.search.instance h.search.instance)

pub small-greatest : (s : CoreSearch) → IsSoundCore s → unsigned_abs s.greatest < 2 ^ 62
small-greatest s h = subst (λ (v : ℤ). unsigned_abs v < 2 ^ 62) (sym h.greatest) (greatest-small s.search.instance h.search.instance)

below_or_at : (v : ℤ) (z : Bound) → IsBelow v z ⊎ BoundLe z (At v)
below_or_at v Infinite = inl tt
below_or_at v (At y) = at_or_less v y
  where
    at_or_less : (v y : ℤ) → (v <ℤ y) ⊎ (y ≤ℤ v)
    at_or_less v y = grind (arith, ints)

-- a form that is not past what solutions below z have has a base that is a lower bound
pub base-bound : (s : CoreSearch) → IsSoundCore s → (IsFormPast s.search.z s.greatest s.search.instance.domains s.form → ⊥) → IsLowerBound s.search.instance.model (At s.form.base)
base-bound s h not_past = elim (below_or_at s.form.base s.search.z) [
  | inl less ↦ reform-bounds s.search.instance s.search.z s.form h.form less
  | inr past ↦ absurd (not_past (past_z past))
]

-- ---- of a marked form
pub marked-reform : (p : Problem) (z : Bound) (f g : Form) (place : ℕ) (decisions : List Atom) → IsCoreMarked f g place decisions → IsReform p z f → IsReform p z g
marked-reform p z f g place decisions m h = record {
  is = λ a is. h.is a is ∙ sym (worth-marked f g place decisions m (extended p.defs a));
  floor = λ a solution below. above-marked f g place decisions m (extended p.defs a) (h.floor a solution below);
  roomy = roomy-marked f g place decisions m p.domains h.roomy;
}

-- ---- of a bound that rises
more : (v b : ℤ) → int_le v b ≡ false → b <ℤ v
more v b e = grind (arith, ints)

less_fails : (v b : ℤ) → b <ℤ v → int_le v b ≡ false
less_fails v b h = grind (arith, ints)

-- where the assumption of a term is false, its subject's least value is above the bound
pub least-above : (s : Trail) (t : Held) (v : ℤ) → IsFalseNow s (assumed t) → IsLeastAdmitted s t.subject v → t.bound <ℤ v
least-above s t v not h = more v t.bound (not v h.has)

below_one : (v b : ℤ) → v ≤ℤ b → (v -ℤ pos 1) <ℤ b
below_one v b h = omega (arith, ints)

at_least : (v w : ℤ) → int_le w (v -ℤ pos 1) ≡ false → v ≤ℤ w
at_least v w e = (let h = more w (v -ℤ pos 1) e in omega (arith, ints, h))

-- at level 0 no solution below z is below the least value
pub risen-least : (s : Search) (subject : ℕ) (v : ℤ) → IsFalseBelow s → subject < length s.store.first → IsLeastAdmitted s.store subject v → OfEachBelow s.instance s.z (λ xs. v ≤ℤ value_at xs subject)
risen-least s subject v bottom inside h a solution below =
    let atom : Atom = record { subject = subject; op = Le; value = v -ℤ pos 1 } in
    at_least v (value_at (extended s.instance.defs a) subject) (bottom atom inside (λ x has. less_fails x (v -ℤ pos 1) (below_one v x (h.least x has))) a solution.free below)

-- the base rises by a weight times a rise
rise_one : (w : ℕ) (d : ℤ) → 1 ≤ w → pos 1 ≤ℤ d → pos 1 ≤ℤ (pos w *ℤ d)
rise_one w (pos d) h k = product w d h (omega (arith, ints, k))
  where
    product : (w d : ℕ) → 1 ≤ w → 1 ≤ d → pos 1 ≤ℤ (pos w *ℤ pos d)
    product w d h k = grind (arith, ints)
rise_one w (negsuc d) h k = absurd (omega (arith, ints, k))

pub base-rises : (f : Form) (place : ℕ) (bound : ℤ) → 1 ≤ (term_at f.terms place).weight → (term_at f.terms place).bound <ℤ bound → f.base <ℤ (lifted f place bound).base
base-rises f place bound weighs over =
    let up = rise_one (term_at f.terms place).weight (bound -ℤ (term_at f.terms place).bound) weighs (omega (arith, ints, over)) in
    omega (arith, ints, up)

-- a number that is read back from its word
pub read_back : (x : ℤ) → unsigned_abs x < 2 ^ 62 → to_z w64 (of_z w64 x) ≡ x
read_back x near = omega (arith, ints)

-- the least value of a domain is the subject's least value now
pub least-now : (x s : Trail) (subject : ℕ) (v : ℤ) (has : ℤ → Bool) → x ≡ s → ((y : ℤ) → has y ≡ admits x.first x.entries subject y) → has v ≡ true → ((y : ℤ) → has y ≡ true → v ≤ℤ y) → IsLeastAdmitted s subject v
least-now x s subject v has same is within least = subst (λ (t : Trail). IsLeastAdmitted t subject v) same (record { has = sym (is v) ∙ within; least = λ y h. least y (is y ∙ h) })

-- a form that is past what is read is past what that is
pub same-past : (z y : Bound) (v w : ℤ) (p q : Problem) (f : Form) → z ≡ y → v ≡ w → p ≡ q → IsFormPast z v p.domains f → IsFormPast y w q.domains f
same-past z y v w p q f bound most problem h =
    subst (λ (x : Problem). IsFormPast y w x.domains f) problem (subst (λ (x : ℤ). IsFormPast y x p.domains f) most (subst (λ (x : Bound). IsFormPast x v p.domains f) bound h))

-- the greatest objective is read back from its word
pub read-greatest : (s : CoreSearch) → IsSoundCore s → to_z w64 (of_z w64 s.greatest) ≡ s.greatest
read-greatest s h = read_back s.greatest (small-greatest s h)
