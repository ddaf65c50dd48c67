-- When a form is past what a solution below z can have.
use Rattle.std.proofs.Common.{◌≡◌, ◌⊎◌, inl, inr, false, ℕ, ◌<◌, List, [], ◌∷◌, ◌++◌, length, map, refl, sym, subst, arith, ℤ, ◌≤ℤ◌, ◌<ℤ◌, length-append, length-set, get_or-set_same}
use Rattle.std.specs.Prelude.{slice_set}
use Rattle.std.proofs.lemmas.Int.{ints}
use Rattle.cps_model.specs.declared.bound.Bound.{Bound}
use Rattle.cps_model.specs.declared.bound.Bound.TheVariants.{At, Infinite}
use Rattle.cps_instance.specs.Terms.{Domains, domain_at, greatest_of}
use Rattle.cps_port.specs.Order.{BoundLe, IsBelow}
use Rattle.cps_reform.specs.declared.held.Held.{Held}
use Rattle.cps_reform.specs.Forms.{Form, FitsTypes, IsPastLift, lifted, term_at, no_term}
use Rattle.cps_reform.specs.Cores.{IsPastSplit, lessened, least_weight, split, sum_held}
use Rattle.cps_reform.specs.Floors.{IsFormPast, past_z, past_greatest, past_domain}

at_most_or_over : (v w : ℤ) → (v ≤ℤ w) ⊎ (w <ℤ v)
at_most_or_over v w = grind (arith, ints)

-- a base that is past the limit is at least z, or above the greatest objective
past-base : (z : Bound) (greatest limit base : ℤ) → ((v : ℤ) → IsBelow v z → v ≤ℤ greatest → v ≤ℤ limit) → limit <ℤ base → BoundLe z (At base) ⊎ (greatest <ℤ base)
past-base Infinite greatest limit base all h = elim (at_most_or_over base greatest) [
  | inl le ↦ absurd (let m = all base tt le in omega (arith, ints, m, h))
  | inr over ↦ inr over
]
past-base (At v) greatest limit base all h = elim (at_most_or_over v base) [
  | inl ge ↦ inl ge
  | inr less ↦ elim (at_most_or_over base greatest) [
    | inl le ↦ absurd (let m = all base less le in omega (arith, ints, m, h))
    | inr over ↦ inr over
  ]
]

of-base : (z : Bound) (greatest : ℤ) (ds : Domains) (f : Form) → BoundLe z (At f.base) ⊎ (greatest <ℤ f.base) → IsFormPast z greatest ds f
of-base z greatest ds f h = elim h as (λ u. IsFormPast z greatest ds f) [ inl a ↦ past_z a | inr b ↦ past_greatest b ]

-- a bound that cannot rise, and a core that cannot be split
pub past-lifted : (z : Bound) (greatest limit : ℤ) (ds : Domains) (f : Form) (i : ℕ) (bound : ℤ) → ((v : ℤ) → IsBelow v z → v ≤ℤ greatest → v ≤ℤ limit) → i < length f.terms → IsPastLift ds f i bound limit → IsFormPast z greatest ds (lifted f i bound)
past-lifted z greatest limit ds f i bound all l h = elim h as (λ u. IsFormPast z greatest ds (lifted f i bound)) [
  | inl over ↦
      let t : Held = record (term_at f.terms i) { bound = bound; in_core = false } in
      let same : term_at (slice_set f.terms i t) i ≡ t = get_or-set_same f.terms i t no_term l in
      past_domain i (let n = length-set f.terms i t in omega (arith, n, l)) (subst (λ (u : Held). greatest_of (domain_at ds u.subject) <ℤ u.bound) (sym same) over)
  | inr base ↦ of-base z greatest ds (lifted f i bound) (past-base z greatest limit (lifted f i bound).base all base)
]

at_end : (ts : List Held) (t : Held) → term_at (ts ++ t ∷ []) (length ts) ≡ t
at_end [] t = refl
at_end (u ∷ ts) t = at_end ts t

pub past-split : (z : Bound) (greatest limit : ℤ) (ds : Domains) (f : Form) (subject : ℕ) → ((v : ℤ) → IsBelow v z → v ≤ℤ greatest → v ≤ℤ limit) → IsPastSplit ds f subject limit → IsFormPast z greatest ds (split f (least_weight f.terms) subject)
past-split z greatest limit ds f subject all h =
    let m = least_weight f.terms in
    let t = sum_held m subject f.terms in
    elim h as (λ u. IsFormPast z greatest ds (split f m subject)) [
      | inl over ↦
          let us = map (lessened m) f.terms in
          past_domain (length us) (let n = length-append us (t ∷ []) in omega (arith, n)) (subst (λ (u : Held). greatest_of (domain_at ds u.subject) <ℤ u.bound) (sym (at_end us t)) over)
      | inr base ↦ of-base z greatest ds (split f m subject) (past-base z greatest limit (split f m subject).base all base)
    ]

-- a form with room, of which the base is below z and at most the greatest objective, is not past it
pub not-past : (z : Bound) (greatest : ℤ) (ds : Domains) (f : Form) → FitsTypes ds f → IsBelow f.base z → f.base ≤ℤ greatest → IsFormPast z greatest ds f → ⊥
not-past (At v) greatest ds f roomy below most (past_z h) = omega (arith, ints, below, h)
not-past Infinite greatest ds f roomy below most (past_z h) = h
not-past z greatest ds f roomy below most (past_greatest h) = omega (arith, ints, most, h)
not-past z greatest ds f roomy below most (past_domain i l h) = let r = (roomy.terms i no_term l).high in omega (arith, ints, r, h)
