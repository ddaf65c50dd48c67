-- The steps on the solutions of an instance.
use Rattle.std.specs.Prelude.{unsigned_abs}
use Rattle.std.proofs.Common.{◌≡◌, ◌⊎◌, inl, inr, ℕ, ◌<◌, ◌^◌, List, [], length, refl, arith, ℤ, ◌-ℤ◌, ◌≤ℤ◌, ◌<ℤ◌, true, false}
use Rattle.std.specs.Prelude.{OnErr, Bool}
use Rattle.std.proofs.Common.{Ok, Err}
use Rattle.std.specs.declared.result.Result.{Result}
use Rattle.std.specs.declared.alloc.AllocError.{AllocError}
use Rattle.std.proofs.lemmas.Int.{ints}
use Rattle.std.proofs.lemmas.List.Elements.{All-get_or}
use Rattle.cps_model.proofs.Inside.{length-are_within}
use Rattle.cps_model.specs.declared.bound.Bound.{Bound}
use Rattle.cps_model.specs.declared.bound.Bound.TheVariants.{At, Infinite}
use Rattle.cps_model.specs.Solutions.{objective_value, IsSolution}
use Rattle.cps_literal.specs.Truth.{value_at}
use Rattle.cps_port.specs.Order.{IsBelow, BoundLe}
use Rattle.cps_port.specs.Incumbents.{IsLowerBound}
use Rattle.cps_instance.specs.Problem.{Problem, IsAssignment, IsInstance}
use Rattle.cps_instance.specs.Terms.{AreIntervals, domain_at, greatest_of, terms_value}
use Rattle.cps_instance.specs.Sums.{extended}
use Rattle.cps_instance.proofs.Intervals.{greatest_of-greatest}
use Rattle.cps_instance.proofs.Solving.{extended_within}
use Rattle.cps_reform.specs.Forms.{Form, form_value, IsAbove, IsHeldInDomain, FitsTypes, term_at, lifted}
use Rattle.cps_reform.specs.Cores.{core_terms, least_weight, IsSomeAbove, split}
use Rattle.cps_reform.specs.Floors.{IsReform, OfEachBelow, IsGreatestObjective, IsCoreSum, NoneIsBelow}
use Rattle.cps_reform.proofs.Rooms.{excess-above, no_less, all-at}
use Rattle.cps_reform.proofs.Floors.{Reformulates-same, base-bounds, none-below}

pub bool_cases : (b : Bool) → (b ≡ true) ⊎ (b ≡ false)
bool_cases true = inl refl
bool_cases false = inr refl

pub assigned : (p : Problem) (a : List ℤ) → IsSolution p.model a → IsAssignment p.model a
assigned p a s = length-are_within p.model.variables a s.free.domains

-- a solution's values are at most the greatest of the domains
pub solution-greatest : (p : Problem) (a : List ℤ) (i : ℕ) → IsInstance p → IsSolution p.model a → i < length p.domains → value_at (extended p.defs a) i ≤ℤ greatest_of (domain_at p.domains i)
solution-greatest p a i h s l = greatest_of-greatest (domain_at p.domains i) (value_at (extended p.defs a) i) (All-get_or AreIntervals p.domains i [] l h.domains.sound) (extended_within p a h s.free.domains i l)

below-le : (v : ℤ) (z : Bound) → IsBelow v z → BoundLe (At v) z
below-le v (At z) h = omega (arith, ints)
below-le v Infinite h = tt

-- a base below z is at most each solution's objective
pub reform-bounds : (p : Problem) (z : Bound) (f : Form) → IsReform p z f → IsBelow f.base z → IsLowerBound p.model (At f.base)
reform-bounds p z f h b = base-bounds p z f (assigned p) h.is h.floor (below-le f.base z b)

-- where a form's worth passes a limit at each solution below z, and none of these is past it, there is none
pub reform-none : (p : Problem) (z : Bound) (f : Form) (limit greatest : ℤ) → IsReform p z f → IsGreatestObjective p.model greatest → ((v : ℤ) → IsBelow v z → v ≤ℤ greatest → v ≤ℤ limit) → OfEachBelow p z (λ xs. limit <ℤ form_value xs f) → NoneIsBelow p z
reform-none p z f limit greatest h most all past = none-below p z f limit (assigned p) h.is (λ a s b. all (objective_value p.model a) b (most a s)) past

pub below-less : (v l : ℤ) (z : Bound) → v ≤ℤ l → IsBelow l z → IsBelow v z
below-less v l (At z) h b = omega (arith, ints)
below-less v l Infinite h b = tt

-- where the base itself is past the limit
pub reform-past : (p : Problem) (z : Bound) (f : Form) (limit greatest : ℤ) → IsReform p z f → IsGreatestObjective p.model greatest → ((v : ℤ) → IsBelow v z → v ≤ℤ greatest → v ≤ℤ limit) → limit <ℤ f.base → NoneIsBelow p z
reform-past p z f limit greatest h most all past =
    reform-none p z f limit greatest h most all (λ a s b. let m = excess-above (extended p.defs a) f.terms (h.floor a s b) in omega (arith, ints))

pub reform-lifted : (p : Problem) (z : Bound) (f g : Form) (i : ℕ) (bound : ℤ) → IsReform p z f → FitsTypes p.domains g → ((xs : List ℤ) → form_value xs g ≡ form_value xs f)
    → ((xs : List ℤ) → IsAbove xs f.terms → bound ≤ℤ value_at xs (term_at f.terms i).subject → IsAbove xs g.terms) → OfEachBelow p z (λ xs. bound ≤ℤ value_at xs (term_at f.terms i).subject) → IsReform p z g
reform-lifted p z f g i bound h roomy worth above risen = record {
  is = Reformulates-same p f g h.is (λ a s. worth (extended p.defs a));
  floor = λ a s b. above (extended p.defs a) (h.floor a s b) (risen a s b);
  roomy = roomy;
}

pub reform-split : (p : Problem) (z : Bound) (f g : Form) (subject : ℕ) → IsReform p z f → IsCoreSum p f.terms subject → FitsTypes p.domains g
    → ((xs : List ℤ) → value_at xs subject ≡ terms_value xs (core_terms f.terms) → form_value xs g ≡ form_value xs f)
    → ((xs : List ℤ) → IsAbove xs f.terms → IsSomeAbove xs f.terms → value_at xs subject ≡ terms_value xs (core_terms f.terms) → IsAbove xs g.terms) → OfEachBelow p z (λ xs. IsSomeAbove xs f.terms) → IsReform p z g
reform-split p z f g subject h sum roomy worth above core = record {
  is = Reformulates-same p f g h.is (λ a s. worth (extended p.defs a) (sum.value a s));
  floor = λ a s b. above (extended p.defs a) (h.floor a s b) (core a s b) (sum.value a (assigned p a s));
  roomy = roomy;
}

pub base-lifted : (f : Form) (i : ℕ) (bound : ℤ) → (term_at f.terms i).bound ≤ℤ bound → f.base ≤ℤ (lifted f i bound).base
base-lifted f i bound h = let p = no_less (term_at f.terms i).weight (bound -ℤ (term_at f.terms i).bound) (omega (arith, ints)) in omega (arith, ints)

pub base-small : (old new limit greatest : ℤ) → old ≤ℤ new → new ≤ℤ limit → limit ≤ℤ greatest → unsigned_abs old < 2 ^ 62 → unsigned_abs greatest < 2 ^ 62 → unsigned_abs new < 2 ^ 62
base-small old new limit greatest a b c d e = grind (arith, ints)

-- the subjects of terms are those of the instance
pub roomy-subject : (p : Problem) (f : Form) (i : ℕ) → FitsTypes p.domains f → i < length f.terms → (term_at f.terms i).subject < length p.domains
roomy-subject p f i h l = (all-at (IsHeldInDomain p.domains) f.terms i l h.terms).subject

-- the base after a core was split, or was not
pub split_base : (f g : Form) (subject : ℕ) (limit greatest : ℤ) (r : Result Bool AllocError) → (r ≡ Ok true → g ≡ split f (least_weight f.terms) subject) → (r ≡ Ok false → g ≡ f) → OnErr r (g ≡ f)
    → (r ≡ Ok true → g.base ≤ℤ limit) → limit ≤ℤ greatest → unsigned_abs f.base < 2 ^ 62 → unsigned_abs greatest < 2 ^ 62 → unsigned_abs g.base < 2 ^ 62
split_base f g subject limit greatest (Ok true) splits stays err within most old top =
    let up : f.base ≤ℤ g.base = rw (splits refl) (omega (arith, ints)) in
    base-small f.base g.base limit greatest up (within refl) most old top
split_base f g subject limit greatest (Ok false) splits stays err within most old top = rw (stays refl) old
split_base f g subject limit greatest (Err e) splits stays err within most old top = rw err old
