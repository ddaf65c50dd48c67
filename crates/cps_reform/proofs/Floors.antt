-- What a form keeps where a sum is defined, and what its base says of all solutions.
use Rattle.std.specs.Prelude.{All}
use Rattle.std.proofs.Common.{◌≡◌, ℕ, ◌+◌, ◌<◌, List, [], ◌∷◌, ◌++◌, length, refl, sym, ◌∙◌, ap, subst, arith, ℤ, pos, ◌+ℤ◌, ◌-ℤ◌, ◌*ℤ◌, ◌≤ℤ◌, ◌<ℤ◌, true, false}
use Rattle.std.specs.Prelude.{if◌then◌else◌}
use Rattle.std.proofs.lemmas.Int.{ints}
use Rattle.std.proofs.lemmas.List.Elements.{All-nil, All-cons, All-head, All-tail}
use Rattle.cps_model.specs.declared.bound.Bound.{Bound}
use Rattle.cps_model.specs.declared.bound.Bound.TheVariants.{At, Infinite}
use Rattle.cps_model.specs.declared.model.CpModel.{CpModel}
use Rattle.cps_model.specs.Solutions.{objective_value, IsSolution}
use Rattle.cps_literal.specs.Truth.{value_at}
use Rattle.cps_port.specs.Order.{IsBelow, BoundLe}
use Rattle.cps_port.specs.Incumbents.{IsLowerBound}
use Rattle.cps_instance.specs.Problem.{Problem, IsAssignment, Defines, variable_count}
use Rattle.cps_instance.specs.Terms.{terms_value}
use Rattle.cps_instance.specs.Sums.{DefinedSum, extended, sum_value}
use Rattle.cps_instance.proofs.Extending.{length-extended, extended-push, agree-append}
use Rattle.cps_reform.specs.declared.held.Held.{Held}
use Rattle.cps_reform.specs.Forms.{Form, excess, form_value, IsAbove, Reformulates}
use Rattle.cps_reform.specs.Cores.{core_terms}
use Rattle.cps_reform.specs.Floors.{OfEachBelow, HasFloors, NoneIsBelow}
use Rattle.cps_reform.proofs.Rooms.{excess-above}

-- a form over the first subjects is worth the same where more follow
pub excess-longer : (xs ys : List ℤ) (ts : List Held) → All (λ t. t.subject < length xs) ts → excess (xs ++ ys) ts ≡ excess xs ts
excess-longer xs ys [] h = refl
excess-longer xs ys (t ∷ ts) h =
    let rest = excess-longer xs ys ts (All-tail (λ (u : Held). u.subject < length xs) t ts h) in
    let here : value_at xs t.subject ≡ value_at (xs ++ ys) t.subject = agree-append xs ys t.subject (All-head (λ (u : Held). u.subject < length xs) t ts h) in
    ap (λ (v : ℤ). pos t.weight *ℤ (v -ℤ t.bound) +ℤ excess (xs ++ ys) ts) (sym here) ∙ ap (λ (v : ℤ). pos t.weight *ℤ (value_at xs t.subject -ℤ t.bound) +ℤ v) rest

pub above-longer : (xs ys : List ℤ) (ts : List Held) → All (λ t. t.subject < length xs) ts → IsAbove xs ts → IsAbove (xs ++ ys) ts
above-longer xs ys [] h k = All-nil (λ (t : Held). t.bound ≤ℤ value_at (xs ++ ys) t.subject)
above-longer xs ys (t ∷ ts) h k =
    let here = agree-append xs ys t.subject (All-head (λ (u : Held). u.subject < length xs) t ts h) in
    let first : t.bound ≤ℤ value_at (xs ++ ys) t.subject = subst (λ (v : ℤ). t.bound ≤ℤ v) here (All-head (λ (u : Held). u.bound ≤ℤ value_at xs u.subject) t ts k) in
    All-cons (λ (u : Held). u.bound ≤ℤ value_at (xs ++ ys) u.subject) t ts first
    (above-longer xs ys ts (All-tail (λ (u : Held). u.subject < length xs) t ts h) (All-tail (λ (u : Held). u.bound ≤ℤ value_at xs u.subject) t ts k))

pub core-longer : (xs ys : List ℤ) (ts : List Held) → All (λ t. t.subject < length xs) ts → terms_value (xs ++ ys) (core_terms ts) ≡ terms_value xs (core_terms ts)
core-longer xs ys [] h = refl
core-longer xs ys (t ∷ ts) h =
    let rest = core-longer xs ys ts (All-tail (λ (u : Held). u.subject < length xs) t ts h) in
    let here : value_at xs t.subject ≡ value_at (xs ++ ys) t.subject = agree-append xs ys t.subject (All-head (λ (u : Held). u.subject < length xs) t ts h) in
    elim (t.in_core) as (λ b. terms_value (xs ++ ys) (if b then record { coeff = pos 1; subject = t.subject } ∷ core_terms ts else core_terms ts) ≡ terms_value xs (if b then record { coeff = pos 1; subject = t.subject } ∷ core_terms ts else core_terms ts)) [
      | true ↦ ap (λ (v : ℤ). pos 1 *ℤ v +ℤ terms_value (xs ++ ys) (core_terms ts)) (sym here) ∙ ap (λ (v : ℤ). pos 1 *ℤ value_at xs t.subject +ℤ v) rest
      | false ↦ rest
    ]

-- the values after a sum is defined
pub defined-values : (p q : Problem) (s : DefinedSum) (subject : ℕ) (a : List ℤ) → Defines p q s subject → extended q.defs a ≡ extended p.defs a ++ sum_value (extended p.defs a) s ∷ []
defined-values p q s subject a d = ap (λ (ss : List DefinedSum). extended ss a) d.sums ∙ extended-push p.defs s a

-- a form stays one of the objective, and a floor one, where a sum is defined
pub Reformulates-defined : (p q : Problem) (s : DefinedSum) (subject : ℕ) (f : Form) → Defines p q s subject → All (λ t. t.subject < variable_count p + length p.defs) f.terms → Reformulates p f → Reformulates q f
Reformulates-defined p q s subject f d inside h a is =
    let same : IsAssignment p.model a = subst (λ (m : CpModel). IsAssignment m a) d.model is in
    let xs = extended p.defs a in
    let long : length xs ≡ variable_count p + length p.defs = let e = length-extended p.defs a in omega arith in
    let within : All (λ t. t.subject < length xs) f.terms = rw long inside in
    let e = excess-longer xs (sum_value xs s ∷ []) f.terms within in
    ap (λ (m : CpModel). objective_value m a) d.model ∙ h a same ∙ ap (λ (v : ℤ). f.base +ℤ v) (sym e) ∙ ap (λ (ys : List ℤ). f.base +ℤ excess ys f.terms) (sym (defined-values p q s subject a d))

-- a form that is worth the same is one too
pub Reformulates-same : (p : Problem) (f g : Form) → Reformulates p f → ((a : List ℤ) → IsAssignment p.model a → form_value (extended p.defs a) g ≡ form_value (extended p.defs a) f) → Reformulates p g
Reformulates-same p f g h same a is = h a is ∙ sym (same a is)

-- the base is at most each solution's objective, as long as it is at most z
base_below : (base z v : ℤ) → (v <ℤ z → base ≤ℤ v) → base ≤ℤ z → base ≤ℤ v
base_below base z v h l = grind (arith, ints)

pub base-bounds : (p : Problem) (z : Bound) (f : Form) → ((a : List ℤ) → IsSolution p.model a → IsAssignment p.model a) → Reformulates p f → HasFloors p z f → BoundLe (At f.base) z → IsLowerBound p.model (At f.base)
unfolding IsLowerBound
base-bounds p (At z) f assigned h floor below a s =
    base_below f.base z (objective_value p.model a) (λ less. (let e = h a (assigned a s) in let m = excess-above (extended p.defs a) f.terms (floor a s less) in omega (arith, ints))) below
base-bounds p Infinite f assigned h floor below a s =
    (let e = h a (assigned a s) in let m = excess-above (extended p.defs a) f.terms (floor a s tt) in omega (arith, ints))

-- where each solution below z would be past the limit, there is none
pub none-below : (p : Problem) (z : Bound) (f : Form) (limit : ℤ) → ((a : List ℤ) → IsSolution p.model a → IsAssignment p.model a) → Reformulates p f → ((a : List ℤ) → IsSolution p.model a → IsBelow (objective_value p.model a) z → objective_value p.model a ≤ℤ limit)
    → OfEachBelow p z (λ xs. limit <ℤ form_value xs f) → NoneIsBelow p z
none-below p z f limit assigned h most past a s below =
    (let e = h a (assigned a s) in let x = past a s below in let y = most a s below in omega (arith, ints))
