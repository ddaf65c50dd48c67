-- A form over an instance in which the sum of its core was defined.
use Rattle.std.specs.Prelude.{All, if◌then◌else◌}
use Rattle.std.proofs.Common.{◌≡◌, inl, inr, ℕ, ◌+◌, ◌*◌, ◌<◌, ◌^◌, List, [], ◌∷◌, ◌++◌, length, refl, sym, ◌∙◌, ap, subst, arith, ℤ, pos, ◌≤ℤ◌, ◌<ℤ◌, true, false}
use Rattle.std.proofs.lemmas.Int.{ints}
use Rattle.std.proofs.Math.ListN.{length-append}
use Rattle.std.proofs.lemmas.List.Elements.{All-nil, All-cons, All-head, All-tail, All-weaker}
use Rattle.cps_model.specs.declared.bound.Bound.{Bound}
use Rattle.cps_model.specs.declared.model.CpModel.{CpModel}
use Rattle.cps_model.specs.Solutions.{objective_value, IsSolution}
use Rattle.cps_port.specs.Order.{IsBelow}
use Rattle.cps_instance.specs.declared.term.Term.{Term}
use Rattle.cps_instance.specs.Problem.{Problem, IsAssignment, IsInstance, Defines, variable_count}
use Rattle.cps_instance.specs.Terms.{Domains, domain_at, greatest_of, least_of, magnitude, terms_value, terms_reach}
use Rattle.cps_instance.specs.Sums.{extended, sum_value, DefinedSum, IsSumOf, AreSumsFrom}
use Rattle.cps_instance.proofs.Extending.{length-extended, agree-append}
use Rattle.cps_instance.proofs.Growing.{same-append}
use Rattle.cps_reform.specs.declared.held.Held.{Held}
use Rattle.cps_reform.specs.Forms.{Form, IsAbove, IsHeldInDomain, FitsTypes, held_reach}
use Rattle.cps_reform.specs.Cores.{core_terms, core_sum, WeighAtLeast, IsSomeAbove}
use Rattle.cps_reform.specs.Floors.{IsReform, OfEachBelow, IsCoreSum}
use Rattle.cps_reform.proofs.Excesses.{reach-lessened}
use Rattle.cps_reform.proofs.Floors.{Reformulates-defined, above-longer, core-longer, defined-values}
use Rattle.cps_reform.proofs.Steps.{assigned}

pub core-subjects : (ds : Domains) (ts : List Held) → All (IsHeldInDomain ds) ts → All (λ t. t.subject < length ds) (core_terms ts)
core-subjects ds [] h = All-nil (λ (t : Term). t.subject < length ds)
core-subjects ds (t ∷ ts) h =
    let rest = core-subjects ds ts (All-tail (IsHeldInDomain ds) t ts h) in
    let here = All-head (IsHeldInDomain ds) t ts h in
    elim (t.in_core) as (λ b. All (λ u. u.subject < length ds) (if b then record { coeff = pos 1; subject = t.subject } ∷ core_terms ts else core_terms ts)) [
      | true ↦ All-cons (λ (u : Term). u.subject < length ds) (record { coeff = pos 1; subject = t.subject }) (core_terms ts) here.subject rest
      | false ↦ rest
    ]

pub core-reach : (ds : Domains) (f : Form) → FitsTypes ds f → WeighAtLeast 1 f.terms → terms_reach ds (core_terms f.terms) + 0 < 2 ^ 62
core-reach ds f h w = let a = reach-lessened ds 1 f.terms w in let small = h.small in omega arith

held-longer : (ds es : Domains) (t : Held) → IsHeldInDomain ds t → IsHeldInDomain (ds ++ es) t
held-longer ds es t h =
    let e : domain_at ds t.subject ≡ domain_at (ds ++ es) t.subject = same-append ds es t.subject h.subject in
    let long = length-append ds es in
    let subject = h.subject in
    record {
      subject = omega arith;
      low = subst (λ d. least_of d ≤ℤ t.bound) e h.low;
      high = subst (λ d. t.bound ≤ℤ greatest_of d) e h.high;
      small = subst (λ d. magnitude d < 2 ^ 62) e h.small;
    }

pub held_reach-longer : (ds es : Domains) (ts : List Held) → All (IsHeldInDomain ds) ts → held_reach (ds ++ es) ts ≡ held_reach ds ts
held_reach-longer ds es [] h = refl
held_reach-longer ds es (t ∷ ts) h =
    let rest = held_reach-longer ds es ts (All-tail (IsHeldInDomain ds) t ts h) in
    let e : domain_at ds t.subject ≡ domain_at (ds ++ es) t.subject = same-append ds es t.subject (All-head (IsHeldInDomain ds) t ts h).subject in
    ap (λ d. t.weight * magnitude d + held_reach (ds ++ es) ts) (sym e) ∙ ap (λ n. t.weight * magnitude (domain_at ds t.subject) + n) rest

pub roomy-longer : (ds es : Domains) (f : Form) → FitsTypes ds f → FitsTypes (ds ++ es) f
roomy-longer ds es f h =
    let e = held_reach-longer ds es f.terms h.terms in
    let small = h.small in
    record { terms = All-weaker (IsHeldInDomain ds) (IsHeldInDomain (ds ++ es)) (held-longer ds es) f.terms h.terms; small = omega arith }

pub some_above-longer : (xs ys : List ℤ) (ts : List Held) → All (λ t. t.subject < length xs) ts → IsSomeAbove xs ts → IsSomeAbove (xs ++ ys) ts
some_above-longer xs ys [] h s = s
some_above-longer xs ys (t ∷ ts) h s =
    let here = agree-append xs ys t.subject (All-head (λ (u : Held). u.subject < length xs) t ts h) in
    elim s as (λ u. IsSomeAbove (xs ++ ys) (t ∷ ts)) [
      | inl a ↦ inl (a.0, subst (λ (v : ℤ). t.bound <ℤ v) here a.1)
      | inr b ↦ inr (some_above-longer xs ys ts (All-tail (λ (u : Held). u.subject < length xs) t ts h) b)
    ]

-- the counts of an instance before and after
pub record Counts (p q : Problem) (subject : ℕ) : Type 0 where
  pub before : length p.domains ≡ variable_count p + length p.defs
  pub after : length q.domains ≡ length p.domains + 1
  pub number : subject ≡ variable_count q + length p.defs

pub counts : (p q : Problem) (s : DefinedSum) (subject : ℕ) → Defines p q s subject → IsInstance q → Counts p q subject
counts p q s subject d h =
    let count = h.domains.count in
    let e : length q.domains ≡ length p.domains + 1 = ap (λ (ds : Domains). length ds) d.domains ∙ length-append p.domains (d.added ∷ []) in
    let f : length q.defs ≡ length p.defs + 1 = ap (λ (ss : List DefinedSum). length ss) d.sums ∙ length-append p.defs (s ∷ []) in
    let m : variable_count q ≡ variable_count p = ap (λ (k : CpModel). length k.variables) d.model in
    let is = d.subject_is in
    record { before = omega arith; after = e; number = omega arith }

inside : (p q : Problem) (f : Form) (subject : ℕ) → Counts p q subject → FitsTypes p.domains f → All (λ t. t.subject < variable_count p + length p.defs) f.terms
inside p q f subject k h = All-weaker (IsHeldInDomain p.domains) (λ (t : Held). t.subject < variable_count p + length p.defs) (λ t u. let a = u.subject in let b = k.before in omega arith) f.terms h.terms

inside_values : (p q : Problem) (f : Form) (subject : ℕ) (a : List ℤ) → Counts p q subject → FitsTypes p.domains f → IsAssignment p.model a → All (λ t. t.subject < length (extended p.defs a)) f.terms
inside_values p q f subject a k h is = let e = length-extended p.defs a in let l : length (extended p.defs a) ≡ variable_count p + length p.defs = omega arith in rw l (inside p q f subject k h)

pub last_sum : (ds : Domains) (n : ℕ) (ss : List DefinedSum) (s : DefinedSum) (m : ℕ) → m ≡ n + length ss → AreSumsFrom ds n (ss ++ s ∷ []) → IsSumOf ds m s
last_sum ds n [] s m e h = let same : n ≡ m = omega arith in subst (λ (i : ℕ). IsSumOf ds i s) same h.0
last_sum ds n (r ∷ ss) s m e h = last_sum ds (n + 1) ss s m (omega arith) h.1

-- a fact of solutions is carried over where more values follow
carried : (p q : Problem) (s : DefinedSum) (subject : ℕ) (z : Bound) (P : List ℤ → Type 0) → Defines p q s subject → ((a : List ℤ) → IsAssignment p.model a → P (extended p.defs a) → P (extended p.defs a ++ sum_value (extended p.defs a) s ∷ [])) → OfEachBelow p z P → OfEachBelow q z P
carried p q s subject z P d longer h a sol below =
    let old : IsSolution p.model a = subst (λ (m : CpModel). IsSolution m a) d.model sol in
    let less : IsBelow (objective_value p.model a) z = subst (λ (m : CpModel). IsBelow (objective_value m a) z) d.model below in
    subst P (sym (defined-values p q s subject a d)) (longer a (assigned p a old) (h a old less))

pub grown-reform : (p q : Problem) (f : Form) (subject : ℕ) → Defines p q (core_sum f.terms) subject → IsInstance q → (z : Bound) → IsReform p z f → IsReform q z f
grown-reform p q f subject d i z h =
    let k = counts p q (core_sum f.terms) subject d i in
    record {
      is = Reformulates-defined p q (core_sum f.terms) subject f d (inside p q f subject k h.roomy) h.is;
      floor = carried p q (core_sum f.terms) subject z (λ xs. IsAbove xs f.terms) d (λ a is above. above-longer (extended p.defs a) _ f.terms (inside_values p q f subject a k h.roomy is) above) h.floor;
      roomy = subst (λ (ds : Domains). FitsTypes ds f) (sym d.domains) (roomy-longer p.domains (d.added ∷ []) f h.roomy);
    }

pub grown-core : (p q : Problem) (f : Form) (subject : ℕ) → Defines p q (core_sum f.terms) subject → IsInstance q → FitsTypes p.domains f → (z : Bound) → OfEachBelow p z (λ xs. IsSomeAbove xs f.terms) → OfEachBelow q z (λ xs. IsSomeAbove xs f.terms)
grown-core p q f subject d i roomy z h =
    let k = counts p q (core_sum f.terms) subject d i in
    carried p q (core_sum f.terms) subject z (λ xs. IsSomeAbove xs f.terms) d (λ a is some. some_above-longer (extended p.defs a) _ f.terms (inside_values p q f subject a k roomy is) some) h

pub grown-sum : (p q : Problem) (f : Form) (subject : ℕ) → Defines p q (core_sum f.terms) subject → IsInstance q → FitsTypes p.domains f → IsCoreSum q f.terms subject
grown-sum p q f subject d i roomy =
    let k = counts p q (core_sum f.terms) subject d i in
    let sums : AreSumsFrom q.domains (variable_count q) (p.defs ++ core_sum f.terms ∷ []) = subst (λ (ss : List DefinedSum). AreSumsFrom q.domains (variable_count q) ss) d.sums i.domains.sums in
    let is = d.subject_is in
    let after = k.after in
    record {
      within = omega arith;
      domain = (last_sum q.domains (variable_count q) p.defs (core_sum f.terms) subject k.number sums).domain;
      value = λ a s.
          let old : IsAssignment p.model a = subst (λ (m : CpModel). IsAssignment m a) d.model s in
          let v = d.value a old in
          let c = core-longer (extended p.defs a) (sum_value (extended p.defs a) (core_sum f.terms) ∷ []) f.terms (inside_values p q f subject a k roomy old) in
          let e : terms_value (extended q.defs a) (core_terms f.terms) ≡ terms_value (extended p.defs a) (core_terms f.terms) = ap (λ (xs : List ℤ). terms_value xs (core_terms f.terms)) (defined-values p q (core_sum f.terms) subject a d) ∙ c in
          omega (arith, ints);
    }
