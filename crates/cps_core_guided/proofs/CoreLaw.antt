-- Why the terms of a core cannot all stay at their bounds in a solution below z.
use Rattle.std.specs.Prelude.{All, int_le, if◌then◌else◌}
use Rattle.std.specs.List.{Contains}
use Rattle.std.proofs.Common.{◌≡◌, ◌⊎◌, inl, inr, ℕ, zero, suc, ◌<◌, ◌≤◌, Bool, true, false, true≢false, List, [], ◌∷◌, length, get_or, refl, sym, ◌∙◌, ap, subst, arith, ℤ, pos, ◌+ℤ◌, ◌<ℤ◌, ◌≤ℤ◌}
use Rattle.std.proofs.lemmas.Int.{ints}
use Rattle.std.proofs.lemmas.List.{get_or_default}
use Rattle.std.proofs.lemmas.List.Elements.{All-weaker, Contains-get_or}
use Rattle.cps_literal.specs.declared.atom.Atom.{Atom}
use Rattle.cps_literal.specs.Truth.{atom_holds, value_at}
use Rattle.cps_instance.specs.Sums.{extended}
use Rattle.cps_instance.specs.declared.term.Term.{Term}
use Rattle.cps_trail.specs.Trail.{Trail, Entry, IsSoundTrail}
use Rattle.cps_trail.proofs.Falls.{bool_cases, not_both}
use Rattle.cps_trail.proofs.Times.{IsTrueAfter-all}
use Rattle.cps_conflict.specs.Conflicts.{Reasons}
use Rattle.cps_conflict.specs.Leading.{IsDecisionBehind}
use Rattle.cps_reform.specs.declared.held.Held.{Held}
use Rattle.cps_reform.specs.Forms.{Form, term_at, no_term}
use Rattle.cps_reform.specs.Cores.{core_terms, IsSomeAbove, WeighAtLeast}
use Rattle.cps_reform.specs.Floors.{OfEachBelow}
use Rattle.cps_reform.specs.Marks.{assumed, IsCoreMarked}
use Rattle.cps_core_guided.specs.Assuming.{AssumesFirst, IsAssumption, IsFailed, IsSomeAssumption}
use Rattle.cps_search.specs.Searches.{IsSoundSearch}
use Rattle.cps_search.proofs.Cores.{assumed_holds}
use Rattle.cps_core_guided.specs.Reforming.{CoreSearch}
use Rattle.cps_core_guided.specs.Guiding.{HasFailed}

entry_at : (es : List Entry) (k : ℕ) → k < length es → Entry
entry_at [] k l = absurd (omega (arith, l))
entry_at (e ∷ es) k l = e

-- the decisions behind a failed assumption are assumptions: after any other decision all of them were true
pub assumptions-behind : (R : Reasons) (rs : List ℤ) (s : Trail) (ts : List Held) (place : ℕ) (t : Atom) (decisions : List Atom) → IsSoundTrail s → AssumesFirst rs s ts → IsFailed s ts place → (term_at ts place).subject < length s.first
    → All (IsDecisionBehind R s t) decisions → All (IsSomeAssumption rs ts) decisions
assumptions-behind R rs s ts place t decisions sound first failed inside all = All-weaker (IsDecisionBehind R s t) (IsSomeAssumption rs ts) (λ u b.
    let d = entry_at s.entries b.place b.within in
    elim (first.each b.place d b.within (b.decided d)) [
      | inl a ↦ subst (λ (x : Atom). IsSomeAssumption rs ts x) (b.is d) a
      | inr assumed_then ↦ absurd (not_both s (assumed (term_at ts place)) inside sound (IsTrueAfter-all s.first s.entries b.place (assumed (term_at ts place)) (assumed_then place no_term failed.within failed.weighs)) failed.false_now)
    ]) decisions all

not_above : (b v : ℤ) → int_le v b ≡ true → b <ℤ v → ⊥
not_above b v e l = grind (arith, ints)

above : (b v : ℤ) → int_le v b ≡ false → b <ℤ v
above b v e = grind (arith, ints)

-- whether some term of the core is above its bound is a test
some-or-none : (xs : List ℤ) (ts : List Held) → IsSomeAbove xs ts ⊎ (IsSomeAbove xs ts → ⊥)
some-or-none xs [] = inr (λ h. h)
some-or-none xs (t ∷ ts) = elim (some-or-none xs ts) as (λ u. IsSomeAbove xs (t ∷ ts) ⊎ (IsSomeAbove xs (t ∷ ts) → ⊥)) [
  | inl some ↦ inl (inr some)
  | inr none ↦ elim (bool_cases (t.in_core)) as (λ u. IsSomeAbove xs (t ∷ ts) ⊎ (IsSomeAbove xs (t ∷ ts) → ⊥)) [
    | inr out ↦ inr (λ h. elim h as (λ u. ⊥) [ inl a ↦ true≢false (sym a.0 ∙ out) | inr b ↦ none b ])
    | inl core ↦ elim (bool_cases (int_le (value_at xs t.subject) t.bound)) as (λ u. IsSomeAbove xs (t ∷ ts) ⊎ (IsSomeAbove xs (t ∷ ts) → ⊥)) [
      | inl on ↦ inr (λ h. elim h as (λ u. ⊥) [ inl a ↦ not_above (t.bound) (value_at xs t.subject) on a.1 | inr b ↦ none b ])
      | inr off ↦ inl (inl (core, above (t.bound) (value_at xs t.subject) off))
    ]
  ]
]

some-at : (xs : List ℤ) (ts : List Held) (i : ℕ) → i < length ts → (term_at ts i).in_core ≡ true → (term_at ts i).bound <ℤ value_at xs (term_at ts i).subject → IsSomeAbove xs ts
some-at xs [] i l core over = absurd (let f : i < 0 = l in omega arith)
some-at xs (t ∷ ts) zero l core over = inl (core, over)
some-at xs (t ∷ ts) (suc i) l core over = inr (some-at xs ts i (omega arith) core over)

-- where no term of the core is above its bound, each of its assumptions is true
assumed-true : (xs : List ℤ) (ts : List Held) (i : ℕ) → (IsSomeAbove xs ts → ⊥) → i < length ts → (term_at ts i).in_core ≡ true → atom_holds xs (assumed (term_at ts i)) ≡ true
assumed-true xs ts i none has core = elim (bool_cases (int_le (value_at xs (term_at ts i).subject) (term_at ts i).bound)) [
  | inl on ↦ on
  | inr off ↦ absurd (none (some-at xs ts i has core (above (term_at ts i).bound (value_at xs (term_at ts i).subject) off)))
]

-- a form with its core marked assumes the same
same-assumed : (f g : Form) (place : ℕ) (decisions : List Atom) (i : ℕ) → IsCoreMarked f g place decisions → i < length f.terms → assumed (term_at g.terms i) ≡ assumed (term_at f.terms i)
same-assumed f g place decisions i m l = ap (λ (t : Held). assumed t) (m.terms.same i l)

module _ (s : CoreSearch) (g : Form) (place : ℕ) (decisions : List Atom) (search : IsSoundSearch s.search) (h : HasFailed s place decisions) (m : IsCoreMarked s.form g place decisions) where
  -- where no term of the core is above its bound, each term of it has a true assumption
  core-true : (xs : List ℤ) → (IsSomeAbove xs g.terms → ⊥) → (i : ℕ) → i < length s.form.terms → (term_at g.terms i).in_core ≡ true → atom_holds xs (assumed (term_at s.form.terms i)) ≡ true
  core-true xs none i l core = ap (atom_holds xs) (sym (same-assumed s.form g place decisions i m l)) ∙ assumed-true xs g.terms i none (let e = m.terms.same_length in omega (arith, e, l)) core

  decision-true : (xs : List ℤ) → (IsSomeAbove xs g.terms → ⊥) → (u : Atom) → Contains decisions u → IsAssumption s.form.terms u → atom_holds xs u ≡ true
  decision-true xs none u has a =
      let there : Contains decisions (assumed (term_at s.form.terms a.place)) = subst (λ (x : Atom). Contains decisions x) a.is has in
      ap (atom_holds xs) a.is ∙ core-true xs none a.place a.within ((m.terms.core a.place a.within).1 (record { weighs = a.weighs; led_to = inr there }))

  -- the law of a core
  pub core-some : OfEachBelow s.search.instance s.search.z (λ xs. IsSomeAbove xs g.terms)
  core-some a solution below =
      let xs = extended s.search.instance.defs a in
      elim (some-or-none xs g.terms) [
        | inl some ↦ some
        | inr none ↦ absurd (
            let decided : All (λ u. atom_holds xs u ≡ true) decisions = λ k d l. elim (h.assumptions k d l) [
              | inl of_model ↦ assumed_holds s.search.instance search.instance a solution (get_or decisions k d) of_model
              | inr of_term ↦ decision-true xs none (get_or decisions k d) (Contains-get_or decisions k d l) of_term
            ] in
            let failed = core-true xs none place h.within ((m.terms.core place h.within).1 (record { weighs = h.weighs; led_to = inl refl })) in
            true≢false (sym failed ∙ h.false_there a solution below decided))
      ]

  -- each term of the core weighs something
  pub core-weighs : WeighAtLeast 1 g.terms
  core-weighs k d l core =
      let e = m.terms.same_length in
      let l' : k < length s.form.terms = omega (arith, e, l) in
      let same : get_or g.terms k d ≡ term_at g.terms k = get_or_default g.terms k d no_term l in
      let here = (m.terms.core k l').0 (ap (λ (t : Held). t.in_core) (sym same) ∙ core) in
      let weight : (term_at g.terms k).weight ≡ (term_at s.form.terms k).weight = ap (λ (t : Held). t.weight) (m.terms.same k l') in
      let weighs = here.weighs in
      let same_weight = ap (λ (t : Held). t.weight) same in
      omega (arith, weight, weighs, same_weight)

  pub core-has-failed : (term_at g.terms place).in_core ≡ true
  core-has-failed = (m.terms.core place h.within).1 (record { weighs = h.weighs; led_to = inl refl })

-- a core without terms has none above its bound
no-core : (xs : List ℤ) (ts : List Held) → length (core_terms ts) ≡ 0 → IsSomeAbove xs ts → ⊥
no-core xs [] e h = h
no-core xs (t ∷ ts) e h = elim (t.in_core) as (λ b. t.in_core ≡ b → length (if b then record { coeff = pos 1; subject = t.subject } ∷ core_terms ts else core_terms ts) ≡ 0 → ⊥) [
  | true ↦ λ is f. absurd (omega (arith, f))
  | false ↦ λ is f. elim h as (λ u. ⊥) [ inl a ↦ true≢false (sym a.0 ∙ is) | inr b ↦ no-core xs ts f b ]
] refl e

pub in-core : (ts : List Held) (i : ℕ) → i < length ts → (term_at ts i).in_core ≡ true → 1 ≤ length (core_terms ts)
in-core [] i l h = absurd (omega (arith, l))
in-core (t ∷ ts) zero l h = (let e : core_terms (t ∷ ts) ≡ record { coeff = pos 1; subject = t.subject } ∷ core_terms ts = ap (λ (b : Bool). if b then record { coeff = pos 1; subject = t.subject } ∷ core_terms ts else core_terms ts) h in let n = ap (λ (us : List Term). length us) e in omega (arith, n))
in-core (t ∷ ts) (suc i) l h = (
    let rest = in-core ts i (omega (arith, l)) h in
    elim (t.in_core) as (λ b. 1 ≤ length (if b then record { coeff = pos 1; subject = t.subject } ∷ core_terms ts else core_terms ts)) [
      | true ↦ omega arith
      | false ↦ rest
    ])

-- where the core has one term alone, that one is above its bound
pub only-above : (xs : List ℤ) (ts : List Held) (i : ℕ) → i < length ts → (term_at ts i).in_core ≡ true → length (core_terms ts) ≡ 1 → IsSomeAbove xs ts → (term_at ts i).bound <ℤ value_at xs (term_at ts i).subject
only-above xs [] i l core one h = absurd (omega (arith, l))
only-above xs (t ∷ ts) zero l core one h = elim h as (λ u. t.bound <ℤ value_at xs t.subject) [
  | inl a ↦ a.1
  | inr b ↦ absurd (no-core xs ts (let e : core_terms (t ∷ ts) ≡ record { coeff = pos 1; subject = t.subject } ∷ core_terms ts = ap (λ (b : Bool). if b then record { coeff = pos 1; subject = t.subject } ∷ core_terms ts else core_terms ts) core in let n = ap (λ (us : List Term). length us) e in omega (arith, n, one)) b)
]
only-above xs (t ∷ ts) (suc i) l core one h =
    let member = in-core ts i (omega (arith, l)) core in
    elim (t.in_core) as (λ b. t.in_core ≡ b → length (if b then record { coeff = pos 1; subject = t.subject } ∷ core_terms ts else core_terms ts) ≡ 1 → (term_at ts i).bound <ℤ value_at xs (term_at ts i).subject) [
      | true ↦ λ is f. absurd (omega (arith, f, member))
      | false ↦ λ is f. elim h as (λ u. (term_at ts i).bound <ℤ value_at xs (term_at ts i).subject) [
        | inl a ↦ absurd (true≢false (sym a.0 ∙ is))
        | inr b ↦ only-above xs ts i (omega (arith, l)) core f b
      ]
    ] refl one

-- so its bound can rise by 1
pub risen-alone : (s : CoreSearch) (g : Form) (place : ℕ) (decisions : List Atom) → IsSoundSearch s.search → HasFailed s place decisions → IsCoreMarked s.form g place decisions → length (core_terms g.terms) ≡ 1
    → OfEachBelow s.search.instance s.search.z (λ xs. ((term_at g.terms place).bound +ℤ pos 1) ≤ℤ value_at xs (term_at g.terms place).subject)
risen-alone s g place decisions search h m one a solution below =
    let e = m.terms.same_length in
    let w = h.within in
    let over = only-above (extended s.search.instance.defs a) g.terms place (omega (arith, e, w)) (core-has-failed s g place decisions search h m) one (core-some s g place decisions search h m a solution below) in
    omega (arith, ints, over)
