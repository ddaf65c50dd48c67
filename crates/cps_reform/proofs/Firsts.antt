-- The first form of an objective, term by term.
use Rattle.std.specs.Prelude.{All, unsigned_abs}
use Rattle.std.specs.List.{AllZip}
use Rattle.std.proofs.Common.{◌≡◌, ℕ, ◌+◌, ◌*◌, ◌<◌, ◌≤◌, ◌^◌, false, List, [], ◌∷◌, ◌++◌, length, refl, sym, ◌∙◌, ap, subst, arith, ℤ, pos, ◌+ℤ◌, ◌*ℤ◌, ◌≤ℤ◌}
use Rattle.std.proofs.lemmas.Int.{ints}
use Rattle.std.proofs.lemmas.List.Elements.{All-nil, All-cons, All-head, All-tail, All-weaker, All-get_or}
use Rattle.cps_model.specs.declared.bound.Bound.{Bound}
use Rattle.cps_model.specs.declared.model.CpModel.{CpModel}
use Rattle.cps_model.specs.Solutions.{IsSolution}
use Rattle.cps_literal.specs.Truth.{value_at}
use Rattle.cps_instance.specs.declared.term.Term.{Term}
use Rattle.cps_instance.specs.Posting.{objective_terms}
use Rattle.cps_instance.specs.Problem.{Problem, Defines, IsAssignment, IsInstance, variable_count}
use Rattle.cps_instance.specs.Sums.{DefinedSum, extended, sum_value}
use Rattle.cps_instance.specs.Terms.{AreIntervals, Domains, Intervals, domain_at, least_of, magnitude, terms_reach, terms_value}
use Rattle.cps_instance.proofs.Extending.{agree-append, length-extended}
use Rattle.cps_instance.proofs.Growing.{same-append}
use Rattle.cps_instance.proofs.Intervals.{least_of-least}
use Rattle.cps_instance.proofs.Solving.{extended_within}
use Rattle.cps_reform.specs.declared.held.Held.{Held}
use Rattle.cps_reform.specs.Beginning.{StandsForTerm, IsFirstForm, IsHeldFirst}
use Rattle.cps_reform.specs.Floors.{IsReform}
use Rattle.cps_reform.specs.Forms.{Form, IsAbove, IsHeldInDomain, FitsTypes, form_value, held_reach, with_held}
use Rattle.cps_reform.proofs.Floors.{defined-values, excess-longer}
use Rattle.cps_reform.proofs.GrownForms.{held_reach-longer, roomy-longer}
use Rattle.cps_reform.proofs.Objectives.{has-terms}

terms_value-push : (xs : List ℤ) (ts : List Term) (t : Term) → terms_value xs (ts ++ t ∷ []) ≡ terms_value xs ts +ℤ t.coeff *ℤ value_at xs t.subject
terms_value-push xs [] t = omega (arith, ints)
terms_value-push xs (u ∷ us) t = let rest = terms_value-push xs us t in omega (arith, ints)

reach-push : (ds : Domains) (ts : List Term) (t : Term) → terms_reach ds (ts ++ t ∷ []) ≡ terms_reach ds ts + unsigned_abs t.coeff * magnitude (domain_at ds t.subject)
reach-push ds [] t = omega arith
reach-push ds (u ∷ us) t = let rest = reach-push ds us t in omega arith

held-push : (ds : Domains) (ts : List Held) (t : Held) → held_reach ds (ts ++ t ∷ []) ≡ held_reach ds ts + t.weight * magnitude (domain_at ds t.subject)
held-push ds [] t = omega arith
held-push ds (u ∷ us) t = let rest = held-push ds us t in omega arith

held-last : (R : Term → Held → Type 0) (ts : List Term) (hs : List Held) (t : Term) (h : Held) → AllZip R ts hs → R t h → AllZip R (ts ++ t ∷ []) (hs ++ h ∷ [])
held-last R [] [] t h all last = (last, tt)
held-last R [] (g ∷ gs) t h all last = absurd all
held-last R (u ∷ us) [] t h all last = absurd all
held-last R (u ∷ us) (g ∷ gs) t h all last = (all.0, held-last R us gs t h all.1 last)

-- the first form of the terms so far, and how far it goes
pub record FirstSoFar (p : Problem) (ts : List Term) (f : Form) : Type 0 where
  pub first : IsFirstForm p ts f
  pub base : unsigned_abs f.base ≤ held_reach p.domains f.terms
  pub reach : held_reach p.domains f.terms ≡ terms_reach p.domains ts

pub first-none : (p : Problem) → FirstSoFar p [] (record { base = pos 0; terms = [] })
first-none p = record {
  first = record { terms = tt; worth = λ a is. omega (arith, ints); roomy = record { terms = All-nil (IsHeldInDomain p.domains); small = omega arith } };
  base = omega arith;
  reach = refl;
}

-- one more term, of which a subject holds the value
pub first-more : (p : Problem) (ts : List Term) (t : Term) (subject : ℕ) (f : Form) → FirstSoFar p ts f → StandsForTerm p t subject → FitsTypes p.domains (with_held p.domains f (unsigned_abs t.coeff) subject)
    → unsigned_abs (with_held p.domains f (unsigned_abs t.coeff) subject).base ≤ held_reach p.domains (with_held p.domains f (unsigned_abs t.coeff) subject).terms
    → ((xs : List ℤ) → form_value xs (with_held p.domains f (unsigned_abs t.coeff) subject) ≡ form_value xs f +ℤ pos (unsigned_abs t.coeff) *ℤ value_at xs subject)
    → FirstSoFar p (ts ++ t ∷ []) (with_held p.domains f (unsigned_abs t.coeff) subject)
first-more p ts t subject f h holds roomy base worth =
    let u : Held = record { weight = unsigned_abs t.coeff; subject = subject; bound = least_of (domain_at p.domains subject); in_core = false } in
    record {
      first = record {
        terms = held-last (IsHeldFirst p) ts f.terms t u h.first.terms (record { holds = holds; weight = refl; bound = refl; unmarked = refl });
        worth = λ a is.
            let xs = extended p.defs a in
            let w = worth xs in
            let was = h.first.worth a is in
            let v = holds.value a is in
            let more = terms_value-push xs ts t in
            omega (arith, ints);
        roomy = roomy;
      };
      base = base;
      reach =
          let r = h.reach in
          let more = held-push p.domains f.terms u in
          let also = reach-push p.domains ts t in
          let same = ap (λ (n : ℕ). unsigned_abs t.coeff * n) holds.reach in
          omega arith;
    }

-- there is room for it
pub first-room : (p : Problem) (ts us : List Term) (t : Term) (subject : ℕ) (f : Form) → FirstSoFar p ts f → StandsForTerm p t subject → terms_reach p.domains ((ts ++ t ∷ []) ++ us) < 2 ^ 62
    → held_reach p.domains f.terms + unsigned_abs t.coeff * magnitude (domain_at p.domains subject) < 2 ^ 62
first-room p ts us t subject f h holds small =
    let r = h.reach in
    let most = front_most p.domains (ts ++ t ∷ []) us in
    let also = reach-push p.domains ts t in
    let same = ap (λ (n : ℕ). unsigned_abs t.coeff * n) holds.reach in
    omega arith
  where
    front_most : (ds : Domains) (vs ws : List Term) → terms_reach ds vs ≤ terms_reach ds (vs ++ ws)
    front_most ds [] ws = omega arith
    front_most ds (v ∷ vs) ws = let rest = front_most ds vs ws in omega arith

-- ---- where a sum more is defined
zip-weaker : (R S : Term → Held → Type 0) → (P : Term → Type 0) → ((t : Term) (h : Held) → P t → R t h → S t h) → (ts : List Term) (hs : List Held) → All P ts → AllZip R ts hs → AllZip S ts hs
zip-weaker R S P w [] [] all h = tt
zip-weaker R S P w [] (g ∷ gs) all h = absurd h
zip-weaker R S P w (t ∷ ts) [] all h = absurd h
zip-weaker R S P w (t ∷ ts) (g ∷ gs) all h = (w t g (All-head P t ts all) h.0, zip-weaker R S P w ts gs (All-tail P t ts all) h.1)

value-stays : (p q : Problem) (sum : DefinedSum) (subject i : ℕ) (a : List ℤ) → Defines p q sum subject → IsAssignment p.model a → i < variable_count p + length p.defs → value_at (extended p.defs a) i ≡ value_at (extended q.defs a) i
value-stays p q sum subject i a d is l =
    let n = length-extended p.defs a in
    agree-append (extended p.defs a) (sum_value (extended p.defs a) sum ∷ []) i (omega (arith, l, n, is))
    ∙ ap (λ (xs : List ℤ). value_at xs i) (sym (defined-values p q sum subject a d))

domain-stays : (p q : Problem) (sum : DefinedSum) (subject i : ℕ) → Defines p q sum subject → i < length p.domains → domain_at p.domains i ≡ domain_at q.domains i
domain-stays p q sum subject i d l = same-append p.domains (d.added ∷ []) i l ∙ ap (λ (ds : Domains). domain_at ds i) (sym d.domains)

terms-stay : (p q : Problem) (sum : DefinedSum) (subject : ℕ) (a : List ℤ) (ts : List Term) → Defines p q sum subject → IsAssignment p.model a → All (λ t. t.subject < variable_count p) ts → terms_value (extended p.defs a) ts ≡ terms_value (extended q.defs a) ts
terms-stay p q sum subject a [] d is all = refl
terms-stay p q sum subject a (t ∷ ts) d is all =
    let l = All-head (λ (u : Term). u.subject < variable_count p) t ts all in
    let here = value-stays p q sum subject t.subject a d is (omega (arith, l)) in
    ap (λ (v : ℤ). t.coeff *ℤ v +ℤ terms_value (extended p.defs a) ts) here
    ∙ ap (λ (v : ℤ). t.coeff *ℤ value_at (extended q.defs a) t.subject +ℤ v) (terms-stay p q sum subject a ts d is (All-tail (λ (u : Term). u.subject < variable_count p) t ts all))

module _ (p q : Problem) (sum : DefinedSum) (subject : ℕ) (d : Defines p q sum subject) (i : IsInstance p) where
  longer : length p.domains ≤ length q.domains
  longer = let n = ap (λ (ds : Domains). length ds) d.domains in let m = added-length p.domains d.added in omega (arith, n, m)
    where
      added-length : (ds : Domains) (added : Intervals) → length (ds ++ added ∷ []) ≡ length ds + 1
      added-length [] added = omega arith
      added-length (e ∷ ds) added = let rest = added-length ds added in omega arith

  pub holds-stays : (t : Term) (s : ℕ) → t.subject < variable_count p → StandsForTerm p t s → StandsForTerm q t s
  holds-stays t s l h =
      let count = i.domains.count in
      let within = h.within in
      let more = longer in
      let inside : t.subject < length p.domains = omega (arith, l, count) in
      record {
        within = omega (arith, within, more);
        value = λ a is.
            let was : IsAssignment p.model a = subst (λ (m : CpModel). IsAssignment m a) d.model is in
            ap (λ (v : ℤ). pos (unsigned_abs t.coeff) *ℤ v) (sym (value-stays p q sum subject s a d was (omega (arith, within, count))))
            ∙ h.value a was
            ∙ ap (λ (v : ℤ). t.coeff *ℤ v) (value-stays p q sum subject t.subject a d was (omega (arith, l)));
        reach = ap (λ (ps : Intervals). magnitude ps) (sym (domain-stays p q sum subject s d within)) ∙ h.reach ∙ ap (λ (ps : Intervals). magnitude ps) (domain-stays p q sum subject t.subject d inside);
      }

  held-first-stays : (t : Term) (h : Held) → t.subject < variable_count p → IsHeldFirst p t h → IsHeldFirst q t h
  held-first-stays t h l k = record {
    holds = holds-stays t h.subject l k.holds;
    weight = k.weight;
    bound = k.bound ∙ ap (λ (ps : Intervals). least_of ps) (domain-stays p q sum subject h.subject d k.holds.within);
    unmarked = k.unmarked;
  }

  reach-stays : (ts : List Term) → All (λ t. t.subject < variable_count p) ts → terms_reach p.domains ts ≡ terms_reach q.domains ts
  reach-stays [] all = refl
  reach-stays (t ∷ ts) all =
      let count = i.domains.count in
      let l = All-head (λ (u : Term). u.subject < variable_count p) t ts all in
      ap (λ (ps : Intervals). unsigned_abs t.coeff * magnitude ps + terms_reach p.domains ts) (domain-stays p q sum subject t.subject d (omega (arith, l, count)))
      ∙ ap (λ (n : ℕ). unsigned_abs t.coeff * magnitude (domain_at q.domains t.subject) + n) (reach-stays ts (All-tail (λ (u : Term). u.subject < variable_count p) t ts all))

  pub first-stays : (ts : List Term) (f : Form) → All (λ t. t.subject < variable_count p) ts → FirstSoFar p ts f → FirstSoFar q ts f
  first-stays ts f all h =
      let count = i.domains.count in
      let inside : All (λ t. t.subject < variable_count p + length p.defs) f.terms = All-weaker (IsHeldInDomain p.domains) (λ (t : Held). t.subject < variable_count p + length p.defs) (λ t k. (let s = k.subject in omega (arith, s, count))) f.terms h.first.roomy.terms in
      let roomy : FitsTypes q.domains f = subst (λ (ds : Domains). FitsTypes ds f) (sym d.domains) (roomy-longer p.domains (d.added ∷ []) f h.first.roomy) in
      let reach : held_reach q.domains f.terms ≡ held_reach p.domains f.terms = ap (λ (ds : Domains). held_reach ds f.terms) d.domains ∙ held_reach-longer p.domains (d.added ∷ []) f.terms h.first.roomy.terms in
      record {
        first = record {
          terms = zip-weaker (IsHeldFirst p) (IsHeldFirst q) (λ (t : Term). t.subject < variable_count p) held-first-stays ts f.terms all h.first.terms;
          worth = λ a is.
              let was : IsAssignment p.model a = subst (λ (m : CpModel). IsAssignment m a) d.model is in
              let n = length-extended p.defs a in
              let e = excess-longer (extended p.defs a) (sum_value (extended p.defs a) sum ∷ []) f.terms (subst (λ (k : ℕ). All (λ t. t.subject < k) f.terms) (let m : variable_count p + length p.defs ≡ length (extended p.defs a) = omega (arith, n, was) in m) inside) in
              ap (λ (xs : List ℤ). form_value xs f) (defined-values p q sum subject a d) ∙ ap (λ (v : ℤ). f.base +ℤ v) e ∙ h.first.worth a was ∙ terms-stay p q sum subject a ts d was all;
          roomy = roomy;
        };
        base = let b = h.base in omega (arith, b, reach);
        reach = reach ∙ h.reach ∙ reach-stays ts all;
      }

-- a form that begins so is one of the objective, with a floor
above-least : (p : Problem) → IsInstance p → (a : List ℤ) → IsSolution p.model a → (ts : List Term) (hs : List Held) → AllZip (IsHeldFirst p) ts hs → IsAbove (extended p.defs a) hs
above-least p i a s [] [] h = All-nil (λ (t : Held). t.bound ≤ℤ value_at (extended p.defs a) t.subject)
above-least p i a s [] (g ∷ gs) h = absurd h
above-least p i a s (t ∷ ts) [] h = absurd h
above-least p i a s (t ∷ ts) (g ∷ gs) h =
    let within = h.0.holds.within in
    let ps = domain_at p.domains g.subject in
    let least = least_of-least ps (value_at (extended p.defs a) g.subject) (All-get_or AreIntervals p.domains g.subject [] within i.domains.sound) (extended_within p a i s.free.domains g.subject within) in
    All-cons (λ (u : Held). u.bound ≤ℤ value_at (extended p.defs a) u.subject) g gs (subst (λ (b : ℤ). b ≤ℤ value_at (extended p.defs a) g.subject) (sym h.0.bound) least) (above-least p i a s ts gs h.1)

pub first-reform : (p : Problem) (z : Bound) (f : Form) → IsInstance p → IsFirstForm p (objective_terms p.model.objective) f → IsReform p z f
first-reform p z f i h = record {
  is = λ a is. sym (h.worth a is ∙ (has-terms p i).value a is);
  floor = λ a s b. above-least p i a s (objective_terms p.model.objective) f.terms h.terms;
  roomy = h.roomy;
}
