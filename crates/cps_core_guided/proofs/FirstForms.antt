-- How the first form is made, term by term, where a sum is defined for each negative coefficient.
use Rattle.std.specs.Prelude.{All, unsigned_abs}
use Rattle.std.proofs.Common.{◌≡◌, inl, inr, ℕ, ◌+◌, ◌*◌, ◌<◌, ◌≤◌, ◌^◌, List, [], ◌∷◌, ◌++◌, length, take, drop, get_or, refl, sym, ◌∙◌, ap, subst, arith, ℤ, pos, negsuc, ◌+ℤ◌, ◌*ℤ◌, ◌≤ℤ◌, zero, suc, length-append, take-append-drop, append-nil, append_assoc, Option}
use Rattle.std.proofs.lemmas.Int.{ints}
use Rattle.std.proofs.lemmas.List.{take_all, take_more}
use Rattle.std.proofs.lemmas.List.Elements.{All-nil, All-cons, All-append, All-head, All-tail, All-get_or}
use Rattle.cps_model.specs.declared.model.CpModel.{CpModel}
use Rattle.cps_literal.specs.Truth.{value_at}
use Rattle.cps_instance.specs.declared.task.Task.{Task}
use Rattle.cps_instance.specs.declared.term.Term.{Term}
use Rattle.cps_instance.specs.Problem.{Problem, IsInstance, sum_task, variable_count}
use Rattle.cps_instance.specs.Sums.{DefinedSum, extended}
use Rattle.cps_instance.specs.Terms.{AreIntervals, Domains, Intervals, domain_at, greatest_of, least_of, magnitude, terms_reach}
use Rattle.cps_instance.proofs.Growing.{same-append}
use Rattle.cps_instance.proofs.Intervals.{greatest_among, least_of-least, magnitude_small}
use Rattle.cps_search.specs.Growing.{grown}
use Rattle.cps_search.specs.Moves.{fresh}
use Rattle.cps_search.specs.Searches.{IsSoundSearch, Search}
use Rattle.cps_reform.specs.Beginning.{StandsForTerm}
use Rattle.cps_reform.specs.Forms.{Form, FitsTypes, form_value, held_reach, with_held}
use Rattle.cps_reform.proofs.Firsts.{FirstSoFar, first-more, first-none, first-room, first-stays}
use Rattle.cps_core_guided.specs.Beginning.{IsOpposite, MayHaveOpposite, OnlyGrew, opposite}

-- ---- the subject of a term
size_of : (c : ℤ) → pos 0 ≤ℤ c → pos (unsigned_abs c) ≡ c
size_of (pos n) h = refl
size_of (negsuc n) h = absurd (omega (arith, ints, h))

-- a term with no negative coefficient is held by its own subject
pub itself-holds : (p : Problem) (t : Term) → IsInstance p → t.subject < variable_count p → pos 0 ≤ℤ t.coeff → StandsForTerm p t t.subject
itself-holds p t i l up =
    let count = i.domains.count in
    record {
      within = omega (arith, l, count);
      value = λ a is. ap (λ (c : ℤ). c *ℤ value_at (extended p.defs a) t.subject) (size_of t.coeff up);
      reach = refl;
    }

inside : (p : Problem) (s : ℕ) → IsInstance p → s < variable_count p → s < length p.domains
inside p s i l = (let count = i.domains.count in omega (arith, l, count))

domain-small : (p : Problem) (s : ℕ) → IsInstance p → s < length p.domains → magnitude (domain_at p.domains s) < 2 ^ 62
domain-small p s i l = magnitude_small (domain_at p.domains s) (All-get_or AreIntervals p.domains s [] l i.domains.sound)

-- what a sum that is the opposite of a variable needs
pub opposite-subjects : (p : Problem) (s : ℕ) → IsInstance p → s < variable_count p → All (λ t. t.subject < length p.domains) (opposite s).terms
opposite-subjects p s i l = All-cons (λ (t : Term). t.subject < length p.domains) (record { coeff = negsuc 0; subject = s }) [] (inside p s i l) (All-nil (λ (t : Term). t.subject < length p.domains))

pub opposite-reach : (p : Problem) (s : ℕ) → IsInstance p → s < variable_count p → terms_reach p.domains (opposite s).terms + 0 < 2 ^ 62
opposite-reach p s i l = (let small = domain-small p s i (inside p s i l) in omega (arith, small))

-- ---- a search that gained a sum, or none
no-opposites : All IsOpposite []
no-opposites = All-nil IsOpposite

one-opposite : (of : ℕ) → All IsOpposite (opposite of ∷ [])
one-opposite of = All-cons IsOpposite (opposite of) [] (of, refl) no-opposites

one-longer : (ds : Domains) (d : Intervals) → length (ds ++ d ∷ []) ≡ length ds + 1
one-longer ds d = length-append ds (d ∷ [])

pub may-grow : (of : ℕ) (s t : Search) (subject : ℕ) → MayHaveOpposite of s t subject → OnlyGrew s t 1
may-grow of s t subject h = elim h [
  | inl same ↦ record {
    model = ap (λ (x : Search). x.instance.model) same;
    opposites = [];
    are_opposites = no-opposites;
    defines = ap (λ (x : Search). x.instance.defs) same ∙ sym (append-nil s.instance.defs);
    steering = ap (λ (x : Search). x.instance.steering) same;
    longer = (let n = ap (λ (x : Search). length x.instance.domains) same in omega (arith, n));
    few = (let n = ap (λ (x : Search). length x.instance.domains) same in omega (arith, n));
    is_fresh = λ f. same ∙ f ∙ ap (λ (x : Search). fresh x.instance s.gap s.budget) (sym same);
  }
  | inr grew ↦
      let d = grew.defines in
      let size : length t.instance.domains ≡ length s.instance.domains + 1 = ap (λ (ds : Domains). length ds) d.domains ∙ one-longer s.instance.domains d.added in
      record {
        model = d.model;
        opposites = opposite of ∷ [];
        are_opposites = one-opposite of;
        defines = d.sums;
        steering = d.steering;
        longer = omega (arith, size);
        few = omega (arith, size);
        is_fresh = λ f.
            grew.is ∙ ap (λ (x : Search). grown x t.instance (sum_task subject (opposite of))) f
            ∙ ap (λ (ts : List Task). record (fresh t.instance s.gap s.budget) { tasks = ts }) (sym d.tasks);
      }
]

pub grew-none : (s : Search) → OnlyGrew s s 0
grew-none s = record { model = refl; opposites = []; are_opposites = no-opposites; defines = sym (append-nil s.instance.defs); steering = refl; longer = omega arith; few = omega arith; is_fresh = λ f. f }

pub grew-more : (s t u : Search) (m n : ℕ) → OnlyGrew s t m → OnlyGrew t u n → OnlyGrew s u (m + n)
grew-more s t u m n h k = record {
  model = k.model ∙ h.model;
  opposites = h.opposites ++ k.opposites;
  are_opposites = All-append IsOpposite h.opposites k.opposites h.are_opposites k.are_opposites;
  defines = k.defines ∙ ap (λ (ds : List DefinedSum). ds ++ k.opposites) h.defines ∙ append_assoc s.instance.defs h.opposites k.opposites;
  steering = k.steering ∙ h.steering;
  longer = (let a = h.longer in let b = k.longer in omega (arith, a, b));
  few = (let a = h.few in let b = k.few in omega (arith, a, b));
  is_fresh = λ f.
      let g = h.is_fresh f in
      let gap : t.gap ≡ s.gap = ap (λ (x : Search). x.gap) g in
      let budget : t.budget ≡ s.budget = ap (λ (x : Search). x.budget) g in
      k.is_fresh (g ∙ ap (λ (v : ℕ). fresh t.instance v s.budget) (sym gap) ∙ ap (λ (o : Option ℕ). fresh t.instance t.gap o) (sym budget))
      ∙ ap (λ (v : ℕ). fresh u.instance v t.budget) gap ∙ ap (λ (o : Option ℕ). fresh u.instance s.gap o) budget;
}

pub still-bottom : (of : ℕ) (s t : Search) (subject : ℕ) → MayHaveOpposite of s t subject → t.store.level ≡ s.store.level
still-bottom of s t subject h = elim h [ inl same ↦ ap (λ (x : Search). x.store.level) same | inr grew ↦ ap (λ (x : Search). x.store.level) grew.is ]

-- ---- what is kept over the terms
reach-longer : (ds es : Domains) (ts : List Term) → All (λ t. t.subject < length ds) ts → terms_reach (ds ++ es) ts ≡ terms_reach ds ts
reach-longer ds es [] h = refl
reach-longer ds es (t ∷ ts) h =
    let here = same-append ds es t.subject (All-head (λ (u : Term). u.subject < length ds) t ts h) in
    ap (λ (ps : Intervals). unsigned_abs t.coeff * magnitude ps + terms_reach (ds ++ es) ts) (sym here)
    ∙ ap (λ (n : ℕ). unsigned_abs t.coeff * magnitude (domain_at ds t.subject) + n) (reach-longer ds es ts (All-tail (λ (u : Term). u.subject < length ds) t ts h))

-- the first form of the first k terms, in a search that began as another and only grew
pub record FormSoFar (s t : Search) (terms : List Term) (k : ℕ) (f : Form) : Type 0 where
  pub sound : IsSoundSearch t
  pub bottom : t.store.level ≡ 0
  pub grew : OnlyGrew s t k
  pub first : FirstSoFar t.instance (take k terms) f
  pub small : terms_reach t.instance.domains terms < 2 ^ 62

take_none : (ts : List Term) → take 0 ts ≡ []
take_none [] = refl
take_none (t ∷ ts) = refl

pub form-none : (s : Search) (terms : List Term) (f : Form) → IsSoundSearch s → s.store.level ≡ 0 → terms_reach s.instance.domains terms < 2 ^ 62 → f.base ≡ pos 0 → f.terms ≡ [] → FormSoFar s s terms 0 f
form-none s terms f sound bottom small base none =
    let is : f ≡ record { base = pos 0; terms = [] } = ap (λ (b : ℤ). record { base = b; terms = f.terms }) base ∙ ap (λ (hs : List _). record { base = pos 0; terms = hs }) none in
    record {
      sound = sound;
      bottom = bottom;
      grew = grew-none s;
      first = subst (λ (ts : List Term). FirstSoFar s.instance ts f) (sym (take_none terms)) (subst (λ (g : Form). FirstSoFar s.instance [] g) (sym is) (first-none s.instance));
      small = small;
    }

-- the variables are those of the first search
pub same-variables : (s t : Search) (n : ℕ) (terms : List Term) → OnlyGrew s t n → All (λ t. t.subject < variable_count s.instance) terms → All (λ v. v.subject < variable_count t.instance) terms
same-variables s t n terms h all = subst (λ (m : CpModel). All (λ v. v.subject < length m.variables) terms) (sym h.model) all

pub one-variable : (s t : Search) (n : ℕ) (terms : List Term) (k : ℕ) (d : Term) → OnlyGrew s t n → All (λ t. t.subject < variable_count s.instance) terms → k < length terms → (get_or terms k d).subject < variable_count t.instance
one-variable s t n terms k d h all l = All-get_or (λ (v : Term). v.subject < variable_count t.instance) terms k d l (same-variables s t n terms h all)

front-variables : (p : Problem) (terms : List Term) (k : ℕ) → All (λ t. t.subject < variable_count p) terms → All (λ t. t.subject < variable_count p) (take k terms)
front-variables p [] k all = subst (λ (us : List Term). All (λ t. t.subject < variable_count p) us) (sym (take_all k [] (omega arith))) all
front-variables p (t ∷ ts) zero all = All-nil (λ (u : Term). u.subject < variable_count p)
front-variables p (t ∷ ts) (suc k) all = All-cons (λ (u : Term). u.subject < variable_count p) t (take k ts) (All-head (λ (u : Term). u.subject < variable_count p) t ts all) (front-variables p ts k (All-tail (λ (u : Term). u.subject < variable_count p) t ts all))

-- the form of the terms so far stands where a sum is defined, and so does what is left of the terms
pub form-stays : (of : ℕ) (s t u : Search) (terms : List Term) (k : ℕ) (f : Form) (subject : ℕ) → All (λ t. t.subject < variable_count s.instance) terms → FormSoFar s t terms k f → MayHaveOpposite of t u subject → FirstSoFar u.instance (take k terms) f
form-stays of s t u terms k f subject all h grew =
    let here = same-variables s t k terms h.grew all in
    elim grew [
      | inl same ↦ subst (λ (x : Search). FirstSoFar x.instance (take k terms) f) (sym same) h.first
      | inr more ↦ first-stays t.instance u.instance (opposite of) subject more.defines h.sound.instance (take k terms) f (front-variables t.instance terms k here) h.first
    ]

small-stays : (of : ℕ) (s t u : Search) (terms : List Term) (k : ℕ) (f : Form) (subject : ℕ) → All (λ t. t.subject < variable_count s.instance) terms → FormSoFar s t terms k f → MayHaveOpposite of t u subject → terms_reach u.instance.domains terms < 2 ^ 62
small-stays of s t u terms k f subject all h grew =
    let here = same-variables s t k terms h.grew all in
    let small = h.small in
    elim grew [
      | inl same ↦ subst (λ (x : Search). terms_reach x.instance.domains terms < 2 ^ 62) (sym same) small
      | inr more ↦
          let d = more.defines in
          let all' : All (λ v. v.subject < length t.instance.domains) terms = λ i e l. inside t.instance (get_or terms i e).subject h.sound.instance (here i e l) in
          let same = ap (λ (ds : Domains). terms_reach ds terms) d.domains ∙ reach-longer t.instance.domains (d.added ∷ []) terms all' in
          omega (arith, same, small)
    ]

-- the terms, as those so far, the next one and the rest
parts : (terms : List Term) (k : ℕ) (t : Term) → k < length terms → t ≡ get_or terms k t → terms ≡ (take k terms ++ t ∷ []) ++ drop (k + 1) terms
parts terms k t l is =
    sym (take-append-drop (k + 1) terms) ∙ ap (λ (us : List Term). us ++ drop (k + 1) terms) (take_more terms k t l ∙ ap (λ (u : Term). take k terms ++ u ∷ []) (sym is))

-- what holding the next term needs
pub next-within : (p : Problem) (ds : Domains) (subject : ℕ) (t : Term) → ds ≡ p.domains → IsInstance p → StandsForTerm p t subject → magnitude (domain_at ds subject) < 2 ^ 62
next-within p ds subject t same i h = subst (λ (es : Domains). magnitude (domain_at es subject) < 2 ^ 62) (sym same) (domain-small p subject i h.within)

pub next-ordered : (p : Problem) (ds : Domains) (subject : ℕ) (t : Term) → ds ≡ p.domains → IsInstance p → StandsForTerm p t subject → least_of (domain_at ds subject) ≤ℤ greatest_of (domain_at ds subject)
next-ordered p ds subject t same i h =
    let ps = domain_at p.domains subject in
    let are : AreIntervals ps = All-get_or AreIntervals p.domains subject [] h.within i.domains.sound in
    subst (λ (es : Domains). least_of (domain_at es subject) ≤ℤ greatest_of (domain_at es subject)) (sym same) (least_of-least ps (greatest_of ps) are (greatest_among ps are))

pub next-roomy : (p : Problem) (ds : Domains) (ts : List Term) (f : Form) → ds ≡ p.domains → FirstSoFar p ts f → FitsTypes ds f
next-roomy p ds ts f same h = subst (λ (es : Domains). FitsTypes es f) (sym same) h.first.roomy

pub next-base : (p : Problem) (ds : Domains) (ts : List Term) (f : Form) → ds ≡ p.domains → FirstSoFar p ts f → unsigned_abs f.base ≤ held_reach ds f.terms
next-base p ds ts f same h = subst (λ (es : Domains). unsigned_abs f.base ≤ held_reach es f.terms) (sym same) h.base

pub next-room : (of : ℕ) (s t u : Search) (ds : Domains) (terms : List Term) (k : ℕ) (f : Form) (v : Term) (subject : ℕ) → All (λ t. t.subject < variable_count s.instance) terms → FormSoFar s t terms k f → MayHaveOpposite of t u subject → ds ≡ u.instance.domains
    → k < length terms → v ≡ get_or terms k v → StandsForTerm u.instance v subject → held_reach ds f.terms + unsigned_abs v.coeff * magnitude (domain_at ds subject) < 2 ^ 62
next-room of s t u ds terms k f v subject all h grew same l is holds =
    subst (λ (es : Domains). held_reach es f.terms + unsigned_abs v.coeff * magnitude (domain_at es subject) < 2 ^ 62) (sym same)
    (first-room u.instance (take k terms) (drop (k + 1) terms) v subject f (form-stays of s t u terms k f subject all h grew) holds
    (subst (λ (us : List Term). terms_reach u.instance.domains us < 2 ^ 62) (parts terms k v l is) (small-stays of s t u terms k f subject all h grew)))

-- one more term is held
pub form-more : (of : ℕ) (s t u : Search) (ds : Domains) (terms : List Term) (k : ℕ) (f g : Form) (v : Term) (subject : ℕ) → All (λ t. t.subject < variable_count s.instance) terms → FormSoFar s t terms k f → MayHaveOpposite of t u subject → IsSoundSearch u
    → ds ≡ u.instance.domains → k < length terms → v ≡ get_or terms k v → StandsForTerm u.instance v subject → g ≡ with_held ds f (unsigned_abs v.coeff) subject → FitsTypes ds g → unsigned_abs g.base ≤ held_reach ds g.terms
    → ((xs : List ℤ) → form_value xs g ≡ form_value xs f +ℤ pos (unsigned_abs v.coeff) *ℤ value_at xs subject) → FormSoFar s u terms (k + 1) g
form-more of s t u ds terms k f g v subject all h grew sound same l is holds made roomy base worth =
    let p = u.instance in
    let n = unsigned_abs v.coeff in
    let made' : g ≡ with_held p.domains f n subject = made ∙ ap (λ (es : Domains). with_held es f n subject) same in
    let more : FirstSoFar p (take k terms ++ v ∷ []) (with_held p.domains f n subject) =
    first-more p (take k terms) v subject f (form-stays of s t u terms k f subject all h grew) holds
    (subst (λ (x : Form). FitsTypes p.domains x) made' (subst (λ (es : Domains). FitsTypes es g) same roomy))
    (subst (λ (x : Form). unsigned_abs x.base ≤ held_reach p.domains x.terms) made' (subst (λ (es : Domains). unsigned_abs g.base ≤ held_reach es g.terms) same base))
    (subst (λ (x : Form). (xs : List ℤ) → form_value xs x ≡ form_value xs f +ℤ pos n *ℤ value_at xs subject) made' worth) in
    record {
      sound = sound;
      bottom = still-bottom of t u subject grew ∙ h.bottom;
      grew = grew-more s t u k 1 h.grew (may-grow of t u subject grew);
      first = subst (λ (us : List Term). FirstSoFar p us g) (ap (λ (w : Term). take k terms ++ w ∷ []) is ∙ sym (take_more terms k v l)) (subst (λ (x : Form). FirstSoFar p (take k terms ++ v ∷ []) x) (sym made') more);
      small = small-stays of s t u terms k f subject all h grew;
    }

-- ---- all terms are held
pub all-held : (s t : Search) (terms : List Term) (k : ℕ) (f : Form) → length terms ≤ k → FormSoFar s t terms k f → FirstSoFar t.instance terms f
all-held s t terms k f l h = subst (λ (us : List Term). FirstSoFar t.instance us f) (take_all k terms l) h.first

pub base-held : (s t : Search) (terms : List Term) (k : ℕ) (f : Form) → length terms ≤ k → FormSoFar s t terms k f → unsigned_abs f.base < 2 ^ 62
base-held s t terms k f l h =
    let first = all-held s t terms k f l h in
    let base = first.base in
    let reach = first.reach in
    let small = h.small in
    omega (arith, base, reach, small)

pub grew-at-most : (s t : Search) (m n : ℕ) → m ≤ n → OnlyGrew s t m → OnlyGrew s t n
grew-at-most s t m n l h = record { model = h.model; opposites = h.opposites; are_opposites = h.are_opposites; defines = h.defines; steering = h.steering; longer = h.longer; few = (let k = h.few in omega (arith, k, l)); is_fresh = h.is_fresh }
