-- A core-guided worker that begins.
use Rattle.std.specs.Prelude.{All, IfSome, IsSome, unsigned_abs}
use Rattle.std.proofs.Common.{◌≡◌, ◌∙◌, ℕ, ◌<◌, ◌≤◌, ◌^◌, ℤ, Bool, Some, List, [], ◌∷◌, length, false, of_z, to_z, w64, refl, sym, ap, subst, arith}
use Rattle.std.proofs.lemmas.List.Elements.{All-nil, All-cons, All-head, All-tail}
use Rattle.cps_model.specs.declared.model.CpModel.{CpModel}
use Rattle.cps_instance.specs.declared.term.Term.{Term}
use Rattle.cps_instance.specs.Posting.{objective_terms}
use Rattle.cps_instance.specs.Problem.{IsInstance, Problem}
use Rattle.cps_instance.specs.Terms.{Domains, greatest_of_terms, term_subjects}
use Rattle.cps_branch.specs.Scope.{IsScopeOf, Scope}
use Rattle.cps_search.specs.Moves.{fresh}
use Rattle.cps_search.specs.Searches.{IsSoundSearch, Search}
use Rattle.cps_reform.specs.Beginning.{IsFirstForm}
use Rattle.cps_reform.specs.Forms.{Form}
use Rattle.cps_reform.proofs.Firsts.{first-reform}
use Rattle.cps_reform.proofs.Objectives.{HasTerms, has-terms}
use Rattle.cps_core_guided.specs.Beginning.{OnlyGrew, beginning}
use Rattle.cps_core_guided.specs.CoreTurns.{BeginsCore, IsCoreWorking}
use Rattle.cps_core_guided.specs.Reforming.{CoreSearch, IsSoundCore}
use Rattle.cps_core_guided.specs.Guiding.{with_refused}
use Rattle.cps_core_guided.proofs.CoreInvariants.{scope-grown}
use Rattle.cps_core_guided.proofs.Reforms.{read_back}

-- ---- the terms of the objective
pub terms-of : (p : Problem) (ts : List Term) → IsInstance p → ts ≡ objective_terms p.model.objective → HasTerms p ts
terms-of p ts i is = subst (λ (us : List Term). HasTerms p us) (sym is) (has-terms p i)

pub term-subjects : (n m : ℕ) (ts : List Term) → n ≤ m → All (λ s. s < n) (term_subjects ts) → All (λ t. t.subject < m) ts
term-subjects n m [] l h = All-nil (λ (t : Term). t.subject < m)
term-subjects n m (t ∷ ts) l h =
    let here = All-head (λ (s : ℕ). s < n) t.subject (term_subjects ts) h in
    All-cons (λ (u : Term). u.subject < m) t ts (omega (arith, here, l)) (term-subjects n m ts l (All-tail (λ (s : ℕ). s < n) t.subject (term_subjects ts) h))

-- the greatest sum, as it is read back from its word
pub greatest-read : (r : ℤ) (ds es : Domains) (ts us : List Term) → unsigned_abs r < 2 ^ 62 → r ≡ greatest_of_terms ds ts → ds ≡ es → ts ≡ us → to_z w64 (of_z w64 r) ≡ greatest_of_terms es us
greatest-read r ds es ts us near is same are = read_back r near ∙ is ∙ ap (λ (xs : Domains). greatest_of_terms xs ts) same ∙ ap (λ (xs : List Term). greatest_of_terms es xs) are

-- ---- a worker that begins
module _ (p : Problem) (gap budget : ℕ) (s t : Search) (ts : List Term) (f : Form) (greatest : ℤ) (is : s ≡ fresh p gap (Some budget)) (grew : OnlyGrew s t (length ts)) (sound : IsSoundSearch t) (first : IsFirstForm t.instance ts f) (base : unsigned_abs f.base < 2 ^ 62)
    (terms : ts ≡ objective_terms p.model.objective) (most : greatest ≡ greatest_of_terms t.instance.domains ts) (few : length p.domains < 2 ^ 30) where
  from_fresh : OnlyGrew (fresh p gap (Some budget)) t (length ts)
  from_fresh = subst (λ (x : Search). OnlyGrew x t (length ts)) is grew

  pub new-fresh : t ≡ fresh t.instance gap (Some budget)
  new-fresh = from_fresh.is_fresh refl

  here : ts ≡ objective_terms t.instance.model.objective
  here = terms ∙ ap (λ (m : CpModel). objective_terms m.objective) (sym from_fresh.model)

  no_entries : length t.store.entries ≡ 0
  no_entries = ap (λ (x : Search). length x.store.entries) new-fresh

  pub new-sound : IsSoundCore (beginning t f greatest)
  new-sound = record {
    search = sound;
    form = first-reform t.instance t.z f sound.instance (subst (λ (us : List Term). IsFirstForm t.instance us f) here first);
    base = base;
    greatest = most ∙ ap (λ (us : List Term). greatest_of_terms t.instance.domains us) here;
    assumes = λ none. record { each = λ k d l decided. absurd (omega (arith, l, no_entries)) };
    few = omega arith;
    room =
        let more = from_fresh.few in
        let terms_few = (terms-of t.instance ts sound.instance here).few in
        omega (arith, more, terms_few, few);
    raised = tt;
    ended = λ e. absurd (cc e);
    no_log = ap (λ (x : Search). x.log) new-fresh;
  }

  pub new-begins : BeginsCore p gap budget (beginning t f greatest)
  new-begins = record {
    instance = from_fresh.model;
    opposites = from_fresh.opposites;
    are_opposites = from_fresh.are_opposites;
    defines = from_fresh.defines;
    search = new-fresh;
    first = subst (λ (us : List Term). IsFirstForm t.instance us f) terms first;
    sound = new-sound;
    sums = refl;
    raised = refl;
    ended = refl;
  }

-- the same for the form of the objective of a search that knows nothing yet
pub fresh-begins : (p : Problem) (gap budget : ℕ) (s t : Search) (f : Form) (r : ℤ) → s ≡ fresh p gap (Some budget) → OnlyGrew s t (length (objective_terms s.instance.model.objective)) → IsSoundSearch t
    → IsFirstForm t.instance (objective_terms s.instance.model.objective) f → unsigned_abs f.base < 2 ^ 62 → r ≡ greatest_of_terms t.instance.domains (objective_terms s.instance.model.objective) → unsigned_abs r < 2 ^ 62 → length p.domains < 2 ^ 30
    → BeginsCore p gap budget (beginning t f (to_z w64 (of_z w64 r)))
fresh-begins p gap budget s t f r is grew sound first base most near few =
    new-begins p gap budget s t (objective_terms s.instance.model.objective) f (to_z w64 (of_z w64 r)) is grew sound first base (ap (λ (x : Search). objective_terms x.instance.model.objective) is) (read_back r near ∙ most) few

-- it works, with a brancher of the instance that it began with
pub new-works : (p : Problem) (gap budget : ℕ) (s : CoreSearch) (scope : Scope) (agrees : ℕ → Type 0) → BeginsCore p gap budget s → length p.domains ≤ length s.search.instance.domains
    → IsScopeOf p scope → budget ≤ 10 ^ 9 → agrees 0 → IsCoreWorking s scope agrees 0
new-works p gap budget s scope agrees begins longer of small agreed = record {
  sound = begins.sound;
  of_problem = scope-grown p s.search.instance scope begins.instance longer of;
  budget = subst (λ (x : Search). IfSome x.budget (λ b. b ≤ 10 ^ 9)) (sym begins.search) small;
  has_budget = subst (λ (x : Search). IsSome x.budget) (sym begins.search) refl;
  few = (let none = ap (λ (x : Search). x.imported) begins.search in omega (arith, none));
  within = omega arith;
  agreed = agreed;
}

-- the search that a worker is made of: its greatest sum is read back from its word, and its core is a list with nothing in it
abbrev begun : Search → Form → ℤ → List ℤ → CoreSearch
begun t f r core = record (beginning t f (to_z w64 (of_z w64 r))) { core = core }

module _ (p : Problem) (gap budget : ℕ) (t : Search) (f : Form) (r : ℤ) (core : List ℤ) (near : unsigned_abs r < 2 ^ 62) (none : core ≡ []) (begins : BeginsCore p gap budget (beginning t f r)) where
  same : beginning t f r ≡ begun t f r core
  same = ap (λ (x : ℤ). beginning t f x) (sym (read_back r near)) ∙ ap (λ (xs : List ℤ). begun t f r xs) (sym none)

  pub not-refused : t.refused ≡ false
  not-refused = ap (λ (x : Search). x.refused) begins.search

  pub made-begins : BeginsCore p gap budget (with_refused (begun t f r core) false)
  made-begins = subst (λ (x : CoreSearch). BeginsCore p gap budget x) (same ∙ ap (λ (b : Bool). with_refused (begun t f r core) b) not-refused) begins

  pub made-works : (scope : Scope) (agrees : ℕ → Type 0) → length p.domains ≤ length t.instance.domains → IsScopeOf p scope → budget ≤ 10 ^ 9 → agrees 0 → IsCoreWorking (begun t f r core) scope agrees 0
  made-works scope agrees longer of small agreed = subst (λ (x : CoreSearch). IsCoreWorking x scope agrees 0) same (new-works p gap budget (beginning t f r) scope agrees begins longer of small agreed)
