-- What stays where one more sum is defined.
use Rattle.std.specs.Prelude.{All, ◌↔◌, unsigned_abs, ◌*◌}
use Rattle.std.specs.Int.{int_min, int_max}
use Rattle.std.proofs.Common.{◌≡◌, ℕ, ◌+◌, ◌<◌, ◌≤◌, ◌^◌, List, [], ◌∷◌, ◌++◌, length, refl, sym, ◌∙◌, ap, subst, arith, ℤ, ◌+ℤ◌, ◌*ℤ◌}
use Rattle.std.proofs.Math.ListN.{get_or-append, length-append}
use Rattle.std.proofs.Math.Seq.{get_or-append_seam}
use Rattle.std.proofs.lemmas.List.Elements.{All-nil, All-cons, All-head, All-tail, All-weaker}
use Rattle.cps_model.specs.declared.model.CpModel.{CpModel}
use Rattle.cps_model.specs.declared.constraint.Constraint.{Constraint}
use Rattle.cps_domain.specs.Window.{is_among}
use Rattle.cps_literal.specs.declared.atom.Atom.{Atom}
use Rattle.cps_instance.specs.declared.term.Term.{Term}
use Rattle.cps_instance.specs.declared.task.Task.{Task}
use Rattle.cps_instance.specs.declared.task.Body.{Body}
use Rattle.cps_instance.specs.declared.task.Body.TheVariants.{Empty, BoolOr, BoolAnd, AtMostOne, ExactlyOne, BoolXor, Linear, IntDiv, IntMod, IntProd, LinMax, Element, Table, AllDiff, Circuit, Interval, NoOverlap, Cumulative, Inverse, Automaton, Reservoir, NoOverlap2d, Sum, ObjectiveList, Cut}
use Rattle.cps_instance.specs.Terms.{terms_value, term_subjects, terms_reach, least_of_terms, greatest_of_terms, magnitude, domain_at, Intervals, Domains, AreIntervals, least_of, greatest_of}
use Rattle.cps_instance.specs.Sums.{DefinedSum, sum_value, extended, least_sum_of, greatest_sum_of, IsSumOf, AreSumsFrom}
use Rattle.cps_instance.specs.declared.task.Span.{Span}
use Rattle.cps_instance.specs.Tasks.{HoldsTask, subjects_of, subjects_of_body, atom_subjects, subjects_of_span, span_subjects}
use Rattle.cps_instance.specs.Fitting.{IsLiteral, IsFittingSpan, IsNeverNegative, IsFitting, IsFittingBody}
use Rattle.cps_instance.specs.Problem.{Means, IsListTask, IsCutTask, sum_task, sum_tasks}
use Rattle.cps_instance.proofs.Agreeing.{AgreeAt, terms_value-agree, All-append_left, All-append_right}
use Rattle.cps_instance.proofs.Extending.{length-extended, extended-push, HoldsTask-shorter, HoldsTask-longer, agree-append}

-- two lists of domains have the same for a subject
abbrev pub SameAt : Domains → Domains → ℕ → Type 0
SameAt ds es s = domain_at ds s ≡ domain_at es s

pub same-append : (ds es : Domains) (s : ℕ) → s < length ds → SameAt ds (ds ++ es) s
same-append ds es s h = sym (get_or-append ds es [] s h)

pub terms_reach-same : (ds es : Domains) (ts : List Term) → All (SameAt ds es) (term_subjects ts) → terms_reach ds ts ≡ terms_reach es ts
terms_reach-same ds es [] h = refl
terms_reach-same ds es (t ∷ ts) h =
    let first : unsigned_abs t.coeff * magnitude (domain_at ds t.subject) ≡ unsigned_abs t.coeff * magnitude (domain_at es t.subject) = ap (λ w. unsigned_abs t.coeff * magnitude w) (All-head (SameAt ds es) t.subject (term_subjects ts) h) in
    let rest = terms_reach-same ds es ts (All-tail (SameAt ds es) t.subject (term_subjects ts) h) in
    omega arith

added : (a b c d : ℤ) → a ≡ b → c ≡ d → a +ℤ c ≡ b +ℤ d
added a b c d e f = cc

ends : (a b c d : ℤ) → a ≡ b → c ≡ d → (let ps : List (ℤ × ℤ) = (a, c) ∷ [] in ps) ≡ (let qs : List (ℤ × ℤ) = (b, d) ∷ [] in qs)
ends a b c d e f = cc

least_of_terms-same : (ds es : Domains) (ts : List Term) → All (SameAt ds es) (term_subjects ts) → least_of_terms ds ts ≡ least_of_terms es ts
least_of_terms-same ds es [] h = refl
least_of_terms-same ds es (t ∷ ts) h =
    let first = ap (λ w. int_min (t.coeff *ℤ least_of w) (t.coeff *ℤ greatest_of w)) (All-head (SameAt ds es) t.subject (term_subjects ts) h) in
    let rest = least_of_terms-same ds es ts (All-tail (SameAt ds es) t.subject (term_subjects ts) h) in
    added _ _ _ _ first rest

greatest_of_terms-same : (ds es : Domains) (ts : List Term) → All (SameAt ds es) (term_subjects ts) → greatest_of_terms ds ts ≡ greatest_of_terms es ts
greatest_of_terms-same ds es [] h = refl
greatest_of_terms-same ds es (t ∷ ts) h =
    let first = ap (λ w. int_max (t.coeff *ℤ least_of w) (t.coeff *ℤ greatest_of w)) (All-head (SameAt ds es) t.subject (term_subjects ts) h) in
    let rest = greatest_of_terms-same ds es ts (All-tail (SameAt ds es) t.subject (term_subjects ts) h) in
    added _ _ _ _ first rest

below_same : (ds es : Domains) (ss : List ℕ) → All (λ s. s < length ds) ss → All (SameAt ds (ds ++ es)) ss
below_same ds es ss h = All-weaker (λ (s : ℕ). s < length ds) (SameAt ds (ds ++ es)) (same-append ds es) ss h

-- with more domains a literal stays one, and a sum stays small and keeps its ends
pub IsLiteral-longer : (ds es : Domains) (u : Atom) → u.subject < length ds → IsLiteral ds u → IsLiteral (ds ++ es) u
IsLiteral-longer ds es u l h =
    let e = same-append ds es u.subject l in
    record {
      low = h.low;
      high = h.high;
      least = λ x c. h.least x (ap (λ w. is_among w x) e ∙ c);
      greatest = λ x c. h.greatest x (ap (λ w. is_among w x) e ∙ c);
    }

pub are_literals-longer : (ds es : Domains) (us : List Atom) → All (λ s. s < length ds) (atom_subjects us) → All (IsLiteral ds) us → All (IsLiteral (ds ++ es)) us
are_literals-longer ds es [] l h = All-nil (IsLiteral (ds ++ es))
are_literals-longer ds es (u ∷ us) l h =
    All-cons (IsLiteral (ds ++ es)) u us
    (IsLiteral-longer ds es u (All-head (λ (s : ℕ). s < length ds) u.subject (atom_subjects us) l) (All-head (IsLiteral ds) u us h))
    (are_literals-longer ds es us (All-tail (λ (s : ℕ). s < length ds) u.subject (atom_subjects us) l) (All-tail (IsLiteral ds) u us h))

pub small-longer : (ds es : Domains) (ts : List Term) → All (λ s. s < length ds) (term_subjects ts) → terms_reach ds ts < 2 ^ 62 → terms_reach (ds ++ es) ts < 2 ^ 62
small-longer ds es ts l h = let e = terms_reach-same ds (ds ++ es) ts (below_same ds es (term_subjects ts) l) in omega arith

pub IsSumOf-longer : (ds es : Domains) (subject : ℕ) (s : DefinedSum) → subject < length ds → IsSumOf ds subject s → IsSumOf (ds ++ es) subject s
IsSumOf-longer ds es subject s l h =
    let inside = All-weaker (λ (j : ℕ). j < subject) (SameAt ds (ds ++ es)) (λ j k. same-append ds es j (omega arith)) (term_subjects s.terms) h.earlier in
    let reach = terms_reach-same ds (ds ++ es) s.terms inside in
    let low = ap (λ (v : ℤ). v +ℤ s.offset) (least_of_terms-same ds (ds ++ es) s.terms inside) in
    let high = ap (λ (v : ℤ). v +ℤ s.offset) (greatest_of_terms-same ds (ds ++ es) s.terms inside) in
    let small = h.small in
    record {
      earlier = h.earlier;
      small = omega arith;
      domain = sym (same-append ds es subject l) ∙ h.domain ∙ ends _ _ _ _ low high;
    }

-- the sum that a new domain is of
pub IsSumOf-last : (ds : Domains) (d : Intervals) (s : DefinedSum) → All (λ j. j < length ds) (term_subjects s.terms) → terms_reach ds s.terms + unsigned_abs s.offset < 2 ^ 62
    → d ≡ (least_sum_of ds s, greatest_sum_of ds s) ∷ [] → IsSumOf (ds ++ d ∷ []) (length ds) s
IsSumOf-last ds d s l h e =
    let inside = below_same ds (d ∷ []) (term_subjects s.terms) l in
    let reach = terms_reach-same ds (ds ++ d ∷ []) s.terms inside in
    let low = ap (λ (v : ℤ). v +ℤ s.offset) (least_of_terms-same ds (ds ++ d ∷ []) s.terms inside) in
    let high = ap (λ (v : ℤ). v +ℤ s.offset) (greatest_of_terms-same ds (ds ++ d ∷ []) s.terms inside) in
    record {
      earlier = l;
      small = omega arith;
      domain = get_or-append_seam ds d [] [] ∙ e ∙ ends _ _ _ _ low high;
    }

pub AreSumsFrom-longer : (ds es : Domains) (subject : ℕ) (ss : List DefinedSum) → subject + length ss ≤ length ds → AreSumsFrom ds subject ss → AreSumsFrom (ds ++ es) subject ss
AreSumsFrom-longer ds es subject [] l h = tt
AreSumsFrom-longer ds es subject (s ∷ ss) l h =
    (IsSumOf-longer ds es subject s (omega arith) h.0, AreSumsFrom-longer ds es (subject + 1) ss (omega arith) h.1)

pub AreSumsFrom-push : (ds : Domains) (subject : ℕ) (ss : List DefinedSum) (s : DefinedSum) (n : ℕ) → n ≡ subject + length ss → AreSumsFrom ds subject ss → IsSumOf ds n s → AreSumsFrom ds subject (ss ++ s ∷ [])
AreSumsFrom-push ds subject [] s n e h k = (let same : n ≡ subject = omega arith in subst (λ (i : ℕ). IsSumOf ds i s) same k, tt)
AreSumsFrom-push ds subject (r ∷ ss) s n e h k = (h.0, AreSumsFrom-push ds (subject + 1) ss s n (omega arith) h.1 k)

pub sum_tasks-push : (subject : ℕ) (ss : List DefinedSum) (s : DefinedSum) (n : ℕ) → n ≡ subject + length ss → sum_tasks subject (ss ++ s ∷ []) ≡ sum_tasks subject ss ++ sum_task n s ∷ []
sum_tasks-push subject [] s n e = let same : subject ≡ n = omega arith in ap (λ (i : ℕ). sum_task i s ∷ []) same
sum_tasks-push subject (r ∷ ss) s n e = ap (λ ts. sum_task subject r ∷ ts) (sum_tasks-push (subject + 1) ss s n (omega arith))

spans_fit-longer : (ds es : Domains) (ss : List Span) → All (λ s. s < length ds) (span_subjects ss) → All (IsFittingSpan ds) ss → All (IsFittingSpan (ds ++ es)) ss
spans_fit-longer ds es [] l h = All-nil (IsFittingSpan (ds ++ es))
spans_fit-longer ds es (s ∷ ss) l h =
    let own = All-append_left (λ (i : ℕ). i < length ds) (subjects_of_span s) (span_subjects ss) l in
    let presence = All-tail (λ (i : ℕ). i < length ds) s.end (atom_subjects s.presence) (All-tail (λ (i : ℕ). i < length ds) s.start (s.end ∷ atom_subjects s.presence) own) in
    All-cons (IsFittingSpan (ds ++ es)) s ss
    (are_literals-longer ds es s.presence presence (All-head (IsFittingSpan ds) s ss h))
    (spans_fit-longer ds es ss (All-append_right (λ (i : ℕ). i < length ds) (subjects_of_span s) (span_subjects ss) l) (All-tail (IsFittingSpan ds) s ss h))

demands_fit-longer : (ds es : Domains) (is : List ℕ) → All (λ s. s < length ds) is → All (IsNeverNegative ds) is → All (IsNeverNegative (ds ++ es)) is
demands_fit-longer ds es [] l h = All-nil (IsNeverNegative (ds ++ es))
demands_fit-longer ds es (i ∷ is) l h =
    let e = same-append ds es i (All-head (λ (s : ℕ). s < length ds) i is l) in
    All-cons (IsNeverNegative (ds ++ es)) i is
    (λ x c. All-head (IsNeverNegative ds) i is h x (ap (λ w. is_among w x) e ∙ c))
    (demands_fit-longer ds es is (All-tail (λ (s : ℕ). s < length ds) i is l) (All-tail (IsNeverNegative ds) i is h))

body_fits-longer : (ds es : Domains) (b : Body) → All (λ s. s < length ds) (subjects_of_body b) → IsFittingBody ds b → IsFittingBody (ds ++ es) b
body_fits-longer ds es Empty l h = tt
body_fits-longer ds es (BoolOr atoms) l h = are_literals-longer ds es atoms l h
body_fits-longer ds es (BoolAnd atoms) l h = are_literals-longer ds es atoms l h
body_fits-longer ds es (AtMostOne atoms) l h = are_literals-longer ds es atoms l h
body_fits-longer ds es (ExactlyOne atoms) l h = are_literals-longer ds es atoms l h
body_fits-longer ds es (BoolXor atoms) l h = are_literals-longer ds es atoms l h
body_fits-longer ds es (Linear terms bounds) l h = record { small = small-longer ds es terms l h.small; shaped = h.shaped }
body_fits-longer ds es (IntDiv target exprs) l h = tt
body_fits-longer ds es (IntMod target exprs) l h = tt
body_fits-longer ds es (IntProd target exprs) l h = tt
body_fits-longer ds es (LinMax target exprs) l h = tt
body_fits-longer ds es (Element index target exprs) l h = tt
body_fits-longer ds es (Table exprs values negated) l h = tt
body_fits-longer ds es (AllDiff exprs) l h = tt
body_fits-longer ds es (Circuit tails heads literals) l h = record {
  headed = h.headed;
  named = h.named;
  literals_fit = are_literals-longer ds es literals l h.literals_fit;
}
body_fits-longer ds es (Interval start end size) l h = tt
body_fits-longer ds es (NoOverlap spans) l h = spans_fit-longer ds es spans l h
body_fits-longer ds es (Cumulative capacity spans demands) l h =
    let parts = All-tail (λ (s : ℕ). s < length ds) capacity (span_subjects spans ++ demands) l in
    record {
      spans_fit = spans_fit-longer ds es spans (All-append_left (λ (s : ℕ). s < length ds) (span_subjects spans) demands parts) h.spans_fit;
      demands_fit = demands_fit-longer ds es demands (All-append_right (λ (s : ℕ). s < length ds) (span_subjects spans) demands parts) h.demands_fit;
    }
body_fits-longer ds es (Inverse direct inverse) l h = h
body_fits-longer ds es (Automaton start finals tails heads labels exprs) l h = h
body_fits-longer ds es (Reservoir min max times changes active) l h =
    let parts = All-append_right (λ (s : ℕ). s < length ds) times (changes ++ atom_subjects active) l in
    record {
      paired = h.paired;
      tied = h.tied;
      low = h.low;
      high = h.high;
      active_fit = are_literals-longer ds es active (All-append_right (λ (s : ℕ). s < length ds) changes (atom_subjects active) parts) h.active_fit;
    }
body_fits-longer ds es (NoOverlap2d x y) l h = record {
  paired = h.paired;
  x_fit = spans_fit-longer ds es x (All-append_left (λ (s : ℕ). s < length ds) (span_subjects x) (span_subjects y) l) h.x_fit;
  y_fit = spans_fit-longer ds es y (All-append_right (λ (s : ℕ). s < length ds) (span_subjects x) (span_subjects y) l) h.y_fit;
}
body_fits-longer ds es (Sum subject terms offset) l h =
    IsSumOf-longer ds es subject (record { terms = terms; offset = offset }) (All-head (λ (s : ℕ). s < length ds) subject (term_subjects terms) l) h
body_fits-longer ds es (ObjectiveList terms bounds) l h = record { small = small-longer ds es terms l h.small; shaped = h.shaped }
body_fits-longer ds es (Cut terms upper) l h = record { small = small-longer ds es terms l h.small }

sound-longer : (ds es : Domains) (ss : List ℕ) → All (λ s. s < length ds) ss → All (λ s. AreIntervals (domain_at ds s)) ss → All (λ s. AreIntervals (domain_at (ds ++ es) s)) ss
sound-longer ds es [] l h = All-nil (λ s. AreIntervals (domain_at (ds ++ es) s))
sound-longer ds es (s ∷ ss) l h =
    All-cons (λ i. AreIntervals (domain_at (ds ++ es) i)) s ss
    (subst (λ ps. AreIntervals ps) (same-append ds es s (All-head (λ (i : ℕ). i < length ds) s ss l)) (All-head (λ i. AreIntervals (domain_at ds i)) s ss h))
    (sound-longer ds es ss (All-tail (λ (i : ℕ). i < length ds) s ss l) (All-tail (λ i. AreIntervals (domain_at ds i)) s ss h))

-- a task that fits some domains fits them where more come after
pub IsFitting-longer : (ds es : Domains) (t : Task) → IsFitting ds t → IsFitting (ds ++ es) t
IsFitting-longer ds es t h =
    let long = length-append ds es in
    record {
      subjects = All-weaker (λ (s : ℕ). s < length ds) (λ (s : ℕ). s < length (ds ++ es)) (λ s l. omega arith) (subjects_of t) h.subjects;
      sound = sound-longer ds es (subjects_of t) h.subjects h.sound;
      enforcement = are_literals-longer ds es t.enforcement (All-append_left (λ (s : ℕ). s < length ds) (atom_subjects t.enforcement) (subjects_of_body t.body) h.subjects) h.enforcement;
      body = body_fits-longer ds es t.body (All-append_right (λ (s : ℕ). s < length ds) (atom_subjects t.enforcement) (subjects_of_body t.body) h.subjects) h.body;
    }

-- a task says the same with one more sum
later_holds : (ss : List DefinedSum) (s : DefinedSum) (a : List ℤ) (t : Task) → All (λ i. i < length a + length ss) (subjects_of t) → HoldsTask t (extended (ss ++ s ∷ []) a) ↔ HoldsTask t (extended ss a)
later_holds ss s a t h =
    let e = extended-push ss s a in
    let inside : All (λ i. i < length (extended ss a)) (subjects_of t) = rw (length-extended ss a) h in (
      (λ k. HoldsTask-shorter t (extended ss a) (sum_value (extended ss a) s ∷ []) inside (subst (λ xs. HoldsTask t xs) e k)),
      (λ k. subst (λ xs. HoldsTask t xs) (sym e) (HoldsTask-longer t (extended ss a) (sum_value (extended ss a) s ∷ []) inside k)),
    )

pub Means-later : (m : CpModel) (ss : List DefinedSum) (s : DefinedSum) (c : Constraint) (t : Task) → All (λ i. i < length m.variables + length ss) (subjects_of t) → Means m ss c t → Means m (ss ++ s ∷ []) c t
Means-later m ss s c t h k = record {
  holds = λ a long.
      (let inside : All (λ i. i < length a + length ss) (subjects_of t) = rw long h in
      let same = later_holds ss s a t inside in
      let old = k.holds a long in
      ((λ w. old.0 (same.0 w)), (λ w. same.1 (old.1 w))));
  stays = k.stays;
}

pub IsListTask-later : (m : CpModel) (ss : List DefinedSum) (s : DefinedSum) (t : Task) → All (λ i. i < length m.variables + length ss) (subjects_of t) → IsListTask m ss t → IsListTask m (ss ++ s ∷ []) t
IsListTask-later m ss s t h k = record {
  holds = λ a long.
      (let inside : All (λ i. i < length a + length ss) (subjects_of t) = rw long h in
      let same = later_holds ss s a t inside in
      let old = k.holds a long in
      ((λ w. old.0 (same.0 w)), (λ w. same.1 (old.1 w))));
  stays = k.stays;
}

pub IsCutTask-later : (m : CpModel) (ss : List DefinedSum) (s : DefinedSum) (t : Task) → All (λ i. i < length m.variables + length ss) (subjects_of t) → IsCutTask m ss t → IsCutTask m (ss ++ s ∷ []) t
IsCutTask-later m ss s t h k =
    let own : All (λ i. i < length m.variables + length ss) (term_subjects k.terms) = subst (λ (u : Task). All (λ i. i < length m.variables + length ss) (subjects_of u)) k.is h in
    record {
      terms = k.terms;
      is = k.is;
      value = λ a long.
          (let inside : All (λ i. i < length (extended ss a)) (term_subjects k.terms) = rw (length-extended ss a, long) own in
          ap (λ xs. terms_value xs k.terms) (extended-push ss s a)
          ∙ sym (terms_value-agree (extended ss a) (extended ss a ++ sum_value (extended ss a) s ∷ []) k.terms (All-weaker (λ (i : ℕ). i < length (extended ss a)) (AgreeAt (extended ss a) (extended ss a ++ sum_value (extended ss a) s ∷ [])) (agree-append (extended ss a) (sum_value (extended ss a) s ∷ [])) (term_subjects k.terms) inside))
          ∙ k.value a long);
    }
