-- Where all is fixed and each two spans are allowed, the spans do not overlap.
use Rattle.std.specs.Prelude.{IsTrue}
use Rattle.std.specs.List.{All, AllZip, list_all}
use Rattle.std.proofs.Common.{◌≡◌, ℕ, zero, suc, ◌<◌, ◌≤ℤ◌, ◌⊎◌, inl, inr, ℤ, Bool, true, false, List, [], ◌∷◌, ◌++◌, ◌+◌, ◌∙◌, take, append_assoc, append-nil, length, get_or, refl, sym, ap, subst, arith}
use Rattle.std.proofs.lemmas.List.{take_more}
use Rattle.std.proofs.lemmas.Int.{ints}
use Rattle.std.proofs.lemmas.List.Elements.{All-head, All-tail, All-nil, All-cons}
use Rattle.cps_domain.proofs.Tests.{first_of_both, second_of_both}
use Rattle.cps_literal.specs.declared.atom.Atom.{Atom}
use Rattle.cps_literal.specs.Truth.{value_at, atom_holds, meets}
use Rattle.cps_instance.specs.declared.task.Span.{Span}
use Rattle.cps_instance.specs.declared.task.Body.TheVariants.{NoOverlap}
use Rattle.cps_instance.specs.Terms.{Domains}
use Rattle.cps_instance.specs.Tasks.{atom_subjects, subjects_of_span, span_subjects}
use Rattle.cps_instance.proofs.Agreeing.{All-append_left, All-append_right}
use Rattle.cps_trail.specs.Trail.{Trail, IsTrueNow}
use Rattle.cps_propagate.specs.Now.{IsOpenTo, IsFixedNow, AreOpen}
use Rattle.cps_rule.specs.Rules.{IsAtRest, IsFittingRule}
use Rattle.cps_p_span.specs.declared.seen.Seen.{Seen}
use Rattle.cps_p_span.specs.Spans.{start_at, end_at, is_present, IsBefore, AreSpans, IsSpanSeen, AreSeen, AreAllowed, ArePairsSettled, no_seen}
use Rattle.cps_p_span.proofs.Apart.{no_overlap}
use Rattle.cps_p_span.proofs.Timing.{zip_at}
use Rattle.cps_p_span.proofs.Settling.{strong_of}

pub of_span : (P : ℕ → Type 0) (ps : List Span) (k : ℕ) (d : Span) → k < length ps → All P (span_subjects ps) → All P (subjects_of_span (get_or ps k d))
of_span P [] k d l h = absurd (omega arith)
of_span P (p ∷ ps) zero d l h = All-append_left P (subjects_of_span p) (span_subjects ps) h
of_span P (p ∷ ps) (suc k) d l h = of_span P ps k d (omega arith) (All-append_right P (subjects_of_span p) (span_subjects ps) h)

pub of_atoms : (P : ℕ → Type 0) (us : List Atom) → All P (atom_subjects us) → All (λ u. P u.subject) us
of_atoms P [] h = All-nil (λ u. P u.subject)
of_atoms P (u ∷ us) h = All-cons (λ v. P v.subject) u us (All-head P u.subject (atom_subjects us) h) (of_atoms P us (All-tail P u.subject (atom_subjects us) h))

pub of_presence : (P : ℕ → Type 0) (p : Span) → All P (subjects_of_span p) → All (λ u. P u.subject) p.presence
of_presence P p h = of_atoms P p.presence (All-tail P p.end (atom_subjects p.presence) (All-tail P p.start (p.end ∷ atom_subjects p.presence) h))

-- an atom that holds at the one value that is left is true
true_of : (s : Trail) (xs : List ℤ) (us : List Atom) → All (λ u. IsFixedNow s u.subject) us → All (λ u. IsOpenTo s u.subject (value_at xs u.subject)) us → list_all (atom_holds xs) us ≡ true → All (IsTrueNow s) us
true_of s xs [] f o h = All-nil (IsTrueNow s)
true_of s xs (u ∷ us) f o h =
    All-cons (IsTrueNow s) u us
    (λ x q. subst (λ (v : ℤ). meets u.op u.value v ≡ true) (All-head (λ w. IsFixedNow s w.subject) u us f (value_at xs u.subject) x (All-head (λ w. IsOpenTo s w.subject (value_at xs w.subject)) u us o) q) (first_of_both (atom_holds xs u) (list_all (atom_holds xs) us) h))
    (true_of s xs us (All-tail (λ w. IsFixedNow s w.subject) u us f) (All-tail (λ w. IsOpenTo s w.subject (value_at xs w.subject)) u us o) (second_of_both (atom_holds xs u) (list_all (atom_holds xs) us) h))

module _ (s : Trail) (ps : List Span) (vs : List Seen) (seen : AllZip (IsSpanSeen s) ps vs) (fixed : All (IsFixedNow s) (span_subjects ps)) (xs : List ℤ) (opened : AreOpen s xs (span_subjects ps)) where
  module _ (k : ℕ) (d : Span) (l : k < length ps) where
    p : Span
    p = get_or ps k d

    fixed_here : All (IsFixedNow s) (subjects_of_span (get_or ps k d))
    fixed_here = of_span (IsFixedNow s) ps k d l fixed

    open_here : All (λ i. IsOpenTo s i (value_at xs i)) (subjects_of_span (get_or ps k d))
    open_here = of_span (λ i. IsOpenTo s i (value_at xs i)) ps k d l opened

    here : IsSpanSeen s (get_or ps k d) (get_or vs k no_seen)
    here = zip_at (IsSpanSeen s) ps vs k d no_seen seen l

    pub start_fixed : (get_or vs k no_seen).times.start_high ≤ℤ start_at xs (get_or ps k d)
    start_fixed = here.times.start_fixed (fixed_here 0 0 (omega arith)) (start_at xs (get_or ps k d)) (open_here 0 0 (omega arith))

    pub end_fixed : end_at xs (get_or ps k d) ≤ℤ (get_or vs k no_seen).times.end_low
    end_fixed = here.times.end_fixed (fixed_here 0 0 (omega arith)) (fixed_here 1 0 (omega arith)) (start_at xs (get_or ps k d)) (value_at xs (get_or ps k d).end) (open_here 0 0 (omega arith)) (open_here 1 0 (omega arith))

    pub sure : is_present xs (get_or ps k d) ≡ true → IsTrue (get_or vs k no_seen).presence.sure
    sure h = by_test (get_or vs k no_seen).presence.sure refl
      where
        by_test : (b : Bool) → (get_or vs k no_seen).presence.sure ≡ b → (get_or vs k no_seen).presence.sure ≡ true
        by_test true e = e
        by_test false e = absurd (here.presence.unsure e (true_of s xs (get_or ps k d).presence (of_presence (IsFixedNow s) (get_or ps k d) fixed_here) (of_presence (λ i. IsOpenTo s i (value_at xs i)) (get_or ps k d) open_here) h))

  pub apart_fixed : AreAllowed vs (length ps) → (i j : ℕ) (d : Span) → i < j → j < length ps → is_present xs (get_or ps i d) ≡ true → is_present xs (get_or ps j d) ≡ true → IsBefore xs (get_or ps i d) (get_or ps j d) ⊎ IsBefore xs (get_or ps j d) (get_or ps i d)
  apart_fixed allowed i j d l m e f =
      let li : i < length ps = omega arith in
      let a = start_fixed i d li in
      let b = end_fixed i d li in
      let g = start_fixed j d m in
      let h = end_fixed j d m in
      elim (allowed i j l m (sure j d m f) (sure i d li e)) [ inl q ↦ inr (omega (arith, ints)) | inr q ↦ inl (omega (arith, ints)) ]

pub at_rest : (s : Trail) (ps : List Span) (vs : List Seen) → AreSeen s ps vs → AreAllowed vs (length ps) → ArePairsSettled s ps vs (length ps) → IsAtRest (NoOverlap ps) s
at_rest s ps vs are allowed settled = record { decided = λ fixed xs opened. no_overlap xs ps (apart_fixed s ps vs are.seen fixed xs opened allowed); strong = strong_of s ps vs are allowed settled }

-- what fits is a list of spans
pub are_spans : (first : Domains) (ps : List Span) → IsFittingRule first (NoOverlap ps) → AreSpans first ps
are_spans first ps h = λ k d l.
    let a = of_span (λ i. i < length first) ps k d l h.subjects in
    record { start = a 0 0 (omega arith); end = a 1 0 (omega arith); presence = of_presence (λ i. i < length first) (get_or ps k d) a; literals = h.body k d l }

span_subjects-append : (ps qs : List Span) → span_subjects (ps ++ qs) ≡ span_subjects ps ++ span_subjects qs
span_subjects-append [] qs = refl
span_subjects-append (p ∷ ps) qs = ap (λ (l : List ℕ). subjects_of_span p ++ l) (span_subjects-append ps qs) ∙ sym (append_assoc (subjects_of_span p) (span_subjects ps) (span_subjects qs))

-- the subjects of one more span
pub more_subjects : (old a b c d : List ℕ) (ps : List Span) (k : ℕ) (p : Span) → k < length ps → p ≡ get_or ps k p → a ≡ old ++ span_subjects (take k ps) → b ≡ a ++ p.start ∷ [] → c ≡ b ++ p.end ∷ [] → d ≡ c ++ atom_subjects p.presence → d ≡ old ++ span_subjects (take (k + 1) ps)
more_subjects old a b c d ps k p l same ea eb ec ed =
    let more : span_subjects (take (k + 1) ps) ≡ span_subjects (take k ps) ++ span_subjects (p ∷ []) =
    ap span_subjects (take_more ps k p l) ∙ ap (λ (q : Span). span_subjects (take k ps ++ q ∷ [])) (sym same) ∙ span_subjects-append (take k ps) (p ∷ []) in
    let whole : d ≡ (((old ++ span_subjects (take k ps)) ++ p.start ∷ []) ++ p.end ∷ []) ++ atom_subjects p.presence = cc in
    rw more (whole ∙ simp (append_assoc, append-nil))
