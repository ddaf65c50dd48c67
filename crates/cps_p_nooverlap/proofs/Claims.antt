-- What was cited of spans in a window gives.
use Rattle.std.specs.List.{sum, All, Contains}
use Rattle.std.proofs.Common.{◌≡◌, ◌<◌, ◌≤ℤ◌, ◌<ℤ◌, ◌+ℤ◌, ℕ, ℤ, pos, Bool, true, false, List, [], length, get_or, refl, sym, ◌∙◌, subst, arith}
use Rattle.std.proofs.lemmas.Int.{ints}
use Rattle.std.proofs.lemmas.List.{get_or_default}
use Rattle.std.proofs.lemmas.List.Elements.{All-nil, All-contains_itself}
use Rattle.cps_model.specs.Scheduling.{IsNoOverlap}
use Rattle.cps_literal.specs.declared.atom.Atom.{Atom}
use Rattle.cps_literal.specs.Truth.{value_at, atom_holds}
use Rattle.cps_instance.specs.declared.task.Span.{Span}
use Rattle.cps_instance.specs.declared.task.Body.TheVariants.{NoOverlap}
use Rattle.cps_instance.specs.Parts.{span_runs}
use Rattle.cps_trail.specs.Trail.{Trail, IsAdmitted}
use Rattle.cps_rule.specs.Rules.{IsFact, AreFacts, AllTrueAt, IsGiven, IsImpossible, IsExplained, IsRefuted}
use Rattle.cps_p_nooverlap.specs.declared.edge_finding.Edge.{Edge}
use Rattle.cps_p_nooverlap.specs.declared.crowd.Ends.TheVariants.{Both, Start, End}
use Rattle.cps_p_span.specs.Citing.{Cites}
use Rattle.cps_p_span.specs.Spans.{is_present, IsSpan, AreSpans, SaysOfTimes}
use Rattle.cps_p_nooverlap.specs.Crowds.{near_at, far_at, LastsAt, AreRuns, IsUncounted, IsCrowd, StartsFrom, StartsBeforeUnless, IsAboutOne, IsReasoned}
use Rattle.cps_p_span.proofs.Citing.{says_within, of_span, of_presence}
use Rattle.cps_p_nooverlap.proofs.Crowding.{comes_after_all, comes_after_one, comes_after}
use Rattle.cps_instance.specs.Tasks.{atom_subjects, subjects_of_span, span_subjects}
use Rattle.cps_propagate.proofs.Speaking.{speaks_none}

-- the subjects of a span that is read at a place of a list are among those of all
pub span_own : (ps : List Span) (k : ℕ) → k < length ps → (q : Span) → q ≡ get_or ps k q → (js : List ℕ) → All (Contains js) (span_subjects ps) → All (Contains js) (subjects_of_span q)
span_own ps k l q is js all = subst (λ (p : Span). All (Contains js) (subjects_of_span p)) (sym is) (of_span (Contains js) ps k q l all)

-- a span, which is read at a place of a list
module _ (ps : List Span) (p : ℕ) (l : p < length ps) (q : Span) (is : q ≡ get_or ps p q) where
  place_is : (e : Span) → q ≡ get_or ps p e
  place_is e = is ∙ get_or_default ps p q e l

  everywhere : (xs : List ℤ) (d : Span) → is_present xs (get_or ps p d) ≡ true → (e : Span) → is_present xs (get_or ps p e) ≡ true
  everywhere xs d h e = subst (λ (u : Span). is_present xs u ≡ true) (get_or_default ps p d e l) h

  module _ (s : Trail) (r : Bool) (a b d : List Atom) (ws : List ℕ) (m : ℕ) (i : IsUncounted (length ps) ws p m) where
    much : 0 < sum ws
    much = let k = i.count.is in let o = i.count.some in omega arith

    pub cites_precedences : (from to edge time : ℤ) → to <ℤ edge → time ≤ℤ (from +ℤ pos m) → Cites s (subjects_of_span q) a b (λ xs. edge ≤ℤ far_at r xs q) → Cites s (span_subjects ps) b d (λ xs. AreRuns Start r xs ps ws from to) → Cites s (span_subjects ps) a d (λ xs. StartsFrom r xs ps p time)
    cites_precedences from to edge time late reached x y = record {
      facts = λ h. y.facts (x.facts h);
      kept = λ xs h. x.kept xs (y.kept xs h);
      about = λ js all before. y.about js all (x.about js (span_own ps p l q is js all) before);
      gives = λ xs h e o t.
          let k = x.gives xs (y.kept xs h) in
          comes_after_all r xs ps p l (everywhere xs e t) o ws from to time e i.count.each i.aside (y.gives xs h)
          (λ f. subst (λ (u : Span). to <ℤ far_at r xs u) (place_is f) (omega (arith, ints))) much (let n = i.count.is in omega (arith, ints));
    }

    pub cites_not_first : (to edge time : ℤ) → to <ℤ (edge +ℤ pos m) → Cites s (subjects_of_span q) a b (λ xs. edge ≤ℤ far_at r xs q) → Cites s (span_subjects ps) b d (λ xs. AreRuns End r xs ps ws time to) → Cites s (span_subjects ps) a d (λ xs. StartsFrom r xs ps p time)
    cites_not_first to edge time full x y = record {
      facts = λ h. y.facts (x.facts h);
      kept = λ xs h. x.kept xs (y.kept xs h);
      about = λ js all before. y.about js all (x.about js (span_own ps p l q is js all) before);
      gives = λ xs h e o t.
          let k = x.gives xs (y.kept xs h) in
          comes_after_one r xs ps p l (everywhere xs e t) o ws edge to time e i.count.each i.aside (y.gives xs h)
          (λ f. subst (λ (u : Span). edge ≤ℤ far_at r xs u) (place_is f) k) much (let n = i.count.is in omega (arith, ints));
    }

module _ (ps : List Span) (whole part : List ℕ) (c : Edge) (m : ℕ) (q : Span) (i : IsCrowd (length ps) whole part c m) (is : q ≡ get_or ps c.pushed.place q) (s : Trail) (r : Bool) (a b d f : List Atom) where
  pub cites_edge : c.pushed.time ≤ℤ (c.edge +ℤ pos m) → Cites s (subjects_of_span q) a b (λ xs. LastsAt xs q c.weight × (c.from ≤ℤ near_at r xs q)) → Cites s (span_subjects ps) b d (λ xs. AreRuns Both r xs ps whole c.from c.to) → Cites s (span_subjects ps) d f (λ xs. AreRuns Both r xs ps part c.edge c.to)
      → Cites s (span_subjects ps) a f (λ xs. StartsFrom r xs ps c.pushed.place c.pushed.time)
  cites_edge reached x y z = record {
    facts = λ h. z.facts (y.facts (x.facts h));
    kept = λ xs h. x.kept xs (y.kept xs (z.kept xs h));
    about = λ js all before. z.about js all (y.about js all (x.about js (span_own ps c.pushed.place i.place q is js all) before));
    gives = λ xs h e o t.
        let k = x.gives xs (y.kept xs (z.kept xs h)) in
        comes_after r xs ps c.pushed.place i.place (everywhere ps c.pushed.place i.place q is xs e t) o whole c.weight c.from c.to i.every i.aside i.takes i.full (y.gives xs (z.kept xs h))
        (λ g. subst (λ (u : Span). LastsAt xs u c.weight) (place_is ps c.pushed.place i.place q is g) k.0)
        (λ g. subst (λ (u : Span). c.from ≤ℤ near_at r xs u) (place_is ps c.pushed.place i.place q is g) k.1)
        part c.edge c.pushed.time e i.late.each i.aside_too (z.gives xs h) (let n = i.late.is in let j = i.late.some in omega arith) (let n = i.late.is in omega (arith, ints));
  }

-- a present span's own atom, of what holds of it
pub reasoned_bound : (s : Trail) (ps : List Span) (old mid us : List Atom) (k : ℕ) (r : Bool) (time : ℤ) (q : Span) (u : Atom) → AreSpans s.first ps → k < length ps → q ≡ get_or ps k q → old ≡ [] → Cites s (span_subjects ps) old mid (λ xs. StartsFrom r xs ps k time)
    → Cites s (atom_subjects q.presence) mid us (λ xs. is_present xs q ≡ true) → SaysOfTimes q u (λ xs. time ≤ℤ near_at r xs q) → IsReasoned s ps us u
reasoned_bound s ps old mid us k r time q u are l is none c present says = record {
  subject = says_within s.first q u (λ xs. time ≤ℤ near_at r xs q) (subst (λ (p : Span). IsSpan s.first p) (sym is) (are k q l)) says;
  cites = subst (λ (vs : List Atom). Cites s (span_subjects ps) vs us (λ xs. IsNoOverlap (span_runs xs ps) → atom_holds xs u ≡ true)) none (record {
    facts = λ h. present.facts (c.facts h);
    kept = λ xs h. c.kept xs (present.kept xs h);
    about = λ js all before. present.about js (of_presence q q.presence refl js (span_own ps k l q is js all)) (c.about js all before);
    gives = λ xs h o. says.said xs (subst (λ (p : Span). time ≤ℤ near_at r xs p) (sym is) (c.gives xs (present.kept xs h) q o (subst (λ (p : Span). is_present xs p ≡ true) is (present.gives xs h))));
  });
}

holds_or : (t : Bool) → (t ≡ false → ⊥) → t ≡ true
holds_or true h = refl
holds_or false h = absurd (h refl)

-- one of the presence atoms of a span that would start too late
pub reasoned_absence : (s : Trail) (ps : List Span) (old mid us : List Atom) (k : ℕ) (r : Bool) (time : ℤ) (q : Span) (u : Atom) → AreSpans s.first ps → k < length ps → q ≡ get_or ps k q → old ≡ [] → Cites s (span_subjects ps) old mid (λ xs. StartsFrom r xs ps k time)
    → Cites s (subjects_of_span q) mid us (λ xs. StartsBeforeUnless r xs q time u) → IsAboutOne q.presence u → IsReasoned s ps us u
reasoned_absence s ps old mid us k r time q u are l is none c early about = record {
  subject = (let h = (subst (λ (p : Span). IsSpan s.first p) (sym is) (are k q l)).presence in let j = h about.place u about.inside in let e = about.about u in omega (arith, e));
  cites = subst (λ (vs : List Atom). Cites s (span_subjects ps) vs us (λ xs. IsNoOverlap (span_runs xs ps) → atom_holds xs u ≡ true)) none (record {
    facts = λ h. early.facts (c.facts h);
    kept = λ xs h. c.kept xs (early.kept xs h);
    about = λ js all before. early.about js (span_own ps k l q is js all) (c.about js all before);
    gives = λ xs h o. holds_or (atom_holds xs u) (λ f. late xs h o (early.gives xs h f));
  });
}
  where
    late : (xs : List ℤ) → AllTrueAt xs us → IsNoOverlap (span_runs xs ps) → (is_present xs q ≡ true) × (near_at r xs q <ℤ time) → ⊥
    late xs h o e =
        let from = subst (λ (p : Span). time ≤ℤ near_at r xs p) (sym is) (c.gives xs (early.kept xs h) q o (subst (λ (p : Span). is_present xs p ≡ true) is e.0)) in
        let to = e.1 in
        absurd (omega (arith, ints))

facts_hold : (s : Trail) (us : List Atom) (xs : List ℤ) → AreFacts s us → IsAdmitted s.first s.entries xs → AllTrueAt xs us
facts_hold s us xs h o = λ k d l. (h k d l).true_now (value_at xs (get_or us k d).subject) (o (get_or us k d).subject (h k d l).subject)

pub given_reasoned : (s : Trail) (ps : List Span) (us : List Atom) (u : Atom) → IsReasoned s ps us u → IsGiven (NoOverlap ps) s u
given_reasoned s ps us u r = record { subject = r.subject; at = λ xs o h. r.cites.gives xs (facts_hold s us xs (r.cites.facts (All-nil (IsFact s))) o) h }

pub impossible_cited : (s : Trail) (ps : List Span) (us : List Atom) → Cites s (span_subjects ps) [] us (λ xs. IsNoOverlap (span_runs xs ps) → ⊥) → IsImpossible (NoOverlap ps) s
impossible_cited s ps us c = record { at = λ xs o h. c.gives xs (facts_hold s us xs (c.facts (All-nil (IsFact s))) o) h }

-- what facts give of spans explains an atom of the body
pub spans_explained : (s : Trail) (ps qs : List Span) → qs ≡ ps → (u : Atom) (us : List Atom) → Cites s (span_subjects qs) [] us (λ xs. IsNoOverlap (span_runs xs qs) → atom_holds xs u ≡ true) → IsExplained (NoOverlap ps) s u us
spans_explained s ps qs same u us h = explained (subst (λ (rs : List Span). Cites s (span_subjects rs) [] us (λ xs. IsNoOverlap (span_runs xs rs) → atom_holds xs u ≡ true)) same h)
  where
    explained : Cites s (span_subjects ps) [] us (λ xs. IsNoOverlap (span_runs xs ps) → atom_holds xs u ≡ true) → IsExplained (NoOverlap ps) s u us
    explained g = record {
      facts = g.facts (All-nil (IsFact s));
      speaks = g.about (span_subjects ps) (All-contains_itself (span_subjects ps)) (speaks_none (span_subjects ps));
      gives = λ xs w f o. g.gives xs f o;
    }

-- or that it cannot hold
pub spans_refuted : (s : Trail) (ps qs : List Span) → qs ≡ ps → (us : List Atom) → Cites s (span_subjects qs) [] us (λ xs. IsNoOverlap (span_runs xs qs) → ⊥) → IsRefuted (NoOverlap ps) s us
spans_refuted s ps qs same us h = refuted (subst (λ (rs : List Span). Cites s (span_subjects rs) [] us (λ xs. IsNoOverlap (span_runs xs rs) → ⊥)) same h)
  where
    refuted : Cites s (span_subjects ps) [] us (λ xs. IsNoOverlap (span_runs xs ps) → ⊥) → IsRefuted (NoOverlap ps) s us
    refuted g = record {
      facts = g.facts (All-nil (IsFact s));
      speaks = g.about (span_subjects ps) (All-contains_itself (span_subjects ps)) (speaks_none (span_subjects ps));
      excludes = λ xs w f o. g.gives xs f o;
    }
