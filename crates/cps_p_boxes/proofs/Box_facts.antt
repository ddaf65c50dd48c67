-- Facts by which two boxes give what they give.
use Rattle.std.specs.List.{All, Contains, list_all}
use Rattle.std.proofs.Common.{◌≡◌, ◌++◌, ◌≤ℤ◌, ◌<ℤ◌, ℕ, ℤ, Bool, true, false, List, [], length, get_or, refl, sym, ◌∙◌, subst, arith}
use Rattle.std.proofs.lemmas.Int.{ints}
use Rattle.std.proofs.lemmas.List.{get_or_default}
use Rattle.std.proofs.lemmas.List.Elements.{All-nil, All-append, All-contains_itself}
use Rattle.cps_instance.proofs.Agreeing.{All-append_left, All-append_right}
use Rattle.cps_instance.specs.Tasks.{atom_subjects, subjects_of_span, span_subjects}
use Rattle.cps_propagate.specs.Reasons.{SpeaksOf}
use Rattle.cps_propagate.proofs.Speaking.{speaks_none}
use Rattle.cps_p_span.proofs.Citing.{cites_among, cites_as, of_span, of_presence}
use Rattle.cps_literal.specs.declared.atom.Atom.{Atom}
use Rattle.cps_literal.specs.Truth.{atom_holds}
use Rattle.cps_instance.specs.declared.task.Span.{Span}
use Rattle.cps_instance.specs.declared.task.Body.TheVariants.{NoOverlap2d}
use Rattle.cps_trail.specs.Trail.{Trail}
use Rattle.cps_rule.specs.Rules.{IsFact, AreFacts, IsExplained, IsRefuted}
use Rattle.cps_p_span.specs.declared.pairs.Pair.{Pair}
use Rattle.cps_p_span.specs.Citing.{Cites}
use Rattle.cps_p_span.specs.Spans.{start_at, end_at, is_present, IsBefore, SaysOfTimes, IsPair, ClashesAt}
use Rattle.cps_p_boxes.specs.Boxes.{AreBoxes, ArePresent, AreDisjoint, OrdersBoxes}
use Rattle.cps_p_boxes.proofs.Boxing.{first_of, none_of, no_span, kept_of}

-- what is read at two places of a list
module _ (ps : List Span) (pair : Pair) (p : IsPair (length ps) pair) (x y : Span) (is-x : x ≡ get_or ps pair.before x) (is-y : y ≡ get_or ps pair.after y) where
  before_is : (f : Span) → x ≡ get_or ps pair.before f
  before_is f = is-x ∙ get_or_default ps pair.before x f p.before

  after_is : (f : Span) → y ≡ get_or ps pair.after f
  after_is f = is-y ∙ get_or_default ps pair.after y f p.after

  own_x : (is : List ℕ) → All (Contains is) (span_subjects ps) → All (Contains is) (subjects_of_span x)
  own_x is all = subst (λ (q : Span). All (Contains is) (subjects_of_span q)) (sym is-x) (of_span (Contains is) ps pair.before x p.before all)

  own_y : (is : List ℕ) → All (Contains is) (span_subjects ps) → All (Contains is) (subjects_of_span y)
  own_y is all = subst (λ (q : Span). All (Contains is) (subjects_of_span q)) (sym is-y) (of_span (Contains is) ps pair.after y p.after all)

  both_xy : (is : List ℕ) → All (Contains is) (span_subjects ps) → All (Contains is) (subjects_of_span x ++ subjects_of_span y)
  both_xy is all = All-append (Contains is) (subjects_of_span x) (subjects_of_span y) (own_x is all) (own_y is all)

  both_yx : (is : List ℕ) → All (Contains is) (span_subjects ps) → All (Contains is) (subjects_of_span y ++ subjects_of_span x)
  both_yx is all = All-append (Contains is) (subjects_of_span y) (subjects_of_span x) (own_y is all) (own_x is all)

  present_of : (xs : List ℤ) → is_present xs x ≡ true → is_present xs y ≡ true → (d : Span) → ArePresent xs ps pair d
  present_of xs a b d = record { before = subst (λ (q : Span). is_present xs q ≡ true) (before_is d) a; after = subst (λ (q : Span). is_present xs q ≡ true) (after_is d) b }

  late_of : (xs : List ℤ) → start_at xs x <ℤ end_at xs y → (d : Span) → start_at xs (get_or ps pair.before d) <ℤ end_at xs (get_or ps pair.after d)
  late_of xs l d = subst (λ (q : Span). start_at xs q <ℤ end_at xs (get_or ps pair.after d)) (before_is d) (subst (λ (q : Span). start_at xs x <ℤ end_at xs q) (after_is d) l)

  in_order : (xs : List ℤ) → IsBefore xs (get_or ps pair.before x) (get_or ps pair.after x) → end_at xs x ≤ℤ start_at xs y
  in_order xs o = subst (λ (q : Span). end_at xs q ≤ℤ start_at xs y) (sym (before_is x)) (subst (λ (q : Span). end_at xs (get_or ps pair.before x) ≤ℤ start_at xs q) (sym (after_is x)) o)

  pub cites_first : (qs : List Span) → AreBoxes ps qs pair → (s : Trail) (a b c e : List Atom) → Cites s (span_subjects ps ++ span_subjects qs) a b (λ xs. (d : Span) → ArePresent xs ps pair d × ArePresent xs qs pair d) → Cites s (span_subjects qs) b c (λ xs. ClashesAt xs qs pair) → Cites s (subjects_of_span y ++ subjects_of_span x) c e (λ xs. start_at xs x <ℤ end_at xs y)
      → Cites s (span_subjects ps ++ span_subjects qs) a e (λ xs. OrdersBoxes xs ps qs pair)
  cites_first qs boxes s a b c e f g h = record {
    facts = λ q. h.facts (g.facts (f.facts q));
    kept = λ xs q. f.kept xs (g.kept xs (h.kept xs q));
    about = λ is all before. h.about is (both_yx is (All-append_left (Contains is) (span_subjects ps) (span_subjects qs) all)) (g.about is (All-append_right (Contains is) (span_subjects ps) (span_subjects qs) all) (f.about is all before));
    gives = λ xs q d o.
        let there = f.gives xs (g.kept xs (h.kept xs q)) d in
        first_of xs ps qs pair d boxes there.0 there.1 (g.gives xs (h.kept xs q)) (late_of xs (h.gives xs q) d) o;
  }

  pub cites_start : (qs : List Span) (s : Trail) (a b c : List Atom) (u target : Atom) (time : ℤ) → u ≡ target → SaysOfTimes y u (λ ys. time ≤ℤ start_at ys y) → Cites s (span_subjects ps ++ span_subjects qs) a b (λ xs. OrdersBoxes xs ps qs pair) → Cites s (subjects_of_span x) b c (λ xs. time ≤ℤ end_at xs x)
      → Cites s (span_subjects ps ++ span_subjects qs) a c (λ xs. AreDisjoint xs ps qs → atom_holds xs target ≡ true)
  cites_start qs s a b c u target time same says f g = record {
    facts = λ h. g.facts (f.facts h);
    kept = λ xs h. f.kept xs (g.kept xs h);
    about = λ is all before. g.about is (own_x is (All-append_left (Contains is) (span_subjects ps) (span_subjects qs) all)) (f.about is all before);
    gives = λ xs h o. (let k = in_order xs (f.gives xs (g.kept xs h) x o) in let l = g.gives xs h in subst (λ (v : Atom). atom_holds xs v ≡ true) same (says.said xs (omega (arith, ints))));
  }

  pub cites_end : (qs : List Span) (s : Trail) (a b c : List Atom) (u target : Atom) (time : ℤ) → u ≡ target → SaysOfTimes x u (λ ys. end_at ys x ≤ℤ time) → Cites s (span_subjects ps ++ span_subjects qs) a b (λ xs. OrdersBoxes xs ps qs pair) → Cites s (subjects_of_span y) b c (λ xs. start_at xs y ≤ℤ time)
      → Cites s (span_subjects ps ++ span_subjects qs) a c (λ xs. AreDisjoint xs ps qs → atom_holds xs target ≡ true)
  cites_end qs s a b c u target time same says f g = record {
    facts = λ h. g.facts (f.facts h);
    kept = λ xs h. f.kept xs (g.kept xs h);
    about = λ is all before. g.about is (own_y is (All-append_left (Contains is) (span_subjects ps) (span_subjects qs) all)) (f.about is all before);
    gives = λ xs h o. (let k = in_order xs (f.gives xs (g.kept xs h) x o) in let l = g.gives xs h in subst (λ (v : Atom). atom_holds xs v ≡ true) same (says.said xs (omega (arith, ints))));
  }

-- two boxes are present where their spans are in both directions
pub cites_boxes : (ps qs : List Span) (pair : Pair) (p : AreBoxes ps qs pair) (x y z w : Span) → x ≡ get_or ps pair.before x → y ≡ get_or ps pair.after y → z ≡ get_or qs pair.before z → w ≡ get_or qs pair.after w → (s : Trail) (a b c : List Atom)
    → Cites s (subjects_of_span x ++ subjects_of_span y) a b (λ xs. (is_present xs x ≡ true) × (is_present xs y ≡ true)) → Cites s (subjects_of_span z ++ subjects_of_span w) b c (λ xs. (is_present xs z ≡ true) × (is_present xs w ≡ true)) → Cites s (span_subjects ps ++ span_subjects qs) a c (λ xs. (d : Span) → ArePresent xs ps pair d × ArePresent xs qs pair d)
cites_boxes ps qs pair p x y z w is-x is-y is-z is-w s a b c f g = record {
  facts = λ h. g.facts (f.facts h);
  kept = λ xs h. f.kept xs (g.kept xs h);
  about = λ is all before. g.about is (both_xy qs pair p.across z w is-z is-w is (All-append_right (Contains is) (span_subjects ps) (span_subjects qs) all)) (f.about is (both_xy ps pair p.along x y is-x is-y is (All-append_left (Contains is) (span_subjects ps) (span_subjects qs) all)) before);
  gives = λ xs h d.
      let one = f.gives xs (g.kept xs h) in
      let other = g.gives xs h in
      (present_of ps pair p.along x y is-x is-y xs one.0 one.1 d, present_of qs pair p.across z w is-z is-w xs other.0 other.1 d);
}

pub cites_refuted : (ps qs : List Span) (pair : Pair) (p : AreBoxes ps qs pair) (s : Trail) (a b c : List Atom) → Cites s (span_subjects ps ++ span_subjects qs) a b (λ xs. (e : Span) → ArePresent xs ps pair e × ArePresent xs qs pair e) → Cites s (span_subjects ps ++ span_subjects qs) b c (λ xs. ClashesAt xs ps pair × ClashesAt xs qs pair) → Cites s (span_subjects ps ++ span_subjects qs) a c (λ xs. AreDisjoint xs ps qs → ⊥)
cites_refuted ps qs pair p s a b c f g = record {
  facts = λ h. g.facts (f.facts h);
  kept = λ xs h. f.kept xs (g.kept xs h);
  about = λ is all before. g.about is all (f.about is all before);
  gives = λ xs h o. (let there = f.gives xs (g.kept xs h) no_span in let k = g.gives xs h in none_of xs ps qs pair no_span p there.0 there.1 k.0 k.1 o);
}

by_false : (t : Bool) → (t ≡ false → ⊥) → t ≡ true
by_false true h = refl
by_false false h = absurd (h refl)

pub cites_absence : (ps qs : List Span) (pair : Pair) (p : AreBoxes ps qs pair) (x y z w : Span) → x ≡ get_or ps pair.before x → y ≡ get_or ps pair.after y → z ≡ get_or qs pair.before z → w ≡ get_or qs pair.after w → (us vs : List Atom) (target : Atom) → us ≡ x.presence → vs ≡ z.presence → (s : Trail) (a b c d e : List Atom)
    → Cites s (atom_subjects us) a b (λ xs. atom_holds xs target ≡ false → list_all (atom_holds xs) us ≡ true) → Cites s (atom_subjects vs) b c (λ xs. atom_holds xs target ≡ false → list_all (atom_holds xs) vs ≡ true)
    → Cites s (subjects_of_span y ++ subjects_of_span w) c d (λ xs. (is_present xs y ≡ true) × (is_present xs w ≡ true)) → Cites s (span_subjects ps ++ span_subjects qs) d e (λ xs. ClashesAt xs ps pair × ClashesAt xs qs pair) → Cites s (span_subjects ps ++ span_subjects qs) a e (λ xs. AreDisjoint xs ps qs → atom_holds xs target ≡ true)
cites_absence ps qs pair p x y z w is-x is-y is-z is-w us vs target is-us is-vs s a b c d e f g h i = record {
  facts = λ q. i.facts (h.facts (g.facts (f.facts q)));
  kept = λ xs q. f.kept xs (g.kept xs (h.kept xs (i.kept xs q)));
  about = λ is all before.
      let left = All-append_left (Contains is) (span_subjects ps) (span_subjects qs) all in
      let right = All-append_right (Contains is) (span_subjects ps) (span_subjects qs) all in
      i.about is all (h.about is (All-append (Contains is) (subjects_of_span y) (subjects_of_span w) (own_y ps pair p.along x y is-x is-y is left) (own_y qs pair p.across z w is-z is-w is right))
      (g.about is (of_presence z vs is-vs is (own_x qs pair p.across z w is-z is-w is right)) (f.about is (of_presence x us is-us is (own_x ps pair p.along x y is-x is-y is left)) before)));
  gives = λ xs q o. by_false (atom_holds xs target) (λ n.
      let q3 = i.kept xs q in
      let q2 = h.kept xs q3 in
      let q1 = g.kept xs q2 in
      let one = subst (λ (bs : List Atom). list_all (atom_holds xs) bs ≡ true) is-us (f.gives xs q1 n) in
      let other = subst (λ (bs : List Atom). list_all (atom_holds xs) bs ≡ true) is-vs (g.gives xs q2 n) in
      let there = h.gives xs q3 in
      let k = i.gives xs q in
      none_of xs ps qs pair x p (present_of ps pair p.along x y is-x is-y xs one there.0 x) (present_of qs pair p.across z w is-z is-w xs other there.1 x) k.0 k.1 o);
}

-- the same spans
same_subjects : (x y ps qs : List Span) → ps ≡ x → qs ≡ y → All (Contains (span_subjects x ++ span_subjects y)) (span_subjects ps ++ span_subjects qs)
same_subjects x y ps qs e f =
    subst (λ (ws : List Span). All (Contains (span_subjects x ++ span_subjects y)) (span_subjects ws ++ span_subjects qs)) (sym e)
    (subst (λ (ws : List Span). All (Contains (span_subjects x ++ span_subjects y)) (span_subjects x ++ span_subjects ws)) (sym f) (All-contains_itself (span_subjects x ++ span_subjects y)))

-- the two directions, exchanged
pub cites_turned : (s : Trail) (ps qs : List Span) (a b : List Atom) (P Q : List ℤ → Type 0) → ((xs : List ℤ) → P xs → Q xs) → Cites s (span_subjects qs ++ span_subjects ps) a b P → Cites s (span_subjects ps ++ span_subjects qs) a b Q
cites_turned s ps qs a b P Q turn g =
    cites_among s (span_subjects qs ++ span_subjects ps) (span_subjects ps ++ span_subjects qs) a b Q
    (λ is all. All-append (Contains is) (span_subjects qs) (span_subjects ps) (All-append_right (Contains is) (span_subjects ps) (span_subjects qs) all) (All-append_left (Contains is) (span_subjects ps) (span_subjects qs) all))
    (cites_as s (span_subjects qs ++ span_subjects ps) a b P Q turn g)

-- what facts give of boxes explains an atom of the body
pub boxes_explained : (s : Trail) (x y ps qs : List Span) → ps ≡ x → qs ≡ y → (target : Atom) (us : List Atom) → Cites s (span_subjects ps ++ span_subjects qs) [] us (λ xs. AreDisjoint xs ps qs → atom_holds xs target ≡ true) → IsExplained (NoOverlap2d x y) s target us
boxes_explained s x y ps qs e f target us g = record {
  facts = g.facts (All-nil (IsFact s));
  speaks = g.about (span_subjects x ++ span_subjects y) (same_subjects x y ps qs e f) (speaks_none (span_subjects x ++ span_subjects y));
  gives = λ xs w h o. g.gives xs h (kept_of x y ps qs e f xs o);
}

-- or that it cannot hold
pub boxes_refuted : (s : Trail) (x y ps qs : List Span) → ps ≡ x → qs ≡ y → (old us : List Atom) → old ≡ [] → Cites s (span_subjects ps ++ span_subjects qs) old us (λ xs. AreDisjoint xs ps qs → ⊥) → IsRefuted (NoOverlap2d x y) s us
boxes_refuted s x y ps qs e f old us none g = record {
  facts = g.facts (subst (λ (vs : List Atom). AreFacts s vs) (sym none) (All-nil (IsFact s)));
  speaks = g.about (span_subjects x ++ span_subjects y) (same_subjects x y ps qs e f) (subst (λ (vs : List Atom). SpeaksOf (span_subjects x ++ span_subjects y) vs) (sym none) (speaks_none (span_subjects x ++ span_subjects y)));
  excludes = λ xs w h o. g.gives xs h (kept_of x y ps qs e f xs o);
}
