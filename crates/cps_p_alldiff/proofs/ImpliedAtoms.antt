-- What the all-different of subjects gives of the values that a store leaves to them.
use Rattle.std.specs.Prelude.{All}
use Rattle.std.proofs.Common.{ℕ, ◌<◌, ℤ, ◌≡◌, ◌≢◌, inl, inr, true, false, List, [], ◌∷◌, ◌++◌, length, get_or, sym, ◌∙◌, ap, subst, arith}
use Rattle.std.specs.List.{AllPairs}
use Rattle.std.proofs.lemmas.Int.{ints}
use Rattle.std.proofs.lemmas.List.Elements.{All-push}
use Rattle.cps_literal.specs.declared.atom.Atom.{Atom}
use Rattle.cps_literal.specs.Truth.{meets, value_at, atom_holds}
use Rattle.cps_instance.specs.declared.task.Body.{Body}
use Rattle.cps_instance.specs.declared.task.Body.TheVariants.{AllDiff}
use Rattle.cps_instance.specs.Terms.{Domains}
use Rattle.cps_trail.specs.Trail.{Trail, IsAdmitted}
use Rattle.cps_propagate.specs.Strength.{HasRoom, IsExcludedBody}
use Rattle.cps_rule.specs.Rules.{IsFittingRule, IsGiven, IsImpossible, IsAtRest, IsExplained, IsRefuted}
use Rattle.cps_p_alldiff.specs.declared.interval.Interval.{Interval}
use Rattle.cps_p_alldiff.specs.Intervals.{lies_in, covers, AreEnds, IsFull, IsOverfull, IsRoomy, IsEnclosed, AreEnclosed, AreTightIntervals}
use Rattle.cps_rule.specs.declared.rule.Narrowing.{Narrowing}
use Rattle.cps_p_alldiff.specs.Bars.{IsBar, AreGivenBars}
use Rattle.cps_p_alldiff.proofs.IntervalCounts.{bool_cases, lies, covers_low, covers_high, pigeonhole, counted, counted_more}
use Rattle.cps_p_alldiff.proofs.NoCrowds.{zip_length, zip_at}
use Rattle.cps_p_alldiff.proofs.Ends.{hulls_ends, hulls_bound, HasRoom-hulls, rests}
use Rattle.cps_p_alldiff.proofs.Bodies.{apart}

-- different values that a store leaves
module _ (s : Trail) (is : List ℕ) (es : List Interval) (h : Interval) (xs : List ℤ) (subjects : All (λ i. i < length s.first) is) (bounded : AreEnclosed s is es) (admitted : IsAdmitted s.first s.entries xs)
    (different : AllPairs (λ i j. value_at xs i ≢ value_at xs j) is) where
  covered_lies : (k d : ℕ) (e : Interval) → k < length is → covers h (get_or es k e) ≡ true → lies_in h (value_at xs (get_or is k d)) ≡ true
  covered_lies k d e l c =
      let b : IsEnclosed s (get_or is k d) (get_or es k e) = zip_at (IsEnclosed s) is es k d e bounded l in
      let v = value_at xs (get_or is k d) in
      let o = admitted (get_or is k d) (subjects k d l) in
      let p = covers_low h (get_or es k e) c in
      let q = covers_high h (get_or es k e) c in
      let m = b.least v o in
      let n = b.greatest v o in
      lies h v (omega (arith, ints)) (omega (arith, ints))

  -- crowd no interval
  none_crowded : IsOverfull es h → ⊥
  none_crowded over =
      let a = counted (λ (i : ℕ). value_at xs i) h is es (zip_length (IsEnclosed s) is es bounded) covered_lies in
      let b = pigeonhole (λ (i : ℕ). value_at xs i) h is over.ends.ordered different in
      let c = over.crowded in
      absurd (omega arith)

  -- nor enter one that others fill
  full_left : (k d : ℕ) (e : Interval) → IsFull es h → k < length is → covers h (get_or es k e) ≡ false → lies_in h (value_at xs (get_or is k d)) ≡ true → ⊥
  full_left k d e full l out in' =
      let a = counted_more (λ (i : ℕ). value_at xs i) h is es k d e (zip_length (IsEnclosed s) is es bounded) covered_lies l out in' in
      let b = pigeonhole (λ (i : ℕ). value_at xs i) h is full.ends.ordered different in
      let c = full.full in
      absurd (omega arith)

pub crowded_impossible : (s : Trail) (is : List ℕ) (es : List Interval) (h : Interval) → All (λ i. i < length s.first) is → AreEnclosed s is es → IsOverfull es h → IsImpossible (AllDiff is) s
crowded_impossible s is es h subjects bounded over = record { at = λ xs admitted body. none_crowded s is es h xs subjects bounded admitted (apart xs is body) over }

-- a bar of a position that does not fill a full interval is given
pub bar_given : (s : Trail) (is : List ℕ) (es : List Interval) (h : Interval) (k d : ℕ) (e : Interval) (t : Atom) → All (λ i. i < length s.first) is → AreEnclosed s is es → IsFull es h → k < length is
    → covers h (get_or es k e) ≡ false → IsBar (get_or is k d) (get_or es k e) h t → IsGiven (AllDiff is) s t
bar_given s is es h k d e t subjects bounded full l out bar = record {
  subject = subst (λ i. i < length s.first) (sym bar.subject) (subjects k d l);
  at = λ xs admitted body. elim (bool_cases (atom_holds xs t)) [
    | inl yes' ↦ yes'
    | inr no' ↦
        let b : IsEnclosed s (get_or is k d) (get_or es k e) = zip_at (IsEnclosed s) is es k d e bounded l in
        let v = value_at xs (get_or is k d) in
        let o = admitted (get_or is k d) (subjects k d l) in
        let not_met : meets t.op t.value v ≡ false = subst (λ (i : ℕ). meets t.op t.value (value_at xs i) ≡ false) bar.subject no' in
        absurd (full_left s is es h xs subjects bounded admitted (apart xs is body) k d e full l out (bar.bars v (b.least v o) (b.greatest v o) not_met))
  ];
}

-- what was judged of ends that were measured
module _ (s : Trail) (is : List ℕ) (es es' : List Interval) (hulls : AreTightIntervals s is es) (same : es' ≡ es) where
  pub ends_read : All AreEnds es'
  ends_read = subst (λ (gs : List Interval). All AreEnds gs) (sym same) (hulls_ends s is es hulls)

  pub bounds_read : AreEnclosed s is es'
  bounds_read = subst (λ (gs : List Interval). AreEnclosed s is gs) (sym same) (hulls_bound s is es hulls)

  pub room_read : IsRoomy es' → HasRoom s is
  room_read roomy = HasRoom-hulls s is es hulls (subst (λ (gs : List Interval). IsRoomy gs) same roomy)

-- one more atom that is given
pub given_more : (s : Trail) (is : List ℕ) (found found' : List Narrowing) (n : Narrowing) → found' ≡ found ++ n ∷ [] → AreGivenBars s is found → IsGiven (AllDiff is) s n.target → AreGivenBars s is found'
given_more s is found found' n pushed given one = subst (λ (ns : List Narrowing). AreGivenBars s is ns) (sym pushed) (All-push (λ n. IsGiven (AllDiff is) s n.target) found n given one)

-- the same of a body, which is seen through its subjects
module _ (b : Body) (is is' : List ℕ) (view : AllDiff is ≡ b) (e : is' ≡ is) where
  is_body : AllDiff is' ≡ b
  is_body = ap (λ (js : List ℕ). AllDiff js) e ∙ view

  pub seen_impossible : (s : Trail) → IsImpossible (AllDiff is') s → IsImpossible b s
  seen_impossible s h = subst (λ (x : Body). IsImpossible x s) is_body h

  pub seen_possible : (s : Trail) → HasRoom s is' → IsExcludedBody b s → ⊥
  seen_possible s room = subst (λ (x : Body). IsExcludedBody x s → ⊥) is_body (λ excluded. excluded room)

  pub seen_rest : (s : Trail) → HasRoom s is' → IsAtRest b s
  seen_rest s room = subst (λ (x : Body). IsAtRest x s) is_body (rests s is' room)

  pub seen_given : (s : Trail) (found : List Narrowing) → AreGivenBars s is' found → All (λ n. IsGiven b s n.target) found
  seen_given s found h = subst (λ (x : Body). All (λ (n : Narrowing). IsGiven x s n.target) found) is_body h

  pub seen_explained : (s : Trail) (t : Atom) (facts : List Atom) → IsExplained (AllDiff is') s t facts → IsExplained b s t facts
  seen_explained s t facts h = subst (λ (x : Body). IsExplained x s t facts) is_body h

  pub seen_refuted : (s : Trail) (facts : List Atom) → IsRefuted (AllDiff is') s facts → IsRefuted b s facts
  seen_refuted s facts h = subst (λ (x : Body). IsRefuted x s facts) is_body h

  pub seen_subjects : (first : Domains) → IsFittingRule first b → All (λ i. i < length first) is'
  seen_subjects first h = (subst (λ (x : Body). IsFittingRule first x) (sym is_body) h).subjects
