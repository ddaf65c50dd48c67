-- What spans that are counted in a window leave to another.
use Rattle.std.specs.List.{sum, sum_by}
use Rattle.std.proofs.Common.{◌≡◌, ◌≢◌, ◌<◌, ◌+◌, ◌≤◌, ◌≤ℤ◌, ◌<ℤ◌, ◌+ℤ◌, ◌-ℤ◌, ◌⊎◌, inl, inr, ℕ, zero, suc, ℤ, pos, negsuc, Bool, true, List, [], ◌∷◌, None, length, get_or, set, refl, sym, ◌∙◌, ap, subst, arith, below_more}
use Rattle.std.proofs.lemmas.Int.{ints}
use Rattle.std.proofs.lemmas.List.{get_or_default, get_or-set_same, get_or-set_other}
use Rattle.std.proofs.lemmas.List.Sums.{sum_by-cons, sum_by-set}
use Rattle.cps_model.specs.Scheduling.{IsNoOverlap}
use Rattle.cps_instance.specs.declared.task.Span.{Span}
use Rattle.cps_instance.specs.Parts.{span_runs}
use Rattle.cps_p_span.specs.Spans.{is_present}
use Rattle.cps_p_nooverlap.specs.Packing.{Run, LieWithin, AreRunsApart}
use Rattle.cps_p_nooverlap.specs.declared.edge_finding.Edge.{Edge}
use Rattle.cps_p_nooverlap.specs.declared.crowd.Ends.{Ends}
use Rattle.cps_p_nooverlap.specs.declared.crowd.Ends.TheVariants.{Both, Start, End}
use Rattle.cps_p_nooverlap.specs.Crowds.{near_at, far_at, low_at, high_at, LastsAt, IsRun, AreRunsUpTo, AreRuns, IsSpanCount, IsCrowd}
use Rattle.cps_p_nooverlap.proofs.Turning.{le_or, turned_apart, lasts_turned}
use Rattle.cps_p_nooverlap.proofs.Packing_laws.{packing}

abbrev run_of : Bool → List ℤ → Span → ℕ → Run
run_of r xs p w = record { start = near_at r xs p; length = w }

abbrev runs : Bool → List ℤ → List Span → List ℕ → List Run
runs r xs [] ws = []
runs r xs (p ∷ ps) [] = []
runs r xs (p ∷ ps) (w ∷ ws) = run_of r xs p w ∷ runs r xs ps ws

no_span : Span
no_span = record { start = 0; end = 0; size = 0; presence = []; length = None }

length_runs : (r : Bool) (xs : List ℤ) (ps : List Span) (ws : List ℕ) → length ws ≡ length ps → length (runs r xs ps ws) ≡ length ps
length_runs r xs [] ws e = refl
length_runs r xs (p ∷ ps) [] e = absurd (omega arith)
length_runs r xs (p ∷ ps) (w ∷ ws) e = let rest = length_runs r xs ps ws (omega arith) in omega arith

run_at : (r : Bool) (xs : List ℤ) (ps : List Span) (ws : List ℕ) (k : ℕ) (d : Run) (e : Span) → length ws ≡ length ps → k < length ps → get_or (runs r xs ps ws) k d ≡ run_of r xs (get_or ps k e) (get_or ws k 0)
run_at r xs [] ws k d e s l = absurd (omega arith)
run_at r xs (p ∷ ps) [] k d e s l = absurd (omega arith)
run_at r xs (p ∷ ps) (w ∷ ws) zero d e s l = refl
run_at r xs (p ∷ ps) (w ∷ ws) (suc k) d e s l = run_at r xs ps ws k d e (omega arith) (omega arith)

time_runs : (r : Bool) (xs : List ℤ) (ps : List Span) (ws : List ℕ) → length ws ≡ length ps → sum_by (λ z. z.length) (runs r xs ps ws) ≡ sum ws
time_runs r xs [] [] e = refl
time_runs r xs [] (w ∷ ws) e = absurd (omega arith)
time_runs r xs (p ∷ ps) [] e = absurd (omega arith)
time_runs r xs (p ∷ ps) (w ∷ ws) e =
    let rest = time_runs r xs ps ws (omega arith) in
    omega (arith, sum_by-cons (λ (z : Run). z.length) (run_of r xs p w) (runs r xs ps ws), sum_by-cons (λ (n : ℕ). n) w ws)

-- how far it is from one time to another, at least
record Gap (a b : ℤ) : Type 0 where
  room : ℕ
  far : b ≤ℤ (a +ℤ pos room)
  near : 0 < room → (a +ℤ pos room) ≤ℤ b

gap : (a b : ℤ) → Gap a b
gap a b = by (b -ℤ a) refl
  where
    by : (z : ℤ) → z ≡ b -ℤ a → Gap a b
    by (pos n) e = record { room = n; far = omega (arith, ints); near = λ l. omega (arith, ints) }
    by (negsuc n) e = record { room = 0; far = omega (arith, ints); near = λ l. absurd (omega arith) }

-- counted spans of a window take no more time than it has
pub packed : (r : Bool) (xs : List ℤ) (ps : List Span) (ws : List ℕ) (a b : ℤ) → length ws ≡ length ps → AreRuns Both r xs ps ws a b → IsNoOverlap (span_runs xs ps) → 0 < sum ws → (a +ℤ pos (sum ws)) ≤ℤ b
packed r xs ps ws a b same are h some =
    let g = gap a b in
    let n = g.room in
    let far : b ≤ℤ (a +ℤ pos n) = g.far in
    let near : 0 < n → (a +ℤ pos n) ≤ℤ b = g.near in
    let most : sum_by (λ z. z.length) (runs r xs ps ws) ≤ n = packing n a (runs r xs ps ws) (within n far) apart in
    let all = time_runs r xs ps ws same in
    let much : sum ws ≤ n = omega arith in
    let end = near (omega arith) in
    omega (arith, ints)
  where
    at : (k : ℕ) (d : Run) → k < length (runs r xs ps ws) → get_or (runs r xs ps ws) k d ≡ run_of r xs (get_or ps k no_span) (get_or ws k 0)
    at k d l = run_at r xs ps ws k d no_span same (let m = length_runs r xs ps ws same in omega arith)

    inside : (k : ℕ) → k < length (runs r xs ps ws) → k < length ps
    inside k l = let m = length_runs r xs ps ws same in omega arith

    within : (n : ℕ) → b ≤ℤ (a +ℤ pos n) → LieWithin a n (runs r xs ps ws)
    within n far = λ k d l. subst (λ (z : Run). 0 < z.length → (a ≤ℤ z.start) × ((z.start +ℤ pos z.length) ≤ℤ (a +ℤ pos n))) (sym (at k d l))
        (λ q. let i = are k (inside k l) no_span q in let x = lasts_turned r xs (get_or ps k no_span) (get_or ws k 0) i.lasts in let y = i.from in let z = i.to in (y, omega (arith, ints)))

    two : (i j : ℕ) → i < j → i < length ps → j < length ps → IsRun Both r xs (get_or ps i no_span) (get_or ws i 0) a b → IsRun Both r xs (get_or ps j no_span) (get_or ws j 0) a b
        → ((near_at r xs (get_or ps i no_span) +ℤ pos (get_or ws i 0)) ≤ℤ near_at r xs (get_or ps j no_span)) ⊎ ((near_at r xs (get_or ps j no_span) +ℤ pos (get_or ws j 0)) ≤ℤ near_at r xs (get_or ps i no_span))
    two i j l m o f k =
        let x = lasts_turned r xs (get_or ps i no_span) (get_or ws i 0) f.lasts in
        let y = lasts_turned r xs (get_or ps j no_span) (get_or ws j 0) k.lasts in
        elim (turned_apart r xs ps i j no_span (λ e. absurd (omega (arith, e))) m o f.present k.present h) [ inl q ↦ inl (omega (arith, ints)) | inr q ↦ inr (omega (arith, ints)) ]

    apart : AreRunsApart (runs r xs ps ws)
    apart = λ i j d l m.
        subst (λ (z : Run). 0 < z.length → 0 < (get_or (runs r xs ps ws) j d).length → ((z.start +ℤ pos z.length) ≤ℤ (get_or (runs r xs ps ws) j d).start) ⊎ (((get_or (runs r xs ps ws) j d).start +ℤ pos (get_or (runs r xs ps ws) j d).length) ≤ℤ z.start)) (sym (at i d (omega arith)))
        (subst (λ (u : Run). 0 < get_or ws i 0 → 0 < u.length → ((near_at r xs (get_or ps i no_span) +ℤ pos (get_or ws i 0)) ≤ℤ u.start) ⊎ ((u.start +ℤ pos u.length) ≤ℤ near_at r xs (get_or ps i no_span))) (sym (at j d m))
        (λ q v. two i j l (inside i (omega arith)) (inside j m) (are i (inside i (omega arith)) no_span q) (are j (inside j m) no_span v)))

-- so more of them than that cannot be
pub overfull : (r : Bool) (xs : List ℤ) (ps : List Span) (ws : List ℕ) (a b : ℤ) → length ws ≡ length ps → 0 < sum ws → b <ℤ (a +ℤ pos (sum ws)) → AreRuns Both r xs ps ws a b → IsNoOverlap (span_runs xs ps) → ⊥
overfull r xs ps ws a b same some full are h = let k = packed r xs ps ws a b same are h some in absurd (omega (arith, ints))

same_or : (i j : ℕ) → (i ≡ j) ⊎ (i ≢ j)
same_or zero zero = inl refl
same_or zero (suc j) = inr (λ e. absurd (omega (arith, e)))
same_or (suc i) zero = inr (λ e. absurd (omega (arith, e)))
same_or (suc i) (suc j) = elim (same_or i j) [ inl e ↦ inl (ap (λ (n : ℕ). suc n) e) | inr n ↦ inr (λ e. n (omega (arith, e))) ]

-- one more counted span
set_runs : (r : Bool) (xs : List ℤ) (ps : List Span) (ws : List ℕ) (p w : ℕ) (a b : ℤ) → length ws ≡ length ps → p < length ps → AreRuns Both r xs ps ws a b → ((d : Span) → IsRun Both r xs (get_or ps p d) w a b) → AreRuns Both r xs ps (set ws p w) a b
set_runs r xs ps ws p w a b same l are more = λ k m d q. elim (same_or k p) [
  | inl e ↦
      let here : get_or (set ws p w) k 0 ≡ w = subst (λ (i : ℕ). get_or (set ws p w) i 0 ≡ w) (sym e) (get_or-set_same ws p w 0 (omega arith)) in
      subst (λ (n : ℕ). IsRun Both r xs (get_or ps k d) n a b) (sym here) (subst (λ (i : ℕ). IsRun Both r xs (get_or ps i d) w a b) (sym e) (more d))
  | inr n ↦
      let there : get_or (set ws p w) k 0 ≡ get_or ws k 0 = get_or-set_other ws p k w 0 n in
      subst (λ (v : ℕ). IsRun Both r xs (get_or ps k d) v a b) (sym there) (are k m d (omega arith))
]

length_set : (ws : List ℕ) (p w : ℕ) → length (set ws p w) ≡ length ws
length_set [] p w = refl
length_set (v ∷ ws) zero w = refl
length_set (v ∷ ws) (suc p) w = let rest = length_set ws p w in omega arith

-- one of two places is not counted
uncounted : (ws : List ℕ) (p k : ℕ) → get_or ws p 0 ≡ 0 → 0 < get_or ws k 0 → k ≢ p
uncounted ws p k aside q = λ e. let z : get_or ws k 0 ≡ 0 = subst (λ (i : ℕ). get_or ws i 0 ≡ 0) (sym e) aside in absurd (omega arith)

-- a present span, among others that do not overlap
module _ (r : Bool) (xs : List ℤ) (ps : List Span) (p : ℕ) (l : p < length ps) (present : (d : Span) → is_present xs (get_or ps p d) ≡ true) (h : IsNoOverlap (span_runs xs ps)) where
  -- it starts no sooner than all that come before it can be done
  after_all : (ws : List ℕ) (a time : ℤ) (d : Span) → length ws ≡ length ps → 0 < sum ws → time ≤ℤ (a +ℤ pos (sum ws))
      → ((k : ℕ) → k < length ps → (e : Span) → 0 < get_or ws k 0 → IsRun Both r xs (get_or ps k e) (get_or ws k 0) a (near_at r xs (get_or ps p e))) → time ≤ℤ near_at r xs (get_or ps p d)
  after_all ws a time d same some reached done =
      let k = packed r xs ps ws a (near_at r xs (get_or ps p d)) same (λ k m e q. subst (λ (u : Span). IsRun Both r xs (get_or ps k e) (get_or ws k 0) a (near_at r xs u)) (get_or_default ps p e d l) (done k m e q)) h some in
      omega (arith, ints)

  -- precedences: what starts before it can end comes before it
  pub comes_after_all : (ws : List ℕ) (a b time : ℤ) (d : Span) → length ws ≡ length ps → get_or ws p 0 ≡ 0 → AreRuns Start r xs ps ws a b → ((e : Span) → b <ℤ far_at r xs (get_or ps p e)) → 0 < sum ws → time ≤ℤ (a +ℤ pos (sum ws)) → time ≤ℤ near_at r xs (get_or ps p d)
  comes_after_all ws a b time d same aside are late some reached = after_all ws a time d same some reached done
    where
      done : (k : ℕ) → k < length ps → (e : Span) → 0 < get_or ws k 0 → IsRun Both r xs (get_or ps k e) (get_or ws k 0) a (near_at r xs (get_or ps p e))
      done k m e q =
          let run = are k m e q in
          let to : near_at r xs (get_or ps k e) ≤ℤ b = run.to in
          let past = late e in
          elim (turned_apart r xs ps k p e (uncounted ws p k aside q) m l run.present (present e) h) [
            | inl o ↦ record { present = run.present; lasts = run.lasts; from = run.from; to = o }
            | inr o ↦ absurd (omega (arith, ints))
          ]

  -- not-first: where those that do not come before it have no room after it, it does not start before the first of them can end
  pub comes_after_one : (ws : List ℕ) (late b time : ℤ) (d : Span) → length ws ≡ length ps → get_or ws p 0 ≡ 0 → AreRuns End r xs ps ws time b → ((e : Span) → late ≤ℤ far_at r xs (get_or ps p e)) → 0 < sum ws → b <ℤ (late +ℤ pos (sum ws)) → time ≤ℤ near_at r xs (get_or ps p d)
  comes_after_one ws late b time d same aside are ends some full = elim (le_or time (near_at r xs (get_or ps p d))) [
    | inl o ↦ o
    | inr o ↦ absurd (overfull r xs ps ws late b same some full (λ k m e q. follows k m e q (subst (λ (u : Span). near_at r xs u <ℤ time) (get_or_default ps p d e l) o)) h)
  ]
    where
      follows : (k : ℕ) → k < length ps → (e : Span) → 0 < get_or ws k 0 → near_at r xs (get_or ps p e) <ℤ time → IsRun Both r xs (get_or ps k e) (get_or ws k 0) late b
      follows k m e q early =
          let run = are k m e q in
          let low : time ≤ℤ far_at r xs (get_or ps k e) = run.from in
          let high : far_at r xs (get_or ps k e) ≤ℤ b = run.to in
          let end = ends e in
          elim (turned_apart r xs ps k p e (uncounted ws p k aside q) m l run.present (present e) h) [
            | inl o ↦ absurd (omega (arith, ints))
            | inr o ↦ record { present = run.present; lasts = run.lasts; from = omega (arith, ints); to = high }
          ]

  -- edge finding: where a crowded window has no room for it, and it does not start before the window, it ends after it
  module _ (whole : List ℕ) (w : ℕ) (a b : ℤ) (same : length whole ≡ length ps) (aside : get_or whole p 0 ≡ 0) (takes : 0 < w) (full : b <ℤ (a +ℤ pos (sum whole + w))) (are : AreRuns Both r xs ps whole a b)
      (lasts : (d : Span) → LastsAt xs (get_or ps p d) w) (early : (d : Span) → a ≤ℤ near_at r xs (get_or ps p d)) where
    not_inside : ((d : Span) → IsRun Both r xs (get_or ps p d) w a b) → ⊥
    not_inside one =
        let more = sum_by-set (λ (n : ℕ). n) whole p w 0 (omega arith) in
        let long : length (set whole p w) ≡ length ps = length_set whole p w ∙ same in
        let k = packed r xs ps (set whole p w) a b long (set_runs r xs ps whole p w a b same l are one) h (omega arith) in
        absurd (omega (arith, ints))

    -- so it comes after those that end in the window
    pub comes_after : (part : List ℕ) (from time : ℤ) (d : Span) → length part ≡ length ps → get_or part p 0 ≡ 0 → AreRuns Both r xs ps part from b → 0 < sum part → time ≤ℤ (from +ℤ pos (sum part)) → time ≤ℤ near_at r xs (get_or ps p d)
    comes_after part from time d same' aside' late some reached = after_all part from time d same' some reached done
      where
        within : (k : ℕ) (e f : Span) → far_at r xs (get_or ps p e) ≤ℤ near_at r xs (get_or ps k e) → IsRun Both r xs (get_or ps k e) (get_or part k 0) from b → IsRun Both r xs (get_or ps p f) w a b
        within k e f o run =
            let x = lasts_turned r xs (get_or ps k e) (get_or part k 0) run.lasts in
            let y : far_at r xs (get_or ps k e) ≤ℤ b = run.to in
            let there = subst (λ (u : Span). far_at r xs u ≤ℤ near_at r xs (get_or ps k e)) (get_or_default ps p e f l) o in
            record { present = present f; lasts = lasts f; from = early f; to = omega (arith, ints) }

        done : (k : ℕ) → k < length ps → (e : Span) → 0 < get_or part k 0 → IsRun Both r xs (get_or ps k e) (get_or part k 0) from (near_at r xs (get_or ps p e))
        done k m e q =
            let run = late k m e q in
            elim (turned_apart r xs ps k p e (uncounted part p k aside' q) m l run.present (present e) h) [
              | inl o ↦ record { present = run.present; lasts = run.lasts; from = run.from; to = o }
              | inr o ↦ absurd (not_inside (λ f. within k e f o run))
            ]

-- the runs so far and one more
pub runs_more : (n : ℕ) (s : Ends) (r : Bool) (xs : List ℤ) (ps : List Span) (ws : List ℕ) (a b : ℤ) (q : Span) → n < length ps → q ≡ get_or ps n q → AreRunsUpTo n s r xs ps ws a b → (0 < get_or ws n 0 → IsRun s r xs q (get_or ws n 0) a b) → AreRunsUpTo (n + 1) s r xs ps ws a b
runs_more n s r xs ps ws a b q l is are one =
    below_more (λ k. (d : Span) → 0 < get_or ws k 0 → IsRun s r xs (get_or ps k d) (get_or ws k 0) a b) n are
    (λ d some. subst (λ (u : Span). IsRun s r xs u (get_or ws n 0) a b) (is ∙ get_or_default ps n q d l) (one some))

pub runs_all : (n : ℕ) (s : Ends) (r : Bool) (xs : List ℤ) (ps : List Span) (ws : List ℕ) (a b : ℤ) → length ps ≤ n → AreRunsUpTo n s r xs ps ws a b → AreRuns s r xs ps ws a b
runs_all n s r xs ps ws a b m are = λ k l. are k (omega arith)

-- a run, from what was cited of it
pub run_is : (s : Ends) (r : Bool) (xs : List ℤ) (p : Span) (w : ℕ) (a b : ℤ) → LastsAt xs p w → is_present xs p ≡ true → a ≤ℤ low_at s r xs p → high_at s r xs p ≤ℤ b → IsRun s r xs p w a b
run_is s r xs p w a b lasts present from to = record { present = present; lasts = lasts; from = from; to = to }

-- what is counted of marks is a crowd
pub crowd_of_marks : (n : ℕ) (whole part ws us : List ℕ) (c : Edge) (all late : ℕ) → ws ≡ whole → us ≡ part → c.pushed.place < n → length ws ≡ n → IsSpanCount n us late → get_or ws c.pushed.place 0 ≡ 0 → get_or us c.pushed.place 0 ≡ 0 → 0 < c.weight
    → all ≡ sum ws → c.to <ℤ (c.from +ℤ pos (all + c.weight)) → IsCrowd n whole part c late
crowd_of_marks n whole part ws us c all late e f place every count aside aside_too takes is full =
    subst (λ (vs : List ℕ). IsCrowd n vs part c late) e (subst (λ (vs : List ℕ). IsCrowd n ws vs c late) f (record {
      place = place;
      every = every;
      late = count;
      aside = aside;
      aside_too = aside_too;
      takes = takes;
      full = subst (λ (m : ℕ). c.to <ℤ (c.from +ℤ pos (m + c.weight))) is full;
    }))
