-- What a look at the places of an index says.
use Rattle.std.specs.Prelude.{not}
use Rattle.std.proofs.Common.{◌≡◌, ℕ, ℤ, pos, ◌+◌, ◌-◌, ◌^◌, ◌<◌, ◌≤◌, ◌≤ℤ◌, Bool, true, false, List, [], ◌∷◌, ◌++◌, length, get_or, refl, sym, ap, subst, ◌∙◌, Option, arith, inl, inr}
use Rattle.std.proofs.lemmas.Int.{ints}
use Rattle.std.proofs.lemmas.Bool.{cases_lt}
use Rattle.std.specs.List.{All, Contains}
use Rattle.std.proofs.lemmas.List.Elements.{All-nil, All-cons, All-get_or, All-push, All-contains_itself, Contains-get_or, Contains-append_right}
use Rattle.cps_domain.specs.Window.{Window, contains, equals}
use Rattle.cps_domain.proofs.Tests.{true_le}
use Rattle.cps_literal.specs.declared.atom.Atom.{Atom}
use Rattle.cps_literal.specs.declared.atom.Op.TheVariants.{Le, Ge, Ne}
use Rattle.cps_literal.specs.Truth.{value_at, atom_holds}
use Rattle.cps_instance.specs.declared.task.Body.{Body}
use Rattle.cps_instance.specs.declared.task.Body.TheVariants.{Element}
use Rattle.cps_trail.specs.Trail.{Trail, Domains, IsAdmitted, admits}
use Rattle.cps_rule.specs.declared.rule.Narrowing.{Narrowing}
use Rattle.cps_rule.specs.Rules.{IsFittingRule, IsGiven, AllTrueAt}
use Rattle.cps_p_lookup.specs.declared.places.Scan.{Scan}
use Rattle.cps_p_lookup.specs.Facts.{AddsWhere}
use Rattle.cps_rule.specs.Facts.{Grows, GivesGoal}
use Rattle.cps_p_lookup.specs.Elements.{IsFitElement, IsChosen, IsCovered, IsSeenAt, IsPlaceVisited, IsClosed, Closes, IsLeft}
use Rattle.cps_p_lookup.proofs.Growing.{grows_trans, no_facts, none_speaks}
use Rattle.cps_p_lookup.proofs.Opening.{last_skipped}
use Rattle.cps_p_lookup.proofs.Elements.{fit_of, given_by, gives_by, ge_holds, le_holds}

pub more_given : (body : Body) (s : Trail) (old new : List Narrowing) (n : Narrowing) → new ≡ old ++ n ∷ [] → IsGiven body s n.target → All (λ m. IsGiven body s m.target) old → All (λ m. IsGiven body s m.target) new
more_given body s old new n is g h = subst (λ (ns : List Narrowing). All (λ m. IsGiven body s m.target) ns) (sym is) (All-push (λ m. IsGiven body s m.target) old n h g)

-- a place at which the two domains are apart is not chosen
pub apart_not : (s : Trail) (i t : ℕ) (es : List ℕ) (k : ℕ) (E T : Window) → k < length es → IsFitElement s.first i t es → ((x : ℤ) → contains E x ≡ admits s.first s.entries (get_or es k 0) x) → ((x : ℤ) → contains T x ≡ admits s.first s.entries t x)
    → ((x : ℤ) → contains E x ≡ true → contains T x ≡ true → ⊥) → (xs : List ℤ) → IsAdmitted s.first s.entries xs → IsChosen i t (get_or es k 0) k xs → ⊥
apart_not s i t es k E T l f ofE ofT apart xs a c =
    let e = get_or es k 0 in
    apart (value_at xs e) (ofE (value_at xs e) ∙ a e (All-get_or (λ n. n < length s.first) es k 0 l f.exprs)) (ofT (value_at xs e) ∙ ap (λ v. admits s.first s.entries t v) c.same ∙ a t f.target)

pub visited_none : (s : Trail) (i t : ℕ) (es : List ℕ) (k : ℕ) (scan : Scan) → ((xs : List ℤ) → IsAdmitted s.first s.entries xs → IsChosen i t (get_or es k 0) k xs → ⊥) → IsPlaceVisited s i t es k scan scan
visited_none s i t es k scan h = record { wider = λ p v w. w; here = record { at = λ xs a c. absurd (h xs a c) }; last = last_skipped s i t es k scan }

pub equals_is : (a b : ℤ) → equals a b ≡ true → a ≡ b
equals_is a b e = grind (arith, ints)

pub not_off : (b : Bool) → (b ≡ true → ⊥) → not b ≡ true
not_off true h = absurd (h refl)
not_off false h = refl

same_place : (j k : ℕ) (v : ℤ) → v ≡ pos j → v ≡ pos k → j ≡ k
same_place j k v p q = let e : pos j ≡ pos k = sym p ∙ q in cc

-- the index is off a place that is not chosen
pub off_given : (s : Trail) (i t : ℕ) (es : List ℕ) (k : ℕ) (u : Atom) → u ≡ record { subject = i; op = Ne; value = pos k } → IsFitElement s.first i t es
    → ((xs : List ℤ) → IsAdmitted s.first s.entries xs → IsChosen i t (get_or es k 0) k xs → ⊥) → IsGiven (Element i t es) s u
off_given s i t es k u is f h = given_by s i t es u (subst (λ n. n < length s.first) (ap (λ (w : Atom). w.subject) (sym is)) f.index)
    (λ xs j a l c. subst (λ (w : Atom). atom_holds xs w ≡ true) (sym is) (not_off (equals (value_at xs i) (pos k)) (λ e. h xs a
    (subst (λ n. IsChosen i t (get_or es n 0) n xs) (same_place j k (value_at xs i) c.index (equals_is (value_at xs i) (pos k) e)) c))))

-- a place at which the two domains may meet is counted
pub here_seen : (s : Trail) (i t : ℕ) (es : List ℕ) (k : ℕ) (E : Window) (low high p q : ℤ) (new : Scan) → k < length es → IsFitElement s.first i t es → ((x : ℤ) → contains E x ≡ admits s.first s.entries (get_or es k 0) x)
    → ((x : ℤ) → contains E x ≡ true → low ≤ℤ x) → ((x : ℤ) → contains E x ≡ true → x ≤ℤ high) → p ≡ low → q ≡ high → ((v : ℤ) → p ≤ℤ v → v ≤ℤ q → IsCovered k new v) → IsSeenAt s i t (get_or es k 0) k new
here_seen s i t es k E low high p q new l f ofE least greatest isp isq here = record {
  at = λ xs a c.
      let e = get_or es k 0 in
      let inside : contains E (value_at xs e) ≡ true = ofE (value_at xs e) ∙ a e (All-get_or (λ n. n < length s.first) es k 0 l f.exprs) in
      subst (λ v. IsCovered k new v) c.same (here (value_at xs e) (subst (λ (v : ℤ). v ≤ℤ value_at xs e) (sym isp) (least (value_at xs e) inside)) (subst (λ (v : ℤ). value_at xs e ≤ℤ v) (sym isq) (greatest (value_at xs e) inside)));
}

-- the index lies among the places
pub index_low : (s : Trail) (i t : ℕ) (es : List ℕ) → IsFitElement s.first i t es → (u : Atom) → u ≡ record { subject = i; op = Ge; value = pos 0 } → IsGiven (Element i t es) s u
index_low s i t es f u e = given_by s i t es u (subst (λ n. n < length s.first) (ap (λ (w : Atom). w.subject) (sym e)) f.index) (λ xs k a l c. ge_holds xs u i (pos 0) e (let is = c.index in omega (arith, ints, is)))

pub index_high : (s : Trail) (i t : ℕ) (es : List ℕ) → IsFitElement s.first i t es → (high : ℤ) → high ≡ pos (length es - 1) → (u : Atom) → u ≡ record { subject = i; op = Le; value = high } → IsGiven (Element i t es) s u
index_high s i t es f high is u e = given_by s i t es u (subst (λ n. n < length s.first) (ap (λ (w : Atom). w.subject) (sym e)) f.index) (λ xs k a l c. le_holds xs u i high e (let at = c.index in omega (arith, ints, at, is)))

pub seen_wider : (s : Trail) (i t e k : ℕ) (old new : Scan) → ((p : ℕ) (v : ℤ) → IsCovered p old v → IsCovered p new v) → IsSeenAt s i t e k old → IsSeenAt s i t e k new
seen_wider s i t e k old new w h = record { at = λ xs a c. w k (value_at xs t) (h.at xs a c) }

pub seen_more : (s : Trail) (i t : ℕ) (es : List ℕ) (from n : ℕ) (old new : Scan) → ((k : ℕ) → from ≤ k → k < n → k < length es → IsSeenAt s i t (get_or es k 0) k old) → IsPlaceVisited s i t es n old new
    → (k : ℕ) → from ≤ k → k < n + 1 → k < length es → IsSeenAt s i t (get_or es k 0) k new
seen_more s i t es from n old new h v k a b l = elim (cases_lt k n) [
  | inl before ↦ seen_wider s i t (get_or es k 0) k old new v.wider (h k a before l)
  | inr after ↦ (let is : k ≡ n = omega arith in subst (λ m. IsSeenAt s i t (get_or es m 0) m new) (sym is) v.here)
]

-- a place outside the index's domain is not chosen
pub seen_all : (s : Trail) (i t : ℕ) (es : List ℕ) (I : Window) (scan : Scan) (low high p q : ℤ) (from to n : ℕ) → IsFitElement s.first i t es → ((x : ℤ) → contains I x ≡ admits s.first s.entries i x) → ((x : ℤ) → contains I x ≡ true → low ≤ℤ x) → ((x : ℤ) → contains I x ≡ true → x ≤ℤ high)
    → p ≡ low → q ≡ high → ((k : ℕ) → p ≤ℤ pos k → from ≤ k) → ((k : ℕ) → k < length es → pos k ≤ℤ q → k < to) → to ≤ n → ((k : ℕ) → from ≤ k → k < n → k < length es → IsSeenAt s i t (get_or es k 0) k scan) → (k : ℕ) → k < length es → IsSeenAt s i t (get_or es k 0) k scan
seen_all s i t es I scan low high p q from to n f ofI least greatest isp isq first end past h k l = record {
  at = λ xs a c.
      let inside : contains I (pos k) ≡ true = ofI (pos k) ∙ ap (λ v. admits s.first s.entries i v) (sym c.index) ∙ a i f.index in
      let lo : p ≤ℤ pos k = subst (λ (v : ℤ). v ≤ℤ pos k) (sym isp) (least (pos k) inside) in
      let hi : pos k ≤ℤ q = subst (λ (v : ℤ). pos k ≤ℤ v) (sym isq) (greatest (pos k) inside) in
      let after = first k lo in
      let before = end k l hi in
      (h k after (omega arith) l).at xs a c;
}

-- facts that leave the places of a window
pub left_by : (s : Trail) (i : ℕ) (es : List ℕ) (u v : Atom) (low high : ℤ) (from to : ℕ) (o m n : List Atom) (p q : Bool) → AddsWhere s p u o m → AddsWhere s q v m n → u ≡ record { subject = i; op = Ge; value = low } → v ≡ record { subject = i; op = Le; value = high }
    → (0 < from → p ≡ true) → (to < length es → q ≡ true) → ((k : ℕ) → low ≤ℤ pos k → from ≤ k) → ((k : ℕ) → k < length es → pos k ≤ℤ high → k < to) → to ≤ length es → length es < 2 ^ 62 → IsLeft s i es o n (from, to)
left_by s i es u v low high from to o m n p q a b isu isv needp needq first end inside small = record {
  grows = grows_trans s (i ∷ []) o m n (subst (λ (j : ℕ). Grows s (j ∷ []) o m) (ap (λ (w : Atom). w.subject) isu) a.grows) (subst (λ (j : ℕ). Grows s (j ∷ []) m n) (ap (λ (w : Atom). w.subject) isv) b.grows);
  inside = inside;
  small = omega arith;
  covers = λ k l xs all at. (lower k xs all at, upper k l xs all at);
}
  where
    lower : (k : ℕ) (xs : List ℤ) → AllTrueAt xs n → value_at xs i ≡ pos k → from ≤ k
    lower k xs all at = elim (cases_lt 0 from) [
      | inl some ↦ (let h : atom_holds xs (record { subject = i; op = Ge; value = low }) ≡ true = subst (λ (w : Atom). atom_holds xs w ≡ true) isu (a.holds (needp some) xs (b.grows.kept xs all)) in first k (subst (λ (x : ℤ). low ≤ℤ x) at (true_le low (value_at xs i) h)))
      | inr none ↦ omega arith
    ]

    upper : (k : ℕ) → k < length es → (xs : List ℤ) → AllTrueAt xs n → value_at xs i ≡ pos k → k < to
    upper k l xs all at = elim (cases_lt to (length es)) [
      | inl some ↦ (let h : atom_holds xs (record { subject = i; op = Le; value = high }) ≡ true = subst (λ (w : Atom). atom_holds xs w ≡ true) isv (b.holds (needq some) xs all) in end k l (subst (λ (x : ℤ). x ≤ℤ high) at (true_le (value_at xs i) high h)))
      | inr none ↦ omega arith
    ]

pub closed_more : (s : Trail) (i t : ℕ) (es : List ℕ) (from n : ℕ) (goal : Option Atom) (old new : List Atom) → ((k : ℕ) → from ≤ k → k < n → IsClosed i t (get_or es k 0) k goal old) → Closes s i t (get_or es n 0) n goal old new
    → (k : ℕ) → from ≤ k → k < n + 1 → IsClosed i t (get_or es k 0) k goal new
closed_more s i t es from n goal old new h v k a b = elim (cases_lt k n) [
  | inl before ↦ record { at = λ xs all c deny. (h k a before).at xs (v.grows.kept xs all) c deny }
  | inr after ↦ (let is : k ≡ n = omega arith in subst (λ m. IsClosed i t (get_or es m 0) m goal new) (sym is) v.closed)
]

-- what a place is closed by is about the element's subjects
pub named : (i t : ℕ) (es : List ℕ) (k : ℕ) → k < length es → All (Contains (i ∷ t ∷ es)) (i ∷ t ∷ get_or es k 0 ∷ [])
named i t es k l =
    let P : ℕ → Type 0 = Contains (i ∷ t ∷ es) in
    All-cons P i (t ∷ get_or es k 0 ∷ []) (0, omega arith, refl)
    (All-cons P t (get_or es k 0 ∷ []) (1, omega arith, refl) (All-cons P (get_or es k 0) [] (Contains-append_right (i ∷ t ∷ []) es (get_or es k 0) (Contains-get_or es k 0 l)) (All-nil P)))

pub gives_all : (s : Trail) (i t : ℕ) (es : List ℕ) (goal : Option Atom) (none old new : List Atom) (window : ℕ × ℕ) (n : ℕ) → none ≡ [] → IsLeft s i es none old window → Grows s (i ∷ t ∷ es) old new → window.1 ≤ n
    → ((k : ℕ) → window.0 ≤ k → k < n → IsClosed i t (get_or es k 0) k goal new) → GivesGoal (Element i t es) s goal new
gives_all s i t es goal none old new window n empty left grows past closed = gives_by s i t es goal new (grows.facts (left.grows.facts (no_facts s none empty)))
    (grows.about (i ∷ t ∷ es) (All-contains_itself (i ∷ t ∷ es)) (left.grows.about (i ∷ t ∷ es) (All-cons (Contains (i ∷ t ∷ es)) i [] (0, omega arith, refl) (All-nil (Contains (i ∷ t ∷ es)))) (none_speaks (i ∷ t ∷ es) none empty)))
    (λ k l xs all c deny. let w = left.covers k l xs (grows.kept xs all) c.index in let lo = w.0 in let hi = w.1 in (closed k lo (omega arith)).at xs all c deny)

pub fit_seen : (first : Domains) (i t : ℕ) (es : List ℕ) (j u : ℕ) (fs : List ℕ) → IsFittingRule first (Element i t es) → j ≡ i → u ≡ t → fs ≡ es → IsFitElement first j u fs
fit_seen first i t es j u fs f a b c =
    let h = fit_of first i t es f in
    record {
      index = subst (λ n. n < length first) (sym a) h.index;
      target = subst (λ n. n < length first) (sym b) h.target;
      exprs = subst (λ (ns : List ℕ). All (λ e. e < length first) ns) (sym c) h.exprs;
    }

pub body_seen : (i t : ℕ) (es : List ℕ) (j u : ℕ) (fs : List ℕ) → j ≡ i → u ≡ t → fs ≡ es → Element j u fs ≡ Element i t es
body_seen i t es j u fs a b c = ap (λ n. Element n u fs) a ∙ ap (λ n. Element i n fs) b ∙ ap (λ ns. Element i t ns) c

-- the same of a body, which is seen through its parts
pub seen_gives : (s : Trail) (i t : ℕ) (es : List ℕ) (j u : ℕ) (js : List ℕ) → j ≡ i → u ≡ t → js ≡ es → (goal : Option Atom) (facts : List Atom) → GivesGoal (Element j u js) s goal facts → GivesGoal (Element i t es) s goal facts
seen_gives s i t es j u js e f h goal facts g =
    subst (λ (k : ℕ). GivesGoal (Element k t es) s goal facts) e (subst (λ (k : ℕ). GivesGoal (Element j k es) s goal facts) f (subst (λ (ks : List ℕ). GivesGoal (Element j u ks) s goal facts) h g))
