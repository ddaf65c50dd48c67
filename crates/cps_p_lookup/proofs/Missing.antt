-- What keeps a subject off values.
use Rattle.std.specs.Prelude.{Contains, IsSorted, IsTrue, ◌↔◌, is_ok, not}
use Rattle.std.specs.List.Sorted.{IsBinarySearchResult, IsSearchInRange}
use Rattle.std.specs.Ordering.{int_cmp}
use Rattle.std.proofs.Common.{◌≡◌, ◌<◌, ◌≤ℤ◌, ◌+◌, ◌++◌, ℕ, ℤ, pos, Bool, true, false, List, [], ◌∷◌, length, get_or, take, sym, ap, subst, ◌∙◌, arith, inl, inr, Less, Equal, Greater, Result, Ok, Err}
use Rattle.std.proofs.lemmas.Int.{ints}
use Rattle.std.proofs.lemmas.Bool.{cases_lt}
use Rattle.std.proofs.lemmas.Cmp.{int_cmp_total}
use Rattle.std.proofs.lemmas.List.Sorted.{searchable_from_sorted}
use Rattle.std.specs.List.{All}
use Rattle.std.proofs.lemmas.List.Elements.{All-get_or, All-more, All-weaker, Contains-push, Contains-append_left}
use Rattle.cps_domain.specs.Window.{Window, contains, equals}
use Rattle.cps_literal.specs.declared.atom.Atom.{Atom}
use Rattle.cps_literal.specs.declared.atom.Op.TheVariants.{Ne}
use Rattle.cps_literal.specs.Truth.{value_at, atom_holds, meets}
use Rattle.cps_model.specs.Lookups.{row_at}
use Rattle.cps_instance.specs.declared.task.Body.TheVariants.{Element, Table}
use Rattle.cps_trail.specs.Trail.{Trail, admits}
use Rattle.cps_rule.specs.declared.rule.Narrowing.{Narrowing}
use Rattle.cps_rule.specs.Rules.{IsGiven}
use Rattle.cps_p_lookup.specs.declared.places.Scan.{Scan}
use Rattle.cps_p_lookup.specs.Elements.{IsFitElement, IsScanned}
use Rattle.cps_p_lookup.specs.Tabling.{AreLive}
use Rattle.cps_p_lookup.specs.Gaps.{ExcludesValues, IsListedAt, AreListed, Lists}
use Rattle.cps_p_lookup.proofs.Elements.{given_by, same_value}
use Rattle.cps_p_lookup.proofs.Placing.{more_given, not_off, equals_is}
use Rattle.cps_p_lookup.proofs.Resting.{trues_before}
use Rattle.cps_p_lookup.proofs.Tables.{column_given}

equal_is_same : (x y : ℤ) → int_cmp x y ≡ Equal → x ≡ y
equal_is_same x y e = grind (arith, ints)

not_less : (x : ℤ) → int_cmp x x ≡ Less → ⊥
not_less x e = grind (arith, ints)

not_greater : (x : ℤ) → int_cmp x x ≡ Greater → ⊥
not_greater x e = grind (arith, ints)

-- what a binary search of a sorted list says
pub listed_by_search : (ns : List ℤ) (x : ℤ) (r : Result ℕ ℕ) (b : Bool) → IsSorted int_cmp ns → b ≡ is_ok r → IsSearchInRange r (length ns) → IsBinarySearchResult (λ y. int_cmp y x) ns r → IsTrue b ↔ Contains ns x
listed_by_search ns x (Ok i) b sorted is bound found =
    (λ _. (i, bound, equal_is_same (get_or ns i x) x (found x)), λ _. is)
listed_by_search ns x (Err i) b sorted is bound found =
    let point = found (searchable_from_sorted int_cmp_total (λ y. y) ns x sorted) in (
      λ t. absurd (no_test t),
      λ h. absurd (elim (cases_lt h.0 i) [
        | inl before ↦ not_less x (subst (λ (y : ℤ). int_cmp y x ≡ Less) h.2 (point.0 h.0 x (omega arith) before))
        | inr after ↦ not_greater x (subst (λ (y : ℤ). int_cmp y x ≡ Greater) h.2 (point.1 h.0 x after h.1))
      ]),
    )
  where
    no_test : IsTrue b → ⊥
    no_test t = cc

pub excludes_more : (subject : ℕ) (kept : ℤ → Type 0) (old mid new : List Narrowing) (n : Narrowing) (v : ℤ) → ExcludesValues subject kept old mid → new ≡ mid ++ n ∷ [] → n.target ≡ record { subject = subject; op = Ne; value = v } → (kept v → ⊥) → ExcludesValues subject kept old new
excludes_more subject kept old mid new n v h is at off = record { at = λ body s given all. more_given body s mid new n is (given n.target v at off) (h.at body s given all); before = λ s trues. h.before s (trues_before s mid new n is trues) }

pub excludes_weaker : (subject : ℕ) (p q : ℤ → Type 0) (old new : List Narrowing) → ((v : ℤ) → q v → p v) → ExcludesValues subject p old new → ExcludesValues subject q old new
excludes_weaker subject p q old new w h = record { at = λ body s given all. h.at body s (λ u v at off. given u v at (λ k. off (w v k))) all; before = h.before }

-- an atom that a subject is not a value holds where the value is another
ne_holds : (xs : List ℤ) (u : Atom) (i : ℕ) (v : ℤ) → u ≡ record { subject = i; op = Ne; value = v } → (value_at xs i ≡ v → ⊥) → atom_holds xs u ≡ true
ne_holds xs u i v e off = subst (λ (w : Atom). atom_holds xs w ≡ true) (sym e) (not_off (equals (value_at xs i) v) (λ is. off (equals_is (value_at xs i) v is)))

-- a column's values, one row more
pub copied_more : (w : ℕ) (values : List ℤ) (c : ℕ) (rows : List ℕ) (k : ℕ) (old new : List ℤ) (v : ℤ) → k < length rows → new ≡ old ++ v ∷ [] → v ≡ get_or (row_at w values (get_or rows k 0)) c (pos 0)
    → All (λ r. Contains old (get_or (row_at w values r) c (pos 0))) (take k rows) → All (λ r. Contains new (get_or (row_at w values r) c (pos 0))) (take (k + 1) rows)
copied_more w values c rows k old new v l is at h =
    All-more (λ r. Contains new (get_or (row_at w values r) c (pos 0))) rows k 0 l
    (All-weaker (λ r. Contains old (get_or (row_at w values r) c (pos 0))) (λ r. Contains new (get_or (row_at w values r) c (pos 0)))
    (λ r here. subst (λ (ns : List ℤ). Contains ns (get_or (row_at w values r) c (pos 0))) (sym is) (Contains-append_left old (v ∷ []) (get_or (row_at w values r) c (pos 0)) here)) (take k rows) h)
    (subst (λ (x : ℤ). Contains new x) at (subst (λ (ns : List ℤ). Contains ns v) (sym is) (Contains-push old v)))

-- a value that no live row has at a column
pub column_off : (s : Trail) (es : List ℕ) (values : List ℤ) (rows : List ℕ) (c : ℕ) (listed : List ℤ) → c < length es → All (λ e. e < length s.first) es → AreLive s es values rows
    → All (λ r. Contains listed (get_or (row_at (length es) values r) c (pos 0))) rows
    → (u : Atom) (v : ℤ) → u ≡ record { subject = get_or es c 0; op = Ne; value = v } → (Contains listed v → ⊥) → IsGiven (Table es values false) s u
column_off s es values rows c listed l f live has u v is off =
    column_given s es values rows c u l f live (ap (λ (w : Atom). w.subject) is)
    (subst (λ (w : Atom). All (λ r. meets w.op w.value (get_or (row_at (length es) values r) c (pos 0)) ≡ true) rows) (sym is)
    (All-weaker (λ r. Contains listed (get_or (row_at (length es) values r) c (pos 0))) (λ r. not (equals (get_or (row_at (length es) values r) c (pos 0)) v) ≡ true)
    (λ r h. not_off (equals (get_or (row_at (length es) values r) c (pos 0)) v) (λ e. off (subst (λ (x : ℤ). Contains listed x) (equals_is (get_or (row_at (length es) values r) c (pos 0)) v e) h))) rows has))

-- a value that the target has at no place
pub target_off : (s : Trail) (i t : ℕ) (es : List ℕ) (listed : List ℤ) → IsFitElement s.first i t es → AreListed s i t es listed → (u : Atom) (v : ℤ) → u ≡ record { subject = t; op = Ne; value = v } → (Contains listed v → ⊥) → IsGiven (Element i t es) s u
target_off s i t es listed f h u v is off = given_by s i t es u (subst (λ n. n < length s.first) (ap (λ (w : Atom). w.subject) (sym is)) f.target)
    (λ xs k a l c. ne_holds xs u t v is (λ e. off (subst (λ (x : ℤ). Contains listed x) e ((h.at k l).at xs a c))))

-- where one place is open, a value that the expression there has not, or the target
pub target_beside : (s : Trail) (i t : ℕ) (es : List ℕ) (scan : Scan) (E : Window) → IsFitElement s.first i t es → IsScanned s i t es scan → scan.open ≡ 1 → scan.last < length es → ((x : ℤ) → contains E x ≡ admits s.first s.entries (get_or es scan.last 0) x)
    → (u : Atom) (v : ℤ) → u ≡ record { subject = t; op = Ne; value = v } → (contains E v ≡ true → ⊥) → IsGiven (Element i t es) s u
target_beside s i t es scan E f h one inside ofE u v is off = given_by s i t es u (subst (λ n. n < length s.first) (ap (λ (w : Atom). w.subject) (sym is)) f.target)
    (λ xs k a l c. ne_holds xs u t v is (λ e. off (subst (λ (x : ℤ). contains E x ≡ true) (same_value s i t es scan h one xs k a l c ∙ e)
    (ofE (value_at xs (get_or es scan.last 0)) ∙ a (get_or es scan.last 0) (All-get_or (λ n. n < length s.first) es scan.last 0 inside f.exprs)))))

pub expr_beside : (s : Trail) (i t : ℕ) (es : List ℕ) (scan : Scan) (T : Window) → IsFitElement s.first i t es → IsScanned s i t es scan → scan.open ≡ 1 → scan.last < length es → ((x : ℤ) → contains T x ≡ admits s.first s.entries t x)
    → (u : Atom) (v : ℤ) → u ≡ record { subject = get_or es scan.last 0; op = Ne; value = v } → (contains T v ≡ true → ⊥) → IsGiven (Element i t es) s u
expr_beside s i t es scan T f h one inside ofT u v is off = given_by s i t es u (subst (λ n. n < length s.first) (ap (λ (w : Atom). w.subject) (sym is)) (All-get_or (λ n. n < length s.first) es scan.last 0 inside f.exprs))
    (λ xs k a l c. ne_holds xs u (get_or es scan.last 0) v is (λ e. off (subst (λ (x : ℤ). contains T x ≡ true) (sym (same_value s i t es scan h one xs k a l c) ∙ e) (ofT (value_at xs t) ∙ a t f.target))))

-- the values at places, one place more
pub lists_none : (s : Trail) (i t : ℕ) (es : List ℕ) (k : ℕ) (I : Window) (values : List ℤ) → IsFitElement s.first i t es → ((x : ℤ) → contains I x ≡ admits s.first s.entries i x) → contains I (pos k) ≡ false → Lists s i t es k values values
lists_none s i t es k I values f ofI out = record {
  wider = λ p e h. h;
  here = record {
    at = λ xs a c.
        let inside = subst (λ (v : ℤ). admits s.first s.entries i v ≡ true) c.index (a i f.index) in
        let e : false ≡ true = sym out ∙ ofI (pos k) ∙ inside in
        absurd (cc);
  };
}

pub single_between : (a b x : ℤ) → a ≡ b → a ≤ℤ x → x ≤ℤ b → x ≡ a
single_between a b x e p q = omega (arith, ints)

pub lists_one : (s : Trail) (i t : ℕ) (es : List ℕ) (k : ℕ) (E : Window) (old new : List ℤ) (v : ℤ) → k < length es → IsFitElement s.first i t es → ((x : ℤ) → contains E x ≡ admits s.first s.entries (get_or es k 0) x) → ((x : ℤ) → contains E x ≡ true → x ≡ v)
    → new ≡ old ++ v ∷ [] → Lists s i t es k old new
lists_one s i t es k E old new v l f ofE one is = record {
  wider = λ p e h. record { at = λ xs a c. subst (λ (ns : List ℤ). Contains ns (value_at xs t)) (sym is) (Contains-append_left old (v ∷ []) (value_at xs t) (h.at xs a c)) };
  here = record {
    at = λ xs a c.
        let e = get_or es k 0 in
        let inside : contains E (value_at xs e) ≡ true = ofE (value_at xs e) ∙ a e (All-get_or (λ n. n < length s.first) es k 0 l f.exprs) in
        subst (λ (x : ℤ). Contains new x) (sym (one (value_at xs e) inside) ∙ c.same) (subst (λ (ns : List ℤ). Contains ns v) (sym is) (Contains-push old v));
  };
}

pub lists_more : (s : Trail) (i t : ℕ) (es : List ℕ) (n : ℕ) (old new : List ℤ) → ((k : ℕ) → k < n → IsListedAt s i t (get_or es k 0) k old) → Lists s i t es n old new → (k : ℕ) → k < n + 1 → IsListedAt s i t (get_or es k 0) k new
lists_more s i t es n old new h v k l = elim (cases_lt k n) [
  | inl before ↦ v.wider k (get_or es k 0) (h k before)
  | inr after ↦ (let is : k ≡ n = omega arith in subst (λ m. IsListedAt s i t (get_or es m 0) m new) (sym is) v.here)
]
