-- What is counted of the arcs at a node, one arc after another.
use Rattle.std.specs.Prelude.{slice_index, ◌↔◌}
use Rattle.std.proofs.Common.{◌≡◌, ◌≢◌, ◌⊎◌, inl, inr, ℕ, zero, suc, ℤ, true, true≢false, ◌+◌, ◌<◌, ◌≤◌, List, [], ◌∷◌, ◌++◌, length, get_or, set, refl, sym, ◌∙◌, ap, subst, arith}
use Rattle.std.proofs.lemmas.Bool.{cases_lt, cases_eq}
use Rattle.std.proofs.lemmas.List.{get_or-set_same, get_or-set_other, length-set, get_or_append_left, get_or_push}
use Rattle.cps_literal.specs.declared.atom.Atom.{Atom}
use Rattle.cps_literal.specs.declared.atom.Truth.{Truth}
use Rattle.cps_literal.specs.declared.atom.Truth.TheVariants.{Yes, No, Undecided}
use Rattle.cps_trail.specs.Trail.{Trail, admits, IsTrueNow, IsFalseNow}
use Rattle.cps_p_circuit.specs.declared.degrees.Degree.{Degree}
use Rattle.cps_p_circuit.specs.Counts.{IsState, AreStatesUpTo, IsSeenAt, IsCounted, nothing, degree_at, AreCounted}

pub some_number : (m : ℕ) → m ≢ 0 → (t : ℕ) × (m ≡ t + 1)
some_number zero h = absurd (h refl)
some_number (suc m) h = (m, omega arith)

pub not_yes : (x : Truth) → x ≡ Yes → x ≡ Undecided → ⊥
not_yes x p q = let e : Yes ≡ Undecided = sym p ∙ q in cc

pub not_no : (x : Truth) → x ≡ No → x ≡ Undecided → ⊥
not_no x p q = let e : No ≡ Undecided = sym p ∙ q in cc

pub no_yes : (x : Truth) → x ≡ No → x ≡ Yes → ⊥
no_yes x p q = let e : No ≡ Yes = sym p ∙ q in cc

-- what the truth of an atom says of it, where its subject has a value left
pub state_of : (s : Trail) (u : Atom) (state : Truth) → ((state ≡ Yes) ↔ IsTrueNow s u) → ((state ≡ No) ↔ IsFalseNow s u) → ((x : ℤ) × (admits s.first s.entries u.subject x ≡ true)) → IsState s u state
state_of s u Yes y n o = (y.0 refl, λ f. true≢false (sym (y.0 refl o.0 o.1) ∙ f o.0 o.1))
state_of s u No y n o = (n.0 refl, λ t. true≢false (sym (t o.0 o.1) ∙ n.0 refl o.0 o.1))
state_of s u Undecided y n o = ((λ t. let e = y.1 t in cc), λ f. let e = n.1 f in cc)

-- the states of one literal more
pub states_more : (s : Trail) (literals : List Atom) (n : ℕ) (d : Atom) (states new : List Truth) (x : Truth) → n < length literals → length states ≡ n → new ≡ states ++ x ∷ [] → IsState s (get_or literals n d) x
    → AreStatesUpTo s literals n states → AreStatesUpTo s literals (n + 1) new
states_more s literals n d states new x l len is here h k e m = elim (cases_lt k n) [
  | inl less ↦ subst (λ (xs : List Truth). IsState s (get_or literals k e) (get_or xs k No)) (sym is) (subst (IsState s (get_or literals k e)) (sym (get_or_append_left states (x ∷ []) No k (omega arith))) (h k e less))
  | inr more ↦ (
      let same : n ≡ k = omega arith in
      subst (λ (xs : List Truth). IsState s (get_or literals k e) (get_or xs k No)) (sym is)
      (subst (λ (j : ℕ). IsState s (get_or literals j e) (get_or (states ++ x ∷ []) j No)) same
      (subst (IsState s (get_or literals n e)) (sym (at_push states x n len)) (any_atom here))))
]
  where
    at_push : (xs : List Truth) (y : Truth) (m : ℕ) → length xs ≡ m → get_or (xs ++ y ∷ []) m No ≡ y
    at_push [] y zero e = refl
    at_push [] y (suc m) e = absurd (omega arith)
    at_push (z ∷ xs) y zero e = absurd (omega arith)
    at_push (z ∷ xs) y (suc m) e = at_push xs y m (omega arith)

    default : (xs : List Atom) (m : ℕ) (a b : Atom) → m < length xs → get_or xs m a ≡ get_or xs m b
    default [] m a b l = absurd (omega arith)
    default (z ∷ xs) zero a b l = refl
    default (z ∷ xs) (suc m) a b l = default xs m a b (omega arith)

    any_atom : IsState s (get_or literals n d) x → IsState s (get_or literals n e) x
    any_atom g = subst (λ (u : Atom). IsState s u x) (default literals n d e l) g

module _ (ends : List ℕ) (states : List Truth) (v n : ℕ) where
  seen_more : (state : Truth) (k : ℕ) → IsSeenAt ends states v n state k → IsSeenAt ends states v (n + 1) state k
  seen_more state k h = record { within = (let l = h.within in omega arith); at = h.at; is = h.is }

  last_or_before : (state : Truth) (k : ℕ) → IsSeenAt ends states v (n + 1) state k → (k ≡ n) ⊎ IsSeenAt ends states v n state k
  last_or_before state k h = elim (cases_lt k n) [
    | inl less ↦ inr (record { within = less; at = h.at; is = h.is })
    | inr more ↦ inl (let l = h.within in omega arith)
  ]

  -- an arc that is elsewhere
  pub counted_elsewhere : (d : Degree) → slice_index ends n ≢ v → IsCounted ends states v n d → IsCounted ends states v (n + 1) d
  counted_elsewhere d other h = record {
    taken = λ t e. seen_more Yes t (h.taken t e);
    second = λ t e. (let o = h.second t e in (seen_more Yes t o.0, o.1, o.2));
    undecided = λ t e. seen_more Undecided t (h.undecided t e);
    other = λ t e. (let o = h.other t e in (seen_more Undecided t o.0, o.1, o.2));
    each_taken = λ k g. elim (last_or_before Yes k g) [ inl same ↦ absurd (other (subst (λ (i : ℕ). slice_index ends i ≡ v) same g.at)) | inr old ↦ h.each_taken k old ];
    each_undecided = λ k g. elim (last_or_before Undecided k g) [ inl same ↦ absurd (other (subst (λ (i : ℕ). slice_index ends i ≡ v) same g.at)) | inr old ↦ h.each_undecided k old ];
  }

  module _ (d : Degree) (h : IsCounted ends states v n d) (at : slice_index ends n ≡ v) where
    last_seen : (state : Truth) (t : ℕ) → get_or states n No ≡ state → n ≡ t → IsSeenAt ends states v (n + 1) state t
    last_seen state t is same = subst (λ (i : ℕ). IsSeenAt ends states v (n + 1) state i) same (record { within = omega arith; at = at; is = is })

    last_state : (state : Truth) (k : ℕ) → k ≡ n → IsSeenAt ends states v (n + 1) state k → get_or states n No ≡ state
    last_state state k same g = subst (λ (i : ℕ). get_or states i No ≡ state) same g.is

    -- one that is taken, where none is yet
    pub counted_taken : (by : ℕ) → by ≡ n + 1 → get_or states n No ≡ Yes → d.taken ≡ 0 → IsCounted ends states v (n + 1) (record { taken = by; second = d.second; undecided = d.undecided; other = d.other })
    counted_taken by number is none = record {
      taken = λ t e. last_seen Yes t is (omega arith);
      second = λ t e. absurd ((h.second t e).1 none);
      undecided = λ t e. seen_more Undecided t (h.undecided t e);
      other = λ t e. (let o = h.other t e in (seen_more Undecided t o.0, o.1, o.2));
      each_taken = λ k g. elim (last_or_before Yes k g) [
        | inl same ↦ inl (omega arith)
        | inr old ↦ elim (h.each_taken k old) [ inl one ↦ absurd (omega arith) | inr two ↦ inr two ]
      ];
      each_undecided = λ k g. elim (last_or_before Undecided k g) [
        | inl same ↦ absurd (not_yes (get_or states n No) is (last_state Undecided k same g))
        | inr old ↦ h.each_undecided k old
      ];
    }

    -- and where one is
    pub counted_second : (by : ℕ) → by ≡ n + 1 → get_or states n No ≡ Yes → d.taken ≢ 0 → IsCounted ends states v (n + 1) (record { taken = d.taken; second = by; undecided = d.undecided; other = d.other })
    counted_second by number is some = record {
      taken = λ t e. seen_more Yes t (h.taken t e);
      second = λ t e. (last_seen Yes t is (omega arith), some, λ f. (let l = (h.taken t f).within in let same : t ≡ n = omega arith in let bad : ⊥ = omega arith in bad));
      undecided = λ t e. seen_more Undecided t (h.undecided t e);
      other = λ t e. (let o = h.other t e in (seen_more Undecided t o.0, o.1, o.2));
      each_taken = λ k g. inr (λ none. (let bad : ⊥ = omega arith in bad));
      each_undecided = λ k g. elim (last_or_before Undecided k g) [
        | inl same ↦ absurd (not_yes (get_or states n No) is (last_state Undecided k same g))
        | inr old ↦ h.each_undecided k old
      ];
    }

    -- one that is open
    pub counted_open : (by : ℕ) → by ≡ n + 1 → get_or states n No ≡ Undecided → IsCounted ends states v (n + 1) (record { taken = d.taken; second = d.second; undecided = by; other = d.undecided })
    counted_open by number is = record {
      taken = λ t e. seen_more Yes t (h.taken t e);
      second = λ t e. (let o = h.second t e in (seen_more Yes t o.0, o.1, o.2));
      undecided = λ t e. last_seen Undecided t is (omega arith);
      other = λ t e.
          (let old = h.undecided t e in
          let l = old.within in (
            seen_more Undecided t old,
            λ none. (let bad : ⊥ = omega arith in bad),
            λ f. (let bad : ⊥ = omega arith in bad),
          ));
      each_taken = λ k g. elim (last_or_before Yes k g) [
        | inl same ↦ absurd (not_yes (get_or states n No) (last_state Yes k same g) is)
        | inr old ↦ h.each_taken k old
      ];
      each_undecided = λ k g. elim (last_or_before Undecided k g) [
        | inl same ↦ inl (omega arith)
        | inr old ↦ inr (elim (h.each_undecided k old) [
          | inl one ↦ λ none. (let bad : ⊥ = omega arith in bad)
          | inr two ↦ (let t = some_number d.other two in (h.other t.0 t.1).1)
        ])
      ];
    }

    -- one that is not taken
    pub counted_left : get_or states n No ≡ No → IsCounted ends states v (n + 1) d
    counted_left is = record {
      taken = λ t e. seen_more Yes t (h.taken t e);
      second = λ t e. (let o = h.second t e in (seen_more Yes t o.0, o.1, o.2));
      undecided = λ t e. seen_more Undecided t (h.undecided t e);
      other = λ t e. (let o = h.other t e in (seen_more Undecided t o.0, o.1, o.2));
      each_taken = λ k g. elim (last_or_before Yes k g) [ inl same ↦ absurd (no_yes (get_or states n No) is (last_state Yes k same g)) | inr old ↦ h.each_taken k old ];
      each_undecided = λ k g. elim (last_or_before Undecided k g) [ inl same ↦ absurd (not_no (get_or states n No) is (last_state Undecided k same g)) | inr old ↦ h.each_undecided k old ];
    }

none_seen : (ends : List ℕ) (states : List Truth) (v : ℕ) (d : Degree) → d ≡ nothing → IsCounted ends states v 0 d
none_seen ends states v d e = rw e (record {
  taken = λ t f. absurd (omega arith);
  second = λ t f. absurd (omega arith);
  undecided = λ t f. absurd (omega arith);
  other = λ t f. absurd (omega arith);
  each_taken = λ k g. absurd (let l = g.within in omega arith);
  each_undecided = λ k g. absurd (let l = g.within in omega arith);
})

pub counted_none : (ends : List ℕ) (states : List Truth) (nodes : ℕ) (degrees : List Degree) → length degrees ≡ nodes → ((v : ℕ) → degree_at degrees v ≡ nothing) → AreCounted ends states nodes 0 degrees
counted_none ends states nodes degrees len none = record { room = len; each = λ v l. none_seen ends states v (degree_at degrees v) (none v) }

pub counted_more : (ends : List ℕ) (states : List Truth) (nodes n v : ℕ) (degrees : List Degree) (d : Degree) → v ≡ slice_index ends n → v < nodes → AreCounted ends states nodes n degrees → IsCounted ends states v (n + 1) d → AreCounted ends states nodes (n + 1) (set degrees v d)
counted_more ends states nodes n v degrees d is l h here = record {
  room = length-set degrees v d ∙ h.room;
  each = λ w m. elim (cases_eq w v) [
    | inl same ↦ (
        let r = h.room in
        let at : degree_at (set degrees v d) v ≡ d = get_or-set_same degrees v d nothing (omega arith) in
        subst (λ (i : ℕ). IsCounted ends states i (n + 1) (degree_at (set degrees v d) i)) (sym same) (subst (IsCounted ends states v (n + 1)) (sym at) here))
    | inr differ ↦ subst (IsCounted ends states w (n + 1)) (sym (get_or-set_other degrees v w d nothing differ)) (counted_elsewhere ends states w n (degree_at degrees w) (λ e. differ (sym e ∙ sym is)) (h.each w m))
  ];
}

-- as many nodes of which nothing was seen
pub still_nothing : (xs new : List Degree) → new ≡ xs ++ nothing ∷ [] → ((v : ℕ) → degree_at xs v ≡ nothing) → (v : ℕ) → degree_at new v ≡ nothing
still_nothing xs new e h v = ap (λ (ys : List Degree). degree_at ys v) e ∙ same xs v ∙ h v
  where
    same : (ys : List Degree) (w : ℕ) → degree_at (ys ++ nothing ∷ []) w ≡ degree_at ys w
    same [] zero = refl
    same [] (suc w) = refl
    same (y ∷ ys) zero = refl
    same (y ∷ ys) (suc w) = same ys w

pub one_longer : {X : Type 0} (xs new : List X) (x : X) (n : ℕ) → new ≡ xs ++ x ∷ [] → length xs ≡ n → length new ≡ n + 1
one_longer {X = X} xs new x n e l = ap length e ∙ longer xs ∙ ap (λ m. m + 1) l
  where
    longer : (ys : List X) → length (ys ++ x ∷ []) ≡ length ys + 1
    longer [] = refl
    longer (y ∷ ys) = let e = longer ys in omega arith

-- what is read within a list does not depend on the default
pub any_default : {X : Type 0} (xs : List X) (k : ℕ) (a b : X) → k < length xs → get_or xs k a ≡ get_or xs k b
any_default [] k a b l = absurd (omega arith)
any_default (x ∷ xs) zero a b l = refl
any_default (x ∷ xs) (suc k) a b l = any_default xs k a b (omega arith)
