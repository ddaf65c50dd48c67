-- Lists of values that a store leaves, and at which a body of literals about different subjects holds.
use Rattle.std.proofs.Common.{◌≡◌, ◌≢◌, ◌⊎◌, ℕ, zero, suc, ◌<◌, ◌≤◌, ℤ, pos, negsuc, ◌≤ℤ◌, Bool, true, false, not, List, [], ◌∷◌, length, map, get_or, refl, sym, ◌∙◌, ap, subst, inl, inr, arith}
use Rattle.std.specs.List.{range_with_len, All}
use Rattle.std.proofs.lemmas.Int.{ints}
use Rattle.std.proofs.lemmas.List.FromFn.{get_or-map-range_with_len}
use Rattle.std.proofs.lemmas.List.Elements.{All-nil, All-cons, All-head, All-tail}
use Rattle.cps_literal.specs.declared.atom.Atom.{Atom}
use Rattle.cps_literal.specs.Truth.{meets, value_at, atom_holds}
use Rattle.cps_trail.specs.Trail.{Trail, admits}
use Rattle.cps_trail.proofs.Room.{among_first}
use Rattle.cps_propagate.specs.Now.{IsOpenTo}
use Rattle.cps_p_bool.specs.Denying.{IsFit}
use Rattle.cps_p_bool.specs.Taking.{AreApart, LeavesSomeValue}
use Rattle.cps_p_bool.proofs.AtomPlaces.{same_or_not}

pub below_or_not : (i n : ℕ) → (i < n) ⊎ (n ≤ i)
below_or_not i zero = inr (omega arith)
below_or_not zero (suc n) = inl (omega arith)
below_or_not (suc i) (suc n) = elim (below_or_not i n) [ inl l ↦ inl (omega (arith, l)) | inr g ↦ inr (omega (arith, g)) ]

pub truth_of : (b : Bool) → (b ≡ true) ⊎ (b ≡ false)
truth_of true = inl refl
truth_of false = inr refl

-- the value of one subject exchanged
abbrev pub chosen : {P Q : Type 0} → P ⊎ Q → ℤ → ℤ → ℤ
chosen (inl p) x y = x
chosen (inr q) x y = y

abbrev pub changed : (ℕ → ℤ) → ℕ → ℤ → ℕ → ℤ
changed f i x j = chosen (same_or_not j i) x (f j)

chosen_first : {P Q : Type 0} (c : P ⊎ Q) (x y : ℤ) → (Q → ⊥) → chosen c x y ≡ x
chosen_first (inl p) x y n = refl
chosen_first (inr q) x y n = absurd (n q)

chosen_second : {P Q : Type 0} (c : P ⊎ Q) (x y : ℤ) → (P → ⊥) → chosen c x y ≡ y
chosen_second (inl p) x y n = absurd (n p)
chosen_second (inr q) x y n = refl

pub changed_here : (f : ℕ → ℤ) (i : ℕ) (x : ℤ) → changed f i x i ≡ x
changed_here f i x = chosen_first (same_or_not i i) x (f i) (λ n. n refl)

pub changed_other : (f : ℕ → ℤ) (i : ℕ) (x : ℤ) (j : ℕ) → j ≢ i → changed f i x j ≡ f j
changed_other f i x j ne = chosen_second (same_or_not j i) x (f j) ne

-- a value for each subject that it may have now
pub record Pick (s : Trail) : Type 0 where
  pub at : ℕ → ℤ
  pub opens : (i : ℕ) → i < length s.first → IsOpenTo s i (at i)

abbrev pub listed : (f : ℕ → ℤ) (n : ℕ) → List ℤ
listed f n = map f (range_with_len 0 n)

pub listed_at : (f : ℕ → ℤ) (n i : ℕ) → i < n → value_at (listed f n) i ≡ f i
listed_at f n i l = get_or-map-range_with_len f 0 n i i (pos 0) l (omega arith)

pub listed_holds : (f : ℕ → ℤ) (n : ℕ) (u : Atom) → u.subject < n → atom_holds (listed f n) u ≡ meets u.op u.value (f u.subject)
listed_holds f n u l = ap (λ (x : ℤ). meets u.op u.value x) (listed_at f n u.subject l)

abbrev pub first_value : (s : Trail) (h : LeavesSomeValue s) (i : ℕ) → (i < length s.first) ⊎ (length s.first ≤ i) → ℤ
first_value s h i (inl l) = (h i l).0
first_value s h i (inr g) = pos 0

first_open : (s : Trail) (h : LeavesSomeValue s) (i : ℕ) (c : (i < length s.first) ⊎ (length s.first ≤ i)) → i < length s.first → IsOpenTo s i (first_value s h i c)
first_open s h i (inl m) l = (h i m).1
first_open s h i (inr g) l = absurd (omega (arith, g, l))

pub first_pick : (s : Trail) → LeavesSomeValue s → Pick s
first_pick s h = record { at = λ i. first_value s h i (below_or_not i (length s.first)); opens = λ i l. first_open s h i (below_or_not i (length s.first)) l }

-- an atom has a truth at a value that its subject may have now
pub record CanBe (s : Trail) (u : Atom) (t : Bool) : Type 0 where
  pub value : ℤ
  pub opens : IsOpenTo s u.subject value
  pub is : meets u.op u.value value ≡ t

module _ (s : Trail) where
  abbrev pub set : Pick s → (i : ℕ) (x : ℤ) → IsOpenTo s i x → Pick s
  set p i x o = record {
    at = changed p.at i x;
    opens = λ j l. elim (same_or_not j i) [
      | inl e ↦ subst (λ (k : ℕ). IsOpenTo s k (changed p.at i x k)) (sym e) (subst (λ (v : ℤ). IsOpenTo s i v) (sym (changed_here p.at i x)) o)
      | inr ne ↦ subst (λ (v : ℤ). IsOpenTo s j v) (sym (changed_other p.at i x j ne)) (p.opens j l)
    ];
  }

  -- what a pick does for atoms, but for those about one subject, whose value stays
  pub record Steered (t : Bool) (keep : ℕ) (us : List Atom) (p : Pick s) : Type 0 where
    pub pick : Pick s
    pub granted : All (λ u. u.subject ≢ keep → meets u.op u.value (pick.at u.subject) ≡ t) us
    pub kept : pick.at keep ≡ p.at keep
    pub others : (j : ℕ) → All (λ u. u.subject ≢ j) us → pick.at j ≡ p.at j

  pub steer : (t : Bool) (keep : ℕ) (us : List Atom) → AreApart us → All (λ u. u.subject ≢ keep → CanBe s u t) us → (p : Pick s) → Steered t keep us p
  steer t keep [] a can p = record { pick = p; granted = All-nil (λ u. u.subject ≢ keep → meets u.op u.value (p.at u.subject) ≡ t); kept = refl; others = λ j h. refl }
  steer t keep (u ∷ us) a can p =
      let rest = steer t keep us a.1 (All-tail (λ v. v.subject ≢ keep → CanBe s v t) u us can) p in
      elim (same_or_not u.subject keep) [
        | inl same ↦ record {
          pick = rest.pick;
          granted = All-cons (λ v. v.subject ≢ keep → meets v.op v.value (rest.pick.at v.subject) ≡ t) u us (λ ne. absurd (ne same)) rest.granted;
          kept = rest.kept;
          others = λ j h. rest.others j (All-tail (λ v. v.subject ≢ j) u us h);
        }
        | inr ne ↦ (let c = All-head (λ v. v.subject ≢ keep → CanBe s v t) u us can ne in
            record {
              pick = set rest.pick u.subject c.value c.opens;
              granted = All-cons (λ v. v.subject ≢ keep → meets v.op v.value (changed rest.pick.at u.subject c.value v.subject) ≡ t) u us
                  (λ _. ap (λ (x : ℤ). meets u.op u.value x) (changed_here rest.pick.at u.subject c.value) ∙ c.is)
                  (λ k d l other. ap (λ (x : ℤ). meets (get_or us k d).op (get_or us k d).value x) (changed_other rest.pick.at u.subject c.value (get_or us k d).subject (a.0 k d l)) ∙ rest.granted k d l other);
              kept = changed_other rest.pick.at u.subject c.value keep (λ e. ne (sym e)) ∙ rest.kept;
              others = λ j h. changed_other rest.pick.at u.subject c.value j (λ e. All-head (λ v. v.subject ≢ j) u us h (sym e)) ∙ rest.others j (All-tail (λ v. v.subject ≢ j) u us h);
            })
      ]

same_truth : (a b : Bool) → (a ≡ b) ⊎ (a ≡ not b)
same_truth true true = inl refl
same_truth true false = inr refl
same_truth false true = inr refl
same_truth false false = inl refl

pub zero_or_one : (x : ℤ) → pos 0 ≤ℤ x → x ≤ℤ pos 1 → (x ≡ pos 0) ⊎ (x ≡ pos 1)
zero_or_one (pos zero) l g = inl refl
zero_or_one (pos (suc zero)) l g = inr refl
zero_or_one (pos (suc (suc n))) l g = absurd (grind (arith, ints))
zero_or_one (negsuc n) l g = absurd (grind (arith, ints))

pub bits : (s : Trail) (u : Atom) → IsFit s.first u → (x : ℤ) → IsOpenTo s u.subject x → (x ≡ pos 0) ⊎ (x ≡ pos 1)
bits s u fit x o =
    let among = among_first s.first s.entries u.subject x o in
    zero_or_one x (fit.literal.least x among) (fit.literal.greatest x among)

module _ (s : Trail) (u : Atom) (t : Bool) (fit : IsFit s.first u) (h : ((x : ℤ) → IsOpenTo s u.subject x → meets u.op u.value x ≡ not t) → ⊥) where
  at_one : (IsOpenTo s u.subject (pos 0) → meets u.op u.value (pos 0) ≡ not t) → (IsOpenTo s u.subject (pos 1)) ⊎ (admits s.first s.entries u.subject (pos 1) ≡ false)
      → (meets u.op u.value (pos 1) ≡ t) ⊎ (meets u.op u.value (pos 1) ≡ not t) → CanBe s u t
  at_one nay (inl o) (inl m) = record { value = pos 1; opens = o; is = m }
  at_one nay o (inr m) = absurd (h (λ x open'. elim (bits s u fit x open') [
    | inl e ↦ subst (λ (y : ℤ). IsOpenTo s u.subject y → meets u.op u.value y ≡ not t) (sym e) nay open'
    | inr e ↦ subst (λ (y : ℤ). meets u.op u.value y ≡ not t) (sym e) m
  ]))
  at_one nay (inr c) (inl m) = absurd (h (λ x open'. elim (bits s u fit x open') [
    | inl e ↦ subst (λ (y : ℤ). IsOpenTo s u.subject y → meets u.op u.value y ≡ not t) (sym e) nay open'
    | inr e ↦ absurd (let q : true ≡ false = sym open' ∙ ap (λ (y : ℤ). admits s.first s.entries u.subject y) e ∙ c in cc)
  ]))

  not_zero : (IsOpenTo s u.subject (pos 0) → meets u.op u.value (pos 0) ≡ not t) → CanBe s u t
  not_zero nay = at_one nay (truth_of (admits s.first s.entries u.subject (pos 1))) (same_truth (meets u.op u.value (pos 1)) t)

  at_zero : (IsOpenTo s u.subject (pos 0)) ⊎ (admits s.first s.entries u.subject (pos 0) ≡ false) → (meets u.op u.value (pos 0) ≡ t) ⊎ (meets u.op u.value (pos 0) ≡ not t) → CanBe s u t
  at_zero (inl o) (inl m) = record { value = pos 0; opens = o; is = m }
  at_zero o (inr m) = not_zero (λ _. m)
  at_zero (inr c) (inl m) = not_zero (λ o. absurd (let q : true ≡ false = sym o ∙ c in cc))

  -- a literal that is not the other way at each value that is left can be so
  pub can_be : CanBe s u t
  can_be = at_zero (truth_of (admits s.first s.entries u.subject (pos 0))) (same_truth (meets u.op u.value (pos 0)) t)
