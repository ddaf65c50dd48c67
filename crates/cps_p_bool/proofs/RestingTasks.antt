-- Narrowings that leave a task of literals at rest.
use Rattle.std.specs.Prelude.{int_le, ◌||◌, ◌&&◌, ◌==◌}
use Rattle.std.proofs.Common.{◌≡◌, ◌≢◌, ◌⊎◌, ℕ, zero, suc, ◌%◌, ◌<◌, ◌≤◌, ℤ, pos, Bool, true, false, not, List, [], ◌∷◌, ◌++◌, length, get_or, refl, sym, ◌∙◌, ap, subst, inl, inr, arith}
use Rattle.std.specs.List.{list_any, list_all, count_by, All, Contains}
use Rattle.std.proofs.lemmas.Int.{ints}
use Rattle.std.proofs.lemmas.List.{get_or_default}
use Rattle.std.proofs.lemmas.List.Elements.{All-nil, All-head, All-tail, All-map, All-contains}
use Rattle.std.proofs.lemmas.List.Sums.{AllPass-from_list_all, list_all-from_AllPass}
use Rattle.cps_literal.specs.declared.atom.Atom.{Atom}
use Rattle.cps_literal.specs.declared.atom.Op.{Op}
use Rattle.cps_literal.specs.declared.atom.Op.TheVariants.{Le, Ge}
use Rattle.cps_literal.specs.Truth.{meets, value_at, atom_holds}
use Rattle.cps_instance.specs.declared.task.Body.{Body}
use Rattle.cps_instance.specs.declared.task.Body.TheVariants.{Empty, BoolAnd}
use Rattle.cps_instance.specs.Tasks.{HoldsBody, atom_subjects, subjects_of, subjects_of_body, true_atoms}
use Rattle.cps_instance.specs.Fitting.{IsFitting}
use Rattle.cps_instance.proofs.Agreeing.{All-append_left, All-append_right, AgreeAt, HoldsBody-agree, count_by-cons}
use Rattle.cps_trail.specs.Trail.{Entry, Trail, admits, IsTrueNow, IsFalseNow}
use Rattle.cps_trail.proofs.Laws.{admits-push, admits-push_same, admits-push_other, admits-append}
use Rattle.cps_propagate.specs.Now.{IsOpenTo, IsFixedNow, IsKnownNow, AreOpen, IsSameAt}
use Rattle.cps_propagate.specs.Strength.{IsUnforced, IsExcluded, IsStrongBody, IsExcludedBody}
use Rattle.cps_propagate.specs.Laws.{IsTaskAtRest, StaysAtRest, with_entry}
use Rattle.cps_propagate.proofs.Framing.{IsTaskAtRest-same}
use Rattle.cps_p_bool.specs.declared.boolean.Kind.{Kind}
use Rattle.cps_p_bool.specs.declared.boolean.Kind.TheVariants as kinds
use Rattle.cps_p_bool.specs.Bodies.{body_of}
use Rattle.cps_p_bool.specs.Denying.{IsFit, AreLiterals, task_of}
use Rattle.cps_p_bool.specs.Normal.{IsBitValue, AreBits, IsReduced}
use Rattle.cps_p_bool.specs.Rules.{IsBoolean}
use Rattle.cps_p_bool.specs.Seeking.{IsIdle}
use Rattle.cps_p_bool.specs.Taking.{AreApart}
use Rattle.cps_p_bool.specs.Waking.{IsFavoured, IsDisabled, IsEased, IsSpared}
use Rattle.cps_p_bool.proofs.Bodies.{IsBoolean-kind, fits_enforcement, fits_kind, fits_about, not_cut}
use Rattle.cps_p_bool.proofs.AtomCounts.{bit, any_at}
use Rattle.cps_p_bool.proofs.AtomPlaces.{same_or_not}
use Rattle.cps_p_bool.proofs.KindSteps.{All-unmap, pinned_true, IsDecided-off}
use Rattle.cps_p_bool.proofs.KindStrength.{body_subjects, IsStrong-idle}
use Rattle.cps_p_bool.proofs.LiteralValues.{truth_of, changed, changed_here, changed_other, listed, listed_at, bits}

-- What rest asks of each kind, and whether it holds.
AreUnforced-kind : (k : Kind) (us : List Atom) (s : Trail) → (k ≡ kinds.Empty → us ≡ []) → IsStrongBody (body_of k us) s → All (IsUnforced s (body_of k us)) us
AreUnforced-kind kinds.Empty us s none h = subst (λ (l : List Atom). All (IsUnforced s Empty) l) (sym (none refl)) (All-nil (IsUnforced s Empty))
AreUnforced-kind kinds.Or us s none h = h
AreUnforced-kind kinds.And us s none h = h
AreUnforced-kind kinds.AtMostOne us s none h = h
AreUnforced-kind kinds.ExactlyOne us s none h = h
AreUnforced-kind kinds.Xor us s none h = h

IsExcludedBody-kind : (k : Kind) (us : List Atom) (s : Trail) → IsExcluded s (body_of k us) → IsExcludedBody (body_of k us) s
IsExcludedBody-kind kinds.Empty us s h = h
IsExcludedBody-kind kinds.Or us s h = h
IsExcludedBody-kind kinds.And us s h = h
IsExcludedBody-kind kinds.AtMostOne us s h = h
IsExcludedBody-kind kinds.ExactlyOne us s h = h
IsExcludedBody-kind kinds.Xor us s h = h

true_or_not : (b : Bool) → (b ≡ true) ⊎ (b ≡ true → ⊥)
true_or_not true = inl refl
true_or_not false = inr (λ e. let bad : false ≡ true = e in cc bad)

one_at_most_or_not : (n : ℕ) → (n ≤ 1) ⊎ (n ≤ 1 → ⊥)
one_at_most_or_not zero = inl (omega arith)
one_at_most_or_not (suc zero) = inl (omega arith)
one_at_most_or_not (suc (suc n)) = inr (λ l. omega (arith, l))

holds_or_not : (k : Kind) (us : List Atom) (xs : List ℤ) → HoldsBody (body_of k us) xs ⊎ (HoldsBody (body_of k us) xs → ⊥)
holds_or_not kinds.Empty us xs = inl tt
holds_or_not kinds.Or us xs = true_or_not (list_any (atom_holds xs) us)
holds_or_not kinds.And us xs = true_or_not (list_all (atom_holds xs) us)
holds_or_not kinds.AtMostOne us xs = one_at_most_or_not (true_atoms xs us)
holds_or_not kinds.ExactlyOne us xs = same_or_not (true_atoms xs us) 1
holds_or_not kinds.Xor us xs = same_or_not (true_atoms xs us % 2) 1

bit_below : (a b : Bool) → (a ≡ true → b ≡ true) → bit a ≤ bit b
bit_below true true h = omega arith
bit_below true false h = absurd (let bad : false ≡ true = h refl in cc bad)
bit_below false b h = omega arith

-- where each atom that passes one test passes another, no more pass the first
count_below : (q r : Atom → Bool) (us : List Atom) → All (λ u. r u ≡ true → q u ≡ true) us → count_by r us ≤ count_by q us
count_below q r [] h = let z : count_by r [] ≡ count_by q [] = refl in omega (arith, z)
count_below q r (u ∷ us) h =
    let P : Atom → Type 0 = λ v. r v ≡ true → q v ≡ true in
    omega (arith, count_by-cons q u us, count_by-cons r u us, bit_below (r u) (q u) (All-head P u us h), count_below q r us (All-tail P u us h))

-- atoms about the same subject stand at the same place
only_at : (us : List Atom) → AreApart us → (j k : ℕ) (d e : Atom) → j < length us → k < length us → (get_or us j d).subject ≡ (get_or us k e).subject → j ≡ k
only_at [] a j k d e l m same = absurd (omega (arith, l))
only_at (u ∷ us) a zero zero d e l m same = refl
only_at (u ∷ us) a zero (suc k) d e l m same = absurd (a.0 k e (omega (arith, m)) (sym same))
only_at (u ∷ us) a (suc j) zero d e l m same = absurd (a.0 j d (omega (arith, l)) same)
only_at (u ∷ us) a (suc j) (suc k) d e l m same = ap suc (only_at us a.1 j k d e (omega (arith, l)) (omega (arith, m)) same)

-- the values of a list, with one exchanged
abbrev moved : ℕ → ℤ → ℕ → List ℤ → List ℤ
moved i x n ys = listed (changed (λ j. value_at ys j) i x) n

module _ (i : ℕ) (x : ℤ) (n : ℕ) (ys : List ℤ) where
  moved_here : i < n → value_at (moved i x n ys) i ≡ x
  moved_here l = listed_at (changed (λ j. value_at ys j) i x) n i l ∙ changed_here (λ j. value_at ys j) i x

  moved_other : (j : ℕ) → j < n → (j ≡ i → ⊥) → value_at (moved i x n ys) j ≡ value_at ys j
  moved_other j l ne = listed_at (changed (λ j. value_at ys j) i x) n j l ∙ changed_other (λ j. value_at ys j) i x j ne

-- a kind that holds of literals about different subjects holds with a value that it favours
module _ (live : List Atom) (apart : AreApart live) (i : ℕ) (x : ℤ) (n : ℕ) (below : All (λ u. u.subject < n) live) (ys : List ℤ) where
  abbrev there : List ℤ
  there = moved i x n ys

  module _ (c : Atom) (has : Contains live c) (about : c.subject ≡ i) where
    is_c : (d : Atom) → get_or live has.0 d ≡ c
    is_c d = get_or_default live has.0 d c has.1 ∙ has.2

    c_there : atom_holds there c ≡ meets c.op c.value x
    c_there =
        let l : i < n = subst (λ (j : ℕ). j < n) about (All-contains (λ u. u.subject < n) live c below has) in
        ap (λ (j : ℕ). meets c.op c.value (value_at there j)) about ∙ ap (λ (y : ℤ). meets c.op c.value y) (moved_here i x n ys l)

    -- an atom is the one about the subject, or has the truth that it had
    truth_there : (k : ℕ) (d : Atom) → k < length live → (atom_holds there (get_or live k d) ≡ meets c.op c.value x) ⊎ (atom_holds there (get_or live k d) ≡ atom_holds ys (get_or live k d))
    truth_there k d l = elim (same_or_not (get_or live k d).subject i) [
      | inl same ↦ inl (let place : k ≡ has.0 = only_at live apart k has.0 d d l has.1 (same ∙ sym about ∙ ap (λ (u : Atom). u.subject) (sym (is_c d))) in
          ap (λ (u : Atom). atom_holds there u) (ap (λ (j : ℕ). get_or live j d) place ∙ is_c d) ∙ c_there)
      | inr ne ↦ inr (ap (λ (y : ℤ). meets (get_or live k d).op (get_or live k d).value y) (moved_other i x n ys (get_or live k d).subject (below k d l) ne))
    ]

  HoldsBody-favoured : (k : Kind) → IsFavoured k live i x → HoldsBody (body_of k live) ys → HoldsBody (body_of k live) there
  HoldsBody-favoured kinds.Empty f h = tt
  HoldsBody-favoured kinds.Or f h =
      any_at (atom_holds there) live f.has.0 f.has.1 (λ d. ap (λ (u : Atom). atom_holds there u) (is_c f.literal f.has f.about d) ∙ c_there f.literal f.has f.about ∙ f.favoured)
  HoldsBody-favoured kinds.And f h = list_all-from_AllPass (atom_holds there) live (λ k d l. elim (truth_there f.literal f.has f.about k d l) [
    | inl e ↦ e ∙ f.favoured
    | inr e ↦ e ∙ AllPass-from_list_all (atom_holds ys) live h k d l
  ])
  HoldsBody-favoured kinds.AtMostOne f h =
      let fewer = count_below (atom_holds ys) (atom_holds there) live (λ k d l passes. elim (truth_there f.literal f.has f.about k d l) [
        | inl e ↦ absurd (let bad : true ≡ false = sym passes ∙ e ∙ f.favoured in cc bad)
        | inr e ↦ sym e ∙ passes
      ]) in
      omega (arith, fewer, h)
  HoldsBody-favoured kinds.ExactlyOne f h = absurd f.favoured
  HoldsBody-favoured kinds.Xor f h = absurd f.favoured

-- A store leaves one value to a subject, and to others what another store leaves them.
record IsLeft (s u : Trail) (i : ℕ) (x : ℤ) : Type 0 where
  others : (j : ℕ) → (j ≡ i → ⊥) → IsSameAt s u j
  less : (y : ℤ) → IsOpenTo u i y → IsOpenTo s i y
  only : (y : ℤ) → IsOpenTo u i y → y ≡ x
  left : IsOpenTo u i x

-- a task is at rest where an enforcement atom is false
IsTaskAtRest-disabled : (e : List Atom) (b : Body) (s u : Trail) (i : ℕ) (x : ℤ) → IsDisabled e i x → IsLeft s u i x → IsTaskAtRest (task_of e b) u
IsTaskAtRest-disabled e b s u i x off at = record { decided = IsDecided-off u e b off.has.0 (record { within = off.has.1; false_now = false_now }); strong = IsStrong-idle u e b idle }
  where
    is_atom : (d : Atom) → get_or e off.has.0 d ≡ off.atom
    is_atom d = get_or_default e off.has.0 d off.atom off.has.1 ∙ off.has.2

    false_now : (d : Atom) → IsFalseNow u (get_or e off.has.0 d)
    false_now d = subst (λ (a : Atom). IsFalseNow u a) (sym (is_atom d)) (λ y o.
        ap (λ (z : ℤ). meets off.atom.op off.atom.value z) (at.only y (subst (λ (j : ℕ). IsOpenTo u j y) off.about o)) ∙ off.false_there)

    not_true : (d : Atom) → IsTrueNow u (get_or e off.has.0 d) → ⊥
    not_true d t =
        let t' : IsTrueNow u off.atom = subst (λ (a : Atom). IsTrueNow u a) (is_atom d) t in
        let bad : true ≡ false = sym (t' x (subst (λ (j : ℕ). IsOpenTo u j x) (sym off.about) at.left)) ∙ off.false_there in
        cc bad

    idle : IsIdle u e
    idle = record {
      place = off.has.0;
      within = off.has.1;
      not_true = not_true;
      last = λ k d l others. elim (same_or_not k off.has.0) [
        | inl same ↦ subst (λ (j : ℕ). IsFalseNow u (get_or e j d)) (sym same) (false_now d)
        | inr ne ↦ absurd (not_true d (others off.has.0 d off.has.1 (λ q. ne (sym q))))
      ];
    }

-- a test that tells 0 and 1 apart is passed alike by the same one of them alone
same_bit : (m : ℤ → Bool) → (m (pos 0) ≡ m (pos 1) → ⊥) → (y z : ℤ) → IsBitValue y → IsBitValue z → m y ≡ m z → y ≡ z
same_bit m differs y z (inl a) (inl c) e = a ∙ sym c
same_bit m differs y z (inl a) (inr c) e = absurd (differs (ap m (sym a) ∙ e ∙ ap m c))
same_bit m differs y z (inr a) (inl c) e = absurd (differs (sym (ap m (sym a) ∙ e ∙ ap m c)))
same_bit m differs y z (inr a) (inr c) e = a ∙ sym c

-- A task at rest stays so where a subject gets a value that its body favours.
module _ (e us sure live : List Atom) (k rest : Kind) (h : IsReduced k us sure rest live) (i : ℕ) (x : ℤ) (eased : IsEased e us rest live i x)
    (s u : Trail) (at : IsLeft s u i x) (fit : IsFitting s.first (task_of e (body_of k us))) (rested : IsTaskAtRest (task_of e (body_of k us)) s) where
  abbrev body : Body
  body = body_of k us

  abbrev after : List ℤ → List ℤ
  after ys = moved i x (length s.first) ys

  us_fit : AreLiterals s.first us
  us_fit = fits_kind s.first e us k h.no_atoms fit

  live_fit : AreLiterals s.first live
  live_fit = fits_about s.first us live us_fit h.normal.live_about

  sure_fit : AreLiterals s.first sure
  sure_fit = fits_about s.first us sure us_fit h.normal.sure_about

  boolean : IsBoolean body us
  boolean = IsBoolean-kind k us h.no_atoms

  below : All (λ j. j < length s.first) (subjects_of_body body)
  below = body_subjects s e body us boolean us_fit

  open_after : (j : ℕ) (y : ℤ) → (j ≡ i → ⊥) → IsOpenTo s j y → IsOpenTo u j y
  open_after j y ne o = sym (at.others j ne y) ∙ o

  open_before : (j : ℕ) (y : ℤ) → IsOpenTo u j y → IsOpenTo s j y
  open_before j y o = elim (same_or_not j i) [
    | inl same ↦ subst (λ (m : ℕ). IsOpenTo s m y) (sym same) (at.less y (subst (λ (m : ℕ). IsOpenTo u m y) same o))
    | inr ne ↦ at.others j ne y ∙ o
  ]

  changed_open : (f : ℕ → ℤ) (j : ℕ) → IsOpenTo s j (f j) → IsOpenTo u j (changed f i x j)
  changed_open f j o = elim (same_or_not j i) [
    | inl same ↦ subst (λ (m : ℕ). IsOpenTo u m (changed f i x m)) (sym same) (subst (λ (y : ℤ). IsOpenTo u i y) (sym (changed_here f i x)) at.left)
    | inr ne ↦ subst (λ (y : ℤ). IsOpenTo u j y) (sym (changed_other f i x j ne)) (open_after j (f j) ne o)
  ]

  after_open : (ys : List ℤ) → AreOpen s ys (subjects_of_body body) → AreOpen u (after ys) (subjects_of_body body)
  after_open ys opens m d l =
      let j = get_or (subjects_of_body body) m d in
      let f : ℕ → ℤ = λ q. value_at ys q in
      subst (λ (y : ℤ). IsOpenTo u j y) (sym (listed_at (changed f i x) (length s.first) j (below m d l))) (changed_open f j (opens m d l))

  open_bits : (ys : List ℤ) → AreOpen s ys (subjects_of_body body) → AreBits ys us
  open_bits ys opens m d l =
      let w = get_or us m d in
      bits s w (us_fit m d l) (value_at ys w.subject) (All-unmap (λ j. IsOpenTo s j (value_at ys j)) us (subst (λ (js : List ℕ). AreOpen s ys js) boolean.reads opens) m d l)

  -- each list at which the body holds lets it hold with the value
  after_holds : (ys : List ℤ) → AreOpen s ys (subjects_of_body body) → HoldsBody body ys → HoldsBody body (after ys)
  after_holds ys opens holds =
      let parts = (h.normal.holds ys (open_bits ys opens)).0 holds in
      let f = eased.favoured in
      let off : All (λ v. v.subject ≢ f.literal.subject) sure = All-contains (λ w. All (λ v. v.subject ≢ w.subject) sure) live f.literal h.normal.disjoint f.has in
      (h.normal.holds (after ys) (open_bits (after ys) (λ m d l. open_before (get_or (subjects_of_body body) m d) _ (after_open ys opens m d l)))).1 (
        HoldsBody-agree ys (after ys) (BoolAnd sure) (All-map (AgreeAt ys (after ys)) (λ (w : Atom). w.subject) sure
            (λ m d l. sym (moved_other i x (length s.first) ys (get_or sure m d).subject (sure_fit m d l).subject (λ q. off m d l (q ∙ sym f.about))))) parts.0,
        HoldsBody-favoured live h.normal.live_apart i x (length s.first) (λ m d l. (live_fit m d l).subject) ys rest f parts.1,
      )

  known_here : (w : Atom) → w.subject ≡ i → IsKnownNow u w
  known_here w same = elim (truth_of (meets w.op w.value x)) [
    | inl passes ↦ inl (λ y o. ap (λ (z : ℤ). meets w.op w.value z) (at.only y (subst (λ (j : ℕ). IsOpenTo u j y) same o)) ∙ passes)
    | inr fails ↦ inr (λ y o. ap (λ (z : ℤ). meets w.op w.value z) (at.only y (subst (λ (j : ℕ). IsOpenTo u j y) same o)) ∙ fails)
  ]

  known_still : (w : Atom) → (w.subject ≡ i → ⊥) → IsKnownNow s w → IsKnownNow u w
  known_still w ne known = elim known [
    | inl t ↦ inl (λ y o. t y (open_before w.subject y o))
    | inr t ↦ inr (λ y o. t y (open_before w.subject y o))
  ]

  unforced : (w : Atom) → w.subject < length s.first → IsUnforced s body w → IsUnforced u body w
  unforced w l q = record {
    known = λ v all. elim (same_or_not w.subject i) [
      | inl same ↦ known_here w same
      | inr ne ↦ known_still w ne (q.known v (λ ys opens holds.
          ap (λ (y : ℤ). meets w.op w.value y) (sym (moved_other i x (length s.first) ys w.subject l ne)) ∙ all (after ys) (after_open ys opens) (after_holds ys opens holds)))
    ];
  }

  excluded : IsExcluded u body → IsExcluded s body
  excluded fails ys opens holds = fails (after ys) (after_open ys opens) (after_holds ys opens holds)

  true_before : (m : ℕ) (d : Atom) → m < length e → IsTrueNow u (get_or e m d) → IsTrueNow s (get_or e m d)
  true_before m d l t y o = t y (open_after (get_or e m d).subject y (eased.unenforced m d l) o)

  unforced_before : All (IsTrueNow s) e → All (IsUnforced s body) us
  unforced_before trues = AreUnforced-kind k us s h.no_atoms (rested.strong.body trues)

  -- where an atom that tells the subject's values apart is known, the subject is fixed
  fixed_by : IsKnownNow s eased.atom → IsFixedNow s i
  fixed_by known y z a c =
      let w = eased.atom in
      let fits : IsFit s.first w = All-contains (IsFit s.first) us w us_fit eased.has in
      let a' : IsOpenTo s w.subject y = subst (λ (j : ℕ). IsOpenTo s j y) (sym eased.about) a in
      let c' : IsOpenTo s w.subject z = subst (λ (j : ℕ). IsOpenTo s j z) (sym eased.about) c in
      same_bit (λ v. meets w.op w.value v) eased.differs y z (bits s w fits y a') (bits s w fits z c') (elim known [ inl t ↦ t y a' ∙ sym (t z c') | inr t ↦ t y a' ∙ sym (t z c') ])

  module _ (fixed : All (IsFixedNow u) (atom_subjects e ++ subjects_of_body body)) (xs : List ℤ) (opens : AreOpen u xs (atom_subjects e ++ subjects_of_body body)) where
    body_fixed : All (IsFixedNow u) (subjects_of_body body)
    body_fixed = All-append_right (IsFixedNow u) (atom_subjects e) (subjects_of_body body) fixed

    body_opens : AreOpen u xs (subjects_of_body body)
    body_opens = All-append_right (λ j. IsOpenTo u j (value_at xs j)) (atom_subjects e) (subjects_of_body body) opens

    enforced_before : list_all (atom_holds xs) e ≡ true → All (IsTrueNow s) e
    enforced_before all m d l = true_before m d l (pinned_true u xs (get_or e m d) (record {
      fixed = All-unmap (IsFixedNow u) e (All-append_left (IsFixedNow u) (atom_subjects e) (subjects_of_body body) fixed) m d l;
      here = All-unmap (λ j. IsOpenTo u j (value_at xs j)) e (All-append_left (λ j. IsOpenTo u j (value_at xs j)) (atom_subjects e) (subjects_of_body body) opens) m d l;
    }) (AllPass-from_list_all (atom_holds xs) e all m d l))

    -- where the body holds nowhere, the subject was fixed before
    fixed_before : (HoldsBody body xs → ⊥) → list_all (atom_holds xs) e ≡ true → All (IsFixedNow s) (atom_subjects e ++ subjects_of_body body)
    fixed_before fails all m d l =
        let w = All-contains (IsUnforced s body) us eased.atom (unforced_before (enforced_before all)) eased.has in
        let known = w.known true (λ ys before holds. absurd (fails (HoldsBody-agree (after ys) xs body
        (λ p f b. body_fixed p f b (value_at (after ys) (get_or (subjects_of_body body) p f)) (value_at xs (get_or (subjects_of_body body) p f)) (after_open ys before p f b) (body_opens p f b))
        (after_holds ys before holds)))) in
        let j = get_or (atom_subjects e ++ subjects_of_body body) m d in
        elim (same_or_not j i) [
          | inl same ↦ subst (λ (q : ℕ). IsFixedNow s q) (sym same) (fixed_by known)
          | inr ne ↦ (λ y z a c. fixed m d l y z (open_after j y ne a) (open_after j z ne c))
        ]

    holds_after : list_all (atom_holds xs) e ≡ true → HoldsBody body xs
    holds_after all = elim (holds_or_not k us xs) [
      | inl passes ↦ passes
      | inr fails ↦ rested.decided.holds (fixed_before fails all) xs (λ m d l. open_before (get_or (atom_subjects e ++ subjects_of_body body) m d) _ (opens m d l)) all
    ]

  IsAtRest-eased : IsTaskAtRest (task_of e (body_of k us)) u
  IsAtRest-eased = record {
    decided = record { holds = λ fixed xs opens all. holds_after fixed xs opens all };
    strong = record {
      body = λ trues. boolean.strong u (λ m d l. unforced (get_or us m d) (us_fit m d l).subject (unforced_before (λ p f b. true_before p f b (trues p f b)) m d l));
      last = λ m d l others fails y o. rested.strong.last m d l (λ p f b ne. true_before p f b (others p f b ne)) (IsExcludedBody-kind k us s (excluded (boolean.excluded u fails)))
          y (open_before (get_or e m d).subject y o);
    };
  }

same_and : (a n m : Bool) → (a ≡ true → m ≡ true) → a ≡ (a && (n || m))
same_and true true m h = refl
same_and true false m h = sym (h refl)
same_and false n m h = refl

both : (a m : Bool) → (a && m) ≡ true → m ≡ true
both true m h = h
both false m h = absurd (let bad : false ≡ true = h in cc bad)

-- An entry of a comparison leaves a literal's subject as it is, or with one of its two values.
module _ (op : Op) (x other : ℤ) (wider : (v : ℤ) → meets op v other ≡ true → meets op v x ≡ true) (either : (y : ℤ) → IsBitValue y → (y ≡ x) ⊎ (y ≡ other)) where
  module _ (s : Trail) (ent : Entry) (i : ℕ) (y : ℤ) (about : ent.atom.subject ≡ i) (is : ent.atom.op ≡ op) (o : IsOpenTo (with_entry s ent) i y) (bit_values : (z : ℤ) → IsOpenTo s i z → IsBitValue z) where
    met : (z : ℤ) → meets ent.atom.op ent.atom.value z ≡ meets op ent.atom.value z
    met z = ap (λ (f : Op). meets f ent.atom.value z) is

    -- where both are met, nothing changes
    same_at : meets op ent.atom.value other ≡ true → (j : ℕ) → IsSameAt s (with_entry s ent) j
    same_at passes j z = elim (same_or_not j i) [
      | inl same ↦ same_and (admits s.first s.entries j z) (not (ent.atom.subject == j)) (meets ent.atom.op ent.atom.value z) (λ a.
          let passed : meets op ent.atom.value z ≡ true = elim (either z (bit_values z (subst (λ (q : ℕ). IsOpenTo s q z) same a))) [
            | inl e ↦ ap (λ (v : ℤ). meets op ent.atom.value v) e ∙ wider ent.atom.value passes
            | inr e ↦ ap (λ (v : ℤ). meets op ent.atom.value v) e ∙ passes
          ] in
          met z ∙ passed) ∙ sym (admits-push s.first s.entries ent j z)
      | inr ne ↦ sym (admits-push_other s.first s.entries ent j z (λ q. ne (q ∙ about)))
    ]

    less : (z : ℤ) → IsOpenTo (with_entry s ent) i z → IsOpenTo s i z
    less z a = admits-append s.first s.entries (ent ∷ []) i z a

    only : meets op ent.atom.value other ≡ false → (z : ℤ) → IsOpenTo (with_entry s ent) i z → z ≡ x
    only fails z a = elim (either z (bit_values z (less z a))) [
      | inl e ↦ e
      | inr e ↦ absurd (let a' : IsOpenTo (with_entry s ent) ent.atom.subject z = subst (λ (q : ℕ). IsOpenTo (with_entry s ent) q z) (sym about) a in
          let m : meets ent.atom.op ent.atom.value z ≡ true = both (admits s.first s.entries ent.atom.subject z) (meets ent.atom.op ent.atom.value z) (sym (admits-push_same s.first s.entries ent z) ∙ a') in
          let bad : true ≡ false = sym m ∙ met z ∙ ap (λ (v : ℤ). meets op ent.atom.value v) e ∙ fails in cc bad)
    ]

    IsLeft-entry : meets op ent.atom.value other ≡ false → IsLeft s (with_entry s ent) i x
    IsLeft-entry fails = record {
      others = λ j ne z. sym (admits-push_other s.first s.entries ent j z (λ q. ne (q ∙ about)));
      less = less;
      only = only fails;
      left = subst (λ (v : ℤ). IsOpenTo (with_entry s ent) i v) (only fails y o) o;
    }

  module _ (e us sure live : List Atom) (k rest : Kind) (i : ℕ) (h : IsReduced k us sure rest live) where
    -- the subject of a literal has the values 0 and 1
    bit_values : (s : Trail) → IsFitting s.first (task_of e (body_of k us)) → IsSpared e us rest live i x → (z : ℤ) → IsOpenTo s i z → IsBitValue z
    bit_values s fit (inl off) z a =
        bits s off.atom (All-contains (IsFit s.first) e off.atom (fits_enforcement s.first e us (body_of k us) fit) off.has) z (subst (λ (q : ℕ). IsOpenTo s q z) (sym off.about) a)
    bit_values s fit (inr eased) z a =
        bits s eased.atom (All-contains (IsFit s.first) us eased.atom (fits_kind s.first e us k h.no_atoms fit) eased.has) z (subst (λ (q : ℕ). IsOpenTo s q z) (sym eased.about) a)

    at_rest : (s u : Trail) → IsLeft s u i x → IsFitting s.first (task_of e (body_of k us)) → IsTaskAtRest (task_of e (body_of k us)) s → IsSpared e us rest live i x → IsTaskAtRest (task_of e (body_of k us)) u
    at_rest s u at fit rested (inl off) = IsTaskAtRest-disabled e (body_of k us) s u i x off at
    at_rest s u at fit rested (inr eased) = IsAtRest-eased e us sure live k rest h i x eased s u at fit rested

    StaysAtRest-spared : IsSpared e us rest live i x → StaysAtRest (task_of e (body_of k us)) i op
    StaysAtRest-spared spared = record {
      no_cut = sym (not_cut k us);
      stays = λ s ent y fit rested about is o.
          let values = bit_values s fit spared in
          elim (truth_of (meets op ent.atom.value other)) [
            | inl passes ↦ IsTaskAtRest-same s (with_entry s ent) (task_of e (body_of k us)) (λ m d l. same_at s ent i y about is o values passes (get_or (subjects_of (task_of e (body_of k us))) m d)) rested
            | inr fails ↦ at_rest s (with_entry s ent) (IsLeft-entry s ent i y about is o values fails) fit rested spared
          ];
    }

-- the same of lists that are the same
pub IsSpared-same : (e us live f vs next : List Atom) (rest : Kind) (i : ℕ) (x : ℤ) → f ≡ e → vs ≡ us → next ≡ live → IsSpared f vs rest next i x → IsSpared e us rest live i x
IsSpared-same e us live f vs next rest i x a b c h =
    subst (λ (l : List Atom). IsSpared l us rest live i x) a (subst (λ (l : List Atom). IsSpared f l rest live i x) b (subst (λ (l : List Atom). IsSpared f vs rest l i x) c h))

wider_le : (v : ℤ) → int_le (pos 1) v ≡ true → int_le (pos 0) v ≡ true
wider_le v h = grind (arith, ints)

wider_ge : (v : ℤ) → int_le v (pos 0) ≡ true → int_le v (pos 1) ≡ true
wider_ge v h = grind (arith, ints)

swapped : (y : ℤ) → IsBitValue y → (y ≡ pos 1) ⊎ (y ≡ pos 0)
swapped y (inl e) = inr e
swapped y (inr e) = inl e

-- a fall leaves the subject of a literal the value 0, and a rise 1
pub StaysAtRest-fall : (e us sure live : List Atom) (k rest : Kind) (i : ℕ) → IsReduced k us sure rest live → IsSpared e us rest live i (pos 0) → StaysAtRest (task_of e (body_of k us)) i Le
StaysAtRest-fall = StaysAtRest-spared Le (pos 0) (pos 1) wider_le (λ y b. b)

pub StaysAtRest-rise : (e us sure live : List Atom) (k rest : Kind) (i : ℕ) → IsReduced k us sure rest live → IsSpared e us rest live i (pos 1) → StaysAtRest (task_of e (body_of k us)) i Ge
StaysAtRest-rise = StaysAtRest-spared Ge (pos 1) (pos 0) wider_ge swapped
