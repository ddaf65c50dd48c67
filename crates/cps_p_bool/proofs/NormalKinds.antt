-- What a kind asks of a list is what its normal form says.
use Rattle.std.proofs.Common.{◌≡◌, ◌≢◌, ◌⊎◌, ℕ, zero, suc, ◌+◌, ◌%◌, ◌≤◌, Bool, true, false, not, ◌&&◌, ℤ, pos, negsuc, List, [], ◌∷◌, ◌++◌, map, get_or, refl, sym, ◌∙◌, ap, subst, inl, inr, arith}
use Rattle.std.specs.Prelude.{int_le}
use Rattle.std.specs.List.{list_all, count_by, All, Contains}
use Rattle.std.specs.List.Sorted.{IsPermutation}
use Rattle.std.proofs.lemmas.Int.{ints}
use Rattle.std.proofs.lemmas.List.Sorted.{All-permutation, sum_by-IsPermutation}
use Rattle.std.proofs.lemmas.Map.Views.{All-map-IsPermutation}
use Rattle.std.proofs.lemmas.List.Elements.{All-nil, All-cons, All-head, All-tail, All-append, All-map, All-contains, All-contains_itself}
use Rattle.cps_literal.specs.declared.atom.Atom.{Atom}
use Rattle.cps_literal.specs.Truth.{value_at, atom_holds}
use Rattle.cps_instance.specs.Tasks.{HoldsBody, true_atoms, atom_subjects, subjects_of_body}
use Rattle.cps_instance.specs.declared.task.Body.TheVariants.{BoolAnd}
use Rattle.cps_instance.proofs.Agreeing.{count_by-cons, All-append_left, All-append_right}
use Rattle.cps_p_bool.specs.declared.boolean.Kind.{Kind}
use Rattle.cps_p_bool.specs.declared.boolean.Kind.TheVariants as kinds
use Rattle.cps_p_bool.specs.declared.normal.Form.{Form}
use Rattle.cps_p_bool.specs.Bodies.{body_of}
use Rattle.cps_p_bool.specs.Taking.{AreApart}
use Rattle.cps_p_bool.specs.Normal.{AreBits, IsBitValue, IsAbout, IsNormalForm, IsReduced}
use Rattle.cps_p_bool.specs.Tallying.{counts, tally, IsMet, AreAlike, greatest}
use Rattle.cps_p_bool.specs.Folding.{literal_of, IsBitLiteral, is_upper, opposite_of, IsTold, IsFormOf, IsFinished}
use Rattle.cps_p_bool.proofs.AtomCounts.{bit}
use Rattle.cps_p_bool.proofs.LiteralValues.{truth_of}
use Rattle.cps_p_bool.proofs.KindSteps.{All-unmap}
use Rattle.cps_p_bool.proofs.ReadSubjects.{about_read, kind_reads}
use Rattle.cps_p_bool.proofs.Tallies.{IsMet-there, IsMet-back, met_body, body_met}
use Rattle.cps_p_bool.proofs.FoldedLists.{count_append, one_literal, literal_subject, literal_about}

-- the opposite of a literal
below_one : (x : ℤ) → int_le x (pos 0) ≡ not (int_le (pos 1) x)
below_one (pos zero) = refl
below_one (pos (suc n)) = grind (arith, ints)
below_one (negsuc n) = refl

above_none : (x : ℤ) → int_le (pos 1) x ≡ not (int_le x (pos 0))
above_none x = let e = ap (λ (b : Bool). not b) (below_one x) in twice (int_le (pos 1) x) ∙ sym e
  where
    twice : (b : Bool) → b ≡ not (not b)
    twice true = refl
    twice false = refl

turned_literal : (xs : List ℤ) (n : ℕ) (v : Bool) → atom_holds xs (opposite_of (literal_of n v)) ≡ not (atom_holds xs (literal_of n v))
turned_literal xs n true = below_one (value_at xs n)
turned_literal xs n false = above_none (value_at xs n)

pub opposite_false : (xs : List ℤ) (u : Atom) → IsBitLiteral u → atom_holds xs (opposite_of u) ≡ not (atom_holds xs u)
opposite_false xs u h = subst (λ (t : Atom). atom_holds xs (opposite_of t) ≡ not (atom_holds xs t)) (sym h.is) (turned_literal xs u.subject h.value)

opposite_subject : (u : Atom) → (opposite_of u).subject ≡ u.subject
opposite_subject u = literal_subject u.subject (not (is_upper u.op))

subjects_opposite : (us : List Atom) → atom_subjects (map opposite_of us) ≡ atom_subjects us
subjects_opposite [] = refl
subjects_opposite (u ∷ us) = ap (λ (n : ℕ). n ∷ atom_subjects (map opposite_of us)) (opposite_subject u) ∙ ap (λ (l : List ℕ). u.subject ∷ l) (subjects_opposite us)

about_opposite : (vs : List Atom) (u : Atom) → IsAbout vs u → IsAbout vs (opposite_of u)
about_opposite vs u h = literal_about vs u.subject (not (is_upper u.op)) h.subject

both_true : (a b r : Bool) (n m : ℕ) → a ≡ not b → m ≡ bit b + n → (n ≡ 0 → r ≡ true) → m ≡ 0 → (a && r) ≡ true
both_true true b r n m e c h z = h (omega (arith, c, z))
both_true false true r n m e c h z = absurd (omega (arith, c, z))
both_true false false r n m e c h z = absurd (let f : false ≡ true = e in cc)

both_back : (a b r : Bool) (n m : ℕ) → a ≡ not b → m ≡ bit b + n → (r ≡ true → n ≡ 0) → (a && r) ≡ true → m ≡ 0
both_back true true r n m e c h z = absurd (let f : true ≡ false = e in cc)
both_back true false r n m e c h z = let x = h z in omega (arith, c, x)
both_back false b r n m e c h z = absurd (let f : false ≡ true = z in cc)

none_there : (xs : List ℤ) (us : List Atom) → All IsBitLiteral us → true_atoms xs us ≡ 0 → list_all (atom_holds xs) (map opposite_of us) ≡ true
none_there xs [] h z = refl
none_there xs (u ∷ us) h z =
    both_true (atom_holds xs (opposite_of u)) (atom_holds xs u) (list_all (atom_holds xs) (map opposite_of us)) (true_atoms xs us) (true_atoms xs (u ∷ us)) (opposite_false xs u (All-head IsBitLiteral u us h)) (count_by-cons (atom_holds xs) u us)
    (none_there xs us (All-tail IsBitLiteral u us h)) z

none_back : (xs : List ℤ) (us : List Atom) → All IsBitLiteral us → list_all (atom_holds xs) (map opposite_of us) ≡ true → true_atoms xs us ≡ 0
none_back xs [] h z = refl
none_back xs (u ∷ us) h z =
    both_back (atom_holds xs (opposite_of u)) (atom_holds xs u) (list_all (atom_holds xs) (map opposite_of us)) (true_atoms xs us) (true_atoms xs (u ∷ us)) (opposite_false xs u (All-head IsBitLiteral u us h)) (count_by-cons (atom_holds xs) u us)
    (none_back xs us (All-tail IsBitLiteral u us h)) z

-- a kind asks the same of the literals, or nothing, or none is to be true, or nothing will do
module _ (live : List Atom) where
  finished_empty : (k : Kind) (c : ℕ) (rest : Kind) (left : List Atom) → rest ≡ kinds.Empty → left ≡ [] → ((n : ℕ) → IsMet k (c + n)) → IsFinished k c live rest left
  finished_empty k c rest left is none met = subst (λ (r : Kind). IsFinished k c live r left) (sym is) (subst (λ (l : List Atom). IsFinished k c live kinds.Empty l) (sym none) (record {
    there = λ xs _. tt;
    back = λ xs _. met (true_atoms xs live);
    reads = refl;
    subjects = inl refl;
    about = λ us _. All-nil (IsAbout us);
  }))

  finished_never : (k : Kind) (c : ℕ) (rest : Kind) (left : List Atom) → rest ≡ kinds.Or → left ≡ [] → ((n : ℕ) → IsMet k (c + n) → ⊥) → IsFinished k c live rest left
  finished_never k c rest left is none not_met = subst (λ (r : Kind). IsFinished k c live r left) (sym is) (subst (λ (l : List Atom). IsFinished k c live kinds.Or l) (sym none) (record {
    there = λ xs m. absurd (not_met (true_atoms xs live) m);
    back = λ xs h. absurd (let f : false ≡ true = h in cc);
    reads = refl;
    subjects = inl refl;
    about = λ us _. All-nil (IsAbout us);
  }))

  finished_none : (k : Kind) (c : ℕ) (rest : Kind) (left : List Atom) → All IsBitLiteral live → rest ≡ kinds.And → left ≡ map opposite_of live → ((n : ℕ) → IsMet k (c + n) → n ≡ 0) → IsMet k (c + 0) → IsFinished k c live rest left
  finished_none k c rest left literals is opposites low met = subst (λ (r : Kind). IsFinished k c live r left) (sym is) (subst (λ (l : List Atom). IsFinished k c live kinds.And l) (sym opposites) (record {
    there = λ xs m. none_there xs live literals (low (true_atoms xs live) m);
    back = λ xs h. subst (λ (n : ℕ). IsMet k (c + n)) (sym (none_back xs live literals h)) met;
    reads = refl;
    subjects = inr (subjects_opposite live);
    about = λ us h. All-map (IsAbout us) opposite_of live (λ i d l. about_opposite us (get_or live i d) (h i d l));
  }))

  finished_same : (k : Kind) (c : ℕ) → subjects_of_body (body_of k live) ≡ atom_subjects live → ((xs : List ℤ) → IsMet k (c + true_atoms xs live) → HoldsBody (body_of k live) xs) → ((xs : List ℤ) → HoldsBody (body_of k live) xs → IsMet k (c + true_atoms xs live)) → IsFinished k c live k live
  finished_same k c reads there back = record { there = there; back = back; reads = reads; subjects = inr refl; about = λ us h. h }

  pub IsFinished-empty : (c : ℕ) (rest : Kind) (left : List Atom) → rest ≡ kinds.Empty → left ≡ [] → IsFinished kinds.Empty c live rest left
  IsFinished-empty c rest left is none = finished_empty kinds.Empty c rest left is none (λ n. tt)

  pub IsFinished-or_some : (c : ℕ) (rest : Kind) (left : List Atom) → c ≢ 0 → rest ≡ kinds.Empty → left ≡ [] → IsFinished kinds.Or c live rest left
  IsFinished-or_some c rest left some is none = finished_empty kinds.Or c rest left is none (λ n. omega (arith, some))

  pub IsFinished-or : (c : ℕ) → c ≡ 0 → IsFinished kinds.Or c live kinds.Or live
  IsFinished-or c z = finished_same kinds.Or c refl
      (λ xs m. met_body xs kinds.Or live (let x : 1 ≤ true_atoms xs live = omega (arith, m, z) in x))
      (λ xs h. let x : 1 ≤ true_atoms xs live = body_met xs kinds.Or live h in omega (arith, x))

  pub IsFinished-and : (c : ℕ) (rest : Kind) (left : List Atom) → All IsBitLiteral live → c ≡ 0 → rest ≡ kinds.And → left ≡ map opposite_of live → IsFinished kinds.And c live rest left
  IsFinished-and c rest left literals z is opposites = finished_none kinds.And c rest left literals is opposites (λ n m. omega (arith, m)) (omega (arith, z))

  pub IsFinished-and_some : (c : ℕ) (rest : Kind) (left : List Atom) → c ≢ 0 → rest ≡ kinds.Or → left ≡ [] → IsFinished kinds.And c live rest left
  IsFinished-and_some c rest left some is none = finished_never kinds.And c rest left is none (λ n m. omega (arith, m, some))

  pub IsFinished-xor : (c : ℕ) → c % 2 ≡ 0 → IsFinished kinds.Xor c live kinds.Xor live
  IsFinished-xor c z = finished_same kinds.Xor c refl (λ xs m. omega (arith, m, z)) (λ xs h. omega (arith, h, z))

  pub IsFinished-odd : (c : ℕ) (rest : Kind) (left : List Atom) → c % 2 ≢ 0 → IsFinished kinds.Xor 1 live rest left → IsFinished kinds.Xor c live rest left
  IsFinished-odd c rest left odd h = record {
    there = λ xs m. h.there xs (omega (arith, m, odd));
    back = λ xs b. let m = h.back xs b in omega (arith, m, odd);
    reads = h.reads;
    subjects = h.subjects;
    about = h.about;
  }

  -- of the kinds that let one atom be true
  module _ (k : Kind) (c : ℕ) (limited : (k ≡ kinds.AtMostOne) ⊎ (k ≡ kinds.ExactlyOne)) where
    of_both : (P : Kind → Type 0) → P kinds.AtMostOne → P kinds.ExactlyOne → P k
    of_both P a b = elim limited [ inl e ↦ subst P (sym e) a | inr e ↦ subst P (sym e) b ]

    pub IsFinished-limited : c ≡ 0 → IsFinished k c live k live
    IsFinished-limited z = of_both (λ j. IsFinished j c live j live)
        (finished_same kinds.AtMostOne c refl (λ xs m. omega (arith, m)) (λ xs h. omega (arith, h, z)))
        (finished_same kinds.ExactlyOne c refl (λ xs m. omega (arith, m, z)) (λ xs h. omega (arith, h, z)))

    pub IsFinished-limited_one : (rest : Kind) (left : List Atom) → All IsBitLiteral live → c ≡ 1 → rest ≡ kinds.And → left ≡ map opposite_of live → IsFinished k c live rest left
    IsFinished-limited_one rest left literals one is opposites = of_both (λ j. IsFinished j c live rest left)
        (finished_none kinds.AtMostOne c rest left literals is opposites (λ n m. omega (arith, m, one)) (omega (arith, one)))
        (finished_none kinds.ExactlyOne c rest left literals is opposites (λ n m. omega (arith, m, one)) (omega (arith, one)))

    pub IsFinished-limited_more : (rest : Kind) (left : List Atom) → c ≢ 0 → c ≢ 1 → rest ≡ kinds.Or → left ≡ [] → IsFinished k c live rest left
    IsFinished-limited_more rest left some more is none = of_both (λ j. IsFinished j c live rest left)
        (finished_never kinds.AtMostOne c rest left is none (λ n m. omega (arith, m, some, more)))
        (finished_never kinds.ExactlyOne c rest left is none (λ n m. omega (arith, m, some, more)))

-- an even number is true: with the last literal turned, an odd one
pub IsFinished-even_none : (live left : List Atom) (rest : Kind) → live ≡ [] → rest ≡ kinds.Empty → left ≡ [] → IsFinished kinds.Xor 1 live rest left
IsFinished-even_none live left rest empty is none =
    subst (λ (l : List Atom). IsFinished kinds.Xor 1 l rest left) (sym empty) (subst (λ (r : Kind). IsFinished kinds.Xor 1 [] r left) (sym is) (subst (λ (l : List Atom). IsFinished kinds.Xor 1 [] kinds.Empty l) (sym none) (record {
      there = λ xs _. tt;
      back = λ xs _. let z : true_atoms xs [] ≡ 0 = refl in omega (arith, z);
      reads = refl;
      subjects = inl refl;
      about = λ us _. All-nil (IsAbout us);
    })))

turn : (a b : Bool) → a ≡ not b → bit a + bit b ≡ 1
turn true true e = absurd (let f : true ≡ false = e in cc)
turn true false e = refl
turn false true e = refl
turn false false e = absurd (let f : false ≡ true = e in cc)

module _ (live left us : List Atom) (u : Atom) (was : live ≡ us ++ u ∷ []) (is : left ≡ us ++ opposite_of u ∷ []) (literals : All IsBitLiteral live) where
  last_literal : IsBitLiteral u
  last_literal = All-head IsBitLiteral u [] (All-append_right IsBitLiteral us (u ∷ []) (subst (λ (l : List Atom). All IsBitLiteral l) was literals))

  counts_turned : (xs : List ℤ) → (true_atoms xs live + 1 ≡ true_atoms xs left) ⊎ (true_atoms xs left + 1 ≡ true_atoms xs live)
  counts_turned xs =
      let p : Atom → Bool = atom_holds xs in
      let a = ap (λ (l : List Atom). count_by p l) was ∙ count_append p us (u ∷ []) in
      let b = ap (λ (l : List Atom). count_by p l) is ∙ count_append p us (opposite_of u ∷ []) in
      let c = one_literal p u in
      let d = one_literal p (opposite_of u) in
      let e = turn (p (opposite_of u)) (p u) (opposite_false xs u last_literal) in
      elim (truth_of (p u)) [
        | inl y ↦ (let f = ap (λ (t : Bool). bit t) y in inr (omega (arith, a, b, c, d, e, f)))
        | inr n ↦ (let f = ap (λ (t : Bool). bit t) n in inl (omega (arith, a, b, c, d, e, f)))
      ]

  subjects_turned : atom_subjects left ≡ atom_subjects live
  subjects_turned = ap (λ (l : List Atom). atom_subjects l) is ∙ at_end us ∙ sym (ap (λ (l : List Atom). atom_subjects l) was)
    where
      at_end : (vs : List Atom) → atom_subjects (vs ++ opposite_of u ∷ []) ≡ atom_subjects (vs ++ u ∷ [])
      at_end [] = ap (λ (n : ℕ). n ∷ []) (opposite_subject u)
      at_end (v ∷ vs) = ap (λ (l : List ℕ). v.subject ∷ l) (at_end vs)

  pub IsFinished-even : (rest : Kind) → rest ≡ kinds.Xor → IsFinished kinds.Xor 1 live rest left
  IsFinished-even rest same = subst (λ (r : Kind). IsFinished kinds.Xor 1 live r left) (sym same) (record {
    there = λ xs m. elim (counts_turned xs) [ inl e ↦ omega (arith, e, m) | inr e ↦ omega (arith, e, m) ];
    back = λ xs h. elim (counts_turned xs) [ inl e ↦ omega (arith, e, h) | inr e ↦ omega (arith, e, h) ];
    reads = refl;
    subjects = inr subjects_turned;
    about = λ vs h.
        let split = subst (λ (l : List Atom). All (IsAbout vs) l) was h in
        subst (λ (l : List Atom). All (IsAbout vs) l) (sym is) (All-append (IsAbout vs) us (opposite_of u ∷ []) (All-append_left (IsAbout vs) us (u ∷ []) split)
        (All-cons (IsAbout vs) (opposite_of u) [] (about_opposite vs u (All-head (IsAbout vs) u [] (All-append_right (IsAbout vs) us (u ∷ []) split))) (All-nil (IsAbout vs))));
  })

-- the normal form
apart_subjects : (us vs : List Atom) → atom_subjects vs ≡ atom_subjects us → AreApart us → AreApart vs
apart_subjects [] [] e a = tt
apart_subjects [] (v ∷ vs) e a = absurd (let f : atom_subjects (v ∷ vs) ≡ [] = e in cc)
apart_subjects (u ∷ us) [] e a = absurd (let f : [] ≡ atom_subjects (u ∷ us) = e in cc)
apart_subjects (u ∷ us) (v ∷ vs) e a =
    let heads : v.subject ≡ u.subject = cons_head v.subject u.subject (atom_subjects vs) (atom_subjects us) e in
    let tails : atom_subjects vs ≡ atom_subjects us = cons_tail v.subject u.subject (atom_subjects vs) (atom_subjects us) e in (
      subst (λ (n : ℕ). All (λ w. w.subject ≢ n) vs) (sym heads)
          (All-unmap (λ i. i ≢ u.subject) vs (subst (λ (is : List ℕ). All (λ i. i ≢ u.subject) is) (sym tails) (All-map (λ i. i ≢ u.subject) (λ (w : Atom). w.subject) us a.0))),
      apart_subjects us vs tails a.1,
    )
  where
    cons_head : (a b : ℕ) (l m : List ℕ) → a ∷ l ≡ b ∷ m → a ≡ b
    cons_head a b l m e = cc

    cons_tail : (a b : ℕ) (l m : List ℕ) → a ∷ l ≡ b ∷ m → l ≡ m
    cons_tail a b l m e = cc

of_subjects : (P : ℕ → Type 0) (us vs : List Atom) → (vs ≡ []) ⊎ (atom_subjects vs ≡ atom_subjects us) → All (λ u. P u.subject) us → All (λ u. P u.subject) vs
of_subjects P us vs (inl e) h = subst (λ (l : List Atom). All (λ u. P u.subject) l) (sym e) (All-nil (λ u. P u.subject))
of_subjects P us vs (inr e) h = All-unmap P vs (subst (λ (is : List ℕ). All P is) (sym e) (All-map P (λ (u : Atom). u.subject) us h))

apart_finished : (us vs : List Atom) → (vs ≡ []) ⊎ (atom_subjects vs ≡ atom_subjects us) → AreApart us → AreApart vs
apart_finished us vs (inl e) a = subst (λ (l : List Atom). AreApart l) (sym e) tt
apart_finished us vs (inr e) a = apart_subjects us vs e a

not_met_many : (k : Kind) (n : ℕ) → 2 ≤ n → IsMet k n → (greatest k ≤ 1 → ⊥) → ⊥
not_met_many kinds.Empty n l m w = w (omega arith)
not_met_many kinds.Or n l m w = w (omega arith)
not_met_many kinds.And n l m w = w (omega arith)
not_met_many kinds.AtMostOne n l m w = omega (arith, l, m)
not_met_many kinds.ExactlyOne n l m w = omega (arith, l, m)
not_met_many kinds.Xor n l m w = w (omega arith)

module _ (k : Kind) (us vs : List Atom) (same : IsPermutation us vs) (f : Form) (told : IsFormOf k vs f) (rest : Kind) (left : List Atom) (fin : IsFinished k f.constant f.live.items rest left) where
  vs_bits : (xs : List ℤ) → AreBits xs us → AreBits xs vs
  vs_bits xs bits = All-permutation (λ u. IsBitValue (value_at xs u.subject)) us vs same bits

  same_tally : (xs : List ℤ) → tally k xs vs ≡ tally k xs us
  same_tally xs = sum_by-IsPermutation (λ u. bit (counts k (atom_holds xs u))) us vs same

  about_us : (ws : List Atom) → All (IsAbout vs) ws → All (IsAbout us) ws
  about_us ws h i d l =
      let a = h i d l in
      record {
        low = a.low;
        high = a.high;
        subject = All-contains (λ n. Contains (atom_subjects us) n) (atom_subjects vs) (get_or ws i d).subject
            (All-map-IsPermutation (λ (u : Atom). u.subject) (λ n. Contains (atom_subjects us) n) us vs same (All-contains_itself (atom_subjects us))) a.subject;
      }

  module _ (xs : List ℤ) (bits : AreBits xs us) where
    t : IsTold k vs f 0 xs
    t = told.told xs (vs_bits xs bits)

    is_number : t.number + 0 ≡ t.number
    is_number = omega arith

    alike : AreAlike k (tally k xs us) t.number
    alike = subst (λ (n : ℕ). AreAlike k (tally k xs us) n) is_number (subst (λ (n : ℕ). AreAlike k n (t.number + 0)) (same_tally xs) t.alike)

    pub normal_there : HoldsBody (body_of k us) xs → HoldsBody (BoolAnd f.sure.items) xs × HoldsBody (body_of rest left) xs
    normal_there h =
        let met = IsMet-there k (tally k xs us) t.number alike (body_met xs k us h) in
        elim (truth_of (list_all (atom_holds xs) f.sure.items)) [
          | inl y ↦ (y, fin.there xs (subst (λ (n : ℕ). IsMet k n) (t.counted.counted y) met))
          | inr n ↦ absurd (not_met_many k t.number (t.counted.many n) met
              (λ small. let e : true ≡ false = sym (ap (λ (l : List Atom). list_all (atom_holds xs) l) (told.shaped.narrow small)) ∙ n in cc))
        ]

    pub normal_back : HoldsBody (BoolAnd f.sure.items) xs × HoldsBody (body_of rest left) xs → HoldsBody (body_of k us) xs
    normal_back h =
        met_body xs k us (IsMet-back k (tally k xs us) t.number alike (subst (λ (n : ℕ). IsMet k n) (sym (t.counted.counted h.0)) (fin.back xs h.1)))

  pub IsNormal-finished : (k ≡ kinds.Empty → us ≡ []) → IsNormalForm us (body_of k us) f.sure.items (body_of rest left) left
  IsNormal-finished none = record {
    holds = λ xs bits. (normal_there xs bits, normal_back xs bits);
    sure_apart = told.shaped.sure_apart;
    live_apart = apart_finished f.live.items left fin.subjects told.shaped.live_apart;
    disjoint = of_subjects (λ n. All (λ v. v.subject ≢ n) f.sure.items) f.live.items left fin.subjects told.shaped.disjoint;
    sure_about = about_us f.sure.items told.shaped.sure_about;
    live_about = about_us left (fin.about vs told.shaped.live_about);
    sure_read = about_read (body_of k us) us f.sure.items (kind_reads k us none) (about_us f.sure.items told.shaped.sure_about);
    rest_read = subst (λ (is : List ℕ). All (Contains (subjects_of_body (body_of k us))) is) (sym fin.reads) (about_read (body_of k us) us left (kind_reads k us none) (about_us left (fin.about vs told.shaped.live_about)));
  }

  pub IsReduced-finished : (k ≡ kinds.Empty → us ≡ []) → IsReduced k us f.sure.items rest left
  IsReduced-finished none = record { normal = IsNormal-finished none; reads = fin.reads; no_atoms = none }
