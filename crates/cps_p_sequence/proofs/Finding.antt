-- What a look finds: each atom is given, and where all are true nothing is left.
use Rattle.std.specs.Prelude.{int_le, not, All, Contains, Result, Ok, Err, IsTrue}
use Rattle.std.specs.declared.alloc.AllocError.{AllocError}
use Rattle.std.proofs.Common.{ℕ, ◌<◌, ◌≤◌, ◌+◌, ℤ, pos, ◌-ℤ◌, ◌≤ℤ◌, ◌<ℤ◌, ◌≡◌, ◌⊎◌, inl, inr, Bool, true, false, List, [], ◌∷◌, ◌++◌, length, get_or, refl, sym, ◌∙◌, ap, subst, arith}
use Rattle.std.proofs.lemmas.Int.{ints}
use Rattle.std.proofs.lemmas.List.{get_or_default}
use Rattle.std.proofs.lemmas.List.Elements.{All-nil, All-cons, All-head, All-push}
use Rattle.cps_domain.specs.Window.{equals}
use Rattle.cps_domain.proofs.Tests.{true_le, le_true, both, first_of_both, second_of_both}
use Rattle.cps_literal.specs.declared.atom.Atom.{Atom}
use Rattle.cps_literal.specs.declared.atom.Op.{Op}
use Rattle.cps_literal.specs.declared.atom.Op.TheVariants.{Le, Ge, Ne}
use Rattle.cps_literal.specs.Truth.{meets, value_at, atom_holds}
use Rattle.cps_instance.specs.declared.task.Body.{Body}
use Rattle.cps_instance.proofs.Agreeing.{All-append_left, All-append_right}
use Rattle.cps_trail.specs.Trail.{Trail, IsTrueNow, IsInside}
use Rattle.cps_instance.specs.Tasks.{subjects_of_body}
use Rattle.cps_propagate.specs.Now.{IsOpenTo}
use Rattle.cps_propagate.specs.Reasons.{SpeaksOf}
use Rattle.cps_propagate.proofs.Speaking.{speaks_none, speaks_push}
use Rattle.cps_p_sequence.proofs.Growing.{none_speaks}
use Rattle.cps_rule.specs.declared.rule.Narrowing.{Narrowing}
use Rattle.cps_rule.specs.Rules.{IsFact, IsGiven, IsExplained}
use Rattle.cps_p_sequence.specs.Inverses.{AreGivenPlaces, AreTrue, HasPlace, IsMatched, ArePaired, AllPaired, IsWithinPlaces, AreMirroredAt, AreMirrored}

bool_cases : (b : Bool) → (b ≡ true) ⊎ (b ≡ false)
bool_cases true = inl refl
bool_cases false = inr refl

equals_is : (a b : ℤ) → equals a b ≡ true → a ≡ b
equals_is a b h =
    let p = true_le a b (first_of_both (int_le a b) (int_le b a) h) in
    let q = true_le b a (second_of_both (int_le a b) (int_le b a) h) in
    omega (arith, ints)

is_equal : (a b : ℤ) → a ≡ b → equals a b ≡ true
is_equal a b e = both (int_le a b) (int_le b a) (le_true a b (omega (arith, ints))) (le_true b a (omega (arith, ints)))

-- one more atom
module _ (s : Trail) (old new : List Narrowing) (n : Narrowing) (t : Atom) (pushed : new ≡ old ++ n ∷ []) (is-t : n.target ≡ t) where
  pub more_given : (b : Body) → IsGiven b s t → AreGivenPlaces b s old → AreGivenPlaces b s new
  more_given b g gs = subst (λ (ns : List Narrowing). AreGivenPlaces b s ns) (sym pushed) (All-push (λ m. IsGiven b s m.target) old n gs (subst (λ (u : Atom). IsGiven b s u) (sym is-t) g))

  pub more_kept : AreTrue s new → AreTrue s old
  more_kept all = All-append_left (λ m. IsTrueNow s m.target) old (n ∷ []) (subst (λ (ns : List Narrowing). AreTrue s ns) pushed all)

  pub more_true : AreTrue s new → IsTrueNow s t
  more_true all = subst (λ (u : Atom). IsTrueNow s u) is-t (All-head (λ m. IsTrueNow s m.target) n [] (All-append_right (λ m. IsTrueNow s m.target) old (n ∷ []) (subst (λ (ns : List Narrowing). AreTrue s ns) pushed all)))

abbrev pub at_least : ℕ → ℤ → Atom
at_least i v = record { subject = i; op = Ge; value = v }

abbrev pub at_most : ℕ → ℤ → Atom
at_most i v = record { subject = i; op = Le; value = v }

abbrev pub other : ℕ → ℤ → Atom
other i v = record { subject = i; op = Ne; value = v }

pub low_given : (b : Body) (s : Trail) (i : ℕ) (count : ℤ) → i < length s.first → HasPlace b i count → IsGiven b s (at_least i (pos 0))
low_given b s i count inside place = record { subject = inside; at = λ xs admitted body. le_true (pos 0) (value_at xs i) (place.least xs body) }

pub high_given : (b : Body) (s : Trail) (i : ℕ) (count v : ℤ) → v ≡ count -ℤ pos 1 → i < length s.first → HasPlace b i count → IsGiven b s (at_most i v)
high_given b s i count v is-v inside place = record { subject = inside; at = λ xs admitted body. (let p = place.below xs body in le_true (value_at xs i) v (omega (arith, ints))) }

pub low_true : (s : Trail) (i : ℕ) → IsTrueNow s (at_least i (pos 0)) → (x : ℤ) → IsOpenTo s i x → pos 0 ≤ℤ x
low_true s i now x o = true_le (pos 0) x (now x o)

pub high_true : (s : Trail) (i : ℕ) (count v : ℤ) → v ≡ count -ℤ pos 1 → IsTrueNow s (at_most i v) → (x : ℤ) → IsOpenTo s i x → x <ℤ count
high_true s i count v is-v now x o = let p = true_le x v (now x o) in omega (arith, ints)

not_both : (b : Bool) → b ≡ true → not b ≡ true → ⊥
not_both b yes' no' = let e : false ≡ true = ap not (sym yes') ∙ no' in cc e

pub unequal : (a b : ℤ) → (a ≡ b → ⊥) → not (equals a b) ≡ true
unequal a b ne = elim (bool_cases (equals a b)) [ inl e ↦ absurd (ne (equals_is a b e)) | inr e ↦ ap not e ]

-- where another position cannot have a number, one cannot have the other's
pub off_given : (b : Body) (s : Trail) (i : ℕ) (m : ℤ) (j : ℕ) (n : ℤ) → i < length s.first → j < length s.first → (IsOpenTo s j m → ⊥) → IsMatched b i m j n → IsGiven b s (other i n)
off_given b s i m j n inside inside' shut matched = record {
  subject = inside;
  at = λ xs admitted body. unequal (value_at xs i) n (λ e. shut (subst (λ (v : ℤ). IsOpenTo s j v) (matched.at xs body e) (admitted j inside')));
}

pub off_true : (s : Trail) (i : ℕ) (n : ℤ) → IsTrueNow s (other i n) → IsOpenTo s i n → ⊥
off_true s i n now o = not_both (equals n n) (is_equal n n refl) (now n o)

-- the same by a fact
pub off_explained : (b : Body) (s : Trail) (t : Atom) (m : ℤ) (j : ℕ) (n : ℤ) (fact : Atom) (facts : List Atom) → t.op ≡ Ne → t.value ≡ n → fact ≡ other j m → facts ≡ fact ∷ [] → j < length s.first → IsInside m → IsTrueNow s fact
    → Contains (subjects_of_body b) j → IsMatched b t.subject m j n → IsExplained b s t facts
off_explained b s t m j n fact facts is-ne is-n is-fact are inside small now mine matched = record {
  speaks = subst (λ (us : List Atom). SpeaksOf (subjects_of_body b) us) (sym are) (speaks_push (subjects_of_body b) [] fact (speaks_none (subjects_of_body b)) (subst (λ (u : Atom). Contains (subjects_of_body b) u.subject) (sym is-fact) mine));
  facts = subst (λ (us : List Atom). All (IsFact s) us) (sym are) (All-cons (IsFact s) fact [] known (All-nil (IsFact s)));
  gives = λ xs within all body.
      let true_fact : atom_holds xs fact ≡ true = All-head (λ u. atom_holds xs u ≡ true) fact [] (subst (λ (us : List Atom). All (λ u. atom_holds xs u ≡ true) us) are all) in
      let not_m : not (equals (value_at xs j) m) ≡ true = subst (λ (u : Atom). atom_holds xs u ≡ true) is-fact true_fact in
      let ne : value_at xs t.subject ≡ t.value → ⊥ = λ e. not_both (equals (value_at xs j) m) (is_equal (value_at xs j) m (matched.at xs body (e ∙ is-n))) not_m in
      subst (λ (o : Op). meets o t.value (value_at xs t.subject) ≡ true) (sym is-ne) (unequal (value_at xs t.subject) t.value ne);
}
  where
    known : IsFact s fact
    known = subst (λ (u : Atom). IsFact s u) (sym is-fact) (record { subject = inside; inside = small; true_now = subst (λ (u : Atom). IsTrueNow s u) is-fact now })

-- by the body alone
pub place_explained : (b : Body) (s : Trail) (t : Atom) (count : ℤ) (facts : List Atom) → facts ≡ [] → ((x : ℤ) → pos 0 ≤ℤ x → x <ℤ count → meets t.op t.value x ≡ true) → HasPlace b t.subject count → IsExplained b s t facts
place_explained b s t count facts none wide place = record {
  speaks = none_speaks (subjects_of_body b) facts none;
  facts = subst (λ (us : List Atom). All (IsFact s) us) (sym none) (All-nil (IsFact s));
  gives = λ xs within all body. wide (value_at xs t.subject) (place.least xs body) (place.below xs body);
}

-- so far, at a loop's start and after
pub record KeptWithin (s : Trail) (is : List ℕ) (count : ℤ) (n : ℕ) (old new : List Narrowing) : Type 0 where
  pub given : (b : Body) → All (λ i. HasPlace b i count) is → AreGivenPlaces b s old → AreGivenPlaces b s new
  pub kept : AreTrue s new → AreTrue s old
  pub within : AreTrue s new → (k d : ℕ) → k < n → k < length is → IsWithinPlaces s (get_or is k d) count

pub record KeptApart (s : Trail) (i : ℕ) (m : ℤ) (others : List ℕ) (n : ℕ) (old new : List Narrowing) : Type 0 where
  pub given : (b : Body) → ArePaired b i m others → AreGivenPlaces b s old → AreGivenPlaces b s new
  pub kept : AreTrue s new → AreTrue s old
  pub mirrored : AreTrue s new → (k : ℕ) → k < n → (IsOpenTo s i (pos k) → IsOpenTo s (get_or others k 0) m) × (IsOpenTo s (get_or others k 0) m → IsOpenTo s i (pos k))

pub record Mirrors (s : Trail) (direct inverse : List ℕ) (n : ℕ) (old new : List Narrowing) : Type 0 where
  pub given : (b : Body) → AllPaired b direct inverse → AreGivenPlaces b s old → AreGivenPlaces b s new
  pub kept : AreTrue s new → AreTrue s old
  pub mirrored : AreTrue s new → (k : ℕ) → k < n → AreMirroredAt s (get_or direct k 0) (pos k) inverse

pub last_or : (k n : ℕ) → k < n + 1 → (k < n) ⊎ (k ≡ n)
last_or k n l = grind arith

pub within_begun : (s : Trail) (is : List ℕ) (count : ℤ) (found : List Narrowing) → KeptWithin s is count 0 found found
within_begun s is count found = record { given = λ b places gs. gs; kept = λ all. all; within = λ all k d l m. absurd (omega (arith, l)) }

-- one more step of each loop
pub within_more : (s : Trail) (is : List ℕ) (count : ℤ) (n : ℕ) (old mid next new : List Narrowing) (i : ℕ) → n < length is → i ≡ get_or is n 0
    → ((b : Body) → (c : ℤ) → HasPlace b i c → AreGivenPlaces b s mid → AreGivenPlaces b s next) → (AreTrue s next → AreTrue s mid) → (AreTrue s next → (x : ℤ) → IsOpenTo s i x → pos 0 ≤ℤ x)
    → ((b : Body) → HasPlace b i count → AreGivenPlaces b s next → AreGivenPlaces b s new) → (AreTrue s new → AreTrue s next) → (AreTrue s new → (x : ℤ) → IsOpenTo s i x → x <ℤ count)
    → KeptWithin s is count n old mid → KeptWithin s is count (n + 1) old new
within_more s is count n old mid next new i l is-i given1 kept1 least given2 kept2 below p = record {
  given = λ b places gs.
      let place : HasPlace b i count = subst (λ (j : ℕ). HasPlace b j count) (sym is-i) (places n 0 l) in
      given2 b place (given1 b count place (p.given b places gs));
  kept = λ all. p.kept (kept1 (kept2 all));
  within = λ all k d m inside. elim (last_or k n m) [
    | inl j ↦ p.within (kept1 (kept2 all)) k d j inside
    | inr j ↦
        let same : get_or is k d ≡ i = ap (λ (u : ℕ). get_or is u d) j ∙ get_or_default is n d 0 l ∙ sym is-i in
        subst (λ (u : ℕ). IsWithinPlaces s u count) (sym same) (record { least = least (kept2 all); below = below all })
  ];
}

pub apart_more : (s : Trail) (i : ℕ) (m : ℤ) (others : List ℕ) (n : ℕ) (old mid next new : List Narrowing) (j : ℕ) (v : ℤ) → n < length others → j ≡ get_or others n 0 → v ≡ pos n
    → ((b : Body) → IsMatched b i m j v → AreGivenPlaces b s mid → AreGivenPlaces b s next) → (AreTrue s next → AreTrue s mid) → (AreTrue s next → IsOpenTo s i v → IsOpenTo s j m)
    → ((b : Body) → IsMatched b j v i m → AreGivenPlaces b s next → AreGivenPlaces b s new) → (AreTrue s new → AreTrue s next) → (AreTrue s new → IsOpenTo s j m → IsOpenTo s i v)
    → KeptApart s i m others n old mid → KeptApart s i m others (n + 1) old new
apart_more s i m others n old mid next new j v l is-j is-v given1 kept1 forth given2 kept2 back p = record {
  given = λ b paired gs.
      let one : IsMatched b i m j v = subst (λ (u : ℕ). IsMatched b i m u v) (sym is-j) (subst (λ (z : ℤ). IsMatched b i m (get_or others n 0) z) (sym is-v) (paired.forth n l)) in
      let two : IsMatched b j v i m = subst (λ (u : ℕ). IsMatched b u v i m) (sym is-j) (subst (λ (z : ℤ). IsMatched b (get_or others n 0) z i m) (sym is-v) (paired.back n l)) in
      given2 b two (given1 b one (p.given b paired gs));
  kept = λ all. p.kept (kept1 (kept2 all));
  mirrored = λ all k c. elim (last_or k n c) [
    | inl e ↦ p.mirrored (kept1 (kept2 all)) k e
    | inr e ↦
        let P : ℕ → Type 0 = λ u. (IsOpenTo s i (pos u) → IsOpenTo s (get_or others u 0) m) × (IsOpenTo s (get_or others u 0) m → IsOpenTo s i (pos u)) in
        let Q : ℕ → ℤ → Type 0 = λ u z. (IsOpenTo s i z → IsOpenTo s u m) × (IsOpenTo s u m → IsOpenTo s i z) in
        let here : Q j v = (forth (kept2 all), back all) in
        subst P (sym e) (subst (λ (u : ℕ). Q u (pos n)) is-j (subst (λ (z : ℤ). Q j z) is-v here))
  ];
}

pub mirrors_more : (s : Trail) (direct inverse : List ℕ) (n : ℕ) (old mid new : List Narrowing) (i : ℕ) (v : ℤ) → n < length direct → i ≡ get_or direct n 0 → v ≡ pos n
    → ((b : Body) → ArePaired b i v inverse → AreGivenPlaces b s mid → AreGivenPlaces b s new) → (AreTrue s new → AreTrue s mid) → (AreTrue s new → AreMirroredAt s i v inverse)
    → Mirrors s direct inverse n old mid → Mirrors s direct inverse (n + 1) old new
mirrors_more s direct inverse n old mid new i v l is-i is-v given kept mirrored p = record {
  given = λ b paired gs. given b (subst (λ (u : ℕ). ArePaired b u v inverse) (sym is-i) (subst (λ (z : ℤ). ArePaired b (get_or direct n 0) z inverse) (sym is-v) (paired.at n l))) (p.given b paired gs);
  kept = λ all. p.kept (kept all);
  mirrored = λ all k c. elim (last_or k n c) [
    | inl e ↦ p.mirrored (kept all) k e
    | inr e ↦
        let P : ℕ → Type 0 = λ u. AreMirroredAt s (get_or direct u 0) (pos u) inverse in
        subst P (sym e) (subst (λ (u : ℕ). AreMirroredAt s u (pos n) inverse) is-i (subst (λ (z : ℤ). AreMirroredAt s i z inverse) is-v (mirrored all)))
  ];
}

-- and at its end
pub apart_whole : (s : Trail) (i : ℕ) (m : ℤ) (others : List ℕ) (n : ℕ) (old new : List Narrowing) → length others ≤ n → KeptApart s i m others n old new → AreTrue s new → AreMirroredAt s i m others
apart_whole s i m others n old new past p all = record { at = λ k l. p.mirrored all k (omega (arith, l, past)) }

pub mirrors_whole : (s : Trail) (direct inverse : List ℕ) (n : ℕ) (old new : List Narrowing) → length direct ≤ n → Mirrors s direct inverse n old new → AreTrue s new → AreMirrored s direct inverse
mirrors_whole s direct inverse n old new past p all = record { at = λ k l. p.mirrored all k (omega (arith, l, past)) }

-- a position of a list by its subject
pub at_subject : (b : Body) (own others : List ℕ) (k i : ℕ) (m : ℤ) → k < length own → get_or own k 0 ≡ i → m ≡ pos k → AllPaired b own others → ArePaired b i m others
at_subject b own others k i m l is-i is-m paired = subst (λ (u : ℕ). ArePaired b u m others) is-i (subst (λ (z : ℤ). ArePaired b (get_or own k 0) z others) (sym is-m) (paired.at k l))

value_of : Result Bool AllocError → Bool
value_of (Ok b) = b
value_of (Err e) = false

-- an answer that was given as true
pub is_yes : (b : Bool) → ◌≡◌ {A = Result Bool AllocError} (Ok b) (Ok true) → IsTrue b
unfolding value_of
is_yes b e = ap value_of e
