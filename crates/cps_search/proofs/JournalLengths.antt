-- How long a journal can be that is honest and in which nothing was dropped: there are only so many clauses, and it has none twice.
use Rattle.std.specs.Prelude.{All, AllPairs, unsigned_abs, int_le, ◌||◌, not, map}
use Rattle.std.specs.List.{Contains, flat_map}
use Rattle.std.proofs.Common.{ℕ, zero, suc, ◌+◌, ◌-◌, ◌^◌, ◌<◌, ◌≤◌, ◌≡◌, ◌∙◌, ◌⊎◌, inl, inr, ℤ, pos, negsuc, ◌≤ℤ◌, Bool, true, false, Option, Some, None, List, [], ◌∷◌, ◌++◌, length, get_or, refl, sym, ap, subst, arith, true≢false}
use Rattle.std.proofs.lemmas.Int.{ints}
use Rattle.std.proofs.lemmas.List.{get_or_append_left, get_or_default, get_or_past}
use Rattle.std.proofs.Math.Seq.{get_or-append_seam}
use Rattle.std.proofs.lemmas.List.Elements.{All-nil, All-cons, All-head, All-tail, All-get_or, Contains-append_left, Contains-append_right}
use Rattle.std.proofs.lemmas.List.Folds.{list_any_at}
use Rattle.cps_model.specs.declared.bound.Bound.{Bound}
use Rattle.cps_domain.specs.Window.{is_among, within, equals}
use Rattle.cps_domain.proofs.Tests.{true_le, false_le, is_within, first_of_both, second_of_both, test_false}
use Rattle.cps_literal.specs.declared.atom.Atom.{Atom}
use Rattle.cps_literal.specs.declared.atom.Op.{Op}
use Rattle.cps_literal.specs.declared.atom.Op.TheVariants.{Le, Ge, Eq, Ne}
use Rattle.cps_literal.proofs.Normalizing.{Implies-refl}
use Rattle.cps_literal.specs.Truth.{Implies, meets, atom_holds, value_at}
use Rattle.cps_instance.specs.Terms.{AreIntervals}
use Rattle.cps_instance.specs.Problem.{Problem, IsInstance}
use Rattle.cps_trail.specs.Trail.{first_of}
use Rattle.cps_clauses.specs.declared.journal.JournalItem.{JournalItem}
use Rattle.cps_clauses.specs.declared.journal.JournalItem.TheVariants.{Learnt, Drop}
use Rattle.cps_clauses.specs.Journals.{AreHonest, IsStanding}
use Rattle.cps_clauses.specs.Quiet.{WeakensTo}
use Rattle.cps_search.specs.Forgetting.{DropsNothing}
use Rattle.cps_branch.specs.Strategies.{values_of}
use Rattle.cps_search.specs.Searches.{IsHonestJournal, IsWorthy}
use Rattle.cps_branch.proofs.Values.{among_values}
use Rattle.cps_search.proofs.AtomNumbers.{small_in}

-- ---- a list without repetition is no longer than one that has its elements

same_or_not : (x m : ℕ) → (x ≡ m) ⊎ (x ≡ m → ⊥)
same_or_not x m = grind arith

-- a number, or another where it is the one that is left out
instead : (x m y : ℕ) → (x ≡ m) ⊎ (x ≡ m → ⊥) → ℕ
instead x m y (inl e) = y
instead x m y (inr e) = x

abbrev Avoids : ℕ → ℕ → ℕ → ℕ → Type 0
Avoids x m y r = ((x ≡ m) × (r ≡ y)) ⊎ ((x ≡ m → ⊥) × (r ≡ x))

avoids : (x m y : ℕ) (s : (x ≡ m) ⊎ (x ≡ m → ⊥)) → Avoids x m y (instead x m y s)
unfolding instead
avoids x m y (inl e) = inl (e, refl)
avoids x m y (inr e) = inr (e, refl)

-- a function that does not have the value m, and has at m's place its value at n
abbrev avoiding : (ℕ → ℕ) → ℕ → ℕ → ℕ → ℕ
avoiding f m n i = instead (f i) m (f n) (same_or_not (f i) m)

avoided : (f : ℕ → ℕ) (m n i : ℕ) → Avoids (f i) m (f n) (avoiding f m n i)
avoided f m n i = avoids (f i) m (f n) (same_or_not (f i) m)

abbrev Into : (ℕ → ℕ) → ℕ → ℕ → Type 0
Into f n m = (i : ℕ) → i < n → f i < m

abbrev OneToOne : (ℕ → ℕ) → ℕ → Type 0
OneToOne f n = (i j : ℕ) → i < n → j < n → f i ≡ f j → i ≡ j

into_fewer : (f : ℕ → ℕ) (n m : ℕ) → Into f (suc n) (suc m) → OneToOne f (suc n) → Into (avoiding f m n) n m
into_fewer f n m into one i p =
    let a = into i (omega arith) in
    let b = into n (omega arith) in
    let ne : f i ≡ f n → ⊥ = λ e. let z = one i n (omega arith) (omega arith) e in omega arith in
    elim (avoided f m n i) [ inl w ↦ omega (arith, w.0, w.1) | inr w ↦ omega (arith, w.0, w.1) ]

one_to_one : (f : ℕ → ℕ) (n m : ℕ) → OneToOne f (suc n) → OneToOne (avoiding f m n) n
one_to_one f n m one i j p q e =
    elim (avoided f m n i) [
      | inl v ↦ elim (avoided f m n j) [
        | inl w ↦ one i j (omega arith) (omega arith) (v.0 ∙ sym w.0)
        | inr w ↦ let z = one n j (omega arith) (omega arith) (sym v.1 ∙ e ∙ w.1) in absurd (omega arith)
      ]
      | inr v ↦ elim (avoided f m n j) [
        | inl w ↦ let z = one i n (omega arith) (omega arith) (sym v.1 ∙ e ∙ w.1) in absurd (omega arith)
        | inr w ↦ one i j (omega arith) (omega arith) (sym v.1 ∙ e ∙ w.1)
      ]
    ]

-- the pigeonhole principle
pigeonhole : (n m : ℕ) (f : ℕ → ℕ) → Into f n m → OneToOne f n → n ≤ m
pigeonhole zero m f into one = omega arith
pigeonhole (suc n) zero f into one = absurd (omega (arith, into n (omega arith)))
pigeonhole (suc n) (suc m) f into one = omega (arith, pigeonhole n m (avoiding f m n) (into_fewer f n m into one) (one_to_one f n m one))

-- for each element of a list a place in another where it stands
record Places {X : Type 0} (xs ys : List X) : Type 0 where
  places : List ℕ
  within : (i : ℕ) → i < length xs → get_or places i 0 < length ys
  is : (i : ℕ) (d : X) → i < length xs → get_or ys (get_or places i 0) d ≡ get_or xs i d

places_in : {X : Type 0} (xs ys : List X) → All (Contains ys) xs → Places xs ys
places_in [] ys h = record { places = []; within = λ i l. absurd (omega (arith, l)); is = λ i d l. absurd (omega (arith, l)) }
places_in {X} (x ∷ xs) ys h =
    let here = All-head (Contains ys) x xs h in
    let rest = places_in xs ys (All-tail (Contains ys) x xs h) in
    record { places = here.0 ∷ rest.places; within = inside here rest; is = stands here rest }
  where
    inside : (here : Contains ys x) (rest : Places xs ys) (i : ℕ) → i < length (x ∷ xs) → get_or (here.0 ∷ rest.places) i 0 < length ys
    inside here rest zero l = here.1
    inside here rest (suc i) l = rest.within i (omega (arith, l))

    stands : (here : Contains ys x) (rest : Places xs ys) (i : ℕ) (d : X) → i < length (x ∷ xs) → get_or ys (get_or (here.0 ∷ rest.places) i 0) d ≡ get_or (x ∷ xs) i d
    stands here rest zero d l = get_or_default ys here.0 d x here.1 ∙ here.2
    stands here rest (suc i) d l = rest.is i d (omega (arith, l))

order : (i j : ℕ) → (i < j) ⊎ ((i ≡ j) ⊎ (j < i))
order i j = grind arith

pub no_longer : {X : Type 0} (d : X) (xs ys : List X) → AllPairs (λ a b. a ≡ b → ⊥) xs → All (Contains ys) xs → length xs ≤ length ys
no_longer d xs ys apart h =
    let at = places_in xs ys h in
    pigeonhole (length xs) (length ys) (λ i. get_or at.places i 0) at.within (λ i j li lj e.
    let same : get_or xs i d ≡ get_or xs j d = sym (at.is i d li) ∙ ap (λ k. get_or ys k d) e ∙ at.is j d lj in
    elim (order i j) [
      | inl less ↦ absurd (apart i j d less lj same)
      | inr (inl equal) ↦ equal
      | inr (inr more) ↦ absurd (apart j i d more li (sym same))
    ])

-- ---- the lists of at most so many elements of a list

map_at : {X Y : Type 0} (f : X → Y) (xs : List X) (x : X) (k : ℕ) → k < length xs → get_or xs k x ≡ x → Contains (map f xs) (f x)
map_at f [] x k l e = absurd (omega (arith, l))
map_at f (y ∷ ys) x zero l e = (0, omega arith, ap f e)
map_at f (y ∷ ys) x (suc k) l e = let rest = map_at f ys x k (omega (arith, l)) e in (suc rest.0, omega (arith, rest.1), rest.2)

contains_map : {X Y : Type 0} (f : X → Y) (xs : List X) (x : X) → Contains xs x → Contains (map f xs) (f x)
contains_map f xs x has = map_at f xs x has.0 has.1 has.2

flat_at : {X Y : Type 0} (f : X → List Y) (xs : List X) (x : X) (y : Y) (k : ℕ) → k < length xs → get_or xs k x ≡ x → Contains (f x) y → Contains (flat_map f xs) y
flat_at f [] x y k l e at = absurd (omega (arith, l))
flat_at f (z ∷ zs) x y zero l e at = Contains-append_left (f z) (flat_map f zs) y (subst (λ w. Contains (f w) y) (sym e) at)
flat_at f (z ∷ zs) x y (suc k) l e at = Contains-append_right (f z) (flat_map f zs) y (flat_at f zs x y k (omega (arith, l)) e at)

contains_flat : {X Y : Type 0} (f : X → List Y) (xs : List X) (x : X) (y : Y) → Contains xs x → Contains (f x) y → Contains (flat_map f xs) y
contains_flat f xs x y has at = flat_at f xs x y has.0 has.1 has.2 at

words : {X : Type 0} → ℕ → List X → List (List X)
words zero xs = [] ∷ []
words (suc n) xs = [] ∷ flat_map (λ x. map (λ w. x ∷ w) (words n xs)) xs

contains_word : {X : Type 0} (n : ℕ) (xs w : List X) → length w ≤ n → All (Contains xs) w → Contains (words n xs) w
unfolding words
contains_word zero xs [] l h = (0, omega arith, refl)
contains_word (suc n) xs [] l h = (0, omega arith, refl)
contains_word zero xs (x ∷ w) l h = absurd (omega (arith, l))
contains_word {X} (suc n) xs (x ∷ w) l h =
    let rest = contains_word n xs w (omega (arith, l)) (All-tail (Contains xs) x w h) in
    let at = contains_flat (λ (y : X). map (λ (v : List X). y ∷ v) (words n xs)) xs x (x ∷ w) (All-head (Contains xs) x w h) (contains_map (λ (v : List X). x ∷ v) (words n xs) w rest) in
    (suc at.0, omega (arith, at.1), at.2)

-- ---- the atoms on some subjects with some numbers

operators : List Op
operators = Le ∷ (Ge ∷ (Eq ∷ (Ne ∷ [])))

has_operator : (o : Op) → Contains operators o
unfolding operators
has_operator Le = (0, omega arith, refl)
has_operator Ge = (1, omega arith, refl)
has_operator Eq = (2, omega arith, refl)
has_operator Ne = (3, omega arith, refl)

abbrev atoms_on : ℕ → List ℤ → List Atom
atoms_on i vs = flat_map (λ o. map (λ v. record { subject = i; op = o; value = v }) vs) operators

atoms_below : ℕ → List ℤ → List Atom
atoms_below zero vs = []
atoms_below (suc n) vs = atoms_on n vs ++ atoms_below n vs

last_or_less : (n i : ℕ) → i < n + 1 → (i ≡ n) ⊎ (i < n)
last_or_less n i l = grind arith

has_atom : (n : ℕ) (vs : List ℤ) (t : Atom) → t.subject < n → Contains vs t.value → Contains (atoms_below n vs) t
unfolding atoms_below
has_atom zero vs t l has = absurd (omega (arith, l))
has_atom (suc n) vs t l has = elim (last_or_less n t.subject (omega (arith, l))) [
  | inl e ↦ subst (λ (i : ℕ). Contains (atoms_on i vs ++ atoms_below n vs) t) e
      (Contains-append_left (atoms_on t.subject vs) (atoms_below n vs) t
      (contains_flat (λ (o : Op). map (λ v. record { subject = t.subject; op = o; value = v }) vs) operators t.op t (has_operator t.op) (contains_map (λ v. record { subject = t.subject; op = t.op; value = v }) vs t.value has)))
  | inr less ↦ Contains-append_right (atoms_on n vs) (atoms_below n vs) t (has_atom n vs t less has)
]

-- ---- the number of an atom that one value of a domain meets and another does not

equal_to : (x v : ℤ) → equals x v ≡ true → x ≡ v
equal_to x v e = let p = true_le x v (first_of_both (int_le x v) (int_le v x) e) in let q = true_le v x (second_of_both (int_le x v) (int_le v x) e) in omega (arith, ints)

not_not : (b : Bool) → not b ≡ false → b ≡ true
not_not true e = refl
not_not false e = absurd (true≢false e)

between : (op : Op) (v x y low high : ℤ) → low ≤ℤ x → x ≤ℤ high → low ≤ℤ y → y ≤ℤ high → meets op v x ≡ true → meets op v y ≡ false → (low ≤ℤ v) × (v ≤ℤ high)
between Le v x y low high a b c d on off = let p = true_le x v on in let q = false_le y v off in (omega (arith, ints), omega (arith, ints))
between Ge v x y low high a b c d on off = let p = true_le v x on in let q = false_le v y off in (omega (arith, ints), omega (arith, ints))
between Eq v x y low high a b c d on off = let p = equal_to x v on in subst (λ (w : ℤ). (low ≤ℤ w) × (w ≤ℤ high)) p (a, b)
between Ne v x y low high a b c d on off = let p = equal_to y v (not_not (equals y v) off) in subst (λ (w : ℤ). (low ≤ℤ w) × (w ≤ℤ high)) p (c, d)

-- the numbers of magnitude below 2 ^ 62
numbers : List ℤ
numbers = values_of ((negsuc (2 ^ 62 - 1), pos (2 ^ 62 - 1)) ∷ [])

has_number : (v : ℤ) → negsuc (2 ^ 62 - 1) ≤ℤ v → v ≤ℤ pos (2 ^ 62 - 1) → Contains numbers v
unfolding numbers
has_number v low high =
    let p : ℤ × ℤ = (negsuc (2 ^ 62 - 1), pos (2 ^ 62 - 1)) in
    among_values (p ∷ []) v (ap (λ (b : Bool). b || false) (is_within v p low high))

above_low : (x : ℤ) → unsigned_abs x < 2 ^ 62 → negsuc (2 ^ 62 - 1) ≤ℤ x
above_low (pos n) h = omega (arith, ints)
above_low (negsuc n) h = omega (arith, ints)

below_high : (x : ℤ) → unsigned_abs x < 2 ^ 62 → x ≤ℤ pos (2 ^ 62 - 1)
below_high (pos n) h = omega (arith, ints)
below_high (negsuc n) h = omega (arith, ints)

-- ---- the clauses that are worth a line of a journal

module _ (p : Problem) (h : IsInstance p) where
  small : (i : ℕ) → i < length p.domains → (x : ℤ) → is_among (first_of p.domains i) x ≡ true → unsigned_abs x < 2 ^ 62
  small i l x among = small_in (first_of p.domains i) (All-get_or AreIntervals p.domains i [] l h.domains.sound) x among

  alphabet : List Atom
  alphabet = atoms_below (length p.domains) numbers

  worthy_atom : (clause : List Atom) (below : Bound) → IsWorthy p clause below → All (Contains alphabet) clause
  unfolding alphabet
  worthy_atom clause below w k d l =
      let t = get_or clause k d in
      let on = w.atoms k d l in
      let y = value_at w.says.values t.subject in
      let off : meets t.op t.value y ≡ false = test_false (meets t.op t.value y) (λ e. true≢false (sym (list_any_at (atom_holds w.says.values) clause k d l e) ∙ w.says.fails)) in
      let x_small = small t.subject on.subject on.value on.in_domain in
      let y_small = small t.subject on.subject y (w.says.within t.subject on.subject) in
      let v = between t.op t.value on.value y (negsuc (2 ^ 62 - 1)) (pos (2 ^ 62 - 1)) (above_low on.value x_small) (below_high on.value x_small) (above_low y y_small) (below_high y y_small) on.is_met off in
      has_atom (length p.domains) numbers t on.subject (has_number t.value v.0 v.1)

  -- all lists of such atoms that are no longer than there are atoms, the normal clauses among them
  candidates : List (List Atom)
  candidates = words (length alphabet) alphabet

  any_atom : Atom
  any_atom = record { subject = 0; op = Le; value = pos 0 }

  worthy_clause : (clause : List Atom) (below : Bound) → IsWorthy p clause below → Contains candidates clause
  unfolding candidates
  worthy_clause clause below w =
      let atoms = worthy_atom clause below w in
      let short = no_longer any_atom clause alphabet (λ i j d less l same. (w.normal i j d less l).one (subst (λ (u : Atom). Implies (get_or clause i d) u) same (Implies-refl (get_or clause i d)))) atoms in
      contains_word (length alphabet) alphabet clause short atoms

-- ---- what was learnt

learnt_in : List JournalItem → List (List Atom)
learnt_in [] = []
learnt_in (Learnt clause below ∷ items) = clause ∷ learnt_in items
learnt_in (Drop i ∷ items) = learnt_in items

-- a clause weakens to itself
weakens_to_itself : (clause : List Atom) → WeakensTo clause clause
weakens_to_itself clause = record {
  to = λ i. i;
  within = λ i l. l;
  own = λ i j li lj e. e;
  implies = λ i d e l. subst (λ (t : Atom). Implies (get_or clause i d) t) (get_or_default clause i d e l) (Implies-refl (get_or clause i d));
}

stands_on : (standing : List (Option (List Atom))) (e : List Atom) (i : ℕ) (c : List Atom) → IsStanding standing i c → IsStanding (standing ++ Some e ∷ []) i c
stands_on standing e i c stands = elim (order i (length standing)) [
  | inl within ↦ get_or_append_left standing (Some e ∷ []) None i within ∙ stands
  | inr (inl at) ↦ absurd (past (omega (arith, at)))
  | inr (inr beyond) ↦ absurd (past (omega (arith, beyond)))
]
  where
    past : length standing ≤ i → ⊥
    past over = let none : None ≡ Some c = sym (get_or_past standing i None over) ∙ stands in cc none

module _ (holds : List Atom → Bound → Type 0) where
  -- what stands is not learnt again, where nothing is dropped
  never_again : (standing : List (Option (List Atom))) (i : ℕ) (c : List Atom) (items : List JournalItem) → IsStanding standing i c → DropsNothing items → AreHonest holds standing items → All (λ e. c ≡ e → ⊥) (learnt_in items)
  unfolding learnt_in
  never_again standing i c [] stands none h = All-nil (λ e. c ≡ e → ⊥)
  never_again standing i c (Learnt e z ∷ items) stands none h =
      All-cons (λ f. c ≡ f → ⊥) e (learnt_in items) (λ same. h.0.new i c stands (subst (λ (f : List Atom). WeakensTo c f) same (weakens_to_itself c)))
      (never_again (standing ++ Some e ∷ []) i c items (stands_on standing e i c stands) none h.1)
  never_again standing i c (Drop j ∷ items) stands none h = absurd none

  no_repetition : (standing : List (Option (List Atom))) (items : List JournalItem) → DropsNothing items → AreHonest holds standing items → AllPairs (λ a b. a ≡ b → ⊥) (learnt_in items)
  unfolding learnt_in
  no_repetition standing [] none h i j d less l = absurd (omega (arith, l))
  no_repetition standing (Learnt e z ∷ items) none h zero zero d less l = absurd (omega (arith, less))
  no_repetition standing (Learnt e z ∷ items) none h zero (suc j) d less l = never_again (standing ++ Some e ∷ []) (length standing) e items (get_or-append_seam standing (Some e) [] None) none h.1 j d (omega (arith, l))
  no_repetition standing (Learnt e z ∷ items) none h (suc i) zero d less l = absurd (omega (arith, less))
  no_repetition standing (Learnt e z ∷ items) none h (suc i) (suc j) d less l = no_repetition (standing ++ Some e ∷ []) items none h.1 i j d (omega (arith, less)) (omega (arith, l))
  no_repetition standing (Drop k ∷ items) none h i j d less l = absurd none

  learnt_worthy : (Q : List Atom → Type 0) → ((c : List Atom) (z : Bound) → holds c z → Q c) → (standing : List (Option (List Atom))) (items : List JournalItem) → DropsNothing items → AreHonest holds standing items → All Q (learnt_in items)
  unfolding learnt_in
  learnt_worthy Q f standing [] none h = All-nil Q
  learnt_worthy Q f standing (Learnt e z ∷ items) none h = All-cons Q e (learnt_in items) (f e z h.0.meets) (learnt_worthy Q f (standing ++ Some e ∷ []) items none h.1)
  learnt_worthy Q f standing (Drop k ∷ items) none h = absurd none

all_learnt : (items : List JournalItem) → DropsNothing items → length (learnt_in items) ≡ length items
unfolding learnt_in
all_learnt [] none = refl
all_learnt (Learnt e z ∷ items) none = ap (λ (n : ℕ). suc n) (all_learnt items none)
all_learnt (Drop k ∷ items) none = absurd none

pub greatest_length : (p : Problem) → IsInstance p → (most : ℕ) × ((journal : List JournalItem) → DropsNothing journal → IsHonestJournal p journal → length journal ≤ most)
greatest_length p h = (
  length (candidates p h),
  λ journal none honest.
      let fewer = no_longer [] (learnt_in journal) (candidates p h) (no_repetition (IsWorthy p) [] journal none honest.news) (learnt_worthy (IsWorthy p) (Contains (candidates p h)) (worthy_clause p h) [] journal none honest.news) in
      omega (arith, fewer, all_learnt journal none),
)
