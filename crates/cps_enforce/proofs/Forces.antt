-- Enforcement atoms: which are true, and what follows where one is left.
use Rattle.std.specs.Prelude.{◌&&◌, not, is_some, All, Option, Some, None}
use Rattle.std.specs.List.{list_all}
use Rattle.std.proofs.Common.{◌≡◌, ◌≢◌, ◌⊎◌, inl, inr, ℕ, ◌+◌, ◌<◌, ℤ, arith, Bool, true, false, ap, refl, sym, ◌∙◌, List, [], ◌∷◌, ◌++◌, length, take, drop, get_or, subst}
use Rattle.std.proofs.lemmas.List.{get_or_default, length-take-le, get_or-take, get_or-drop, length-drop, take-append-drop, drop_more}
use Rattle.std.proofs.lemmas.List.Folds.{list_all-append}
use Rattle.std.proofs.lemmas.List.Elements.{All-append, All-nil, All-cons, All-head, All-tail}
use Rattle.std.proofs.lemmas.List.Sums.{list_all-from_AllPass}
use Rattle.cps_literal.specs.declared.atom.Atom.{Atom}
use Rattle.cps_literal.specs.declared.atom.Truth.{Truth}
use Rattle.cps_literal.specs.declared.atom.Truth.TheVariants.{Yes, No, Undecided}
use Rattle.cps_literal.specs.Truth.{meets, value_at, atom_holds}
use Rattle.cps_instance.specs.Tasks.{atom_subjects}
use Rattle.cps_trail.specs.Trail.{Trail, admits, IsTrueNow, IsFalseNow}
use Rattle.cps_propagate.specs.Now.{IsFixedNow, IsOpenTo, AreOpen}
use Rattle.cps_rule.specs.Rules.{IsFact, AreFacts, AllTrueAt}
use Rattle.cps_enforce.specs.Force.{IsOpenAt, IsBarred, AreNegatable, but}

-- the first atoms: all true, or all but one
pub record OpenSoFar (s : Trail) (us : List Atom) (n : ℕ) (place : ℕ) : Type 0 where
  pub inside : place < n
  pub others : (k : ℕ) (d : Atom) → k < n → k ≢ place → IsTrueNow s (get_or us k d)
  pub not_true : (d : Atom) → IsTrueNow s (get_or us place d) → ⊥
  pub not_false : (d : Atom) → IsFalseNow s (get_or us place d) → ⊥

abbrev pub IsForceSoFar : Trail → List Atom → ℕ → Option ℕ → Type 0
IsForceSoFar s us n None = (k : ℕ) (d : Atom) → k < n → IsTrueNow s (get_or us k d)
IsForceSoFar s us n (Some place) = OpenSoFar s us n place

module _ (s : Trail) (us : List Atom) (n : ℕ) (u : Atom) (l : n < length us) (is : (d : Atom) → u ≡ get_or us n d) where
  split_last : (k : ℕ) → k < n + 1 → (k < n) ⊎ (k ≡ n)
  split_last k h = grind arith

  pub force_true : (found : Option ℕ) → IsTrueNow s u → IsForceSoFar s us n found → IsForceSoFar s us (n + 1) found
  force_true None now h = λ k d b. elim (split_last k b) [
    | inl i ↦ h k d i
    | inr i ↦ subst (λ j. IsTrueNow s (get_or us j d)) (sym i) (subst (λ (v : Atom). IsTrueNow s v) (is d) now)
  ]
  force_true (Some place) now h = record {
    inside = (let i = h.inside in omega arith);
    others = λ k d b ne. elim (split_last k b) [
      | inl i ↦ h.others k d i ne
      | inr i ↦ subst (λ j. IsTrueNow s (get_or us j d)) (sym i) (subst (λ (v : Atom). IsTrueNow s v) (is d) now)
    ];
    not_true = h.not_true;
    not_false = h.not_false;
  }

  pub force_open : (IsTrueNow s u → ⊥) → (IsFalseNow s u → ⊥) → IsForceSoFar s us n None → IsForceSoFar s us (n + 1) (Some n)
  force_open nt nf h = record {
    inside = omega arith;
    others = λ k d b ne. elim (split_last k b) [ inl i ↦ h k d i | inr i ↦ absurd (ne i) ];
    not_true = λ d t. nt (subst (λ (v : Atom). IsTrueNow s v) (sym (is d)) t);
    not_false = λ d t. nf (subst (λ (v : Atom). IsFalseNow s v) (sym (is d)) t);
  }

  pub force_twice : (place : ℕ) → (IsTrueNow s u → ⊥) → OpenSoFar s us n place → IsBarred s us n
  force_twice place nt h = record {
    inside = l;
    not_true = λ d t. nt (subst (λ (v : Atom). IsTrueNow s v) (sym (is d)) t);
    last = λ others d. (let i = h.inside in absurd (h.not_true d (others place d (omega arith) (omega arith))));
  }

  pub force_false : (IsTrueNow s u → ⊥) → IsFalseNow s u → IsBarred s us n
  force_false nt f = record {
    inside = l;
    not_true = λ d t. nt (subst (λ (v : Atom). IsTrueNow s v) (sym (is d)) t);
    last = λ others d. subst (λ (v : Atom). IsFalseNow s v) (is d) f;
  }

  pub force_found : (found : Option ℕ) → is_some found ≡ true → (IsTrueNow s u → ⊥) → IsForceSoFar s us n found → (place : ℕ) × IsBarred s us place
  force_found None some nt h = absurd (let bad : false ≡ true = some in cc)
  force_found (Some place) some nt h = (n, force_twice place nt h)

  pub force_none : (found : Option ℕ) → is_some found ≡ false → (IsTrueNow s u → ⊥) → (IsFalseNow s u → ⊥) → IsForceSoFar s us n found → IsForceSoFar s us (n + 1) (Some n)
  force_none None none nt nf h = force_open nt nf h
  force_none (Some place) none nt nf h = absurd (let bad : true ≡ false = none in cc)

-- an answer is no other
abbrev code : Truth → ℕ
code Yes = 0
code No = 1
code Undecided = 2

pub yes_not_no : Yes ≡ No → ⊥
yes_not_no e = let bad : 0 ≡ 1 = ap code e in omega (arith, bad)

pub yes_not_open : Yes ≡ Undecided → ⊥
yes_not_open e = let bad : 0 ≡ 2 = ap code e in omega (arith, bad)

pub no_not_open : No ≡ Undecided → ⊥
no_not_open e = let bad : 1 ≡ 2 = ap code e in omega (arith, bad)

-- what holds of all atoms but one
pub but_all : (P : Atom → Type 0) (us : List Atom) (place : ℕ) → place < length us → ((k : ℕ) (d : Atom) → k < length us → k ≢ place → P (get_or us k d)) → All P (but us place)
but_all P us place l h = All-append P (take place us) (drop (place + 1) us)
    (λ k d b.
    let n = length-take-le place us (omega arith) in
    let e : get_or (take place us) k d ≡ get_or us k d = get_or-take place us k d (omega arith) in
    subst P (sym e) (h k d (omega arith) (omega arith)))
    (λ k d b.
    let n = length-drop (place + 1) us in
    let e : get_or (drop (place + 1) us) k d ≡ get_or us ((place + 1) + k) d = get_or-drop (place + 1) us k d in
    subst P (sym e) (h ((place + 1) + k) d (omega arith) (omega arith)))

pub but_facts : (s : Trail) (us : List Atom) (place : ℕ) → AreNegatable s.first us → IsOpenAt s us place → AreFacts s (but us place)
but_facts s us place n o = but_all (IsFact s) us place o.inside (λ k d l ne. record { subject = n.subjects k d l; inside = n.inside k d l; true_now = o.others k d l ne })

split_at : (us : List Atom) (k : ℕ) (u : Atom) → k < length us → u ≡ get_or us k u → us ≡ take k us ++ (u ∷ drop (k + 1) us)
split_at us k u l is = sym (take-append-drop k us) ∙ ap (λ ys. take k us ++ ys) (drop_more us k u l ∙ ap (λ y. y ∷ drop (k + 1) us) (sym is))

all_but : (p : Atom → Bool) (us : List Atom) (place : ℕ) (u : Atom) → place < length us → u ≡ get_or us place u → list_all p (but us place) ≡ true → p u ≡ true → list_all p us ≡ true
all_but p us place u l is h k =
    let e : list_all p us ≡ list_all p (take place us ++ (u ∷ drop (place + 1) us)) = ap (λ vs. list_all p vs) (split_at us place u l is) in
    let f = list_all-append p (take place us) (u ∷ drop (place + 1) us) in
    let g : (list_all p (take place us) && list_all p (drop (place + 1) us)) ≡ true = sym (list_all-append p (take place us) (drop (place + 1) us)) ∙ h in
    e ∙ f ∙ ap (λ b. list_all p (take place us) && (b && list_all p (drop (place + 1) us))) k ∙ g

not_open : (b : Bool) → (b ≡ true → ⊥) → not b ≡ true
not_open true h = absurd (h refl)
not_open false h = refl

-- where the others are true and the atom at a place cannot be, its negation is true
pub negation_given : (us : List Atom) (place : ℕ) (d n : Atom) (xs : List ℤ) → place < length us → n.subject ≡ (get_or us place d).subject → ((x : ℤ) → meets n.op n.value x ≡ not (meets (get_or us place d).op (get_or us place d).value x))
    → AllTrueAt xs (but us place) → (list_all (atom_holds xs) us ≡ true → ⊥) → atom_holds xs n ≡ true
negation_given us place d n xs l subject negated others none =
    let u = get_or us place d in
    let rest : list_all (atom_holds xs) (but us place) ≡ true = list_all-from_AllPass (atom_holds xs) (but us place) others in
    let not_held : atom_holds xs u ≡ true → ⊥ = λ k. none (all_but (atom_holds xs) us place u l (get_or_default us place d u l) rest k) in
    ap (λ i. meets n.op n.value (value_at xs i)) subject ∙ negated (value_at xs u.subject) ∙ not_open (atom_holds xs u) not_held

-- an atom whose negation is true is false, and so not true where its subject has a value
pub negation_made : (s : Trail) (u n : Atom) → n.subject ≡ u.subject → ((x : ℤ) → meets n.op n.value x ≡ not (meets u.op u.value x)) → IsTrueNow s n → IsFalseNow s u
negation_made s u n subject negated now x o =
    let h : not (meets u.op u.value x) ≡ true = sym (negated x) ∙ now x (subst (λ i. admits s.first s.entries i x ≡ true) (sym subject) o) in
    not_true (meets u.op u.value x) h
  where
    not_true : (b : Bool) → not b ≡ true → b ≡ false
    not_true true h = sym h
    not_true false h = refl

pub false_not_true : (s : Trail) (u : Atom) → ((x : ℤ) × (admits s.first s.entries u.subject x ≡ true)) → IsFalseNow s u → IsTrueNow s u → ⊥
false_not_true s u some f t = let bad : false ≡ true = sym (f some.0 some.1) ∙ t some.0 some.1 in cc bad

-- an atom whose negation is false is true
pub open_true : (s : Trail) (u n : Atom) → n.subject ≡ u.subject → ((x : ℤ) → meets n.op n.value x ≡ not (meets u.op u.value x)) → IsFalseNow s n → IsTrueNow s u
open_true s u n subject negated f x o = not_false (meets u.op u.value x) (sym (negated x) ∙ f x (subst (λ i. admits s.first s.entries i x ≡ true) (sym subject) o))
  where
    not_false : (b : Bool) → not b ≡ false → b ≡ true
    not_false true h = refl
    not_false false h = sym h

-- atoms that are true at open values of fixed subjects are true now
pub fixed_true : (s : Trail) (us : List Atom) (xs : List ℤ) → AreOpen s xs (atom_subjects us) → All (IsFixedNow s) (atom_subjects us) → list_all (atom_holds xs) us ≡ true → All (IsTrueNow s) us
fixed_true s [] xs opens fixed h = All-nil (IsTrueNow s)
fixed_true s (u ∷ us) xs opens fixed h =
    let here : IsOpenTo s u.subject (value_at xs u.subject) = All-head (λ i. IsOpenTo s i (value_at xs i)) u.subject (atom_subjects us) opens in
    let one : IsFixedNow s u.subject = All-head (IsFixedNow s) u.subject (atom_subjects us) fixed in
    let this : atom_holds xs u ≡ true = grind arith in
    let rest : list_all (atom_holds xs) us ≡ true = grind arith in
    All-cons (IsTrueNow s) u us (λ x o. subst (λ (z : ℤ). meets u.op u.value z ≡ true) (one (value_at xs u.subject) x here o) this)
    (fixed_true s us xs (All-tail (λ i. IsOpenTo s i (value_at xs i)) u.subject (atom_subjects us) opens) (All-tail (IsFixedNow s) u.subject (atom_subjects us) fixed) rest)
