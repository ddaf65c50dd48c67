-- Activities after one more atom of a clause.
use Rattle.std.specs.Prelude.{if◌then◌else◌, ◌==◌, ◌||◌}
use Rattle.std.proofs.Common.{ℕ, ◌+◌, ◌/◌, ◌^◌, ◌≤◌, ◌<◌, ◌≡◌, ◌⊎◌, inl, inr, Bool, true, false, true≢false, List, [], ◌∷◌, ◌++◌, length, take, drop, get_or, set, map, refl, sym, ap, subst, ◌∙◌, arith}
use Rattle.std.proofs.lemmas.List.{take_more, get_or-map, get_or-set_other, get_or-set_same, length-map, length-set}
use Rattle.std.proofs.lemmas.List.Folds.{list_any-append}
use Rattle.cps_literal.specs.declared.atom.Atom.{Atom}
use Rattle.cps_branch.specs.Activities.{speaks_of, gain, AreGained, ReachesLimit, AreBumped, AreSmall, MarksOne}
use Rattle.cps_branch.proofs.SetAside.{speaks_on}

-- one more atom
pub speaks_more : (clause : List Atom) (k : ℕ) (t d : Atom) (i : ℕ) → k < length clause → t ≡ get_or clause k d
    → speaks_of (take (k + 1) clause) i ≡ (speaks_of (take k clause) i || (t.subject == i))
speaks_more clause k t d i l e =
    ap (λ c. speaks_of c i) (take_more clause k d l ∙ ap (λ u. take k clause ++ u ∷ []) (sym e)) ∙ list_any-append (λ (u : Atom). u.subject == i) (take k clause) (t ∷ []) ∙ ap (λ b. speaks_of (take k clause) i || b) (or_false (t.subject == i))
  where
    or_false : (b : Bool) → (b || false) ≡ b
    or_false true = refl
    or_false false = refl

pub marked_more : (a e : Bool) → (if e then true else a) ≡ (a || e)
marked_more true true = refl
marked_more true false = refl
marked_more false true = refl
marked_more false false = refl

gained_more : (a e : Bool) → (if a then 1 else 0) + (if e then (if a then 0 else 1) else 0) ≡ (if (a || e) then 1 else 0)
gained_more true true = refl
gained_more true false = refl
gained_more false true = refl
gained_more false false = refl

-- the marks after k atoms
pub record AreMarked (clause : List Atom) (n : ℕ) (marks : List Bool) : Type 0 where
  pub each : (i : ℕ) → i < n → get_or marks i false ≡ speaks_of clause i

pub are_marked-more : (clause : List Atom) (k n : ℕ) (t d : Atom) (marks marks' : List Bool) (mid new : List ℕ) → k < length clause → t ≡ get_or clause k d → n ≡ length mid
    → AreMarked (take k clause) n marks → MarksOne t.subject marks marks' mid new → AreMarked (take (k + 1) clause) n marks'
are_marked-more clause k n t d marks marks' mid new l e len marked one = record {
  each = λ i h. one.marked i (omega (arith, h, len)) ∙ ap (λ b. if t.subject == i then true else b) (marked.each i h) ∙ marked_more (speaks_of (take k clause) i) (t.subject == i) ∙ sym (speaks_more clause k t d i l e);
}

pub gains-more : (clause : List Atom) (k : ℕ) (t d : Atom) (marks marks' : List Bool) (old mid new : List ℕ) → k < length clause → t ≡ get_or clause k d → length new ≡ length mid
    → AreMarked (take k clause) (length old) marks → MarksOne t.subject marks marks' mid new → AreGained (take k clause) old mid → AreGained (take (k + 1) clause) old new
gains-more clause k t d marks marks' old mid new l e len marked one gains = record {
  same_length = len ∙ gains.same_length;
  each = λ i h.
      let a = speaks_of (take k clause) i in
      let first = one.each i (omega (arith, h, gains.same_length)) ∙ ap (λ (b : Bool). get_or mid i 0 + (if t.subject == i then (if b then 0 else 1) else 0)) (marked.each i h) in
      let sum = gained_more a (t.subject == i) ∙ sym (ap (λ (b : Bool). if b then 1 else 0) (speaks_more clause k t d i l e)) in
      omega (arith, first, gains.each i h, sum);
}

pub gains-none : (old : List ℕ) → AreGained [] old old
gains-none old = record { same_length = refl; each = λ i l. omega arith }

one_most : (b : Bool) → (if b then 1 else 0) ≤ 1
one_most true = omega arith
one_most false = omega arith

pub gained-most : (clause : List Atom) (old new : List ℕ) (i : ℕ) → AreSmall old → AreGained clause old new → i < length new → get_or new i 0 ≤ 2 ^ 40
gained-most clause old new i small gains l =
    omega (arith, gains.each i (omega (arith, l, gains.same_length)), small i (omega (arith, l, gains.same_length)), one_most (speaks_of clause i))

-- an activity that the clause did not bump yet is as small as before
pub gained-unmarked : (clause : List Atom) (old new : List ℕ) (marks : List Bool) (i : ℕ) → AreSmall old → AreGained clause old new → AreMarked clause (length old) marks → i < length new → get_or marks i false ≡ false → get_or new i 0 < 2 ^ 40
gained-unmarked clause old new marks i small gains marked l unmarked =
    let h : i < length old = omega (arith, l, gains.same_length) in
    let none : gain clause i ≡ 0 = ap (λ (b : Bool). if b then 1 else 0) (sym (marked.each i h) ∙ unmarked) in
    omega (arith, gains.each i h, small i h, none)

eq_cases : (a b : ℕ) → (a ≡ b) ⊎ ((a == b) ≡ false)
eq_cases a b = grind arith

-- where one reaches the limit after one more atom, one did before or its subject does
pub reaches-one : (s : ℕ) (marks marks' : List Bool) (mid new : List ℕ) → length new ≡ length mid → MarksOne s marks marks' mid new → ReachesLimit new → ReachesLimit mid ⊎ ((s < length new) × (2 ^ 40 ≤ get_or new s 0))
reaches-one s marks marks' mid new len one r = elim (eq_cases s r.0) [
  | inl e ↦ inr (omega (arith, e, r.1), subst (λ j. 2 ^ 40 ≤ get_or new j 0) (sym e) r.2)
  | inr ne ↦ inl (r.0, omega (arith, len, r.1), omega (arith, r.2, one.each r.0 (omega (arith, len, r.1)) ∙ ap (λ (b : Bool). get_or mid r.0 0 + (if b then (if get_or marks r.0 false then 0 else 1) else 0)) ne))
]

pub reaches-kept : (s : ℕ) (marks marks' : List Bool) (mid new : List ℕ) → length new ≡ length mid → MarksOne s marks marks' mid new → ReachesLimit mid → ReachesLimit new
reaches-kept s marks marks' mid new len one r = (r.0, omega (arith, len, r.1), omega (arith, r.2, one.each r.0 r.1))

-- the activities after the clause
pub bumped-halved : (clause : List Atom) (old mid : List ℕ) → AreGained clause old mid → ReachesLimit mid → AreBumped clause old (map (λ a. a / 2) mid)
bumped-halved clause old mid gains r = record { gained = mid; gains = gains; halved = λ _. refl; kept = λ not. absurd (not r) }

pub bumped-kept : (clause : List Atom) (old mid : List ℕ) → AreGained clause old mid → (ReachesLimit mid → ⊥) → AreBumped clause old mid
bumped-kept clause old mid gains not = record { gained = mid; gains = gains; halved = λ r. absurd (not r); kept = λ _. refl }

-- halved ones are not those that the clause bumped
pub halved_differs : (clause : List Atom) (old mid new : List ℕ) → AreGained clause old mid → ReachesLimit mid → new ≡ map (λ a. a / 2) mid → AreGained clause old new → ⊥
halved_differs clause old mid new gains r is gains' =
    let h : r.0 < length old = omega (arith, r.1, gains.same_length) in
    let half = ap (λ (xs : List ℕ). get_or xs r.0 0) is ∙ get_or-map (λ (a : ℕ). a / 2) mid r.0 0 0 r.1 in
    omega (arith, r.2, half, gains.each r.0 h, gains'.each r.0 h)

pub small-kept : (mid : List ℕ) → (ReachesLimit mid → ⊥) → AreSmall mid
small-kept mid not i l = elim (cases (get_or mid i 0) (2 ^ 40)) [ inl h ↦ h | inr h ↦ absurd (not (i, l, h)) ]
  where
    cases : (a b : ℕ) → (a < b) ⊎ (b ≤ a)
    cases a b = grind arith

pub small-halved : (clause : List Atom) (old mid : List ℕ) → AreSmall old → AreGained clause old mid → AreSmall (map (λ a. a / 2) mid)
small-halved clause old mid small gains i l =
    let h : i < length mid = omega (arith, l, length-map mid (λ (a : ℕ). a / 2)) in
    omega (arith, gained-most clause old mid i small gains h, get_or-map (λ (a : ℕ). a / 2) mid i 0 0 h)

same_cases : (a b : ℕ) → (a ≡ b) ⊎ (a ≡ b → ⊥)
same_cases a b = grind arith

bool_cases : (b : Bool) → (b ≡ true) ⊎ (b ≡ false)
bool_cases true = inl refl
bool_cases false = inr refl

-- What is marked is spoken of by the atoms that are left.
module _ (clause : List Atom) (k : ℕ) (t d : Atom) (marks : List Bool) (within : k < length clause) (is : t ≡ get_or clause k d) (left : (i : ℕ) → i < length marks → get_or marks i false ≡ true → speaks_of (drop k clause) i ≡ true) where
  spoken_on : (i : ℕ) → (i ≡ t.subject → ⊥) → speaks_of (drop k clause) i ≡ true → speaks_of (drop (k + 1) clause) i ≡ true
  spoken_on i ne h = elim (bool_cases (speaks_of (drop (k + 1) clause) i)) [
    | inl spoken ↦ spoken
    | inr quiet ↦ absurd (true≢false (sym h ∙ speaks_on clause k t d i within is ne quiet))
  ]

  -- an atom takes back the mark of its subject
  pub unmarked_one : (i : ℕ) → i < length (set marks t.subject false) → get_or (set marks t.subject false) i false ≡ true → speaks_of (drop (k + 1) clause) i ≡ true
  unmarked_one i l on = elim (same_cases i t.subject) [
    | inl same ↦ absurd (true≢false (sym on ∙ ap (λ (j : ℕ). get_or (set marks t.subject false) j false) same ∙ get_or-set_same marks t.subject false false (omega (arith, l, same, length-set marks t.subject false))))
    | inr ne ↦ spoken_on i ne (left i (omega (arith, l, length-set marks t.subject false)) (sym (get_or-set_other marks t.subject i false false ne) ∙ on))
  ]

  -- or its subject has none
  pub unmarked_past : length marks ≤ t.subject → (i : ℕ) → i < length marks → get_or marks i false ≡ true → speaks_of (drop (k + 1) clause) i ≡ true
  unmarked_past past i l on = spoken_on i (λ same. omega (arith, l, same, past)) (left i l on)
