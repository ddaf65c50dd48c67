-- Which clauses are in force, and what dropping some leaves.
use Rattle.std.proofs.Common.{ℕ, zero, suc, ◌+◌, ◌≤◌, ◌<◌, ◌≡◌, ◌≢◌, ◌⊎◌, Bool, true, false, List, [], ◌∷◌, ◌++◌, length, take, get_or, set, map, refl, sym, true≢false, ◌∙◌, ap, subst, inl, inr, arith}
use Rattle.std.specs.List.{All, Contains}
use Rattle.std.proofs.lemmas.List.{get_or_default, get_or-set_same, get_or-set_other, length-set, map-append, take_more}
use Rattle.std.proofs.lemmas.List.Elements.{All-cons, All-head, All-tail, All-contains_itself}
use Rattle.cps_literal.specs.declared.atom.Atom.{Atom}
use Rattle.cps_clauses.specs.InForce.{is_dropped, in_force, IsNumberInForce, blanked, marked, emptied}
use Rattle.cps_clauses.specs.Watches.{clause_of}

held_before : (c : List Atom) (cs : List (List Atom)) (b : Bool) (ds : List Bool) (i : ℕ) → IsNumberInForce (c ∷ cs) (b ∷ ds) (suc i) → IsNumberInForce cs ds i
held_before c cs b ds i h = record { within = (let l = h.within in omega (arith, l)); stays = h.stays }

held_after : (c : List Atom) (cs : List (List Atom)) (b : Bool) (ds : List Bool) (i : ℕ) → IsNumberInForce cs ds i → IsNumberInForce (c ∷ cs) (b ∷ ds) (suc i)
held_after c cs b ds i h = record { within = (let l = h.within in omega (arith, l)); stays = h.stays }

-- what holds of the clauses in force holds of each that is
pub at_held : (P : List Atom → Type 0) (cs : List (List Atom)) (ds : List Bool) (i : ℕ) → All P (in_force cs ds) → IsNumberInForce cs ds i → P (clause_of cs i)
at_held P [] ds i all h = absurd (let l = h.within in omega (arith, l))
at_held P (c ∷ cs) [] i all h = all i [] h.within
at_held P (c ∷ cs) (true ∷ ds) zero all h = absurd (true≢false h.stays)
at_held P (c ∷ cs) (true ∷ ds) (suc i) all h = at_held P cs ds i all (held_before c cs true ds i h)
at_held P (c ∷ cs) (false ∷ ds) zero all h = All-head P c (in_force cs ds) all
at_held P (c ∷ cs) (false ∷ ds) (suc i) all h = at_held P cs ds i (All-tail P c (in_force cs ds) all) (held_before c cs false ds i h)

-- and the other way
pub all_held : (P : List Atom → Type 0) (cs : List (List Atom)) (ds : List Bool) → ((i : ℕ) → IsNumberInForce cs ds i → P (clause_of cs i)) → All P (in_force cs ds)
all_held P [] ds each = λ k d l. absurd (omega (arith, l))
all_held P (c ∷ cs) [] each = λ k d l. subst P (get_or_default (c ∷ cs) k [] d l) (each k (record { within = l; stays = refl }))
all_held P (c ∷ cs) (true ∷ ds) each = all_held P cs ds (λ i h. each (suc i) (held_after c cs true ds i h))
all_held P (c ∷ cs) (false ∷ ds) each =
    All-cons P c (in_force cs ds) (each zero (record { within = omega arith; stays = refl })) (all_held P cs ds (λ i h. each (suc i) (held_after c cs false ds i h)))

-- a clause that is held is one of those in force
pub held_in : (cs : List (List Atom)) (ds : List Bool) (i : ℕ) → IsNumberInForce cs ds i → Contains (in_force cs ds) (clause_of cs i)
held_in cs ds i h = at_held (Contains (in_force cs ds)) cs ds i (All-contains_itself (in_force cs ds)) h

-- one of those in force has a number
pub record HasNumber (cs : List (List Atom)) (ds : List Bool) (c : List Atom) : Type 0 where
  pub number : ℕ
  pub held : IsNumberInForce cs ds number
  pub is : clause_of cs number ≡ c

pub number_of_one : (cs : List (List Atom)) (ds : List Bool) (c : List Atom) → Contains (in_force cs ds) c → HasNumber cs ds c
number_of_one cs ds c has =
    subst (λ (k : List Atom). HasNumber cs ds k) has.2 (all_held (λ k. HasNumber cs ds k) cs ds (λ i h. record { number = i; held = h; is = refl }) has.0 c has.1)

-- one more clause is in force
pub in_force_pushed : (cs : List (List Atom)) (ds : List Bool) (c : List Atom) → length ds ≡ length cs → in_force (cs ++ c ∷ []) (ds ++ false ∷ []) ≡ in_force cs ds ++ c ∷ []
in_force_pushed [] [] c e = refl
in_force_pushed [] (b ∷ ds) c e = absurd (omega (arith, e))
in_force_pushed (x ∷ cs) [] c e = absurd (omega (arith, e))
in_force_pushed (x ∷ cs) (true ∷ ds) c e = in_force_pushed cs ds c (omega (arith, e))
in_force_pushed (x ∷ cs) (false ∷ ds) c e = ap (λ (ks : List (List Atom)). x ∷ ks) (in_force_pushed cs ds c (omega (arith, e)))

-- clauses without the atoms of those that were dropped
pub length-blanked : (cs : List (List Atom)) (ds : List Bool) → length (blanked cs ds) ≡ length cs
length-blanked [] ds = refl
length-blanked (c ∷ cs) [] = refl
length-blanked (c ∷ cs) (true ∷ ds) = ap (λ (n : ℕ). suc n) (length-blanked cs ds)
length-blanked (c ∷ cs) (false ∷ ds) = ap (λ (n : ℕ). suc n) (length-blanked cs ds)

pub blanked_dropped : (cs : List (List Atom)) (ds : List Bool) (i : ℕ) → is_dropped ds i ≡ true → clause_of (blanked cs ds) i ≡ []
blanked_dropped [] ds i h = refl
blanked_dropped (c ∷ cs) [] i h = absurd (true≢false (sym h))
blanked_dropped (c ∷ cs) (true ∷ ds) zero h = refl
blanked_dropped (c ∷ cs) (true ∷ ds) (suc i) h = blanked_dropped cs ds i h
blanked_dropped (c ∷ cs) (false ∷ ds) zero h = absurd (true≢false (sym h))
blanked_dropped (c ∷ cs) (false ∷ ds) (suc i) h = blanked_dropped cs ds i h

pub blanked_kept : (cs : List (List Atom)) (ds : List Bool) (i : ℕ) → is_dropped ds i ≡ false → clause_of (blanked cs ds) i ≡ clause_of cs i
blanked_kept [] ds i h = refl
blanked_kept (c ∷ cs) [] i h = refl
blanked_kept (c ∷ cs) (true ∷ ds) zero h = absurd (true≢false h)
blanked_kept (c ∷ cs) (true ∷ ds) (suc i) h = blanked_kept cs ds i h
blanked_kept (c ∷ cs) (false ∷ ds) zero h = refl
blanked_kept (c ∷ cs) (false ∷ ds) (suc i) h = blanked_kept cs ds i h

-- a clause that has atoms in the end was not dropped, and had the same
pub blanked_some : (cs : List (List Atom)) (ds : List Bool) (i : ℕ) → 1 ≤ length (clause_of (blanked cs ds) i) → is_dropped ds i ≡ false
blanked_some cs ds i some = go (is_dropped ds i) refl
  where
    go : (b : Bool) → is_dropped ds i ≡ b → is_dropped ds i ≡ false
    go true e = absurd (let none : length (clause_of (blanked cs ds) i) ≡ 0 = ap (λ (c : List Atom). length c) (blanked_dropped cs ds i e) in omega (arith, some, none))
    go false e = e

-- where the dropped ones have no atoms, nothing changes
pub blanked_same : (cs : List (List Atom)) (ds : List Bool) → ((i : ℕ) → is_dropped ds i ≡ true → clause_of cs i ≡ []) → blanked cs ds ≡ cs
blanked_same [] ds blank = refl
blanked_same (c ∷ cs) [] blank = refl
blanked_same (c ∷ cs) (true ∷ ds) blank = ap (λ (k : List Atom). k ∷ blanked cs ds) (sym (blank zero refl)) ∙ ap (λ (ks : List (List Atom)). c ∷ ks) (blanked_same cs ds (λ i h. blank (suc i) h))
blanked_same (c ∷ cs) (false ∷ ds) blank = ap (λ (ks : List (List Atom)). c ∷ ks) (blanked_same cs ds (λ i h. blank (suc i) h))

-- one more that is dropped
pub blanked_set : (cs : List (List Atom)) (ds : List Bool) (i : ℕ) → i < length ds → blanked cs (set ds i true) ≡ set (blanked cs ds) i []
blanked_set cs [] i l = absurd (omega (arith, l))
blanked_set [] (b ∷ ds) i l = refl
blanked_set (c ∷ cs) (true ∷ ds) zero l = refl
blanked_set (c ∷ cs) (false ∷ ds) zero l = refl
blanked_set (c ∷ cs) (true ∷ ds) (suc i) l = ap (λ (ks : List (List Atom)). [] ∷ ks) (blanked_set cs ds i (omega (arith, l)))
blanked_set (c ∷ cs) (false ∷ ds) (suc i) l = ap (λ (ks : List (List Atom)). c ∷ ks) (blanked_set cs ds i (omega (arith, l)))

-- and several
pub blanked_marked : (cs : List (List Atom)) (ds : List Bool) (is : List ℕ) → All (λ i. i < length ds) is → blanked cs (marked ds is) ≡ emptied (blanked cs ds) is
blanked_marked cs ds [] all = refl
blanked_marked cs ds (i ∷ is) all =
    blanked_marked cs (set ds i true) is (λ k d l. (let b = All-tail (λ j. j < length ds) i is all k d l in omega (arith, b, length-set ds i true)))
    ∙ ap (λ (ks : List (List Atom)). emptied ks is) (blanked_set cs ds i (All-head (λ j. j < length ds) i is all))

pub length-marked : (ds : List Bool) (is : List ℕ) → length (marked ds is) ≡ length ds
length-marked ds [] = refl
length-marked ds (i ∷ is) = length-marked (set ds i true) is ∙ length-set ds i true

same_or : (i j : ℕ) → (i ≡ j) ⊎ (i ≢ j)
same_or i j = grind arith

-- what was dropped stays so
pub marked_keeps : (ds : List Bool) (is : List ℕ) (j : ℕ) → is_dropped ds j ≡ true → is_dropped (marked ds is) j ≡ true
marked_keeps ds [] j h = h
marked_keeps ds (i ∷ is) j h = marked_keeps (set ds i true) is j (elim (same_or j i) [
  | inl e ↦ subst (λ (k : ℕ). get_or (set ds k true) j false ≡ true) e (get_or-set_same ds j true false (inside ds j h))
  | inr ne ↦ get_or-set_other ds i j true false ne ∙ h
])
  where
    inside : (ds : List Bool) (j : ℕ) → is_dropped ds j ≡ true → j < length ds
    inside [] j h = absurd (true≢false (sym h))
    inside (b ∷ ds) zero h = omega arith
    inside (b ∷ ds) (suc j) h = let l = inside ds j h in omega (arith, l)

-- what is marked is dropped
pub marked_has : (ds : List Bool) (is : List ℕ) (j : ℕ) → All (λ i. i < length ds) is → Contains is j → is_dropped (marked ds is) j ≡ true
marked_has ds [] j all has = absurd (let l = has.1 in omega (arith, l))
marked_has ds (i ∷ is) j all has = elim (same_or j i) [
  | inl e ↦ marked_keeps (set ds i true) is j (subst (λ (k : ℕ). get_or (set ds k true) j false ≡ true) e (get_or-set_same ds j true false (subst (λ (k : ℕ). k < length ds) (sym e) (All-head (λ k. k < length ds) i is all))))
  | inr ne ↦ marked_has (set ds i true) is j (λ k d l. (let b = All-tail (λ m. m < length ds) i is all k d l in omega (arith, b, length-set ds i true))) (later i is j ne has)
]
  where
    later : (i : ℕ) (is : List ℕ) (j : ℕ) → j ≢ i → Contains (i ∷ is) j → Contains is j
    later i is j ne has = go has.0 has.1 has.2
      where
        go : (k : ℕ) → k < length (i ∷ is) → get_or (i ∷ is) k j ≡ j → Contains is j
        go zero l e = absurd (ne (sym e))
        go (suc k) l e = (k, omega (arith, l), e)

-- and nothing else is
pub marked_only : (ds : List Bool) (is : List ℕ) (j : ℕ) → (Contains is j → ⊥) → is_dropped (marked ds is) j ≡ is_dropped ds j
marked_only ds [] j none = refl
marked_only ds (i ∷ is) j none =
    marked_only (set ds i true) is j (λ has. none (suc has.0, (let l = has.1 in omega (arith, l)), has.2))
    ∙ get_or-set_other ds i j true false (λ e. none (zero, omega arith, sym e))

-- what is not dropped in the end was not before
pub marked_below : (ds : List Bool) (is : List ℕ) (j : ℕ) → is_dropped (marked ds is) j ≡ false → is_dropped ds j ≡ false
marked_below ds is j h = go (is_dropped ds j) refl
  where
    go : (b : Bool) → is_dropped ds j ≡ b → is_dropped ds j ≡ false
    go true e = absurd (true≢false (sym (marked_keeps ds is j e) ∙ h))
    go false e = e

-- one more of the first ones
pub take_next : (cs : List (List Atom)) (n : ℕ) → n < length cs → take (n + 1) cs ≡ take n cs ++ clause_of cs n ∷ []
take_next [] n l = absurd (omega (arith, l))
take_next (c ∷ cs) zero l = refl
take_next (c ∷ cs) (suc n) l = ap (λ (k : ℕ). take k (c ∷ cs)) (later n) ∙ ap (λ (ks : List (List Atom)). c ∷ ks) (take_next cs n (omega (arith, l)))
  where
    later : (n : ℕ) → suc n + 1 ≡ suc (n + 1)
    later n = omega arith

-- marks after one more clause
pub marked_push : (ds : List Bool) (is : List ℕ) (i : ℕ) → marked ds (is ++ i ∷ []) ≡ set (marked ds is) i true
marked_push ds [] i = refl
marked_push ds (j ∷ is) i = marked_push (set ds j true) is i

-- marks after one more of the first ones
pub marks_more : (ds : List Bool) (f : ℕ → ℕ) (xs : List ℕ) (k : ℕ) → k < length xs → marked ds (map f (take (k + 1) xs)) ≡ set (marked ds (map f (take k xs))) (f (get_or xs k 0)) true
marks_more ds f xs k l =
    ap (λ (ys : List ℕ). marked ds (map f ys)) (take_more xs k 0 l)
    ∙ ap (λ (ys : List ℕ). marked ds ys) (map-append f (take k xs) (get_or xs k 0 ∷ []))
    ∙ marked_push ds (map f (take k xs)) (f (get_or xs k 0))

-- a mark that was read within the list
pub read_dropped : (ds : List Bool) (i : ℕ) (b : Bool) → b ≡ get_or ds i b → i < length ds → is_dropped ds i ≡ b
read_dropped ds i b e l = get_or_default ds i false b l ∙ sym e
