-- Marks of literals: which of them are set, and which assumptions are picked by them.
use Rattle.std.specs.Prelude.{◌↔◌}
use Rattle.std.specs.List.{Contains}
use Rattle.std.proofs.Common.{◌≡◌, ◌≢◌, ◌⊎◌, inl, inr, ℕ, suc, ◌+◌, ◌*◌, ◌<◌, ◌≤◌, ℤ, pos, negsuc, Bool, true, false, true≢false, List, [], ◌∷◌, ◌++◌, length, take, drop, get_or, refl, sym, ◌∙◌, ap, subst, arith, set, zero, replicate, get_or-set_same, get_or-set_other}
use Rattle.std.proofs.Math.Seq.{drop-cons, take-append_seam}
use Rattle.std.proofs.lemmas.List.{append_assoc, append-nil, drop_all, take_more}
use Rattle.std.proofs.lemmas.List.Elements.{Contains-append_left, Contains-push, Contains-push_cases}
use Rattle.cps_literal.specs.declared.atom.Atom.{Atom}
use Rattle.cps_literal.specs.declared.atom.Op.TheVariants.{Le, Ge}
use Rattle.cps_instance.specs.Posting.{atom_of}
use Rattle.cps_search.specs.Assumptions.{AreOnceInOrder, IsInCore, is_marked, mark_of}
use Rattle.cps_search.proofs.Cores.{once-same, same_or_not}

abbrev pub no_atom : Atom
no_atom = record { subject = 0; op = Le; value = pos 0 }

-- marks and atoms tell literals apart
pub mark_apart : (r q : ℤ) → mark_of r ≡ mark_of q → r ≡ q
mark_apart (pos i) (pos j) e = let same : i ≡ j = omega (arith, e) in ap (λ (n : ℕ). pos n) same
mark_apart (pos i) (negsuc j) e = absurd (omega (arith, e))
mark_apart (negsuc i) (pos j) e = absurd (omega (arith, e))
mark_apart (negsuc i) (negsuc j) e = let same : i ≡ j = omega (arith, e) in ap (λ (n : ℕ). negsuc n) same

pub atom_apart : (r q : ℤ) → atom_of r ≡ atom_of q → r ≡ q
atom_apart (pos i) (pos j) e = ap (λ (t : Atom). pos t.subject) e
atom_apart (pos i) (negsuc j) e = absurd (let bad : Ge ≡ Le = ap (λ (t : Atom). t.op) e in cc)
atom_apart (negsuc i) (pos j) e = absurd (let bad : Le ≡ Ge = ap (λ (t : Atom). t.op) e in cc)
atom_apart (negsuc i) (negsuc j) e = ap (λ (t : Atom). negsuc t.subject) e

-- one more atom was marked
pub marked_more : (old now new : List Bool) (ds : List Atom) (i : ℕ) (d : Atom) (q : ℤ) → i < length ds → get_or ds i d ≡ atom_of q → ((r : ℤ) → get_or ds i d ≡ atom_of r → is_marked new r ≡ true)
    → ((r : ℤ) → get_or ds i d ≢ atom_of r → is_marked new r ≡ is_marked now r) → ((r : ℤ) → is_marked now r ≡ true ↔ ((is_marked old r ≡ true) ⊎ Contains (take i ds) (atom_of r)))
    → (r : ℤ) → is_marked new r ≡ true ↔ ((is_marked old r ≡ true) ⊎ Contains (take (i + 1) ds) (atom_of r))
marked_more old now new ds i d q l is here others before r =
    let more = take_more ds i d l in
    elim (same_or_not r q) as (λ _. is_marked new r ≡ true ↔ ((is_marked old r ≡ true) ⊎ Contains (take (i + 1) ds) (atom_of r))) [
      | inl same ↦
          let this : get_or ds i d ≡ atom_of r = is ∙ ap atom_of (sym same) in (
            λ _. inr (subst (λ (xs : List Atom). Contains xs (atom_of r)) (sym more) (subst (λ (x : Atom). Contains (take i ds ++ get_or ds i d ∷ []) x) this (Contains-push (take i ds) (get_or ds i d)))),
            λ _. here r this,
          )
      | inr other ↦
          let apart : get_or ds i d ≢ atom_of r = λ e. other (atom_apart r q (sym e ∙ is)) in
          let same = others r apart in (
            λ on. elim ((before r).0 (sym same ∙ on)) [
              | inl was ↦ inl was
              | inr has ↦ inr (subst (λ (xs : List Atom). Contains xs (atom_of r)) (sym more) (Contains-append_left (take i ds) (get_or ds i d ∷ []) (atom_of r) has))
            ],
            λ one. same ∙ (before r).1 (elim one [
              | inl was ↦ inl was
              | inr has ↦ elim (Contains-push_cases (take i ds) (get_or ds i d) (atom_of r) (subst (λ (xs : List Atom). Contains xs (atom_of r)) more has)) [ inl old_one ↦ inr old_one | inr last ↦ absurd (apart last) ]
            ]),
          )
    ]

-- the mark of a literal of the first n variables is among 2 n marks
pub mark_within : (r : ℤ) (n : ℕ) → (atom_of r).subject < n → mark_of r < 2 * n
mark_within (pos i) n h = omega (arith, h)
mark_within (negsuc i) n h = omega (arith, h)

one_more : (i : ℕ) → i + 1 ≡ suc i
one_more i = omega arith

-- how far the picking has come, where what is left is picked by the marks that are left
abbrev pub PicksFrom : List Bool → List Bool → List ℤ → ℕ → List ℤ → Type 0
PicksFrom old now rs i core = (rest : List ℤ) → AreOnceInOrder (λ r. is_marked now r ≡ true) (drop i rs) rest → AreOnceInOrder (λ r. is_marked old r ≡ true) rs (core ++ rest)

module _ (old now : List Bool) (rs : List ℤ) (i : ℕ) (d : ℤ) (core : List ℤ) (l : i < length rs) (h : PicksFrom old now rs i core) where
  -- one that is not marked is passed over
  pub picks_past : is_marked now (get_or rs i d) ≡ false → PicksFrom old now rs (i + 1) core
  picks_past off rest picked =
      h rest (subst (λ (xs : List ℤ). AreOnceInOrder (λ r. is_marked now r ≡ true) xs rest) (sym (drop-cons rs i d l)) (inr (λ on. true≢false (sym on ∙ off), subst (λ (n : ℕ). AreOnceInOrder (λ r. is_marked now r ≡ true) (drop n rs) rest) (one_more i) picked)))

  -- one that is marked is picked, and its mark goes
  pub picks_one : (new : List Bool) → is_marked now (get_or rs i d) ≡ true → is_marked new (get_or rs i d) ≡ false → ((r : ℤ) → r ≢ get_or rs i d → is_marked new r ≡ is_marked now r) → PicksFrom old new rs (i + 1) (core ++ get_or rs i d ∷ [])
  picks_one new on gone others rest picked =
      let r = get_or rs i d in
      let left : AreOnceInOrder (λ x. (is_marked now x ≡ true) × (x ≢ r)) (drop (i + 1) rs) rest =
      once-same (λ x. is_marked new x ≡ true) (λ x. (is_marked now x ≡ true) × (x ≢ r)) (drop (i + 1) rs) rest
      (λ x _ m. elim (same_or_not x r) as (λ _. (is_marked now x ≡ true) × (x ≢ r)) [
        | inl same ↦ absurd (true≢false (sym m ∙ ap (λ (y : ℤ). is_marked new y) same ∙ gone))
        | inr other ↦ (sym (others x other) ∙ m, other)
      ])
      (λ x _ m. others x m.1 ∙ m.0) picked in
      subst (λ (xs : List ℤ). AreOnceInOrder (λ x. is_marked old x ≡ true) rs xs) (sym (append_assoc core (r ∷ []) rest))
      (h (r ∷ rest) (subst (λ (xs : List ℤ). AreOnceInOrder (λ x. is_marked now x ≡ true) xs (r ∷ rest)) (sym (drop-cons rs i d l)) (inl (on, (rest, refl, subst (λ (n : ℕ). AreOnceInOrder (λ x. (is_marked now x ≡ true) × (x ≢ r)) (drop n rs) rest) (one_more i) left)))))

  -- so it comes one further where a mark is set and goes
  pub picks_marked : (new : List Bool) (place : ℕ) (picked : List ℤ) → place ≡ mark_of (get_or rs i d) → place < length now → get_or now place false ≡ true → new ≡ set now place false → picked ≡ core ++ get_or rs i d ∷ [] → PicksFrom old new rs (i + 1) picked
  picks_marked new place picked is inside on gone more =
      let r = get_or rs i d in
      subst (λ (xs : List ℤ). PicksFrom old new rs (i + 1) xs) (sym more)
      (picks_one new (ap (λ (n : ℕ). get_or now n false) (sym is) ∙ on)
      (ap (λ (n : ℕ). get_or new n false) (sym is) ∙ ap (λ (ms : List Bool). get_or ms place false) gone ∙ get_or-set_same now place false false inside)
      (λ q other. ap (λ (ms : List Bool). is_marked ms q) gone ∙ get_or-set_other now place (mark_of q) false false (λ e. other (mark_apart q r (e ∙ is)))))

  -- and where it is not set
  pub picks_unmarked : (new : List Bool) (place : ℕ) (picked : List ℤ) → place ≡ mark_of (get_or rs i d) → get_or now place false ≡ false → new ≡ now → picked ≡ core → PicksFrom old new rs (i + 1) picked
  picks_unmarked new place picked is off same none =
      subst (λ (ms : List Bool). PicksFrom old ms rs (i + 1) picked) (sym same)
      (subst (λ (xs : List ℤ). PicksFrom old now rs (i + 1) xs) (sym none) (picks_past (ap (λ (n : ℕ). get_or now n false) (sym is) ∙ off)))

-- the picking at its end
pub picked_all : (old now : List Bool) (rs : List ℤ) (i : ℕ) (core : List ℤ) → length rs ≤ i → PicksFrom old now rs i core → AreOnceInOrder (λ r. is_marked old r ≡ true) rs core
picked_all old now rs i core past h =
    subst (λ (xs : List ℤ). AreOnceInOrder (λ r. is_marked old r ≡ true) rs xs) (append-nil core)
    (h [] (subst (λ (xs : List ℤ). AreOnceInOrder (λ r. is_marked now r ≡ true) xs []) (sym (drop_all i rs past)) refl))

-- marks that are written back whole
pub marks_written : (old new : List Bool) (n : ℕ) → length new ≡ n → take n (new ++ drop (length new) old) ≡ new
marks_written old new n size = subst (λ (k : ℕ). take k (new ++ drop (length new) old) ≡ new) size (take-append_seam new (drop (length new) old))

-- at first nothing is marked
pub none_marked : (n k : ℕ) → get_or (replicate n false) k false ≡ false
none_marked zero k = refl
none_marked (suc n) zero = refl
none_marked (suc n) (suc k) = none_marked n k

-- what is picked by the marks of the failed one and of the decisions is the core
pub core_picked : (rs : List ℤ) (failed : ℕ) (decisions : List Atom) (none one all : List Bool) (core : List ℤ) → ((r : ℤ) → is_marked none r ≡ false) → is_marked one (get_or rs failed (pos 0)) ≡ true
    → ((r : ℤ) → r ≢ get_or rs failed (pos 0) → is_marked one r ≡ is_marked none r) → ((r : ℤ) → is_marked all r ≡ true ↔ ((is_marked one r ≡ true) ⊎ Contains decisions (atom_of r)))
    → AreOnceInOrder (λ r. is_marked all r ≡ true) rs core → AreOnceInOrder (IsInCore rs failed decisions) rs core
core_picked rs failed decisions none one all core empty here others marks picked =
    once-same (λ r. is_marked all r ≡ true) (IsInCore rs failed decisions) rs core
    (λ r _ m. elim ((marks r).0 m) [
      | inl first ↦ elim (same_or_not r (get_or rs failed (pos 0))) [ inl same ↦ inl same | inr other ↦ absurd (true≢false (sym first ∙ others r other ∙ empty r)) ]
      | inr has ↦ inr has
    ])
    (λ r _ w. (marks r).1 (elim w [ inl same ↦ inl (ap (λ (x : ℤ). is_marked one x) same ∙ here) | inr has ↦ inr has ])) picked
