-- Rows of what bumping and setting aside come to, by what the calls promise. The values were worked out by hand: a
-- clause about the first of two variables brings its activity to 2 ^ 40, at which both are halved, and one about the
-- second then adds 1 to that alone; of three variables without an activity the first is fixed by one entry, and the
-- other two are not.
use Rattle.std.specs.Prelude.{if◌then◌else◌}
use Rattle.std.proofs.Common.{ℕ, zero, suc, ◌+◌, ◌-◌, ◌/◌, ◌^◌, ◌≤◌, ◌<◌, ◌≡◌, ◌⊎◌, inl, inr, Bool, true, false, List, [], ◌∷◌, length, take, get_or, map, pos, refl, sym, ap, subst, ◌∙◌, arith}
use Rattle.std.proofs.lemmas.List.{take_all}
use Rattle.cps_literal.specs.declared.atom.Atom.{Atom}
use Rattle.cps_literal.specs.declared.atom.Op.TheVariants.{Le}
use Rattle.cps_trail.specs.Trail.{Trail}
use Rattle.cps_branch.specs.declared.ranking.Aside.{Aside}
use Rattle.cps_branch.specs.declared.ranking.Ranking.{Ranking}
use Rattle.cps_branch.specs.Activities.{AreBumped, AreGained, ReachesLimit, gain}
use Rattle.cps_branch.specs.Fixed.{IsFixed}
use Rattle.cps_branch.specs.Tournament.{stands_at}
use Rattle.cps_branch.specs.SetAside.{AreAllFixed, IsRanking, IsTournament, LeadsInPlay, PutsBack, aside_at, aside_of, size_of}

two : (xs : List ℕ) (a b : ℕ) → length xs ≡ 2 → get_or xs 0 0 ≡ a → get_or xs 1 0 ≡ b → xs ≡ a ∷ b ∷ []
two [] a b count one other = absurd (omega arith)
two (x ∷ []) a b count one other = absurd (omega arith)
two (x ∷ y ∷ []) a b count one other = ap (λ (u : ℕ). u ∷ y ∷ []) one ∙ ap (λ (u : ℕ). a ∷ u ∷ []) other
two (x ∷ y ∷ z ∷ zs) a b count one other = absurd (omega arith)

-- a clause about one variable
abbrev about : ℕ → List Atom
about i = record { subject = i; op = Le; value = pos 0 } ∷ []

-- what the clause about the first brings them to
near_gained : (mid : List ℕ) → AreGained (about 0) ((2 ^ 40 - 1) ∷ 3 ∷ []) mid → mid ≡ 2 ^ 40 ∷ 3 ∷ []
near_gained mid h = two mid (2 ^ 40) 3 h.same_length (h.each 0 (omega arith)) (h.each 1 (omega arith))

far_gained : (mid : List ℕ) → AreGained (about 1) (2 ^ 39 ∷ 1 ∷ []) mid → mid ≡ 2 ^ 39 ∷ 2 ∷ []
far_gained mid h = two mid (2 ^ 39) 2 h.same_length (h.each 0 (omega arith)) (h.each 1 (omega arith))

halved_row : (new : List ℕ) → AreBumped (about 0) ((2 ^ 40 - 1) ∷ 3 ∷ []) new → new ≡ 2 ^ 39 ∷ 1 ∷ []
halved_row new h =
    let mid = near_gained h.gained h.gains in
    let reaches : ReachesLimit h.gained = (0, omega (arith, ap (λ (xs : List ℕ). length xs) mid), omega (arith, ap (λ (xs : List ℕ). get_or xs 0 0) mid)) in
    h.halved reaches ∙ ap (λ (xs : List ℕ). map (λ (a : ℕ). a / 2) xs) mid

kept_row : (new : List ℕ) → AreBumped (about 1) (2 ^ 39 ∷ 1 ∷ []) new → new ≡ 2 ^ 39 ∷ 2 ∷ []
kept_row new h =
    let mid = far_gained h.gained h.gains in
    h.kept (λ r. none mid r) ∙ mid
  where
    below : (i : ℕ) → get_or (2 ^ 39 ∷ 2 ∷ []) i 0 < 2 ^ 40
    below zero = omega arith
    below (suc zero) = omega arith
    below (suc (suc i)) = omega arith

    none : h.gained ≡ 2 ^ 39 ∷ 2 ∷ [] → ReachesLimit h.gained → ⊥
    none mid r = omega (arith, r.2, below r.0, ap (λ (xs : List ℕ). get_or xs r.0 0) mid)

-- whether they were halved
halved_answer : (new : List ℕ) (answer : Bool) → AreBumped (about 0) ((2 ^ 40 - 1) ∷ 3 ∷ []) new → (answer ≡ false → AreGained (about 0) ((2 ^ 40 - 1) ∷ 3 ∷ []) new) → answer ≡ true
halved_answer new true h gained = refl
halved_answer new false h gained = absurd (omega (arith, ap (λ (xs : List ℕ). get_or xs 0 0) (sym (near_gained new (gained refl)) ∙ halved_row new h)))

kept_answer : (new : List ℕ) (answer : Bool) → AreBumped (about 1) (2 ^ 39 ∷ 1 ∷ []) new → (answer ≡ true → AreGained (about 1) (2 ^ 39 ∷ 1 ∷ []) new → ⊥) → answer ≡ false
kept_answer new true h halved = absurd (halved refl (record {
  same_length = ap (λ (xs : List ℕ). length xs) (kept_row new h);
  each = λ i l. ap (λ (xs : List ℕ). get_or xs i 0) (kept_row new h) ∙ gains i l;
}))
  where
    gains : (i : ℕ) → i < 2 → get_or (2 ^ 39 ∷ 2 ∷ []) i 0 ≡ get_or (2 ^ 39 ∷ 1 ∷ []) i 0 + gain (about 1) i
    gains zero l = refl
    gains (suc zero) l = refl
    gains (suc (suc i)) l = absurd (omega arith)
kept_answer new false h halved = refl

bool_cases : (b : Bool) → (b ≡ true) ⊎ (b ≡ false)
bool_cases true = inl refl
bool_cases false = inr refl

abbrev fails : Bool → ℕ
fails b = if b then 0 else 1

-- the first variable, which was fixed after one entry
abbrev one_aside : List Aside
one_aside = record { variable = 0; after = 1 } ∷ []

-- it alone is set aside when the second is chosen
first_row : (r : Ranking) (s : Trail) → IsRanking r → size_of r ≡ 3 → LeadsInPlay 3 r.nodes.items 1 → ((i : ℕ) → i < 3 → (stands_at r.nodes.items (3 + i)).activity ≡ 0) → AreAllFixed s (aside_of r) → (IsFixed s 2 → ⊥) → length (aside_of r) ≡ 1
first_row r s h size leads idle fixed open_now = omega (arith, some, most)
  where
    at_three : IsTournament 3 r.nodes.items (aside_of r)
    at_three = subst (λ (n : ℕ). IsTournament n r.nodes.items (aside_of r)) size h.tournament

    is_out : (stands_at r.nodes.items 3).in_play ≡ false
    is_out = elim (bool_cases (stands_at r.nodes.items 3).in_play) [
      | inl on ↦ absurd (omega (arith, (leads.ahead 0 (omega arith)).first on (idle 0 (omega arith) ∙ sym (idle 1 (omega arith))), at_three.variables 0 (omega arith), at_three.variables 1 (omega arith)))
      | inr off ↦ off
    ]

    last_plays : (stands_at r.nodes.items 5).in_play ≡ true
    last_plays = elim (bool_cases (stands_at r.nodes.items 5).in_play) [
      | inl on ↦ on
      | inr off ↦ let at = at_three.out 2 (omega arith) off in absurd (open_now (subst (λ (i : ℕ). IsFixed s i) at.2 (fixed at.0 at.1)))
    ]

    some : 0 < length (aside_of r)
    some = let at = at_three.out 0 (omega arith) is_out in omega (arith, at.1)

    most : length (aside_of r) ≤ 1
    most = omega (arith, at_three.room, ap fails is_out, ap fails leads.plays, ap fails last_plays)

-- where one entry is kept it stays
stays_row : (new : List Aside) → PutsBack 1 one_aside new → ((p : ℕ) → length new ≤ p → p < 1 → 0 < 1 → 1 < (aside_at one_aside p).after) → new ≡ one_aside
stays_row new h only = elim (one_or_none (length new)) [
  | inl none ↦ absurd (omega (arith, only 0 (omega (arith, none)) (omega arith) (omega arith)))
  | inr some ↦ h.front ∙ whole (length new) some
]
  where
    one_or_none : (n : ℕ) → (n ≤ 0) ⊎ (1 ≤ n)
    one_or_none n = grind arith

    whole : (n : ℕ) → 1 ≤ n → take n one_aside ≡ one_aside
    whole n l = take_all n one_aside l

-- and where none is kept it comes back
back_row : (new : List Aside) → PutsBack 0 one_aside new → length new ≡ 0
back_row new h = elim (one_or_none (length new)) [
  | inl none ↦ omega (arith, none)
  | inr some ↦ absurd (omega (arith, h.some_kept some))
]
  where
    one_or_none : (n : ℕ) → (n ≤ 0) ⊎ (0 < n)
    one_or_none n = grind arith
