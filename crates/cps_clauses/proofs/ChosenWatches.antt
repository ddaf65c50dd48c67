-- The two atoms of a clause that became false last are watched: what was guarded stays so, and where the clause was quiet it is guarded.
use Rattle.std.proofs.Common.{Result, Ok, Err, IfOk, Bool, true, false, set, ℕ, ◌≤◌, ◌<◌, ◌≡◌, ◌≢◌, List, length, take, get_or, refl, sym, ◌∙◌, ap, subst, inl, inr, ◌⊎◌, arith}
use Rattle.std.proofs.lemmas.List.{take_all}
use Rattle.cps_literal.specs.declared.atom.Atom.{Atom}
use Rattle.cps_trail.specs.Trail.{Entry, Trail, IsFalseAfter}
use Rattle.cps_trail.proofs.Times.{IsFalseAfter-take, IsFalseAfter-all}
use Rattle.cps_clauses.specs.declared.watch.Watch.{Watch}
use Rattle.cps_clauses.specs.declared.falls.LastTwo.{LastTwo}
use Rattle.cps_clauses.specs.Quiet.{AreFalseBut, IsQuietAfter}
use Rattle.cps_clauses.specs.Falls.{IsFall, AreLastTwo}
use Rattle.cps_clauses.specs.Watches.{no_atom, clause_of, watch_of, IsWatched, IsClauseTrue, IsGone, IsGuarded, IsWatchPair}
use Rattle.cps_clauses.specs.Looks.{IsWatchChosen, IsRewatched, IsLooked, IsLookedQuiet, IsLastSettled, IsShortSettled}
use Rattle.cps_clauses.proofs.QuietClauses.{last_true}
use Rattle.cps_clauses.proofs.Guards.{beside}
use Rattle.cps_clauses.proofs.Lists.{watch_set_same, watch_set_other}

below_or : (m n : ℕ) → (m < n) ⊎ (n ≤ m)
below_or m n = grind arith

-- an atom is false after m entries only where it fell by then
fallen_by : (s : Trail) (t : Atom) (n m : ℕ) → IsFall s t n → IsFalseAfter s.first (take m s.entries) t → (n ≤ m) × (n ≤ length s.entries)
fallen_by s t n m h f =
    let whole : IsFalseAfter s.first (take (length s.entries) s.entries) t = subst (λ (es : List Entry). IsFalseAfter s.first es t) (sym (take_all (length s.entries) s.entries (omega arith))) (IsFalseAfter-all s.first s.entries m t f) in (
      elim (below_or m n) [ inl before ↦ absurd (h.not_before m before f) | inr after ↦ after ],
      elim (below_or (length s.entries) n) [ inl before ↦ absurd (h.not_before (length s.entries) before whole) | inr after ↦ after ],
    )

-- where the last but one is false the others but the last are
others_gone : (s : Trail) (c : List Atom) (two : LastTwo) (m : ℕ) → AreLastTwo s c (length c) two → two.other_fell ≤ m → two.other_fell ≤ length s.entries → AreFalseBut s.first (take m s.entries) c two.place
others_gone s c two m h l within j d b ne = IsFalseAfter-take s.first s.entries two.other_fell m (get_or c j d) l (h.others within j d b ne)

chosen_gone : (s : Trail) (c : List Atom) (two : LastTwo) (m : ℕ) → 2 ≤ length c → AreLastTwo s c (length c) two → (p : ℕ) → (p ≡ two.place) ⊎ (p ≡ two.other) → IsGone s.first (take m s.entries) c p → AreFalseBut s.first (take m s.entries) c two.place
chosen_gone s c two m long h p (inl e) gone =
    let at = fallen_by s (get_or c two.place no_atom) two.fell m (h.last no_atom) (subst (λ (q : ℕ). IsFalseAfter s.first (take m s.entries) (get_or c q no_atom)) e (gone no_atom (omega (arith, e, h.within)))) in
    others_gone s c two m h (omega (arith, at.0, h.ordered)) (omega (arith, at.1, h.ordered))
chosen_gone s c two m long h p (inr e) gone =
    let at = fallen_by s (get_or c two.other no_atom) two.other_fell m (h.second no_atom long) (subst (λ (q : ℕ). IsFalseAfter s.first (take m s.entries) (get_or c q no_atom)) e (gone no_atom (omega (arith, e, h.beside long)))) in
    others_gone s c two m h at.0 at.1

pub chosen_last_two : (s : Trail) (c : List Atom) (two : LastTwo) (old new : Watch) → 2 ≤ length c → AreLastTwo s c (length c) two → IsWatchPair (length c) old → new.one ≡ two.place → new.other ≡ two.other → IsWatchChosen s c old new
chosen_last_two s c two old new long h pair one other = record {
  guarded = λ m guarded. record {
    each = λ p watched. record {
      holds = λ gone.
          let others = chosen_gone s c two m long h p (renamed p watched) gone in
          elim (renamed p watched) [
            | inl e ↦
                let q = beside old two.place pair.apart in
                (guarded.each q.0 q.1).holds (λ d b. others q.0 d b q.2)
            | inr e ↦
                let q = beside old two.place pair.apart in
                (guarded.each q.0 q.1).holds (λ d b. others q.0 d b q.2)
          ];
    };
  };
  quiet = λ m quiet. record {
    each = λ p watched. record {
      holds = λ gone.
          let others = chosen_gone s c two m long h p (renamed p watched) gone in
          record { place = two.place; within = h.within; holds = λ d. last_true s.first (take m s.entries) c quiet two.place d h.within others };
    };
  };
}
  where
    renamed : (p : ℕ) → IsWatched new p → (p ≡ two.place) ⊎ (p ≡ two.other)
    renamed p (inl e) = inl (e ∙ one)
    renamed p (inr e) = inr (e ∙ other)

-- a clause of fewer than two atoms keeps its watch
pub chosen_short : (s : Trail) (c : List Atom) (w new : Watch) → length c < 2 → new ≡ w → IsWatchChosen s c w new
chosen_short s c w new short e = record {
  guarded = λ m guarded. subst (IsGuarded s.first (take m s.entries) c) (sym e) guarded;
  quiet = λ m quiet. record { each = λ p watched. record { holds = λ gone. short_true m quiet } };
}
  where
    only : (j : ℕ) → j < length c → j ≢ 0 → ⊥
    only j b ne = omega (arith, b, ne, short)

    short_true : (m : ℕ) → IsQuietAfter s.first (take m s.entries) c → IsClauseTrue s.first (take m s.entries) c
    short_true m quiet = elim (below_or 0 (length c)) [
      | inl some ↦ record { place = 0; within = some; holds = λ d. last_true s.first (take m s.entries) c quiet 0 d some (λ j e b ne. absurd (only j b ne)) }
      | inr none ↦ absurd (quiet.not_false (λ j d b. absurd (omega (arith, b, none))))
    ]

-- two atoms that are not false guard their clause
pub guarded_open : (s : Trail) (c : List Atom) (two : LastTwo) (new : Watch) → 2 ≤ length c → AreLastTwo s c (length c) two → length s.entries < two.other_fell → new.one ≡ two.place → new.other ≡ two.other → IsGuarded s.first s.entries c new
guarded_open s c two new long h later one other = record {
  each = λ p watched. record {
    holds = λ gone. absurd (elim watched [
      | inl e ↦
          let at = fallen_by s (get_or c two.place no_atom) two.fell (length s.entries) (h.last no_atom) (whole two.place (subst (λ (q : ℕ). IsFalseAfter s.first s.entries (get_or c q no_atom)) (e ∙ one) (gone no_atom (omega (arith, e, one, h.within))))) in
          (let bad : ⊥ = omega (arith, at.1, h.ordered, later) in bad)
      | inr e ↦
          let at = fallen_by s (get_or c two.other no_atom) two.other_fell (length s.entries) (h.second no_atom long) (whole two.other (subst (λ (q : ℕ). IsFalseAfter s.first s.entries (get_or c q no_atom)) (e ∙ other) (gone no_atom (omega (arith, e, other, h.beside long))))) in
          (let bad : ⊥ = omega (arith, at.1, later) in bad)
    ]);
  };
}
  where
    whole : (q : ℕ) → IsFalseAfter s.first s.entries (get_or c q no_atom) → IsFalseAfter s.first (take (length s.entries) s.entries) (get_or c q no_atom)
    whole q f = subst (λ (es : List Entry). IsFalseAfter s.first es (get_or c q no_atom)) (sym (take_all (length s.entries) s.entries (omega arith))) f

pub guarded_satisfied : (s : Trail) (c : List Atom) (w : Watch) → IsClauseTrue s.first s.entries c → IsGuarded s.first s.entries c w
guarded_satisfied s c w h = record { each = λ p watched. record { holds = λ gone. h } }

-- the others are false now where the last but one is
pub others_false : (s : Trail) (c : List Atom) (two : LastTwo) → AreLastTwo s c (length c) two → two.other_fell ≤ length s.entries → AreFalseBut s.first s.entries c two.place
others_false s c two h within j d b ne = IsFalseAfter-all s.first s.entries two.other_fell (get_or c j d) (h.others within j d b ne)

-- one clause of several is looked at
pub rewatched_two : (clauses : List (List Atom)) (ws ws' : List Watch) (i : ℕ) (s : Trail) (two : LastTwo) → i < length ws → ws' ≡ set ws i (record { one = two.place; other = two.other }) → 2 ≤ length (clause_of clauses i) → AreLastTwo s (clause_of clauses i) (length (clause_of clauses i)) two
    → IsWatchPair (length (clause_of clauses i)) (watch_of ws i) → IsRewatched s ws ws' clauses i
rewatched_two clauses ws ws' i s two l is long h pair =
    let here : watch_of ws' i ≡ record { one = two.place; other = two.other } = ap (λ (vs : List Watch). watch_of vs i) is ∙ watch_set_same ws i (record { one = two.place; other = two.other }) l in
    record {
      chosen = chosen_last_two s (clause_of clauses i) two (watch_of ws i) (watch_of ws' i) long h pair (ap (λ (w : Watch). w.one) here) (ap (λ (w : Watch). w.other) here);
      others = λ j ne. ap (λ (vs : List Watch). watch_of vs j) is ∙ watch_set_other ws i j (record { one = two.place; other = two.other }) ne;
    }

pub rewatched_short : (clauses : List (List Atom)) (ws : List Watch) (i : ℕ) (s : Trail) → length (clause_of clauses i) < 2 → IsRewatched s ws ws clauses i
rewatched_short clauses ws i s short = record { chosen = chosen_short s (clause_of clauses i) (watch_of ws i) (watch_of ws i) short refl; others = λ j ne. refl }

pub looked_open : (clauses : List (List Atom)) (ws ws' : List Watch) (i : ℕ) (s : Trail) (two : LastTwo) → i < length ws → ws' ≡ set ws i (record { one = two.place; other = two.other }) → 2 ≤ length (clause_of clauses i) → AreLastTwo s (clause_of clauses i) (length (clause_of clauses i)) two
    → length s.entries < two.other_fell → IsRewatched s ws ws' clauses i → IsLookedQuiet s ws s ws' clauses i
looked_open clauses ws ws' i s two l is long h later rewatched =
    let here : watch_of ws' i ≡ record { one = two.place; other = two.other } = ap (λ (vs : List Watch). watch_of vs i) is ∙ watch_set_same ws i (record { one = two.place; other = two.other }) l in
    record { rewatched = rewatched; guarded = λ _. guarded_open s (clause_of clauses i) two (watch_of ws' i) long h later (ap (λ (w : Watch). w.one) here) (ap (λ (w : Watch). w.other) here) }

pub looked_settled : {E : Type 0} (r : Result Bool E) (clauses : List (List Atom)) (ws ws' : List Watch) (i : ℕ) (s t : Trail) → 1 ≤ length (clause_of clauses i) → IsRewatched s ws ws' clauses i → IfOk r (IsLastSettled s t (clause_of clauses i)) → IfOk r (IsLooked s ws t ws' clauses i)
looked_settled (Ok true) clauses ws ws' i s t some rewatched h = record { rewatched = rewatched; same = h.0; some_atom = some; all_false = h.1 }
looked_settled (Ok false) clauses ws ws' i s t some rewatched h = record { rewatched = rewatched; guarded = λ _. guarded_satisfied t (clause_of clauses i) (watch_of ws' i) h }
looked_settled (Err e) clauses ws ws' i s t some rewatched h = tt

-- a clause of at most one atom
some_or_none : (n : ℕ) → (1 ≤ n) ⊎ (n ≡ 0)
some_or_none n = grind arith

true_is_not : true ≡ false → ⊥
true_is_not e = cc e

pub looked_short : {E : Type 0} (r : Result Bool E) (clauses : List (List Atom)) (ws ws' : List Watch) (i : ℕ) (s t : Trail) → IsRewatched s ws ws' clauses i → IfOk r (IsShortSettled s t (clause_of clauses i)) → IfOk r (IsLooked s ws t ws' clauses i)
looked_short (Ok true) clauses ws ws' i s t rewatched h = elim (some_or_none (length (clause_of clauses i))) [
  | inl some ↦ (let all = h.some_atom some in record { rewatched = rewatched; same = all.0; some_atom = some; all_false = all.1 })
  | inr none ↦ absurd (true_is_not (h.no_atom none))
]
looked_short (Ok false) clauses ws ws' i s t rewatched h = record { rewatched = rewatched; guarded = λ some. guarded_satisfied t (clause_of clauses i) (watch_of ws' i) (h.some_atom some) }
looked_short (Err e) clauses ws ws' i s t rewatched h = tt

pub short_settled : {E : Type 0} (r : Result Bool E) (s t : Trail) (clause : List Atom) → 1 ≤ length clause → IfOk r (IsLastSettled s t clause) → IfOk r (IsShortSettled s t clause)
short_settled (Ok failed) s t clause some h = record { some_atom = λ _. h; no_atom = λ none. absurd (omega (arith, some, none)) }
short_settled (Err e) s t clause some h = tt
