-- Positions whose values facts hold in an interval, one after the other.
use Rattle.std.specs.Prelude.{Option}
use Rattle.std.proofs.Common.{ℕ, ◌+◌, ◌<◌, ◌≤◌, ℤ, ◌≡◌, inl, inr, Bool, true, cond, List, [], ◌∷◌, ◌++◌, length, get_or, take, sym, subst, arith}
use Rattle.std.specs.List.{Contains, count_by}
use Rattle.std.proofs.lemmas.Int.{ints}
use Rattle.std.proofs.lemmas.List.Elements.{All-nil, All-push, All-head, Contains-get_or}
use Rattle.std.proofs.lemmas.List.Sums.{sum_by-take-drop, count_by_more_yes, count_by_more_no}
use Rattle.cps_domain.proofs.Tests.{true_le, le_true, both}
use Rattle.cps_literal.specs.declared.atom.Atom.{Atom}
use Rattle.cps_literal.specs.declared.atom.Op.TheVariants.{Le, Ge}
use Rattle.cps_literal.specs.Truth.{value_at, atom_holds}
use Rattle.cps_instance.proofs.Agreeing.{All-append_left, All-append_right}
use Rattle.cps_trail.specs.Trail.{Trail, IsInside}
use Rattle.cps_propagate.specs.Strength.{IsHeld}
use Rattle.cps_propagate.specs.Reasons.{SpeaksOf}
use Rattle.cps_propagate.proofs.Speaking.{speaks_none, speaks_push}
use Rattle.cps_rule.specs.Rules.{IsFact, AreFacts, AllTrueAt}
use Rattle.cps_p_alldiff.specs.declared.interval.Interval.{Interval}
use Rattle.cps_p_alldiff.specs.Intervals.{lies_in, IsInRange}
use Rattle.cps_p_alldiff.specs.Facts.{is_other, is_held, AreHolding}
use Rattle.cps_p_alldiff.proofs.IntervalCounts.{bool_cases, lies}

abbrev pub at_least : ℕ → ℤ → Atom
at_least i v = record { subject = i; op = Ge; value = v }

abbrev pub at_most : ℕ → ℤ → Atom
at_most i v = record { subject = i; op = Le; value = v }

-- with the facts, all but `left` of the positions that are needed are among the first n
pub record HoldsSoFar (s : Trail) (is : List ℕ) (apart : Option ℕ) (h : Interval) (needed left n : ℕ) (us : List Atom) : Type 0 where
  pub facts : AreFacts s us
  pub speaks : SpeaksOf is us
  pub held : (xs : List ℤ) → AllTrueAt xs us → needed ≤ left + count_by (is_held xs apart h) (take n is)

-- facts and one more
pub facts_push : (s : Trail) (us : List Atom) (u : Atom) → AreFacts s us → IsFact s u → AreFacts s (us ++ u ∷ [])
facts_push s us u f g = All-push (IsFact s) us u f g

pub all_before : (xs : List ℤ) (us : List Atom) (u : Atom) → AllTrueAt xs (us ++ u ∷ []) → AllTrueAt xs us
all_before xs us u all = All-append_left (λ v. atom_holds xs v ≡ true) us (u ∷ []) all

pub last_true : (xs : List ℤ) (us : List Atom) (u : Atom) → AllTrueAt xs (us ++ u ∷ []) → atom_holds xs u ≡ true
last_true xs us u all = All-head (λ v. atom_holds xs v ≡ true) u [] (All-append_right (λ v. atom_holds xs v ≡ true) us (u ∷ []) all)

fewer_taken : (p : ℕ → Bool) (is : List ℕ) (n : ℕ) → count_by p (take n is) ≤ count_by p is
fewer_taken p is n = let e = sum_by-take-drop (λ i. cond (p i) 1 0) is n in omega arith

grows : (p : ℕ → Bool) (is : List ℕ) (n : ℕ) → n < length is → count_by p (take n is) ≤ count_by p (take (n + 1) is)
grows p is n l = elim (bool_cases (p (get_or is n 0))) [
  | inl yes' ↦ let e = count_by_more_yes p is n 0 l yes' in omega arith
  | inr no' ↦ let e = count_by_more_no p is n 0 l no' in omega arith
]

module _ (s : Trail) (is : List ℕ) (apart : Option ℕ) (h : Interval) (needed left n : ℕ) (facts : List Atom) where
  pub holds_skip : n < length is → HoldsSoFar s is apart h needed left n facts → HoldsSoFar s is apart h needed left (n + 1) facts
  holds_skip l p = record {
    facts = p.facts;
    speaks = p.speaks;
    held = λ xs all. let a = p.held xs all in let b = grows (is_held xs apart h) is n l in omega arith;
  }

  pub holds_more : (left' i : ℕ) (a b : ℤ) (facts' : List Atom) → n < length is → left ≡ left' + 1 → i ≡ get_or is n 0 → a ≡ h.low → b ≡ h.high → facts' ≡ (facts ++ at_least i a ∷ []) ++ at_most i b ∷ []
      → i < length s.first → IsInRange h → is_other apart i ≡ true → IsHeld s h.low h.high i → HoldsSoFar s is apart h needed left n facts → HoldsSoFar s is apart h needed left' (n + 1) facts'
  holds_more left' i a b facts' l less is-i is-a is-b pushed inside range other within p = subst (λ (us : List Atom). HoldsSoFar s is apart h needed left' (n + 1) us) (sym pushed) (record {
    facts = facts_push s (facts ++ at_least i a ∷ []) (at_most i b) (facts_push s facts (at_least i a) p.facts low) high;
    speaks = speaks_push is (facts ++ at_least i a ∷ []) (at_most i b) (speaks_push is facts (at_least i a) p.speaks mine) mine;
    held = λ xs all.
        let first = all_before xs (facts ++ at_least i a ∷ []) (at_most i b) all in
        let v = value_at xs i in
        let x = true_le a v (last_true xs facts (at_least i a) first) in
        let y = true_le v b (last_true xs (facts ++ at_least i a ∷ []) (at_most i b) all) in
        let here : is_held xs apart h i ≡ true = both (is_other apart i) (lies_in h v) other (lies h v (omega (arith, ints)) (omega (arith, ints))) in
        let one = count_by_more_yes (is_held xs apart h) is n 0 l (subst (λ (j : ℕ). is_held xs apart h j ≡ true) is-i here) in
        let rest = p.held xs (all_before xs facts (at_least i a) first) in
        omega arith;
  })
    where
      mine : Contains is i
      mine = subst (λ (j : ℕ). Contains is j) (sym is-i) (Contains-get_or is n 0 l)

      low : IsFact s (at_least i a)
      low = record { subject = inside; inside = subst (λ (z : ℤ). IsInside z) (sym is-a) range.low; true_now = λ x o. (let m = (within x o).0 in le_true a x (omega (arith, ints))) }

      high : IsFact s (at_most i b)
      high = record { subject = inside; inside = subst (λ (z : ℤ). IsInside z) (sym is-b) range.high; true_now = λ x o. (let m = (within x o).1 in le_true x b (omega (arith, ints))) }

  pub holds_begun : facts ≡ [] → HoldsSoFar s is apart h needed needed n facts
  holds_begun none = record { facts = subst (λ (us : List Atom). AreFacts s us) (sym none) (All-nil (IsFact s)); speaks = subst (λ (us : List Atom). SpeaksOf is us) (sym none) (speaks_none is); held = λ xs all. omega arith }

  pub holds_all : left ≡ 0 → HoldsSoFar s is apart h needed left n facts → AreHolding s is apart h needed facts
  holds_all none p = record {
    facts = p.facts;
    speaks = p.speaks;
    held = λ xs all. let a = p.held xs all in let b = fewer_taken (is_held xs apart h) is n in omega arith;
  }
