-- The box of a clause is empty where an atom is true at all that the atoms before it leave.
use Rattle.std.specs.Prelude.{◌&&◌, ◌||◌, ◌==◌, not}
use Rattle.std.specs.List.{list_any}
use Rattle.std.proofs.Common.{◌≡◌, ℕ, ◌<◌, List, length, get_or, take, drop, Bool, true, false, ◌⊎◌, inl, inr, refl, sym, ◌∙◌, ap, arith, ℤ}
use Rattle.std.proofs.lemmas.Bool.Decides.{nat_tests}
use Rattle.std.proofs.lemmas.List.{take-append-drop}
use Rattle.std.proofs.lemmas.List.Folds.{list_any-append, list_any_at}
use Rattle.cps_literal.specs.declared.atom.Atom.{Atom}
use Rattle.cps_literal.specs.Truth.{meets}
use Rattle.cps_log.specs.Subjects.{IsClauseOver}
use Rattle.cps_unit.specs.Boxes.{Box, is_made_true, IsEmpty, IsTrueIn}

bool_cases : (b : Bool) → (b ≡ true) ⊎ (b ≡ false)
bool_cases true = inl refl
bool_cases false = inr refl

and_not_true : (a b : Bool) → b ≡ true → (a && not b) ≡ false
and_not_true true b e = rw e refl
and_not_true false b e = refl

-- an atom of the first ones makes a value true only if one of all does
front_silent : (p : Atom → Bool) (xs : List Atom) (i : ℕ) → list_any p xs ≡ false → list_any p (take i xs) ≡ false
front_silent p xs i e =
    elim (bool_cases (list_any p (take i xs))) [
      | inl some ↦ (
          let whole : list_any p xs ≡ (list_any p (take i xs) || list_any p (drop i xs)) = ap (λ (ys : List Atom). list_any p ys) (sym (take-append-drop i xs)) ∙ list_any-append p (take i xs) (drop i xs) in
          let so : list_any p xs ≡ true = whole ∙ rw some refl in
          absurd (cc))
      | inr none ↦ none
    ]

made_here : (t : Atom) (x : ℤ) → meets t.op t.value x ≡ true → ((t.subject == t.subject) && meets t.op t.value x) ≡ true
made_here t x h =
    let same : (t.subject == t.subject) ≡ true = grind (arith, nat_tests) in
    rw (same, h) refl

nothing_left : (before now : Box) (clause : List Atom) (i : ℕ) (d : Atom) (x : ℤ) → i < length clause → ((s : ℕ) (y : ℤ) → now s y ≡ (before s y && not (is_made_true (take i clause) s y))) → IsTrueIn now (get_or clause i d) → (before (get_or clause i d).subject x && not (is_made_true clause (get_or clause i d).subject x)) ≡ false
nothing_left before now clause i d x l kept h =
    let t : Atom = get_or clause i d in
    let p = λ (u : Atom). (u.subject == t.subject) && meets u.op u.value x in
    elim (bool_cases (is_made_true clause t.subject x)) [
      | inl made ↦ and_not_true (before t.subject x) (is_made_true clause t.subject x) made
      | inr silent ↦ elim (bool_cases (before t.subject x)) [
        | inl there ↦ (
            let front : is_made_true (take i clause) t.subject x ≡ false = front_silent p clause i silent in
            let left_now : now t.subject x ≡ true = kept t.subject x ∙ rw (there, front) refl in
            let made : is_made_true clause t.subject x ≡ true = list_any_at p clause i d l (made_here t x (h x left_now)) in
            absurd (cc))
        | inr gone ↦ rw gone refl
      ]
    ]

pub empty_box : (count : ℕ) (before now : Box) (clause : List Atom) (i : ℕ) (d : Atom) → i < length clause → IsClauseOver count clause → ((s : ℕ) (y : ℤ) → now s y ≡ (before s y && not (is_made_true (take i clause) s y))) → IsTrueIn now (get_or clause i d) → IsEmpty count (λ s x. before s x && not (is_made_true clause s x))
empty_box count before now clause i d l over kept h = record {
  subject = (get_or clause i d).subject;
  within = (let known = (over i d l).subject in omega arith);
  none = λ x. nothing_left before now clause i d x l kept h;
}
