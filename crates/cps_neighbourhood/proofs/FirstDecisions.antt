-- The first of a round's decisions that is open.
use Rattle.std.specs.Prelude.{◌↔◌, ◌≢◌}
use Rattle.std.proofs.Common.{◌≡◌, ◌∙◌, ◌⊎◌, inl, inr, ℕ, ◌+◌, ◌<◌, ◌≤◌, List, length, get_or, ap, sym, subst, arith}
use Rattle.std.proofs.lemmas.List.{get_or_default}
use Rattle.cps_literal.specs.declared.atom.Atom.{Atom}
use Rattle.cps_literal.specs.declared.atom.Truth.{Truth}
use Rattle.cps_literal.specs.declared.atom.Truth.TheVariants.{Yes, No}
use Rattle.cps_trail.specs.Trail.{Trail, IsTrueNow, IsFalseNow}
use Rattle.cps_branch.specs.Choice.{IsUndecided}
use Rattle.cps_neighbourhood.specs.Rounds.{IsFirstOpenDecision}

earlier_or_last : (j n : ℕ) → j < n + 1 → (j < n) ⊎ (j ≡ n)
earlier_or_last j n l = grind arith

before_or_from : (j n : ℕ) → (j < n) ⊎ (n ≤ j)
before_or_from j n = grind arith

-- an atom is undecided where it is neither true nor false
pub undecided : (s : Trail) (u : Atom) (t : Truth) → u.subject < length s.first → (t ≡ Yes) ↔ IsTrueNow s u → (t ≡ No) ↔ IsFalseNow s u → (t ≢ Yes) × (t ≢ No) → IsUndecided s u
undecided s u t inside true_where false_where neither = record {
  subject = inside;
  not_true = λ holds. neither.0 (true_where.1 holds);
  not_false = λ falls. neither.1 (false_where.1 falls);
}

-- and the other way round
pub open-there : (s : Trail) (u : Atom) (t : Truth) → (t ≡ Yes) ↔ IsTrueNow s u → (t ≡ No) ↔ IsFalseNow s u → IsUndecided s u → (t ≢ Yes) × (t ≢ No)
open-there s u t true_where false_where undecided = (λ yes. undecided.not_true (true_where.0 yes), λ no. undecided.not_false (false_where.0 no))

-- what holds of the atom at a place, whichever atom stands for one beyond the list
pub at_place : (P : Atom → Type 0) (ts : List Atom) (n : ℕ) (z : Atom) → P (get_or ts n z) → (d : Atom) → n < length ts → P (get_or ts n d)
at_place P ts n z here d l = subst P (get_or_default ts n z d l) here

-- one more that is before where the search began, or of which it is not so
pub one_passed : (P : Atom → Type 0) (ts : List Atom) (from n : ℕ) (z : Atom) → n < length ts → (from ≤ n → P (get_or ts n z) → ⊥) → ((j : ℕ) (d : Atom) → from ≤ j → j < n → P (get_or ts j d) → ⊥)
    → (j : ℕ) (d : Atom) → from ≤ j → j < n + 1 → P (get_or ts j d) → ⊥
one_passed P ts from n z within not before j d f l holds = elim (earlier_or_last j n l) [
  | inl old ↦ before j d f old holds
  | inr last ↦
      let same : get_or ts j d ≡ get_or ts n z = ap (λ (i : ℕ). get_or ts i d) last ∙ get_or_default ts n d z within in
      not (omega (arith, f, last)) (subst P same holds)
]

-- what was passed before, and what was passed now
pub passed_all : (P : Atom → Type 0) (ts us : List Atom) (from n : ℕ) → us ≡ ts → ((j : ℕ) (d : Atom) → j < from → j < length ts → P (get_or ts j d) → ⊥) → ((j : ℕ) (d : Atom) → from ≤ j → j < n → P (get_or us j d) → ⊥)
    → (j : ℕ) (d : Atom) → j < n → j < length ts → P (get_or ts j d) → ⊥
passed_all P ts us from n same old new j d l m holds = elim (before_or_from j from) [
  | inl before ↦ old j d before m holds
  | inr here ↦ new j d here l (subst (λ (vs : List Atom). P (get_or vs j d)) (sym same) holds)
]

-- what was found is the first decision that is open
pub first_decision : (s : Trail) (ts us : List Atom) (from n : ℕ) (t : Atom) → us ≡ ts → n < length ts → t ≡ get_or ts n t → ((j : ℕ) (d : Atom) → j < from → j < length ts → IsUndecided s (get_or ts j d) → ⊥)
    → ((j : ℕ) (d : Atom) → from ≤ j → j < n → IsUndecided s (get_or us j d) → ⊥) → ((d : Atom) → n < length us → IsUndecided s (get_or us n d)) → IsFirstOpenDecision ts s t
first_decision s ts us from n t same l is old new here = record {
  place = n;
  within = l;
  is = λ d. get_or_default ts n d t l ∙ sym is;
  left_open = subst (λ (u : Atom). IsUndecided s u) (sym is) (subst (λ (vs : List Atom). IsUndecided s (get_or vs n t)) same (here t (subst (λ (vs : List Atom). n < length vs) (sym same) l)));
  before = λ j d m. passed_all (λ (u : Atom). IsUndecided s u) ts us from n same old new j d m (omega (arith, m, l));
}
