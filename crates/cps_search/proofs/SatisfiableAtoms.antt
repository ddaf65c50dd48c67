-- The atoms of a learnt clause can be true: each is met by a value of its subject's domain.
use Rattle.std.specs.Prelude.{All, ◌&&◌}
use Rattle.std.specs.List.{Contains, list_any}
use Rattle.std.proofs.Common.{◌<◌, ℤ, ◌≡◌, ◌⊎◌, inl, inr, Bool, true, false, List, length, get_or, refl, sym, ◌∙◌, subst, true≢false}
use Rattle.std.proofs.lemmas.List.Folds.{Any-from_list_any, list_any-from_Any}
use Rattle.cps_domain.specs.Window.{is_among}
use Rattle.cps_domain.proofs.Tests.{both, first_of_both, second_of_both, test_false}
use Rattle.cps_literal.specs.declared.atom.Atom.{Atom}
use Rattle.cps_literal.specs.declared.atom.Op.{Op}
use Rattle.cps_literal.specs.Truth.{meets, IsFalseOn}
use Rattle.cps_instance.specs.Problem.{Problem}
use Rattle.cps_trail.specs.Trail.{Domains, Trail, first_of, up_to}
use Rattle.cps_conflict.specs.Conflicts.{NotFalseAtBottom}
use Rattle.cps_branch.specs.Strategies.{values_of}
use Rattle.cps_search.specs.Searches.{IsSatisfiable}
use Rattle.cps_search.proofs.FalseClauses.{admitted_first}
use Rattle.cps_branch.proofs.Values.{among_values}

on_or_off : (b : Bool) → (b ≡ true) ⊎ (b ≡ false)
on_or_off true = inl refl
on_or_off false = inr refl

-- whether a value is among these and meets the comparison
abbrev meets_among : List (ℤ × ℤ) → Op → ℤ → ℤ → Bool
meets_among ps op v x = is_among ps x && meets op v x

-- a comparison that is not false at all values of a domain is met by one of them
pub some_value : (ps : List (ℤ × ℤ)) (op : Op) (v : ℤ) → (IsFalseOn (is_among ps) op v → ⊥) → (x : ℤ) × (is_among ps x ≡ true) × (meets op v x ≡ true)
some_value ps op v open_now = elim (on_or_off (list_any (meets_among ps op v) (values_of ps))) [
  | inl some ↦
      let at = Any-from_list_any (meets_among ps op v) (values_of ps) some in
      (at.1, first_of_both (is_among ps at.1) (meets op v at.1) at.4, second_of_both (is_among ps at.1) (meets op v at.1) at.4)
  | inr none ↦ absurd (open_now (λ x among. test_false (meets op v x) (λ on.
      let has : Contains (values_of ps) x = among_values ps x among in
      true≢false (sym (list_any-from_Any (meets_among ps op v) (values_of ps) (has.0, x, has.1, has.2, both (is_among ps x) (meets op v x) among on)) ∙ none))))
]

-- each atom of a clause that was not false at the end of level 0
pub satisfiable : (p : Problem) (s : Trail) (clause : List Atom) → s.first ≡ p.domains → All (λ t. t.subject < length s.first) clause → All (NotFalseAtBottom s) clause → All (IsSatisfiable p.domains) clause
satisfiable p s clause same subjects opens k d l =
    let t = get_or clause k d in
    let some = some_value (first_of s.first t.subject) t.op t.value (λ off. opens k d l (λ x left. off x (admitted_first s.first (up_to 0 s.entries) t.subject x left))) in
    subst (λ (ds : Domains). IsSatisfiable ds t) same (record { subject = subjects k d l; value = some.0; in_domain = some.1; is_met = some.2 })
