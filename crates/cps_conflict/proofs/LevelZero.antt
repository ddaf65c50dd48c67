-- Reasons of the first entries force their atoms one after another.
use Rattle.std.specs.Prelude.{Any}
use Rattle.std.proofs.Common.{◌≡◌, ◌≢◌, ◌⊎◌, inl, inr, ℕ, zero, suc, ◌+◌, ◌<◌, ◌≤◌, true≢false, List, [], ◌∷◌, ◌++◌, length, take, get_or, refl, sym, ◌∙◌, ap, arith}
use Rattle.std.proofs.lemmas.List.{take_more}
use Rattle.std.proofs.lemmas.List.Elements.{Contains-get_or}
use Rattle.cps_literal.specs.declared.atom.Atom.{Atom}
use Rattle.cps_literal.specs.contracts.atom.AtomPartialEq.TheImpl as atom_eq
use Rattle.cps_literal.proofs.Ordering.{eq_Decides}
use Rattle.cps_trail.specs.Trail.{Trail, Entry, admits, leaves}
use Rattle.cps_trail.proofs.Times.{and_both}
use Rattle.cps_trail.proofs.Falls.{bool_cases}
use Rattle.cps_trail.proofs.Laws.{admits-push}
use Rattle.cps_unit.specs.Boxes.{Box, with_atom, IsBelow}
use Rattle.cps_unit.specs.Propagation.{IsUnit}
use Rattle.cps_unit.proofs.Below.{and_true}
use Rattle.cps_unit.proofs.Chains.{propagates_itself, propagates_on, propagates_atom}
use Rattle.cps_conflict.specs.Antecedents.{HasReasonAt, ComesBelow}
use Rattle.cps_conflict.proofs.Uniting.{entry_at}

atom_cases : (t u : Atom) → (t ≡ u) ⊎ (t ≢ u)
atom_cases t u = elim (bool_cases ((atom_eq.ghosts).eq t u)) [
  | inl on ↦ inl ((eq_Decides t u).0 on)
  | inr off ↦ inr (λ same. true≢false (sym ((eq_Decides t u).1 same) ∙ off))
]

take_zero : (es : List Entry) → take 0 es ≡ []
take_zero [] = refl
take_zero (e ∷ es) = refl

pub forced_to : (s : Trail) (clauses : List (List Atom)) (start : Box) (n : ℕ) → IsBelow start (admits s.first []) → n ≤ length s.entries → ((k : ℕ) → k < n → HasReasonAt s clauses k) → ComesBelow s clauses start n
forced_to s clauses start zero b l h = record {
  next = start;
  propagates = propagates_itself clauses start;
  below = record { at = λ i x on. ap (λ (es : List Entry). admits s.first es i x) (take_zero s.entries) ∙ b.at i x on };
}
forced_to s clauses start (suc m) b l h =
    let inside : m < length s.entries = omega (arith, l) in
    let before = forced_to s clauses start m b (omega (arith, l)) (λ k q. h k (omega (arith, q))) in
    let d = entry_at s.entries m inside in
    let e : Entry = get_or s.entries m d in
    let r = h m (omega arith) in
    let x = r.explains d in
    let unit : IsUnit before.next e.atom r.clause = record {
      listed = x.has;
      others = λ k c at. elim (atom_cases (get_or r.clause k c) e.atom) [
        | inl same ↦ inl same
        | inr other ↦ inr (λ v on. x.others (get_or r.clause k c) (Contains-get_or r.clause k c at) other v (before.below.at (get_or r.clause k c).subject v on))
      ];
    } in
    let some : Any (IsUnit before.next e.atom) clauses = (r.listed.0, r.clause, r.listed.1, r.listed.2, unit) in
    let step : take (suc m) s.entries ≡ take m s.entries ++ e ∷ [] = ap (λ j. take j s.entries) (let q : suc m ≡ m + 1 = omega arith in q) ∙ take_more s.entries m d inside in
    record {
      next = with_atom before.next e.atom;
      propagates = propagates_on clauses start before.next (with_atom before.next e.atom) before.propagates (propagates_atom clauses before.next (with_atom before.next e.atom) e.atom some (λ i v. refl));
      below = record {
        at = λ i v on.
            let both = and_true (before.next i v) (leaves i v e) on in
            ap (λ (es : List Entry). admits s.first es i v) step ∙ admits-push s.first (take m s.entries) e i v ∙ and_both (admits s.first (take m s.entries) i v) (leaves i v e) (before.below.at i v both.0) both.1;
      };
    }
