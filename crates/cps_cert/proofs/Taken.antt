-- The lines of a response's text are accepted.
use Rattle.std.specs.Prelude.{All, Contains, Option, Some, None, IsTrue, codes, unsigned_abs, if◌then◌else◌, ◌==◌, ◌^◌, ◌&&◌, nat_lt, nat_le}
use Rattle.std.specs.List.{flat_map, list_all}
use Rattle.std.specs.Fmt.{digits_onto, digits, digit_glyph, decimal, signed_decimal}
use Rattle.std.proofs.Common.{◌≡◌, ℕ, zero, suc, ◌<◌, ◌≤◌, ◌/◌, ◌%◌, List, [], ◌∷◌, ◌++◌, length, map, true, false, inl, inr, refl, sym, ◌∙◌, ap, subst, arith, ℤ, pos, negsuc}
use Rattle.std.proofs.lemmas.Bool.Decides.{nat_tests}
use Rattle.std.proofs.lemmas.List.{append_assoc, append-nil, length-append}
use Rattle.std.proofs.lemmas.List.Elements.{All-nil, All-cons, All-head, All-tail, All-append, All-contains, All-weaker}
use Rattle.std.proofs.lemmas.List.Folds.{list_all-append}
use Rattle.cps_model.specs.declared.model.CpModel.{CpModel}
use Rattle.cps_model.specs.declared.model.Objective.{Objective}
use Rattle.cps_model.specs.declared.bound.Bound.TheVariants.{At}
use Rattle.cps_model.specs.declared.status.Status.TheVariants.{Optimal, Infeasible}
use Rattle.cps_model.specs.Values.{variable_of}
use Rattle.cps_model.specs.Rules.{is_small, names, names_boolean}
use Rattle.cps_model.specs.Solutions.{shown_value, objective_value, IsSolution}
use Rattle.cps_model.specs.Validity.{assumption_fault, size_fault, most_items, most_entries, entry_count, IsValid}
use Rattle.cps_model.specs.declared.place.Place.TheVariants as places
use Rattle.cps_model.proofs.Faults.{rule_kept, or_else-none, at_place-none, parts_of}
use Rattle.cps_model.proofs.Inside.{length-are_within, model_ready}
use Rattle.cps_model.proofs.Tests.{and_true, both_true}
use Rattle.cps_log.specs.Subjects.{IsNear}
use Rattle.cps_print.specs.Responses as printed
use Rattle.cps_print.specs.declared.response.Response.{Response}
use Rattle.cps_cert.specs.declared.claim.Claim.{Claim}
use Rattle.cps_cert.specs.declared.claim.Claim.TheVariants as claims
use Rattle.cps_cert.specs.Lines.{Phase, in_solution, at_lines, in_core, optimal_line, infeasible_line, value_line, assumption_line, objective_lines, phase_of_solution, IsBehindValues, Leads}
use Rattle.cps_cert.specs.Verdicts.{is_no_feed, fed_line}
use Rattle.cps_cert.specs.TakenResponses.{AreSolvedTaken, AreInfeasibleTaken}
use Rattle.cps_cert.proofs.Responses.{shown_text, listed_text, no_lines}

-- ---- no line has a line feed

glyph_unfed : (d : ℕ) → d < 10 → is_no_feed (digit_glyph false d) ≡ true
glyph_unfed d h = grind (arith, nat_tests)

digits_unfed : (k n : ℕ) (acc : List ℕ) → list_all is_no_feed acc ≡ true → list_all is_no_feed (digits_onto k 10 false n acc) ≡ true
digits_unfed zero n acc h = h
digits_unfed (suc k) n acc h =
    let longer : list_all is_no_feed (digit_glyph false (n % 10) ∷ acc) ≡ true = both_true _ _ (glyph_unfed (n % 10) (omega arith)) h in
    elim (n / 10 == 0) as (λ b. list_all is_no_feed (if b then digit_glyph false (n % 10) ∷ acc else digits_onto k 10 false (n / 10) (digit_glyph false (n % 10) ∷ acc)) ≡ true) [
      | true ↦ longer
      | false ↦ digits_unfed k (n / 10) (digit_glyph false (n % 10) ∷ acc) longer
    ]

decimal_unfed : (n : ℕ) → list_all is_no_feed (decimal n) ≡ true
unfolding digits
decimal_unfed n = digits_unfed 64 n [] refl

signed_unfed : (z : ℤ) → list_all is_no_feed (signed_decimal z) ≡ true
signed_unfed (pos n) = decimal_unfed n
signed_unfed (negsuc n) = decimal_unfed (suc n)

abbrev IsUnfed : List ℕ → Type 0
IsUnfed line = IsTrue (list_all is_no_feed line)

field_unfed : (field : List ℕ) (z : ℤ) → IsUnfed field → IsUnfed (field ++ signed_decimal z)
field_unfed field z h = list_all-append is_no_feed field (signed_decimal z) ∙ both_true _ _ h (signed_unfed z)

fields_unfed : (field : List ℕ) (zs : List ℤ) → IsUnfed field → All IsUnfed (map (λ z. field ++ signed_decimal z) zs)
fields_unfed field [] h = All-nil IsUnfed
fields_unfed field (z ∷ zs) h = All-cons IsUnfed _ _ (field_unfed field z h) (fields_unfed field zs h)

objective_unfed : (o : Option Objective) (sum : ℤ) → All IsUnfed (objective_lines o sum)
objective_unfed None sum = All-nil IsUnfed
objective_unfed (Some o) sum =
    let shown = shown_value o sum in
    let value = codes "objective_value: " ++ signed_decimal shown in
    let bound = codes "best_objective_bound: " ++ signed_decimal shown in
    All-cons IsUnfed value (bound ∷ []) (field_unfed (codes "objective_value: ") shown refl) (All-cons IsUnfed bound [] (field_unfed (codes "best_objective_bound: ") shown refl) (All-nil IsUnfed))

-- ---- numbers are near

near_values : (a : List ℤ) → list_all (λ v. is_small (unsigned_abs v)) a ≡ true → All IsNear a
near_values [] h = All-nil IsNear
near_values (v ∷ vs) h =
    let both = and_true (is_small (unsigned_abs v)) (list_all (λ w. is_small (unsigned_abs w)) vs) h in
    All-cons IsNear v vs (let small = both.0 in grind (arith, nat_tests)) (near_values vs both.1)

near_reference : (r : ℤ) → variable_of r < 2 ^ 20 → IsNear r
near_reference (pos i) h = omega arith
near_reference (negsuc i) h = omega arith

sizes_of : (m : CpModel) → IsValid m → size_fault m ≡ None
sizes_of m valid = let size = or_else-none _ _ valid in at_place-none places.Model (size_fault m) size.0

few_variables : (m : CpModel) → size_fault m ≡ None → length m.variables ≤ 2 ^ 20
few_variables m e =
    let variables = nat_le (length m.variables) most_items in
    let constraints = nat_le (length m.constraints) most_items in
    let entries = nat_le (entry_count m) most_entries in
    let all = rule_kept 18 (variables && constraints && entries) (if nat_lt (length m.strategies) (2 ^ 32) then None else Some 18) e in
    let two = and_true (variables && constraints) entries all.0 in
    let one = and_true variables constraints two.0 in
    let few = one.0 in
    grind (arith, nat_tests)

named_variable : (m : CpModel) (r : ℤ) → assumption_fault m.variables r ≡ None → variable_of r < length m.variables
named_variable m r e =
    let here = rule_kept 3 (names (length m.variables) r) (if names_boolean m.variables r then None else Some 4) e in
    let named = here.0 in
    grind (arith, nat_tests)

near_assumption : (m : CpModel) (r : ℤ) → IsValid m → Contains m.assumptions r → IsNear r
near_assumption m r valid assumed =
    let named = named_variable m r (All-contains (λ q. assumption_fault m.variables q ≡ None) m.assumptions r (parts_of m valid).assumptions assumed) in
    let few = few_variables m (sizes_of m valid) in
    near_reference r (omega arith)

-- ---- lines that are accepted, one after another

leads_on : (m : CpModel) (from middle to : Phase) (ls ks : List (List ℕ)) → Leads m from ls middle → Leads m middle ks to → Leads m from (ls ++ ks) to
leads_on m from middle to [] ks here behind = subst (λ (p : Phase). Leads m p ks to) (sym here) behind
leads_on m from middle to (l ∷ ls) ks here behind = (here.0, here.1, leads_on m here.0 middle to ls ks here.2 behind)

leads_shown : (m : CpModel) (ls : List (List ℕ)) (claim : Claim) → Leads m (at_lines ls claim) ls (at_lines [] claim)
leads_shown m [] claim = refl
leads_shown m (l ∷ ls) claim = (at_lines ls claim, (refl, refl), leads_shown m ls claim)

leads_core : (m : CpModel) (literals further : List ℤ) → All (Contains m.assumptions) further → All IsNear further → Leads m (in_core literals) (map assumption_line further) (in_core (literals ++ further))
leads_core m literals [] assumed near = ap in_core (sym (append-nil literals))
leads_core m literals (r ∷ rs) assumed near = (
  in_core (literals ++ r ∷ []),
  inl (record { literal = r; near = All-head IsNear r rs near; assumed = All-head (Contains m.assumptions) r rs assumed; is = refl; behind = refl }),
  subst (λ (ls : List ℤ). Leads m (in_core (literals ++ r ∷ [])) (map assumption_line rs) (in_core ls)) (append_assoc literals (r ∷ []) rs)
      (leads_core m (literals ++ r ∷ []) rs (All-tail (Contains m.assumptions) r rs assumed) (All-tail IsNear r rs near)),
)

-- ---- the values of a solution

shorter : (m : CpModel) (a first rest : List ℤ) (v : ℤ) → length a ≡ length m.variables → first ++ v ∷ rest ≡ a → length first < length m.variables
shorter m a first rest v long whole = let count = sym (length-append first (v ∷ rest)) ∙ ap (λ (b : List ℤ). length b) whole in omega arith

record Behind (m : CpModel) (a : List ℤ) : Type 0 where
  phase : Phase
  is : IsBehindValues m a phase

some_behind : (m : CpModel) (a first rest : List ℤ) → IsSolution m a → length a ≡ length m.variables → first ++ rest ≡ a → Behind m first
some_behind m a first [] solution long whole =
    let same : first ≡ a = sym (append-nil first) ∙ whole in
    record { phase = phase_of_solution m first; is = inr (ap (λ (b : List ℤ). length b) same ∙ long, subst (λ (b : List ℤ). IsSolution m b) (sym same) solution, refl) }
some_behind m a first (v ∷ rest) solution long whole = record { phase = in_solution first; is = inl (shorter m a first rest v long whole, refl) }

at_last : (m : CpModel) (a : List ℤ) (p : Phase) → length a ≡ length m.variables → IsBehindValues m a p → p ≡ phase_of_solution m a
at_last m a p long (inl x) = (let less = x.0 in absurd (omega arith))
at_last m a p long (inr x) = x.2

not_last : (m : CpModel) (a : List ℤ) (p : Phase) → length a < length m.variables → IsBehindValues m a p → p ≡ in_solution a
not_last m a p short (inl x) = x.1
not_last m a p short (inr x) = (let same = x.0 in absurd (omega arith))

leads_values : (m : CpModel) (a first rest : List ℤ) (p : Phase) → IsSolution m a → length a ≡ length m.variables → first ++ rest ≡ a → All IsNear rest → IsBehindValues m first p → Leads m p (map value_line rest) (phase_of_solution m a)
leads_values m a first [] p solution long whole near behind =
    at_last m a p long (subst (λ (b : List ℤ). IsBehindValues m b p) (sym (append-nil first) ∙ whole) behind)
leads_values m a first (v ∷ rest) p solution long whole near behind =
    let longer : (first ++ v ∷ []) ++ rest ≡ a = append_assoc first (v ∷ []) rest ∙ whole in
    let next = some_behind m a (first ++ v ∷ []) rest solution long longer in
    subst (λ (q : Phase). Leads m q (value_line v ∷ map value_line rest) (phase_of_solution m a)) (sym (not_last m first p (shorter m a first rest v long whole) behind)) (
      next.phase,
      record { value = v; near = All-head IsNear v rest near; is = refl; behind = next.is },
      leads_values m a (first ++ v ∷ []) rest next.phase solution long longer (All-tail IsNear v rest near) next.is,
    )

-- ---- whole responses

solved_text : (m : CpModel) (r : Response) (a : List ℤ) → r.status ≡ Optimal → r.solution ≡ Some a → r.lower ≡ At (objective_value m a) → printed.response_text m r ≡ flat_map fed_line (optimal_line ∷ (map value_line a ++ (objective_lines m.objective (objective_value m a) ++ [])))
solved_text m r a status solution lower =
    rw (status, solution, lower) (ap (λ (bs : List ℕ). fed_line optimal_line ++ bs) (sym (append-nil _) ∙ sym (shown_text m.objective a [])))

pub solved_taken : (m : CpModel) → IsValid m → AreSolvedTaken m
solved_taken m valid r a status solution lower solves =
    let v = objective_value m a in
    let shown = objective_lines m.objective v in
    let first = some_behind m a [] a solves (length-are_within m.variables a solves.free.domains) refl in
    record {
      lines = optimal_line ∷ (map value_line a ++ (shown ++ []));
      split = record {
        text = solved_text m r a status solution lower ∙ sym (append-nil _);
        whole = All-cons IsUnfed optimal_line _ refl (All-append IsUnfed (map value_line a) (shown ++ []) (fields_unfed (codes "solution: ") a refl) (All-append IsUnfed shown [] (objective_unfed m.objective v) (All-nil IsUnfed)));
        unfed = refl;
      };
      leads = (
        first.phase,
        inl (refl, first.is),
        leads_on m first.phase (phase_of_solution m a) (at_lines [] (claims.Optimal v)) (map value_line a) (shown ++ [])
            (leads_values m a [] a first.phase solves (length-are_within m.variables a solves.free.domains) refl (near_values a (model_ready m a valid solves.free.domains).small) first.is)
            (leads_on m (phase_of_solution m a) (at_lines [] (claims.Optimal v)) (at_lines [] (claims.Optimal v)) shown [] (leads_shown m shown (claims.Optimal v)) refl),
      );
    }

infeasible_text : (m : CpModel) (r : Response) → r.status ≡ Infeasible → printed.response_text m r ≡ flat_map fed_line (infeasible_line ∷ (map assumption_line r.core ++ []))
infeasible_text m r status =
    rw status (ap (λ (bs : List ℕ). fed_line infeasible_line ++ bs) (ap (λ (bs : List ℕ). flat_map printed.core_line r.core ++ bs) (no_lines m.objective) ∙ sym (listed_text r.core [])))

pub infeasible_taken : (m : CpModel) → IsValid m → AreInfeasibleTaken m
infeasible_taken m valid r status assumed = record {
  lines = infeasible_line ∷ (map assumption_line r.core ++ []);
  split = record {
    text = infeasible_text m r status ∙ sym (append-nil _);
    whole = All-cons IsUnfed infeasible_line _ refl (All-append IsUnfed (map assumption_line r.core) [] (fields_unfed (codes "sufficient_assumptions_for_infeasibility: ") r.core refl) (All-nil IsUnfed));
    unfed = refl;
  };
  leads = (
    in_core [],
    inr (refl, refl),
    leads_on m (in_core []) (in_core r.core) (in_core r.core) (map assumption_line r.core) []
        (leads_core m [] r.core assumed (All-weaker (Contains m.assumptions) IsNear (λ q h. near_assumption m q valid h) r.core assumed)) refl,
  );
}
