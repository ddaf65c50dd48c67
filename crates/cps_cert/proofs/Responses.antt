-- What stands before an accepted log is the text of a response that is true.
use Rattle.std.specs.Prelude.{All, None, Some, Option, Contains, codes}
use Rattle.std.specs.List.{flat_map}
use Rattle.std.proofs.Common.{◌≡◌, ℕ, List, [], ◌∷◌, ◌++◌, map, inl, inr, refl, sym, ◌∙◌, ap, subst, arith, ℤ}
use Rattle.std.proofs.lemmas.Int.{ints, by_lt_z}
use Rattle.std.proofs.lemmas.List.{append_assoc, append-nil}
use Rattle.std.proofs.lemmas.List.Concat.{flat_map-append}
use Rattle.std.proofs.lemmas.List.Elements.{All-nil, All-cons}
use Rattle.cps_model.specs.declared.model.CpModel.{CpModel}
use Rattle.cps_model.specs.declared.model.Objective.{Objective}
use Rattle.cps_model.specs.declared.bound.Bound.TheVariants.{At, Infinite}
use Rattle.cps_model.specs.declared.status.Status.TheVariants.{Optimal, Infeasible}
use Rattle.cps_model.specs.Solutions.{objective_sum, objective_value, IsSolution, IsBest}
use Rattle.cps_model.specs.Validity.{IsValid}
use Rattle.cps_print.specs.Responses as printed
use Rattle.cps_print.specs.declared.response.Response.{Response}
use Rattle.cps_cert.specs.declared.claim.Claim.{Claim}
use Rattle.cps_cert.specs.declared.claim.Claim.TheVariants as claims
use Rattle.cps_cert.specs.Claims.{IsTrueClaim}
use Rattle.cps_log.specs.Deriving.{empty_derivation}
use Rattle.cps_cert.specs.Lines.{Phase, at_status, in_solution, at_lines, in_core, in_log, finished, value_line, assumption_line, objective_lines, IsBehindValues, Leads}
use Rattle.cps_cert.specs.Verdicts.{fed_line, Accepts, BeginsWithTrueResponse}
use Rattle.cps_cert.proofs.Logs.{log_true}

-- ---- lines that are shown, and then a log

both_lines : (l l' : List ℕ) (ls ls' : List (List ℕ)) → l ≡ l' → ls ≡ ls' → l ∷ ls ≡ l' ∷ ls'
both_lines l l' ls ls' p q = rw (p, q) refl

pub record ShowsAll (m : CpModel) (ls : List (List ℕ)) (claim : Claim) (lines : List (List ℕ)) : Type 0 where
  pub more : List (List ℕ)
  pub are : lines ≡ ls ++ codes "%log" ∷ more
  pub holds : IsTrueClaim m claim

pub shows_all : (m : CpModel) (ls : List (List ℕ)) (claim : Claim) (lines : List (List ℕ)) → IsValid m → Leads m (at_lines ls claim) lines finished → ShowsAll m ls claim lines
shows_all m [] claim [] valid leads = cc
shows_all m [] claim (line ∷ lines) valid leads =
    let taken = leads.1 in
    let log : Leads m (in_log claim empty_derivation) lines finished = subst (λ (p : Phase). Leads m p lines finished) taken.1 leads.2 in
    record { more = lines; are = ap (λ (l : List ℕ). l ∷ lines) taken.0; holds = log_true m claim lines valid log }
shows_all m (l ∷ ls) claim [] valid leads = cc
shows_all m (l ∷ ls) claim (line ∷ lines) valid leads =
    let taken = leads.1 in
    let rest = shows_all m ls claim lines valid (subst (λ (p : Phase). Leads m p lines finished) taken.1 leads.2) in
    record { more = rest.more; are = both_lines line l lines _ taken.0 rest.are; holds = rest.holds }

-- ---- assumptions that are listed, and then a log

pub record ListsAll (m : CpModel) (literals : List ℤ) (lines : List (List ℕ)) : Type 0 where
  pub further : List ℤ
  pub more : List (List ℕ)
  pub are : lines ≡ map assumption_line further ++ codes "%log" ∷ more
  pub assumed : All (Contains m.assumptions) further
  pub holds : IsTrueClaim m (claims.Infeasible (literals ++ further))

pub lists_all : (m : CpModel) (literals : List ℤ) (lines : List (List ℕ)) → IsValid m → Leads m (in_core literals) lines finished → ListsAll m literals lines
lists_all m literals [] valid leads = cc
lists_all m literals (line ∷ lines) valid leads =
    elim leads.1 [
      | inl taken ↦ (
          let rest = lists_all m (literals ++ taken.literal ∷ []) lines valid (subst (λ (p : Phase). Leads m p lines finished) taken.behind leads.2) in
          record {
            further = taken.literal ∷ rest.further;
            more = rest.more;
            are = both_lines line (assumption_line taken.literal) lines _ taken.is rest.are;
            assumed = All-cons (Contains m.assumptions) taken.literal rest.further taken.assumed rest.assumed;
            holds = subst (λ (ls : List ℤ). IsTrueClaim m (claims.Infeasible ls)) (append_assoc literals (taken.literal ∷ []) rest.further) rest.holds;
          })
      | inr taken ↦ (
          let log : Leads m (in_log (claims.Infeasible literals) empty_derivation) lines finished = subst (λ (p : Phase). Leads m p lines finished) taken.1 leads.2 in
          record {
            further = [];
            more = lines;
            are = ap (λ (l : List ℕ). l ∷ lines) taken.0;
            assumed = All-nil (Contains m.assumptions);
            holds = rw append-nil (log_true m (claims.Infeasible literals) lines valid log);
          })
    ]

-- ---- values of a solution, and then what is shown

pub record ValuesAll (m : CpModel) (a : List ℤ) (lines : List (List ℕ)) : Type 0 where
  pub further : List ℤ
  pub more : List (List ℕ)
  pub are : lines ≡ map value_line further ++ (objective_lines m.objective (objective_value m (a ++ further)) ++ codes "%log" ∷ more)
  pub solution : IsSolution m (a ++ further)
  pub holds : IsTrueClaim m (claims.Optimal (objective_value m (a ++ further)))

behind_values : (m : CpModel) (a : List ℤ) (next : Phase) (lines : List (List ℕ)) → IsValid m → IsBehindValues m a next → (Leads m (in_solution a) lines finished → ValuesAll m a lines) → Leads m next lines finished → ValuesAll m a lines
behind_values m a next lines valid (inl short) later leads = later (subst (λ (p : Phase). Leads m p lines finished) short.1 leads)
behind_values m a next lines valid (inr whole) later leads =
    let shown = shows_all m (objective_lines m.objective (objective_value m a)) (claims.Optimal (objective_value m a)) lines valid (subst (λ (p : Phase). Leads m p lines finished) whole.2 leads) in
    record {
      further = [];
      more = shown.more;
      are = rw append-nil shown.are;
      solution = rw append-nil whole.1;
      holds = rw append-nil shown.holds;
    }

-- one value more in front
more_values : (m : CpModel) (a : List ℤ) (v : ℤ) (line : List ℕ) (lines : List (List ℕ)) → line ≡ value_line v → ValuesAll m (a ++ v ∷ []) lines → ValuesAll m a (line ∷ lines)
more_values m a v line lines is rest =
    let same : (a ++ v ∷ []) ++ rest.further ≡ a ++ (v ∷ rest.further) = append_assoc a (v ∷ []) rest.further in
    record {
      further = v ∷ rest.further;
      more = rest.more;
      are = rw (is, ← same) (ap (λ (ls : List (List ℕ)). value_line v ∷ ls) rest.are);
      solution = subst (λ (b : List ℤ). IsSolution m b) same rest.solution;
      holds = subst (λ (b : List ℤ). IsTrueClaim m (claims.Optimal (objective_value m b))) same rest.holds;
    }

values_all : (m : CpModel) (a : List ℤ) (lines : List (List ℕ)) → IsValid m → Leads m (in_solution a) lines finished → ValuesAll m a lines
values_all m a [] valid leads = cc
values_all m a (line ∷ lines) valid leads =
    let taken = leads.1 in
    more_values m a taken.value line lines taken.is (behind_values m (a ++ taken.value ∷ []) leads.0 lines valid taken.behind (values_all m (a ++ taken.value ∷ []) lines valid) leads.2)

-- ---- the text of these lines

value_text : (a : List ℤ) → flat_map fed_line (map value_line a) ≡ flat_map printed.solution_line a
value_text [] = refl
value_text (v ∷ vs) = ap (λ (bs : List ℕ). printed.solution_line v ++ bs) (value_text vs)

core_text : (literals : List ℤ) → flat_map fed_line (map assumption_line literals) ≡ flat_map printed.core_line literals
core_text [] = refl
core_text (r ∷ rs) = ap (λ (bs : List ℕ). printed.core_line r ++ bs) (core_text rs)

objective_text : (o : Option Objective) (a : List ℤ) → flat_map fed_line (objective_lines o (objective_sum o a)) ≡ printed.objective_lines o (Some a) (At (objective_sum o a))
objective_text None a = refl
objective_text (Some o) a = ap (λ (bs : List ℕ). printed.value_lines o (Some a) ++ bs) (append-nil (printed.bound_lines o (At (objective_sum (Some o) a))))

-- the lines of a solution and of what is shown of it
pub shown_text : (o : Option Objective) (a : List ℤ) (rest : List (List ℕ)) → flat_map fed_line (map value_line a ++ (objective_lines o (objective_sum o a) ++ rest)) ≡ (flat_map printed.solution_line a ++ printed.objective_lines o (Some a) (At (objective_sum o a))) ++ flat_map fed_line rest
shown_text o a rest =
    flat_map-append fed_line (map value_line a) (objective_lines o (objective_sum o a) ++ rest)
    ∙ rw (flat_map-append fed_line (objective_lines o (objective_sum o a)) rest, value_text a, objective_text o a) (sym (append_assoc (flat_map printed.solution_line a) (printed.objective_lines o (Some a) (At (objective_sum o a))) (flat_map fed_line rest)))

pub listed_text : (literals : List ℤ) (rest : List (List ℕ)) → flat_map fed_line (map assumption_line literals ++ rest) ≡ flat_map printed.core_line literals ++ flat_map fed_line rest
listed_text literals rest = rw (flat_map-append fed_line (map assumption_line literals) rest, core_text literals) refl

-- of an objective nothing is said without a solution
pub no_lines : (o : Option Objective) → printed.objective_lines o None Infinite ≡ []
no_lines None = refl
no_lines (Some o) = refl

best_of : (m : CpModel) (a : List ℤ) → IsSolution m a → IsTrueClaim m (claims.Optimal (objective_value m a)) → IsBest m 0 a
best_of m a solution holds = record {
  solution = solution;
  least = λ b other. by_lt_z (objective_value m b) (objective_value m a) (λ less. absurd (holds b (other, less))) (λ more. omega (arith, ints));
}

pub optimal_response : (m : CpModel) (bytes : List ℕ) (lines : List (List ℕ)) → bytes ≡ flat_map fed_line (codes "status: OPTIMAL" ∷ lines) ++ [] → ValuesAll m [] lines → BeginsWithTrueResponse m bytes
optimal_response m bytes lines text v =
    let a = v.further in
    let r : Response = record { status = Optimal; solution = Some a; lower = At (objective_value m a); core = [] } in
    let shown = objective_lines m.objective (objective_value m a) in
    record {
      response = r;
      more = flat_map fed_line v.more;
      begins =
          text ∙ append-nil _
          ∙ ap (λ (bs : List ℕ). fed_line (codes "status: OPTIMAL") ++ bs) (ap (λ (ls : List (List ℕ)). flat_map fed_line ls) v.are ∙ shown_text m.objective a (codes "%log" ∷ v.more))
          ∙ sym (append_assoc (fed_line (codes "status: OPTIMAL")) _ (flat_map fed_line (codes "%log" ∷ v.more)));
      holds = inl (record { status = refl; solution = a; is = refl; lower = refl; best = best_of m a v.solution v.holds });
    }

pub infeasible_response : (m : CpModel) (bytes : List ℕ) (lines : List (List ℕ)) → bytes ≡ flat_map fed_line (codes "status: INFEASIBLE" ∷ lines) ++ [] → ListsAll m [] lines → BeginsWithTrueResponse m bytes
infeasible_response m bytes lines text l =
    let core = l.further in
    let r : Response = record { status = Infeasible; solution = None; lower = Infinite; core = core } in
    record {
      response = r;
      more = flat_map fed_line l.more;
      begins =
          text ∙ append-nil _
          ∙ ap (λ (bs : List ℕ). fed_line (codes "status: INFEASIBLE") ++ bs) (ap (λ (ls : List (List ℕ)). flat_map fed_line ls) l.are ∙ listed_text core (codes "%log" ∷ l.more))
          ∙ sym (append_assoc (fed_line (codes "status: INFEASIBLE")) (flat_map printed.core_line core) (flat_map fed_line (codes "%log" ∷ l.more)))
          ∙ ap (λ (bs : List ℕ). (fed_line (codes "status: INFEASIBLE") ++ bs) ++ flat_map fed_line (codes "%log" ∷ l.more)) (sym (append-nil (flat_map printed.core_line core)) ∙ ap (λ (bs : List ℕ). flat_map printed.core_line core ++ bs) (sym (no_lines m.objective)));
      holds = inr (record { status = refl; assumed = l.assumed; none = λ a free holds. l.holds a (free, holds) });
    }

accepted_lines : (m : CpModel) (bytes : List ℕ) (lines : List (List ℕ)) → IsValid m → bytes ≡ flat_map fed_line lines ++ [] → Leads m at_status lines finished → BeginsWithTrueResponse m bytes
accepted_lines m bytes [] valid text leads = cc
accepted_lines m bytes (line ∷ lines) valid text leads =
    elim leads.1 [
      | inl taken ↦ optimal_response m bytes lines (rw taken.0 at text) (behind_values m [] leads.0 lines valid taken.1 (values_all m [] lines valid) leads.2)
      | inr taken ↦ infeasible_response m bytes lines (rw taken.0 at text) (lists_all m [] lines valid (subst (λ (p : Phase). Leads m p lines finished) taken.1 leads.2))
    ]

-- what is accepted begins with the text of a response that is true
pub accepted_true : (m : CpModel) (bytes : List ℕ) → IsValid m → Accepts m bytes → BeginsWithTrueResponse m bytes
accepted_true m bytes valid acc = accepted_lines m bytes acc.lines valid acc.split.text acc.leads
