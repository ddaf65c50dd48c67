-- What stays so as items come, and why the row of a learnt clause is met.
use Rattle.std.specs.Prelude.{Option, Some, None}
use Rattle.std.proofs.Common.{◌≡◌, ℕ, List, [], ◌∷◌, ◌++◌, length, get_or, map, ◌⊎◌, sym, ◌∙◌, ap, subst, ℤ, refl}
use Rattle.std.proofs.lemmas.List.{append-nil}
use Rattle.cps_model.specs.declared.model.CpModel.{CpModel}
use Rattle.cps_model.specs.declared.model.LinearExpr.{LinearExpr}
use Rattle.cps_model.specs.declared.model.Variable.{Variable}
use Rattle.cps_model.specs.Rules.{names}
use Rattle.cps_model.specs.Validity.{IsValid}
use Rattle.cps_model.specs.Within.{is_within}
use Rattle.cps_model.proofs.Faults.{rule_kept, parts_of}
use Rattle.cps_domain.specs.Window.{Window, contains}
use Rattle.cps_literal.specs.declared.atom.Atom.{Atom}
use Rattle.cps_unit.specs.Boxes.{Box, IsEmpty, denied}
use Rattle.cps_unit.specs.Propagation.{LeadsToConflict}
use Rattle.cps_log.specs.Boxes.{box_of}
use Rattle.cps_log.specs.declared.item.LogItem.{LogItem}
use Rattle.cps_log.specs.declared.item.LogItem.TheVariants as items
use Rattle.cps_log.specs.Deriving.{Derivation, empty_derivation, defined_sum}
use Rattle.cps_log.specs.Rows.{IsLearntRow}
use Rattle.cps_log.specs.Runs.{derived_by}
use Rattle.cps_log.specs.Subjects.{variable_domain, sum_domain, subject_domains, subject_count, IsClauseOver}
use Rattle.cps_rup.specs.Domains.{box_in}
use Rattle.cps_rup.specs.Known.{Known}
use Rattle.cps_subjects.specs.Domains.{AreDomains}
use Rattle.cps_subjects.proofs.Counted.{domain_count, denied_box}
use Rattle.cps_subjects.proofs.Domained.{no_sums, sum_pushed}
use Rattle.cps_tracer.specs.Traced.{Traced, with_item, before, sums_in, added_clause, clauses_in, subjects_of, next_number, HasLearnt}
use Rattle.cps_tracer.specs.Tracing.{IsTracedIn}
use Rattle.cps_tracer.proofs.Items.{derivation, derived_is, sums-append, clauses-append}

-- ---- items

-- no item, of a valid model
pub traced_first : (m : CpModel) (vs : List Variable) (assumed : List ℤ) (log : List LogItem) (known : Known) → IsValid m → vs ≡ m.variables → assumed ≡ m.assumptions → log ≡ [] → AreDomains known.domains (map variable_domain vs) → known.clauses ≡ [] → IsTracedIn vs assumed log known
traced_first m vs assumed log known valid variables assumptions empty are none =
    let parts = parts_of m valid in
    let first : IsTracedIn m.variables m.assumptions [] known = record {
      valid = parts.variables;
      named = λ k d l. (rule_kept 3 (names (length m.variables) (get_or m.assumptions k d)) _ (parts.assumptions k d l)).0;
      domains = no_sums known.domains m.variables (subst (λ (us : List Variable). AreDomains known.domains (map variable_domain us)) variables are);
      clauses = none;
    } in
    rw (variables, assumptions, empty) first

-- a sum more
pub traced_sum : (vs : List Variable) (assumed : List ℤ) (log log' : List LogItem) (known known' : Known) (e : LinearExpr) (d : Window) → IsTracedIn vs assumed log known → log' ≡ log ++ items.Sum e ∷ [] → known' ≡ record known { domains = known.domains ++ d ∷ [] } → ((y : ℤ) → contains d y ≡ is_within (sum_domain vs e) y) → IsTracedIn vs assumed log' known'
traced_sum vs assumed log log' known known' e d traced longer more is =
    let sums : sums_in log' ≡ sums_in log ++ e ∷ [] = ap sums_in longer ∙ sums-append log (items.Sum e) in
    let clauses : clauses_in assumed log' ≡ clauses_in assumed log = ap (clauses_in assumed) longer ∙ clauses-append assumed log (items.Sum e) ∙ append-nil (clauses_in assumed log) in
    record {
      valid = traced.valid;
      named = traced.named;
      domains = subst (λ (es : List LinearExpr). AreDomains known'.domains (subject_domains vs es)) (sym sums) (sum_pushed known.domains known'.domains vs (sums_in log) e d (ap (λ (k : Known). k.domains) more) traced.domains is);
      clauses = ap (λ (k : Known). k.clauses) more ∙ traced.clauses ∙ sym clauses;
    }

no_sum : (assumed : List ℤ) (item : LogItem) (clause : List Atom) → added_clause assumed item ≡ Some clause → defined_sum item ≡ None
no_sum assumed (items.Sum e) clause h = absurd (let g = h in cc)
no_sum assumed (items.Reason constraint c) clause h = refl
no_sum assumed (items.Objective c) clause h = refl
no_sum assumed (items.Ends subject c) clause h = refl
no_sum assumed (items.Assumed number) clause h = refl
no_sum assumed (items.Learnt c) clause h = refl

same_sums : (log : List LogItem) (item : LogItem) → defined_sum item ≡ None → sums_in (log ++ item ∷ []) ≡ sums_in log
same_sums log item none = sums-append log item ∙ ap (λ (o : Option LinearExpr). sums_in log ++ before o []) none ∙ append-nil (sums_in log)

-- a clause more
pub traced_clause : (vs : List Variable) (assumed : List ℤ) (log log' : List LogItem) (known known' : Known) (item : LogItem) (clause : List Atom) → IsTracedIn vs assumed log known → added_clause assumed item ≡ Some clause → log' ≡ log ++ item ∷ [] → known' ≡ record known { clauses = known.clauses ++ clause ∷ [] } → IsTracedIn vs assumed log' known'
traced_clause vs assumed log log' known known' item clause traced adds longer more =
    let sums : sums_in log' ≡ sums_in log = ap sums_in longer ∙ same_sums log item (no_sum assumed item clause adds) in
    let clauses : clauses_in assumed log' ≡ clauses_in assumed log ++ clause ∷ [] = ap (clauses_in assumed) longer ∙ clauses-append assumed log item ∙ ap (λ (o : Option (List Atom)). clauses_in assumed log ++ before o []) adds in
    record {
      valid = traced.valid;
      named = traced.named;
      domains = subst (λ (es : List LinearExpr). AreDomains known'.domains (subject_domains vs es)) (sym sums) (subst (λ (ds : List Window). AreDomains ds (subject_domains vs (sums_in log))) (sym (ap (λ (k : Known). k.domains) more)) traced.domains);
      clauses = ap (λ (k : Known). k.clauses) more ∙ ap (λ (cs : List (List Atom)). cs ++ clause ∷ []) traced.clauses ∙ sym clauses;
    }

-- ---- the subjects

pub subjects_are : (vs : List Variable) (assumed : List ℤ) (log : List LogItem) (known : Known) → IsTracedIn vs assumed log known → length known.domains ≡ subject_count vs (sums_in log)
subjects_are vs assumed log known traced = domain_count known.domains vs (sums_in log) traced.domains

pub over_domains : (vs : List Variable) (assumed : List ℤ) (log : List LogItem) (known : Known) (clause : List Atom) → IsTracedIn vs assumed log known → IsClauseOver (subject_count vs (sums_in log)) clause → IsClauseOver (length known.domains) clause
over_domains vs assumed log known clause traced over = subst (λ (n : ℕ). IsClauseOver n clause) (sym (subjects_are vs assumed log known traced)) over

-- ---- a learnt clause

abbrev Shown : List Variable → List LinearExpr → List (List Atom) → List Atom → Type 0
Shown vs sums clauses clause = IsEmpty (subject_count vs sums) (box_of (subject_domains vs sums) clause) ⊎ LeadsToConflict clauses (box_of (subject_domains vs sums) clause)

pub learnt_row : (m : CpModel) (vs : List Variable) (assumed : List ℤ) (log : List LogItem) (known : Known) (clause : List Atom) → vs ≡ m.variables → assumed ≡ m.assumptions → IsTracedIn vs assumed log known → IsClauseOver (subject_count vs (sums_in log)) clause → IsEmpty (length known.domains) (denied (box_in known.domains) clause) ⊎ LeadsToConflict known.clauses (denied (box_in known.domains) clause)
    → IsLearntRow m (derived_by m empty_derivation log) clause
learnt_row m vs assumed log known clause variables assumptions traced over implied =
    let sums = sums_in log in
    let box : Box = denied (box_in known.domains) clause in
    let many = subjects_are vs assumed log known traced in
    let one : IsEmpty (subject_count vs sums) box ⊎ LeadsToConflict known.clauses box = subst (λ (n : ℕ). IsEmpty n box ⊎ LeadsToConflict known.clauses box) many implied in
    let two : Shown vs sums known.clauses clause = subst (λ (b : Box). IsEmpty (subject_count vs sums) b ⊎ LeadsToConflict known.clauses b) (denied_box known.domains (subject_domains vs sums) clause traced.domains) one in
    let clauses : known.clauses ≡ clauses_in m.assumptions log = traced.clauses ∙ ap (λ (a : List ℤ). clauses_in a log) assumptions in
    let three : Shown vs sums (clauses_in m.assumptions log) clause = subst (λ (cs : List (List Atom)). Shown vs sums cs clause) clauses two in
    let row : IsLearntRow m (derivation sums (clauses_in m.assumptions log)) clause = record {
      over = subst (λ (ws : List Variable). IsClauseOver (subject_count ws sums) clause) variables over;
      shown = subst (λ (ws : List Variable). Shown ws sums (clauses_in m.assumptions log) clause) variables three;
    } in
    subst (λ (g : Derivation). IsLearntRow m g clause) (sym (derived_is m log)) row

-- a learnt clause is the next item
pub has_learnt : (old new : Traced) (known : Known) (clause learnt : List Atom) (n : ℕ) → IsTracedIn old.variables old.assumptions old.items known → IsClauseOver (subjects_of old) clause → IsEmpty (length known.domains) (denied (box_in known.domains) clause) ⊎ LeadsToConflict known.clauses (denied (box_in known.domains) clause) → learnt ≡ clause → new ≡ with_item old (items.Learnt learnt) → n ≡ next_number old → HasLearnt old new clause n
has_learnt old new known clause learnt n traced over implied same added number = record {
  row = λ m about. learnt_row m old.variables old.assumptions old.items known clause about.variables about.assumptions traced over implied;
  added = added ∙ ap (λ (c : List Atom). with_item old (items.Learnt c)) same;
  number = number;
}
