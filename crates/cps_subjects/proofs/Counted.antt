-- As many domains as subjects, and the box of a clause over them.
use Rattle.std.specs.Prelude.{◌&&◌, not}
use Rattle.std.proofs.Common.{◌≡◌, ℕ, List, length, map, Bool, refl, ◌∙◌, ap, ℤ}
use Rattle.std.proofs.Math.Path.{fun_ext}
use Rattle.std.proofs.lemmas.List.{length-append, length-map}
use Rattle.cps_model.specs.declared.model.LinearExpr.{LinearExpr}
use Rattle.cps_model.specs.declared.model.Variable.{Variable}
use Rattle.cps_domain.specs.Window.{Window}
use Rattle.cps_literal.specs.declared.atom.Atom.{Atom}
use Rattle.cps_unit.specs.Boxes.{is_made_true, denied}
use Rattle.cps_log.specs.Boxes.{box_of}
use Rattle.cps_log.specs.Subjects.{variable_domain, sum_domain, subject_domains, subject_count}
use Rattle.cps_rup.specs.Domains.{box_in}
use Rattle.cps_subjects.specs.Domains.{AreDomains}

-- as many domains as subjects
pub subjects_many : (vs : List Variable) (sums : List LinearExpr) → length (subject_domains vs sums) ≡ subject_count vs sums
subjects_many vs sums = length-append (map variable_domain vs) (map (sum_domain vs) sums) ∙ rw (length-map vs variable_domain, length-map sums (sum_domain vs)) refl

pub domain_count : (ds : List Window) (vs : List Variable) (sums : List LinearExpr) → AreDomains ds (subject_domains vs sums) → length ds ≡ subject_count vs sums
domain_count ds vs sums are = are.many ∙ subjects_many vs sums

-- the box of a clause over domains is that over their lists
pub denied_is : (ds : List Window) (lists : List (List ℤ)) (clause : List Atom) (s : ℕ) (x : ℤ) → AreDomains ds lists → denied (box_in ds) clause s x ≡ box_of lists clause s x
denied_is ds lists clause s x are = ap (λ (b : Bool). b && not (is_made_true clause s x)) (are.same s x)

pub denied_box : (ds : List Window) (lists : List (List ℤ)) (clause : List Atom) → AreDomains ds lists → denied (box_in ds) clause ≡ box_of lists clause
denied_box ds lists clause are = fun_ext (λ s. fun_ext (λ x. denied_is ds lists clause s x are))
