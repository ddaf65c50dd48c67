-- A sum that is the opposite of a variable holds a term with a negative coefficient.
use Rattle.std.specs.Prelude.{max, unsigned_abs}
use Rattle.std.specs.Int.{int_min, int_max}
use Rattle.std.proofs.Common.{◌≡◌, ℕ, ◌<◌, List, [], ◌∷◌, ◌++◌, sym, ◌∙◌, ap, subst, arith, ℤ, pos, negsuc, ◌+ℤ◌, ◌*ℤ◌, ◌<ℤ◌}
use Rattle.std.proofs.lemmas.Int.{ints}
use Rattle.cps_model.specs.declared.model.CpModel.{CpModel}
use Rattle.cps_literal.specs.Truth.{value_at}
use Rattle.cps_instance.specs.declared.term.Term.{Term}
use Rattle.cps_instance.specs.Problem.{Problem, Defines, IsAssignment, IsInstance, variable_count}
use Rattle.cps_instance.specs.Sums.{AreSumsFrom, DefinedSum, extended, sum_value}
use Rattle.cps_instance.specs.Terms.{Intervals, domain_at, greatest_of, least_of, magnitude}
use Rattle.cps_instance.proofs.Extending.{agree-append, length-extended}
use Rattle.cps_reform.specs.Beginning.{StandsForTerm}
use Rattle.cps_reform.proofs.Floors.{defined-values}
use Rattle.cps_reform.proofs.GrownForms.{counts, last_sum}
use Rattle.cps_core_guided.specs.Beginning.{opposite}

turned : (c v w : ℤ) → c <ℤ pos 0 → w ≡ ((negsuc 0 *ℤ v) +ℤ pos 0) +ℤ pos 0 → pos (unsigned_abs c) *ℤ w ≡ c *ℤ v
turned (pos n) v w h e = absurd (omega (arith, ints, h))
turned (negsuc n) v w h e = (let f : w ≡ negsuc 0 *ℤ v = omega (arith, ints, e) in rw f (grind (arith, ints)))

same_size : (l h : ℤ) → max (unsigned_abs ((int_min (negsuc 0 *ℤ l) (negsuc 0 *ℤ h) +ℤ pos 0) +ℤ pos 0)) (unsigned_abs ((int_max (negsuc 0 *ℤ l) (negsuc 0 *ℤ h) +ℤ pos 0) +ℤ pos 0)) ≡ max (unsigned_abs l) (unsigned_abs h)
same_size l h = grind (arith, ints)

pub opposite-holds : (p q : Problem) (t : Term) (subject : ℕ) → Defines p q (opposite t.subject) subject → IsInstance q → t.subject < variable_count p → t.coeff <ℤ pos 0 → StandsForTerm q t subject
opposite-holds p q t subject d i l under =
    let s = opposite t.subject in
    let k = counts p q s subject d i in
    let before = k.before in
    let after = k.after in
    let at = d.subject_is in
    let sums : AreSumsFrom q.domains (variable_count q) (p.defs ++ s ∷ []) = subst (λ (ss : List DefinedSum). AreSumsFrom q.domains (variable_count q) ss) d.sums i.domains.sums in
    let last = last_sum q.domains (variable_count q) p.defs s subject k.number sums in
    record {
      within = omega (arith, at, after);
      value = λ a is.
          let was : IsAssignment p.model a = subst (λ (m : CpModel). IsAssignment m a) d.model is in
          let n = length-extended p.defs a in
          let stays : value_at (extended p.defs a) t.subject ≡ value_at (extended q.defs a) t.subject =
          agree-append (extended p.defs a) (sum_value (extended p.defs a) s ∷ []) t.subject (omega (arith, l, n, was)) ∙ ap (λ (xs : List ℤ). value_at xs t.subject) (sym (defined-values p q s subject a d)) in
          turned t.coeff (value_at (extended p.defs a) t.subject) (value_at (extended q.defs a) subject) under (d.value a was) ∙ ap (λ (v : ℤ). t.coeff *ℤ v) stays;
      reach = ap (λ (ps : Intervals). magnitude ps) last.domain ∙ same_size (least_of (domain_at q.domains t.subject)) (greatest_of (domain_at q.domains t.subject));
    }
