-- The domain of the variable.
use Rattle.std.proofs.Common.{◌≡◌, Bool, true, ℤ, subst, w32, w64}
use Rattle.std.proofs.lemmas.Int.{to_z-of_z}
use Rattle.cps_model.specs.Values.{variable_of}
use Rattle.cps_subjects.proofs.SumEnds.{box_is}
use Rattle.cps_subjects.proofs.sums.term_over.Goals as goal

pub term_ends-requires : goal.term_ends-requires
term_ends-requires c =
    let fr = c.ranges.variable in
    let is : c.variable_of.result ≡ variable_of c.args.variable = simp to_z-of_z at c.variable_of.ensures in
    let e = box_is c.args.domains.now (variable_of c.args.variable) c.variable_of.result c.index-domains-variable_of.result c.requires.named is c.index-domains-variable_of.is in
    record { fits = rw (to_z-of_z w64 c.args.coefficient c.ranges.coefficient) (λ x h. c.requires.fits x (subst (λ (b : ℤ → Bool). b x ≡ true) e h)) }

pub returns : goal.returns
returns c =
    let fr = c.ranges.variable in
    let is : c.variable_of.result ≡ variable_of c.args.variable = simp to_z-of_z at c.variable_of.ensures in
    let e = box_is c.args.domains.now (variable_of c.args.variable) c.variable_of.result c.index-domains-variable_of.result c.requires.named is c.index-domains-variable_of.is in
    let ends = rw (to_z-of_z w32 c.args.variable c.ranges.variable, to_z-of_z w64 c.args.coefficient c.ranges.coefficient) at c.term_ends.ensures in
    rw (← e) ends
