-- The base has room for the part.
use Rattle.std.proofs.Common.{◌∙◌, ◌++◌, [], ◌∷◌, false, ap, List, of_z, rules, to_z, w64, FitsSigned, ℤ}
use Rattle.std.proofs.lemmas.Int.{to_z-of_z}
use Rattle.cps_reform.specs.declared.held.Held.{Held}
use Rattle.cps_reform.specs.Forms.{Form}
use Rattle.cps_reform.proofs.Words.{fits-sum, form_by, read-sum}
use Rattle.cps_reform.proofs.reform.Reform.add.Goals as goal

pub overflow_add-self : goal.overflow_add-self
overflow_add-self c =
    let b = c.self.inside.base in
    let fb : FitsSigned w64 b = search rules in
    fits-sum b c.args.part c.args.self.now.base fb c.ranges.part (ap (λ (f : Form). f.base) c.self.view_is) c.requires

pub returns-clause-adds : goal.returns-clause-adds
returns-clause-adds c =
    let b = c.self.inside.base in
    let fb : FitsSigned w64 b = search rules in
    form_by _ _ _ _ (read-sum b c.args.part c.args.self.now.base fb c.ranges.part (ap (λ (f : Form). f.base) c.self.view_is) c.requires)
    (c.in_ok-push.ensures.items
    ∙ ap (λ (ts : List Held). ts ++ record { weight = c.args.weight; subject = c.args.subject; bound = to_z w64 (of_z w64 c.args.bound); in_core = false } ∷ []) (ap (λ (f : Form). f.terms) c.self.view_is)
    ∙ ap (λ (v : ℤ). c.args.self.now.terms ++ record { weight = c.args.weight; subject = c.args.subject; bound = v; in_core = false } ∷ []) (to_z-of_z w64 c.args.bound c.ranges.bound))
