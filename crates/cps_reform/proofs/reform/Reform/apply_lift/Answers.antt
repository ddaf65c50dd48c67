-- The term at the place has another bound, and the base has room for what that is worth.
use Rattle.std.proofs.Common.{◌∙◌, ◌<◌, ◌+ℤ◌, ℤ, List, ap, length, rules, subst, sym, w64, FitsSigned}
use Rattle.std.proofs.lemmas.Int.{to_z-of_z}
use Rattle.std.proofs.lemmas.List.{with_items_is}
use Rattle.cps_reform.specs.declared.held.Held.{Held}
use Rattle.cps_reform.specs.Forms.{Form, term_at}
use Rattle.cps_reform.proofs.Words.{fits-rise, form_by, read-rise, same-size, set-bound}
use Rattle.cps_reform.proofs.reform.Reform.apply_lift.Goals as goal

pub at-term-requires : goal.at-term-requires
at-term-requires c =
    subst (λ (ts : List Held). c.args.place < length ts) (sym c.terms.ensures) c.requires.place

pub overflow_add-self : goal.overflow_add-self
overflow_add-self c =
    let b = c.self.inside.base in
    let fb : FitsSigned w64 b = search rules in
    fits-rise b c.args.self.now.base c.args.amount fb (ap (λ (f : Form). f.base) c.self.view_is) c.requires.small c.requires.within

pub returns : goal.returns
returns c =
    let f = c.args.self.now in
    let b = c.self.inside.base in
    let fb : FitsSigned w64 b = search rules in
    form_by _ _ _ _ (read-rise b f.base c.args.amount fb (ap (λ (g : Form). g.base) c.self.view_is) c.requires.small c.requires.within ∙ ap (λ (x : ℤ). f.base +ℤ x) c.requires.amount)
    (with_items_is c.self.inside.terms c.set.new.terms (same-size c.as_mut_slice.result.now c.set.new.terms c.args.place _ c.set.ensures ∙ ap (λ (ts : List Held). length ts) c.as_mut_slice.ensures.value ∙ sym c.self.inside.terms.ok.0)
    ∙ set-bound f.terms c.as_mut_slice.result.now c.set.new.terms c.args.place c.at-term.result c.args.bound _ c.set.ensures (c.as_mut_slice.ensures.value ∙ ap (λ (g : Form). g.terms) c.self.view_is)
    (c.at-term.ensures ∙ ap (λ (ts : List Held). term_at ts c.args.place) c.terms.ensures) (to_z-of_z w64 c.args.bound c.ranges.bound))
