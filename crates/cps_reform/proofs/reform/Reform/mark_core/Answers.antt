-- The terms are marked, and the base stays.
use Rattle.std.proofs.Common.{◌∙◌, List, ap, length, subst, sym}
use Rattle.std.proofs.lemmas.List.{with_items_is}
use Rattle.cps_reform.specs.declared.held.Held.{Held}
use Rattle.cps_reform.specs.Forms.{Form}
use Rattle.cps_reform.specs.Marks.{AreMarked}
use Rattle.cps_reform.proofs.reform.Reform.mark_core.Goals as goal

pub returns : goal.returns
returns c =
    let us = c.mark_terms.new.terms in
    let are = c.as_mut_slice.ensures.value in
    let size = c.mark_terms.ensures.same_length ∙ ap (λ (ts : List Held). length ts) are ∙ sym c.self.inside.terms.ok.0 in
    record {
      base = ap (λ (f : Form). f.base) c.self.view_is;
      terms = subst (λ (vs : List Held). AreMarked c.args.self.now.terms vs c.args.place c.args.decisions.now) (sym (with_items_is c.self.inside.terms us size))
          (subst (λ (ts : List Held). AreMarked ts us c.args.place c.args.decisions.now) (are ∙ ap (λ (f : Form). f.terms) c.self.view_is) c.mark_terms.ensures);
    }
