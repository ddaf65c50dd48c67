-- The two cuts of the ends make the cut of the interval.
use Rattle.std.proofs.Common.{rules, ap, sym, subst, ◌∙◌, ◌≡◌, w64, FitsSigned}
use Rattle.std.specs.Prelude.{int_le}
use Rattle.std.proofs.lemmas.Int.{to_z-of_z}
use Rattle.cps_domain.specs.Window.{within}
use Rattle.cps_domain.specs.Cuts.{CutsTo, CanUndo, cut_of, restored}
use Rattle.cps_domain.specs.declared.cut.Cut.TheVariants as cuts
use Rattle.cps_domain.proofs.Composing.{first_wipes, first_keeps, second_wipes, both_narrow}
use Rattle.cps_domain.proofs.domain.Domain.narrow_within.Goals as goal

pub returns-in-Wiped : goal.returns-in-Wiped
returns-in-Wiped c =
    let f0 : FitsSigned w64 c.args.interval.0 = search rules in
    first_wipes (λ x. int_le c.args.interval.0 x) (λ x. int_le x c.args.interval.1) c.args.self.now c.narrow_ge.new.self c.min-least.result c.min-least.ensures.within
    (subst (λ z. CutsTo (λ x. int_le z x) c.args.self.now c.narrow_ge.new.self cuts.Wiped) (to_z-of_z w64 c.args.interval.0 f0) c.in-Wiped.ensures.cuts)

pub undo-requires : goal.undo-requires
undo-requires c = subst (λ w. CanUndo c.in-Narrowed.undo w) (sym (c.in-Wiped-narrow_le.ensures.cuts.kept (λ e. cc))) c.in-Narrowed.ensures.undo.can

pub returns-in-NoChange : goal.returns-in-NoChange
returns-in-NoChange c =
    let f0 : FitsSigned w64 c.args.interval.0 = search rules in
    let f1 : FitsSigned w64 c.args.interval.1 = search rules in
    first_keeps (λ x. int_le c.args.interval.0 x) (λ x. int_le x c.args.interval.1) c.args.self.now c.narrow_ge.new.self c.narrow_le.new.self c.cut.result
    (subst (λ z. CutsTo (λ x. int_le z x) c.args.self.now c.narrow_ge.new.self cuts.NoChange) (to_z-of_z w64 c.args.interval.0 f0) c.in-NoChange.ensures.cuts)
    (subst (λ u. CutsTo (λ x. int_le x c.args.interval.1) c.narrow_ge.new.self c.narrow_le.new.self u) (sym c.cut.ensures)
    (subst (λ z. CutsTo (λ x. int_le x z) c.narrow_ge.new.self c.narrow_le.new.self (cut_of c.narrow_le.result)) (to_z-of_z w64 c.args.interval.1 f1) c.narrow_le.ensures.cuts))

pub returns-in-Wiped-narrow_le : goal.returns-in-Wiped-narrow_le
returns-in-Wiped-narrow_le c =
    let f0 : FitsSigned w64 c.args.interval.0 = search rules in
    let f1 : FitsSigned w64 c.args.interval.1 = search rules in
    let low = subst (λ z. CutsTo (λ x. int_le z x) c.args.self.now c.narrow_ge.new.self cuts.Narrowed) (to_z-of_z w64 c.args.interval.0 f0) c.in-Narrowed.ensures.cuts in
    let high = subst (λ z. CutsTo (λ x. int_le x z) c.narrow_ge.new.self c.narrow_le-in-Narrowed.new.self cuts.Wiped) (to_z-of_z w64 c.args.interval.1 f1) c.in-Wiped-narrow_le.ensures.cuts in
    let back : c.undo.new.self ≡ c.args.self.now = c.undo.ensures ∙ ap (λ w. restored c.in-Narrowed.undo w) (high.kept (λ e. cc)) ∙ c.in-Narrowed.ensures.undo.restores in
    subst (λ w. CutsTo (λ x. within x c.args.interval) c.args.self.now w cuts.Wiped) (sym back)
    (second_wipes (λ x. int_le c.args.interval.0 x) (λ x. int_le x c.args.interval.1) c.args.self.now c.narrow_ge.new.self c.narrow_le-in-Narrowed.new.self c.min-least.result c.min-least.ensures.within low high)

pub returns-in-NoChange-narrow_le : goal.returns-in-NoChange-narrow_le
returns-in-NoChange-narrow_le c =
    let f0 : FitsSigned w64 c.args.interval.0 = search rules in
    let f1 : FitsSigned w64 c.args.interval.1 = search rules in
    both_narrow (λ x. int_le c.args.interval.0 x) (λ x. int_le x c.args.interval.1) c.args.self.now c.narrow_ge.new.self c.narrow_le-in-Narrowed.new.self cuts.NoChange (λ e. cc)
    (subst (λ z. CutsTo (λ x. int_le z x) c.args.self.now c.narrow_ge.new.self cuts.Narrowed) (to_z-of_z w64 c.args.interval.0 f0) c.in-Narrowed.ensures.cuts)
    (subst (λ z. CutsTo (λ x. int_le x z) c.narrow_ge.new.self c.narrow_le-in-Narrowed.new.self cuts.NoChange) (to_z-of_z w64 c.args.interval.1 f1) c.in-NoChange-narrow_le.ensures.cuts)

pub returns-in-Narrowed-narrow_le : goal.returns-in-Narrowed-narrow_le
returns-in-Narrowed-narrow_le c =
    let f0 : FitsSigned w64 c.args.interval.0 = search rules in
    let f1 : FitsSigned w64 c.args.interval.1 = search rules in
    both_narrow (λ x. int_le c.args.interval.0 x) (λ x. int_le x c.args.interval.1) c.args.self.now c.narrow_ge.new.self c.narrow_le-in-Narrowed.new.self cuts.Narrowed (λ e. cc)
    (subst (λ z. CutsTo (λ x. int_le z x) c.args.self.now c.narrow_ge.new.self cuts.Narrowed) (to_z-of_z w64 c.args.interval.0 f0) c.in-Narrowed.ensures.cuts)
    (subst (λ z. CutsTo (λ x. int_le x z) c.narrow_ge.new.self c.narrow_le-in-Narrowed.new.self cuts.Narrowed) (to_z-of_z w64 c.args.interval.1 f1) c.in-Narrowed-narrow_le.ensures.cuts)
