-- A variable is its own subject.
use Rattle.std.proofs.Common.{rules, ◌≡◌, ℤ, pos, to_z, of_z, w32, FitsSigned, sym, ap, ◌∙◌}
use Rattle.std.proofs.lemmas.Int.{to_z-of_z}
use Rattle.cps_instance.specs.Writing.{plain_reference}
use Rattle.cps_instance.proofs.Drafting.{numbers_plain}
use Rattle.cps_instance.proofs.draft.Draft.push_reference.Goals as goal

pub returns-in-Some : goal.returns-in-Some
returns-in-Some c =
    let r = c.args.reference in
    let fits : FitsSigned w32 r = search rules in
    let same : to_z w32 (of_z w32 r) ≡ r = to_z-of_z w32 _ fits in
    numbers_plain c.args.self.now r c.args.subjects.now.items c.push.new.self.items c.in-Some.variable c.requires.begun (ap (λ (z : ℤ). plain_reference z (pos 1) (pos 0)) (sym same) ∙ sym c.in-Some.ensures) c.in_ok-push.ensures.items
