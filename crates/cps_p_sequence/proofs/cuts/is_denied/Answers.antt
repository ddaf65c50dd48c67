use Rattle.std.proofs.Common.{sym, ◌∙◌, Option, subst}
use Rattle.std.proofs.lemmas.Int.{to_z-of_z}
use Rattle.cps_literal.specs.declared.atom.Atom.{Atom}
use Rattle.cps_rule.specs.Facts.{Denied}
use Rattle.cps_p_sequence.proofs.Cutting.{denied_out}
use Rattle.cps_p_sequence.proofs.cuts.is_denied.Goals as goal

pub returns-else-target-subject : goal.returns-else-target-subject
returns-else-target-subject c on xs deny at =
    let met = simp (to_z-of_z, c.ranges.label) at c.is_met.ensures in
    let off = subst (λ (g : Option Atom). Denied g xs) c.in-Some.is deny in
    denied_out c.in-Some.target c.args.subject c.args.label c.if-target-subject.false (sym met ∙ on) xs off at
