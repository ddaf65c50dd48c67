use Rattle.std.proofs.Common.{sym, ◌∙◌, ℤ, Option, subst, ap, rules, w64, FitsSigned}
use Rattle.std.proofs.lemmas.Int.{to_z-of_z}
use Rattle.cps_literal.specs.declared.atom.Atom.{Atom}
use Rattle.cps_literal.specs.Truth.{meets}
use Rattle.cps_p_sequence.specs.Facts.{MeetsBound}
use Rattle.cps_p_sequence.proofs.Cutting.{beyond_out, not_true}
use Rattle.cps_p_sequence.proofs.cuts.is_beyond.Goals as goal

pub returns-in-Some : goal.returns-in-Some
returns-in-Some c off x bounded at =
    let v = c.in-Some.value in
    let f : FitsSigned w64 v = search rules in
    let is = simp (to_z-of_z, f) at c.atom.ensures in
    let met = simp (to_z-of_z, c.ranges.number) at c.is_met.ensures in
    let same = met ∙ ap (λ (u : Atom). meets u.op u.value c.args.number) is in
    let on = subst (λ (b : Option ℤ). MeetsBound c.args.op b x) c.in-Some.is bounded in
    beyond_out c.args.op v c.args.number (sym same ∙ not_true c.is_met.result off) x on at
