-- An atom misses each number between two ends where it misses the end that is nearest to it.
use Rattle.std.proofs.Common.{rules, FitsSigned, w64, of_z, ap}
use Rattle.std.proofs.lemmas.Int.{to_z-of_z}
use Rattle.cps_trail.proofs.Hulls.{registers, same_register, le_no, ge_no, ne_only}
use Rattle.cps_trail.proofs.hull.excludes.Goals as goal

pub returns-in-Le : goal.returns-in-Le
returns-in-Le c = λ p hull.
    let fits : FitsSigned w64 c.args.atom.value = search rules in
    let low : FitsSigned w64 c.args.hull.0 = search rules in
    simp to_z-of_z (le_no p c.args.hull c.args.atom.value hull c.args.atom.op c.in-Le.is)

pub returns-in-Ge : goal.returns-in-Ge
returns-in-Ge c = λ p hull.
    let fits : FitsSigned w64 c.args.atom.value = search rules in
    let high : FitsSigned w64 c.args.hull.1 = search rules in
    simp to_z-of_z (ge_no p c.args.hull c.args.atom.value hull c.args.atom.op c.in-Ge.is)

pub returns-then-hull-atom : goal.returns-then-hull-atom
returns-then-hull-atom c = λ p hull.
    let fits : FitsSigned w64 c.args.atom.value = search rules in
    let low : FitsSigned w64 c.args.hull.0 = search rules in
    let high : FitsSigned w64 c.args.hull.1 = search rules in
    let same = registers c.args.hull.1 c.args.atom.value high fits in
    let only = ne_only p c.args.hull c.args.atom.value hull c.args.atom.op c.in-Ne.is in
    (λ t. only.0 (same_register c.args.hull.0 c.args.atom.value low fits c.if-hull-atom.true, same.0 t), λ f. same.1 (only.1 f).1)

pub returns-else-hull-atom : goal.returns-else-hull-atom
returns-else-hull-atom c = λ p hull.
    let fits : FitsSigned w64 c.args.atom.value = search rules in
    let low : FitsSigned w64 c.args.hull.0 = search rules in
    let same = registers c.args.hull.0 c.args.atom.value low fits in
    let only = ne_only p c.args.hull c.args.atom.value hull c.args.atom.op c.in-Ne.is in
    (λ t. absurd (c.if-hull-atom.false (ap (of_z w64) (same.0 t))), λ f. absurd (c.if-hull-atom.false (ap (of_z w64) (only.1 f).0)))
