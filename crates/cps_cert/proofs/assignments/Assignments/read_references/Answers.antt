-- One part after another.
use Rattle.std.proofs.Common.{◌∙◌, refl, arith, rules, pos, get_or, ◌≡◌, FitsSigned, w32}
use Rattle.cps_cert.specs.Counting.{variables_of}
use Rattle.std.proofs.lemmas.Int.{to_z-of_z}
use Rattle.cps_model.specs.Values.{variable_of}
use Rattle.cps_cert.proofs.Steps.{reference_step, read_out}
use Rattle.cps_cert.proofs.assignments.Assignments.read_references.Goals as goal

pub loop-reference-preserved : goal.loop-reference-preserved
loop-reference-preserved c =
    let k = c.loop-reference.reference-index in
    let r = get_or c.args.references.now k (pos 0) in
    let fits : FitsSigned w32 r = search rules in
    let is : c.variable_of.result ≡ variable_of r = simp to_z-of_z at c.variable_of.ensures in
    record {
      long = c.in_ok-read.ensures.long ∙ c.loop-reference.invariant.long;
      rest = λ new g. c.loop-reference.invariant.rest new (reference_step c.args.domains.now c.loop-reference.self c.read.new.self new c.args.references.now k c.variable_of.result c.loop-reference-test.true is c.in_ok-read.ensures.read g);
    }

pub returns-clause-read : goal.returns-clause-read
returns-clause-read c = c.loop-reference.invariant.rest c.loop-reference.self (read_out variables_of c.args.domains.now c.loop-reference.self c.args.references.now c.loop-reference.reference-index (let l = c.loop-reference-test.false in omega arith) refl)
