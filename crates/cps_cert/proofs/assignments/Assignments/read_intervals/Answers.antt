-- One part after another.
use Rattle.std.proofs.Common.{◌∙◌, refl, arith, rules, pos, ℤ, get_or, FitsSigned, w32}
use Rattle.std.proofs.lemmas.Int.{to_z-of_z}
use Rattle.std.proofs.lemmas.List.{get_or_default}
use Rattle.cps_model.specs.Scheduling.{constraint_at}
use Rattle.cps_cert.specs.Counting.{variables_of_named}
use Rattle.cps_cert.specs.Trying.{named_variables}
use Rattle.cps_cert.proofs.Steps.{item_step, read_out}
use Rattle.cps_cert.proofs.assignments.Assignments.read_intervals.Goals as goal

pub loop-index-preserved : goal.loop-index-preserved
loop-index-preserved c =
    let k = c.loop-index.index-index in
    let i = get_or c.args.indices.now k (pos 0) in
    let fits : FitsSigned w32 i = search rules in
    let read = simp to_z-of_z at c.in_ok-read_named.ensures.read in
    record {
      long = c.in_ok-read_named.ensures.long ∙ c.loop-index.invariant.long;
      rest = λ new g. c.loop-index.invariant.rest new (item_step (λ (x : ℤ). variables_of_named (constraint_at c.args.constraints.now x)) c.args.domains.now c.loop-index.self c.read_named.new.self new c.args.indices.now k i c.loop-index-test.true (get_or_default c.args.indices.now k (pos 0) i c.loop-index-test.true) read g);
    }

pub returns-clause-read : goal.returns-clause-read
returns-clause-read c = c.loop-index.invariant.rest c.loop-index.self (read_out (named_variables c.args.constraints.now) c.args.domains.now c.loop-index.self c.args.indices.now c.loop-index.index-index (let l = c.loop-index-test.false in omega arith) refl)
