-- The enforcement literals, and behind them the run.
use Rattle.std.specs.Prelude.{Some}
use Rattle.std.proofs.Common.{◌≡◌, ◌++◌, List, ap, subst, ℤ, FitsSigned, w32}
use Rattle.std.proofs.lemmas.Int.{to_z-of_z}
use Rattle.cps_model.specs.Scheduling.{constraint_at}
use Rattle.cps_cert.specs.Counting.{variables_of, variables_of_run, variables_of_named}
use Rattle.cps_cert.specs.Trying.{ReadsOn}
use Rattle.cps_cert.proofs.Steps.{on_ok, reads_then, reads_same}
use Rattle.cps_cert.proofs.assignments.Assignments.read_named.Goals as goal

pub returns-clause-read : goal.returns-clause-read
returns-clause-read c =
    let fits : FitsSigned w32 c.args.index = c.ranges.index in
    let this = c.in-Some.constraint.now in
    let named = constraint_at c.args.constraints.now c.args.index in
    let found : Some this ≡ named = simp to_z-of_z at c.in-Some.ensures in
    let enforcement = variables_of this.enforcement in
    let run = variables_of_run this.kind in
    let first = subst (λ (xs : List ℤ). ReadsOn c.args.domains.now c.args.self.now (variables_of xs) c.read_references.new.self) c.as_slice.ensures c.in_ok-read_references.ensures.read in
    on_ok c.read_run.result
    (λ g. reads_same c.args.domains.now c.args.self.now c.read_run.new.self (enforcement ++ run) (variables_of_named named) (ap variables_of_named found)
    (reads_then c.args.domains.now c.args.self.now c.read_references.new.self c.read_run.new.self enforcement run first g))
    c.read_run.ensures.read
