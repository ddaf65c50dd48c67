use Rattle.std.proofs.Common.{List, subst, sym}
use Rattle.cps_literal.specs.declared.atom.Atom.{Atom}
use Rattle.cps_conflict.specs.declared.certifier.Antecedent.{Antecedent}
use Rattle.cps_search.specs.Logging.{IsFetchedBy}
use Rattle.cps_search.proofs.LogSteps.{grows_from}
use Rattle.cps_search.proofs.log.SearchLog.write_antecedents.Goals as goal

pub loop-antecedent-preserved : goal.loop-antecedent-preserved
loop-antecedent-preserved g c = record {
  grows = λ z h fetched.
      let source = c.args.source.now in
      let p = source.instance.now in
      let s = source.store.now in
      let tasks = source.givers.engine.now.tasks in
      let clauses = source.givers.clauses.now.clauses in
      let a : Antecedent = c.antecedent-item.result in
      let item : IsFetchedBy tasks clauses s a.entry a.reason = subst (λ (x : Antecedent). IsFetchedBy tasks clauses s x.entry x.reason) (sym c.antecedent-item.is) (fetched c.loop-antecedent.antecedent-index a c.loop-antecedent-test.true) in
      let this : IsFetchedBy tasks clauses s a.entry c.as_slice.result.now = subst (λ (ts : List Atom). IsFetchedBy tasks clauses s a.entry ts) (sym c.as_slice.ensures) item in
      grows_from p z c.args.self.now c.loop-antecedent.self c.write_reason.new.self (c.loop-antecedent.invariant.grows z h fetched) (c.in_ok-number.ensures z h this);
}
