use Rattle.std.proofs.Common.{Global, List, Vec, subst, sym}
use Rattle.cps_conflict.specs.declared.certifier.Antecedent.{Antecedent}
use Rattle.cps_search.specs.Giving.{ByAll}
use Rattle.cps_search.specs.Logging.{AreFetchedBy}
use Rattle.cps_search.proofs.GivenEntries.{AreGiven-fit}
use Rattle.cps_search.proofs.LogSteps.{are_fetched, grows_from}
use Rattle.cps_search.proofs.log.SearchLog.write_grounds.Goals as goal

pub antecedents-requires-clause-fits : goal.antecedents-requires-clause-fits
antecedents-requires-clause-fits g c =
    let source = c.args.source.now in
    AreGiven-fit (ByAll source.givers.engine.now.tasks source.givers.clauses.now.clauses) source.store.now c.requires.given

pub returns : goal.returns
returns g c = λ z h given.
    let source = c.args.source.now in
    let p = source.instance.now in
    let s = source.store.now in
    let tasks = source.givers.engine.now.tasks in
    let clauses = source.givers.clauses.now.clauses in
    let l = c.args.self.now in
    let m = c.settle_bottom.new.self in
    let n = c.write_antecedents.new.self in
    let fetched : AreFetchedBy tasks clauses s c.as_slice-2.result.now =
    subst (λ (xs : List Antecedent). AreFetchedBy tasks clauses s xs) (sym c.as_slice-2.ensures.value) (are_fetched {V = Vec Antecedent Global} (λ (v : Vec Antecedent Global). v.items) tasks clauses s c.as_slice.result.now c.args.clause.now c.in_ok-antecedents.field-0 c.in-Some.antecedents c.in-Some.is c.in_ok-antecedents.ensures) in
    grows_from p z l n c.write_conflict.new.self (grows_from p z l m n (c.in_ok-settle_bottom.ensures z h) (c.in_ok-numbers.ensures z h fetched)) (c.in_ok-number.ensures z h given)
