use Rattle.std.proofs.Common.{inr, subst, sym, List}
use Rattle.cps_literal.specs.declared.atom.Atom.{Atom}
use Rattle.cps_clauses.proofs.Notes.{none_view}
use Rattle.cps_tracer.specs.Traced.{Traced}
use Rattle.cps_search.specs.Giving.{ByAll, IsReasonOfOne}
use Rattle.cps_search.specs.Logged.{Log}
use Rattle.cps_search.specs.Logging.{GrowsLog, IsFetchedBy}
use Rattle.cps_search.proofs.GivenEntries.{AreGiven-fit}
use Rattle.cps_search.proofs.log.SearchLog.settle.Goals as goal

pub explain-requires-clause-note : goal.explain-requires-clause-note
explain-requires-clause-note g c = record { note = c.in-Later.field-0; is = λ d. ((c.entries.ensures.views.each c.args.entry d none_view c.requires.within).note c.in-Later.field-0).0 c.in-Later.is }

pub explain-requires-clause-fits : goal.explain-requires-clause-fits
explain-requires-clause-fits g c =
    let source = c.args.source.now in
    AreGiven-fit (ByAll source.givers.engine.now.tasks source.givers.clauses.now.clauses) source.store.now c.requires.given c.args.entry c.requires.within
    (record { note = c.in-Later.field-0; is = λ d. ((c.entries.ensures.views.each c.args.entry d none_view c.requires.within).note c.in-Later.field-0).0 c.in-Later.is })

pub returns : goal.returns
returns g c = λ z h.
    let source = c.args.source.now in
    let p = source.instance.now in
    let s = source.store.now in
    let tasks = source.givers.engine.now.tasks in
    let clauses = source.givers.clauses.now.clauses in
    let closed = c.self.inside.closed in
    let m : Log = record { traced = c.self.inside.tracer; closed = closed } in
    let fetched : IsFetchedBy tasks clauses s c.args.entry c.as_slice.result.now = inr (subst (λ (ts : List Atom). IsReasonOfOne tasks clauses s c.args.entry ts) (sym c.as_slice.ensures) c.in_ok-reason.ensures) in
    let grown : GrowsLog p z c.args.self.now m = subst (λ (x : Log). GrowsLog p z c.args.self.now x) (sym c.self.view_is) (c.in_ok-number.ensures z h fetched) in
    subst (λ (t : Traced). GrowsLog p z c.args.self.now (record { traced = t; closed = closed })) (sym c.settle.ensures) grown
