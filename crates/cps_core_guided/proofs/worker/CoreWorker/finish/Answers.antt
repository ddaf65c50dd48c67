-- What is seen is what the frame had, with the greater of the two raises, and the worker's own core where it has one.
use Rattle.std.proofs.Common.{◌≡◌, ◌∙◌, ℤ, List, None, sym, ap}
use Rattle.cps_port.specs.Order.{greater_of}
use Rattle.cps_search.specs.declared.end.End.{End}
use Rattle.cps_search.specs.declared.end.WorkerKind.TheVariants.{CoreGuided}
use Rattle.cps_search.specs.Ends.{Ending, ending}
use Rattle.cps_core_guided.specs.CoreTurns.{core_ending}
use Rattle.cps_core_guided.specs.Guiding.{core_search_of, with_refused}
use Rattle.cps_core_guided.proofs.CoreRuns.{core-of-frame, core-of-own}
use Rattle.cps_core_guided.proofs.worker.CoreWorker.finish.Goals as goal

pub returns-then-ended-clause-is : goal.returns-then-ended-clause-is
returns-then-ended-clause-is g c =
    let x = c.self.inside.guided in
    let s = with_refused (core_search_of x) c.self.inside.refused in
    let e : Ending = c.finish.result in
    let is : e ≡ ending CoreGuided None e.end x.frame = c.finish.ensures ∙ ap (λ (end : End). ending CoreGuided None end x.frame) (sym (ap (λ (y : Ending). y.end) c.finish.ensures)) in
    ap (λ (y : Ending). record y { raised = greater_of y.raised x.raised; core = x.core }) is
    ∙ ap (λ (core : List ℤ). record (core_ending e.end s) { core = core }) (sym (core-of-own s c.if-ended.true))
    ∙ ap (λ (v : _). core_ending e.end v.0) c.self.view_is

pub returns-clause-is : goal.returns-clause-is
returns-clause-is g c =
    let x = c.self.inside.guided in
    let s = with_refused (core_search_of x) c.self.inside.refused in
    let e : Ending = c.finish_ended.result in
    let is : e ≡ ending CoreGuided None e.end x.frame = c.finish_ended.ensures.is in
    ap (λ (y : Ending). record y { raised = greater_of y.raised x.raised }) is
    ∙ ap (λ (core : List ℤ). record (core_ending e.end s) { core = core }) (sym (core-of-frame s c.if-ended.false))
    ∙ ap (λ (v : _). core_ending e.end v.0) c.self.view_is
