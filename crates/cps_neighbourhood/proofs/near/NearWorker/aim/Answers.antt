use Rattle.std.proofs.Common.{◌∙◌, ℤ, List, length, sym, ap}
use Rattle.cps_model.proofs.Inside.{length-are_within}
use Rattle.cps_neighbourhood.specs.Nears.{Near}
use Rattle.cps_neighbourhood.proofs.WorkerViews.{explores_aimed, solved}
use Rattle.cps_neighbourhood.proofs.near.NearWorker.aim.Goals as goal

pub set-requires : goal.set-requires
set-requires g c =
    length-are_within _ c.args.solution.now c.requires.free.domains ∙ ap (λ (n : Near). length n.search.instance.model.variables) (sym c.self.view_is) ∙ sym (c.self.invariant c.if-not-self.true).variables

pub invariant_of-self : goal.invariant_of-self
invariant_of-self g c = λ running.
    let h = c.self.invariant running in
    explores_aimed c.self.inside.explorer c.set.new.self h
    (ap (λ (xs : List ℤ). length xs) (solved c.set.new.self c.args.solution.now c.set.ensures) ∙ length-are_within _ c.args.solution.now c.requires.free.domains
    ∙ ap (λ (n : Near). length n.search.instance.model.variables) (sym c.self.view_is) ∙ sym h.variables)
