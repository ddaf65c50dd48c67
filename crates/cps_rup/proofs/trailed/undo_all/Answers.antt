-- The last change is undone first.
use Rattle.std.proofs.Common.{◌≡◌, ◌++◌, ◌∷◌, [], List, set, subst, sym, ◌∙◌, ap}
use Rattle.std.proofs.lemmas.List.{get_or_default}
use Rattle.cps_domain.specs.Window.{Window}
use Rattle.cps_domain.specs.Cuts.{CanUndo, restored}
use Rattle.cps_rup.specs.declared.trailed.Change.{Change}
use Rattle.cps_rup.specs.Domains.{no_values}
use Rattle.cps_rup.specs.Trails.{CanUndoAll, CanUndoHere, all_undone, undone}
use Rattle.cps_rup.proofs.Trailing.{can_undo-last, can_undo-rest, undone-push}
use Rattle.cps_rup.proofs.trailed.undo_all.Goals as goal
use Rattle.cps_rup.proofs.trailed.undo_all.Goals.{In-Some}

can : (c : In-Some) → CanUndoAll (c.pop.new.self.items ++ c.in-Some.change ∷ []) c.loop-change.domains
can c = subst (λ (cs : List Change). CanUndoAll cs c.loop-change.domains) c.in-Some.ensures.items c.loop-change.invariant.can_undo

here : (c : In-Some) → CanUndoHere c.in-Some.change c.loop-change.domains
here c = can_undo-last c.pop.new.self.items c.in-Some.change c.loop-change.domains (can c)

pub bounds-domains-change : goal.bounds-domains-change
bounds-domains-change c = (here ((goal.at.bounds-domains-change c).In-Some)).subject

pub undo-requires : goal.undo-requires
undo-requires c =
    let d = (goal.at.undo-requires c).In-Some in
    let t = d.in-Some.change in
    let ds = d.loop-change.domains in
    subst (λ (w : Window). CanUndo t.undo w) (sym (get_or_default ds t.atom.subject c.index-domains-change.result no_values (here d).subject)) (here d).can

pub loop-change-preserved : goal.loop-change-preserved
loop-change-preserved c =
    let d = (goal.at.loop-change-preserved c).In-Some in
    let t = d.in-Some.change in
    let rest = d.pop.new.self.items in
    let ds = d.loop-change.domains in
    let next : set ds t.atom.subject c.undo.new.self ≡ undone t ds = ap (λ (w : Window). set ds t.atom.subject w) (c.undo.ensures ∙ ap (λ (w : Window). restored t.undo w) (get_or_default ds t.atom.subject c.index-domains-change.result no_values (here d).subject)) in
    record {
      can_undo = subst (λ (ws : List Window). CanUndoAll rest ws) (sym next) (can_undo-rest rest t ds (can d));
      same = ap (λ (ws : List Window). all_undone rest ws) next ∙ sym (undone-push rest t ds) ∙ sym (ap (λ (cs : List Change). all_undone cs ds) d.in-Some.ensures.items) ∙ d.loop-change.invariant.same;
    }
