-- Nothing is in the draft, and there is a slot for each entry of the present level.
use Rattle.std.proofs.Common.{◌≡◌, ◌-◌, ℕ, [], length, replicate, sym, ap, subst, ◌∙◌}
use Rattle.std.specs.Prelude.{None}
use Rattle.cps_trail.specs.Trail.{EndsAt}
use Rattle.cps_conflict.specs.declared.resolvent.Resolvent.TheInside.{Inside}
use Rattle.cps_conflict.proofs.Drafting.{IsDraft-begun, emptied, no_atom}
use Rattle.cps_conflict.proofs.resolvent.Resolvent.reset.Goals as goal
use Rattle.cps_conflict.proofs.resolvent.Resolvent.reset.Goals.{then-len+in_ok-resize, else-len}

pub returns-clause-draft : goal.returns-clause-draft
returns-clause-draft c =
    let s = c.args.store.now in
    let x = c.if-len.self-inside in
    let n = length c.entries.result.now - x.start in
    let present : c.resize-2.new.self.items ≡ replicate n None = emptied n _ c.clear-3.new.self.items c.resize-2.new.self.items c.clear-3.ensures.items c.clear-3.ensures.len c.in_ok-resize-2.ensures.items in
    let start : x.start ≡ c.end_of-self-inside.result = elim c.if-len.branch [ then-len+in_ok-resize w ↦ ap (λ (y : Inside). y.start) w.self-inside-is | else-len w ↦ ap (λ (y : Inside). y.start) w.self-inside-is ] in
    let base : x.base ≡ c.end_of-self-inside-2.result = elim c.if-len.branch [ then-len+in_ok-resize w ↦ ap (λ (y : Inside). y.base) w.self-inside-is | else-len w ↦ ap (λ (y : Inside). y.base) w.self-inside-is ] in
    let earlier : x.earlier.items ≡ [] = elim c.if-len.branch [ then-len+in_ok-resize w ↦ ap (λ (y : Inside). y.earlier.items) w.self-inside-is ∙ c.clear.ensures.items | else-len w ↦ ap (λ (y : Inside). y.earlier.items) w.self-inside-is ∙ c.clear.ensures.items ] in
    IsDraft-begun s _ n c.entries.ensures.sound (subst (λ (k : ℕ). EndsAt s k x.start) (ap (λ (k : ℕ). k - 1) c.level.ensures.is) (subst (λ (k : ℕ). EndsAt s (c.level.result - 1) k) (sym start) c.end_of-self-inside.ensures))
    (subst (λ (k : ℕ). EndsAt s 0 k) (sym base) c.end_of-self-inside-2.ensures) (ap (λ (k : ℕ). k - x.start) c.entries.ensures.views.same_length) present earlier

pub returns-clause-none : goal.returns-clause-none
returns-clause-none c =
    let n = length c.entries.result.now - c.if-len.self-inside.start in
    no_atom n c.resize-2.new.self.items (emptied n _ c.clear-3.new.self.items c.resize-2.new.self.items c.clear-3.ensures.items c.clear-3.ensures.len c.in_ok-resize-2.ensures.items)
