-- The one domain has lost the values at which the atom is false, and the trail has one change more.
use Rattle.std.proofs.Common.{◌≡◌, ◌<◌, ◌++◌, [], ◌∷◌, ℕ, ℤ, List, length, set, sym, ap, subst, ◌∙◌}
use Rattle.cps_domain.specs.Window.{Window}
use Rattle.cps_domain.specs.Cuts.{cut_of, IsUndone, LeadsBack}
use Rattle.cps_domain.specs.declared.cut.Narrowing.{Narrowing}
use Rattle.cps_unit.specs.Boxes.{with_atom}
use Rattle.cps_rup.specs.declared.trailed.Change.{Change}
use Rattle.cps_rup.specs.Domains.{box_in, IsOpenIn}
use Rattle.cps_rup.specs.Trailed.{Trailed}
use Rattle.cps_rup.proofs.ClauseStates.{force_kept}
use Rattle.cps_rup.proofs.Trailing.{force_undone, force_trailed}
use Rattle.cps_rup.proofs.trailed.TrailedDomains.force.Goals as goal
use Rattle.cps_rup.proofs.trailed.TrailedDomains.force.Goals.{After-push_reserved}

now_is : (c : After-push_reserved) → c.self.inside.domains.items ≡ c.args.self.now.now
now_is c = ap (λ (v : Trailed). v.now) c.self.view_is

in_domains : (c : After-push_reserved) → c.args.atom.subject < length c.self.inside.domains.items
in_domains c = subst (λ (ws : List Window). c.args.atom.subject < length ws) (sym (now_is c)) c.requires.subject

abbrev change : After-push_reserved → Change
change c = record { atom = c.args.atom; undo = c.in-Narrowed.undo }

pushed : (c : After-push_reserved) → c.push_reserved.new.self.items ≡ c.self.inside.trail.items ++ change c ∷ []
pushed c = c.push_reserved.ensures.items ∙ ap (λ (cs : List Change). cs ++ change c ∷ []) c.reserve.ensures.items

back : (c : After-push_reserved) → LeadsBack c.index_mut-domain.result.now c.narrow.new.domain c.in-Narrowed.undo
back c = subst (λ (n : Narrowing). IsUndone n c.index_mut-domain.result.now c.narrow.new.domain) c.in-Narrowed.is c.in_ok-undo.ensures.undo

kept : (c : After-push_reserved) (s : ℕ) (x : ℤ) → box_in (set c.self.inside.domains.items c.args.atom.subject c.narrow.new.domain) s x ≡ with_atom (box_in c.self.inside.domains.items) c.args.atom s x
kept c =
    force_kept c.self.inside.domains.items c.args.atom c.index_mut-domain.result.now c.narrow.new.domain (cut_of c.in_ok-undo.field-0) (in_domains c) c.index_mut-domain.ensures.value
    (subst (λ (ws : List Window). IsOpenIn (box_in ws) c.args.atom) (sym (now_is c)) c.requires.is_open) c.in_ok-undo.ensures.cuts

pub returns-clause-kept : goal.returns-clause-kept
returns-clause-kept c = λ s x. kept c s x ∙ ap (λ (ws : List Window). with_atom (box_in ws) c.args.atom s x) (now_is c)

pub returns-clause-first : goal.returns-clause-first
returns-clause-first c =
    force_undone c.self.inside.domains.items c.self.inside.trail.items c.push_reserved.new.self.items (change c) c.index_mut-domain.result.now c.narrow.new.domain (pushed c) (in_domains c) c.index_mut-domain.ensures.value (back c)
    ∙ ap (λ (v : Trailed). v.first) c.self.view_is

pub invariant_of-self-2 : goal.invariant_of-self-2
invariant_of-self-2 c =
    force_trailed c.self.inside.domains.items c.self.inside.trail.items c.push_reserved.new.self.items (change c) c.index_mut-domain.result.now c.narrow.new.domain c.min-least.result (pushed c) (in_domains c) c.index_mut-domain.ensures.value (back c)
    c.min-least.ensures.within (kept c) c.self.invariant
