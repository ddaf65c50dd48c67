use Rattle.std.proofs.Common.{◌≡◌, ◌∙◌, List, ap, subst, sym}
use Rattle.cps_literal.specs.declared.atom.Atom.{Atom}
use Rattle.cps_search.specs.declared.end.End.TheVariants as ends
use Rattle.cps_search.specs.declared.end.Phase.TheVariants.{Over}
use Rattle.cps_search.specs.declared.turn.Turn.TheVariants as turns
use Rattle.cps_search.specs.Moves.{with_phase}
use Rattle.cps_search.specs.Searches.{Search, IsNewClause, IsSoundSearch}
use Rattle.cps_search.specs.Searching.{search_of}
use Rattle.cps_search.specs.Shelves.{in_force_on}
use Rattle.cps_search.proofs.SoundDecisions.{sound_spent}
use Rattle.cps_search.proofs.searcher.Searcher.spend.Goals as goal

pub returns-clause-turn : goal.returns-clause-turn
returns-clause-turn g c = ap (λ (x : Search). turns.Spent c.args.clause x.z) c.self.view_is

pub returns-clause-is : goal.returns-clause-is
returns-clause-is g c =
    let s = search_of c.self.inside in
    let copied : c.in_ok-copy.copy ≡ c.args.clause = c.in_ok-copy.ensures.ok ∙ c.as_slice.ensures in
    subst (λ (x : Search). with_phase s s.raised (Over (ends.Spent c.in_ok-copy.copy s.z)) ≡ with_phase x x.raised (Over (ends.Spent c.args.clause x.z))) c.self.view_is
    (ap (λ (ts : List Atom). with_phase s s.raised (Over (ends.Spent ts s.z))) copied)

pub returns-clause-sound : goal.returns-clause-sound
returns-clause-sound g c =
    let s = search_of c.self.inside in
    let copied : c.in_ok-copy.copy ≡ c.args.clause = c.in_ok-copy.ensures.ok ∙ c.as_slice.ensures in
    let sound : IsSoundSearch s = subst (λ (x : Search). IsSoundSearch x) (sym c.self.view_is) c.requires.sound in
    let new : IsNewClause s.instance (in_force_on s.base) c.args.clause s.z = subst (λ (x : Search). IsNewClause x.instance (in_force_on x.base) c.args.clause x.z) (sym c.self.view_is) c.requires.new in
    subst (λ (ts : List Atom). IsSoundSearch (with_phase s s.raised (Over (ends.Spent ts s.z)))) (sym copied) (sound_spent s c.args.clause sound new (c.is_closed.ensures c.if-is_closed.false))
