use Rattle.std.proofs.Common.{◌≡◌, ◌∙◌, ap, sym, subst, arith}
use Rattle.std.proofs.lemmas.List.{get_or_default}
use Rattle.cps_branch.specs.declared.tournament.Contender.{Contender}
use Rattle.cps_branch.specs.Tournament.{nobody, stands_at}
use Rattle.cps_branch.specs.SetAside.{LeadsInPlay, aside_of, size_of}
use Rattle.cps_branch.proofs.SetAside.{none_plays, top_is_first, top_room}
use Rattle.cps_branch.proofs.ranking.Ranking.top.Goals as goal
use Rattle.cps_branch.proofs.ranking.Ranking.top.Goals.{Then-top}

leads : (c : Then-top) → LeadsInPlay (size_of c.args.self.now) c.args.self.now.nodes.items c.index-top.result.now.variable
leads c =
    let r = c.args.self.now in
    let is : c.index-top.result.now ≡ stands_at r.nodes.items 1 = c.index-top.ensures ∙ get_or_default r.nodes.items 1 c.index-top.result.now nobody (omega (arith, c.requires.tournament.size, c.if-count-eq0.false, c.len-count.ensures)) in
    subst (λ (x : Contender). LeadsInPlay (size_of r) r.nodes.items x.variable) (sym is)
    (top_is_first (size_of r) r.nodes.items (aside_of r) (omega (arith, c.if-count-eq0.false, c.len-count.ensures)) c.requires.tournament (ap (λ (x : Contender). x.in_play) (sym is) ∙ c.if-top.true))

pub returns-then-top-clause-some : goal.returns-then-top-clause-some
returns-then-top-clause-some c = leads (goal.at.returns-then-top-clause-some c).Then-top

pub returns-then-top-clause-room : goal.returns-then-top-clause-room
returns-then-top-clause-room c = top_room c.args.self.now _ c.requires (leads (goal.at.returns-then-top-clause-room c).Then-top)

pub returns-else-top-clause-none : goal.returns-else-top-clause-none
returns-else-top-clause-none c = λ _.
    let r = c.args.self.now in
    let is : c.index-top.result.now ≡ stands_at r.nodes.items 1 = c.index-top.ensures ∙ get_or_default r.nodes.items 1 c.index-top.result.now nobody (omega (arith, c.requires.tournament.size, c.if-count-eq0.false, c.len-count.ensures)) in
    none_plays (size_of r) r.nodes.items (aside_of r) (omega (arith, c.if-count-eq0.false, c.len-count.ensures)) c.requires.tournament (ap (λ (x : Contender). x.in_play) (sym is) ∙ c.if-top.false)
