use Rattle.std.proofs.Common.{ℕ, ◌+◌, ◌≡◌, ◌∙◌, ap, get_or, arith}
use Rattle.std.proofs.lemmas.List.{get_or_default}
use Rattle.cps_branch.specs.declared.tournament.Contender.{Contender}
use Rattle.cps_branch.specs.Tournament.{nobody, stands_at}
use Rattle.cps_branch.specs.SetAside.{size_of}
use Rattle.cps_branch.proofs.SetAside.{refreshed_ranking}
use Rattle.cps_branch.proofs.ranking.Ranking.refresh.Goals as goal

pub returns-clause-ranking : goal.returns-clause-ranking
returns-clause-ranking c =
    let e = c.place.ensures in
    let r = c.args.self.now in
    let node = size_of r + c.args.subject in
    let count : c.len-count.result ≡ size_of r = omega (arith, c.len-count.ensures) in
    let is : c.index.result.now ≡ stands_at r.nodes.items node = c.index.ensures ∙ ap (λ (k : ℕ). get_or r.nodes.items (k + c.args.subject) c.index.result.now) count ∙ get_or_default r.nodes.items node c.index.result.now nobody (omega (arith, c.requires.ranking.tournament.size, c.if-count-place.false, c.len-count.ensures)) in
    refreshed_ranking r c.place.new.self c.args.subject c.requires.ranking e.size e.won e.others _ e.aside
    (e.here ∙ ap {B = Contender} (λ (x : Contender). record { variable = c.args.subject; activity = get_or c.args.activities.now c.args.subject 0; in_play = x.in_play }) is)
