-- All variables are in play, none has an activity, and none is aside.
use Rattle.std.proofs.Common.{◌+◌, ◌*◌, ◌≡◌, ◌∙◌, List, length, replicate, refl, ap}
use Rattle.std.proofs.lemmas.List.{length-replicate}
use Rattle.cps_branch.specs.declared.tournament.Contender.{Contender}
use Rattle.cps_branch.specs.declared.ranking.Aside.{Aside}
use Rattle.cps_branch.specs.Tournament.{nobody, stands_at}
use Rattle.cps_branch.proofs.SetAside.{begun_ranking, no_one}
use Rattle.cps_branch.proofs.Lists.{refilled}
use Rattle.cps_branch.proofs.ranking.Ranking.over.Goals as goal

pub returns-clause-ranking : goal.returns-clause-ranking
returns-clause-ranking c =
    let n = c.args.count in
    let v = c.in_ok-nodes.nodes in
    let asides : c.in_ok-vec.field-0.items ≡ replicate n no_one = c.in_ok-vec.ensures.items_if_clones_equal (λ y e. e) in
    let same : length c.fill.new.nodes ≡ length v.items = c.fill.ensures.size ∙ ap (λ (xs : List Contender). length xs) c.deref_mut.ensures.value in
    let nodes : v.items ≡ replicate (2 * n) nobody = c.in_ok-nodes.ensures.items_if_clones_equal (λ y e. e) in
    let size : length c.fill.new.nodes ≡ 2 * n = same ∙ ap (λ (xs : List Contender). length xs) nodes ∙ length-replicate (2 * n) nobody in
    begun_ranking _ n c.fill.new.nodes c.requires (ap (λ (xs : List Aside). length xs) asides ∙ length-replicate n no_one) refl (refilled v.len v.items c.fill.new.nodes v.ok.0 same) size c.fill.ensures.won c.fill.ensures.each

pub returns-clause-idle : goal.returns-clause-idle
returns-clause-idle c = λ i l.
    let n = c.args.count in
    let v = c.in_ok-nodes.nodes in
    let same : length c.fill.new.nodes ≡ length v.items = c.fill.ensures.size ∙ ap (λ (xs : List Contender). length xs) c.deref_mut.ensures.value in
    ap (λ (xs : List Contender). (stands_at xs (n + i)).activity) (refilled v.len v.items c.fill.new.nodes v.ok.0 same) ∙ ap (λ (one : Contender). one.activity) (c.fill.ensures.each i l)
