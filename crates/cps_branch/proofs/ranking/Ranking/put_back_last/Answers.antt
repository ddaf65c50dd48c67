-- The last that went aside is in play again.
use Rattle.std.proofs.Common.{ℕ, ◌-◌, ◌∙◌, ap, sym, arith}
use Rattle.std.proofs.lemmas.List.{get_or_default}
use Rattle.cps_branch.specs.declared.ranking.Aside.{Aside}
use Rattle.cps_branch.specs.SetAside.{aside_at}
use Rattle.cps_branch.proofs.SetAside.{last_named, no_one, one_aside_fewer}
use Rattle.cps_branch.proofs.ranking.Ranking.put_back_last.Goals as goal

pub set_in_play-requires-clause-variable : goal.set_in_play-requires-clause-variable
set_in_play-requires-clause-variable c = last_named c.args.self.now c.index-last.result.now c.requires.ranking c.requires.some c.index-last.ensures

pub returns-clause-ranking : goal.returns-clause-ranking
returns-clause-ranking c =
    let e = c.set_in_play.ensures in
    let items = c.args.self.now.aside.items in
    let place = c.args.self.now.out - 1 in
    let is = ap (λ (a : Aside). a.variable) (c.index-last.ensures ∙ get_or_default items place c.index-last.result.now no_one (omega (arith, c.requires.ranking.within, c.requires.some))) ∙ ap (λ (k : ℕ). (aside_at items k).variable) (sym e.aside.out) in
    one_aside_fewer c.args.self.now _ _ c.requires.ranking e.size e.won e.others _ e.aside.aside (omega (arith, e.aside.out, c.requires.some)) is e.here
