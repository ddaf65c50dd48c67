-- One more is aside, out of play.
use Rattle.std.proofs.Common.{ℕ, ◌∙◌, List, set, ap, arith}
use Rattle.cps_branch.specs.declared.ranking.Aside.{Aside}
use Rattle.cps_branch.proofs.SetAside.{front_more, one_aside_more}
use Rattle.cps_branch.proofs.ranking.Ranking.set_aside.Goals as goal

pub returns-clause-ranking : goal.returns-clause-ranking
returns-clause-ranking c =
    let e = c.set_in_play.ensures in
    let one : Aside = record { variable = c.args.variable; after = c.args.after } in
    let stored = ap (λ (k : ℕ). set c.set_in_play.new.self.aside.items k one) e.aside.out ∙ ap (λ (xs : List Aside). set xs c.args.self.now.out one) e.aside.aside in
    one_aside_more c.args.self.now _ c.args.variable c.requires.ranking e.size e.won e.others c.args.after _ c.requires.leads stored (omega (arith, e.aside.out)) e.here

pub returns-clause-aside : goal.returns-clause-aside
returns-clause-aside c =
    let e = c.set_in_play.ensures in
    let one : Aside = record { variable = c.args.variable; after = c.args.after } in
    let stored = ap (λ (k : ℕ). set c.set_in_play.new.self.aside.items k one) e.aside.out ∙ ap (λ (xs : List Aside). set xs c.args.self.now.out one) e.aside.aside in
    front_more c.args.self.now.out _ c.args.self.now.aside.items _ one c.requires.room stored (omega (arith, e.aside.out))
