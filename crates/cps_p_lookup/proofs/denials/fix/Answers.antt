use Rattle.cps_p_lookup.proofs.Excluding.{sure_gives}
use Rattle.cps_p_lookup.proofs.denials.fix.Goals as goal

pub returns : goal.returns
returns c = λ e. sure_gives c.args.past.now c.args.grid.now.exprs.now c.args.grid.now.values.now c.in-Some.row c.row_at-values.result.now c.args.goal c.clear.new.self.items c.fix_row.new.facts.items c.requires.some c.in-Some.ensures c.row_at-values.ensures.same c.row_at-values.ensures.long c.clear.ensures.items (c.fix_row.ensures e)
