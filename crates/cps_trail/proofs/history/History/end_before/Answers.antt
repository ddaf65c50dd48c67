use Rattle.std.proofs.Common.{get_or, arith}
use Rattle.std.proofs.lemmas.List.{length-take}
use Rattle.cps_trail.proofs.LastEnds.{some_entry}
use Rattle.cps_trail.proofs.history.History.end_before.Goals as goal

pub end_at-requires : goal.end_at-requires
end_at-requires c =
    let es = c.args.self.now.entries in
    let last = c.last_before.ensures (some_entry es c.args.entry c.requires) in
    omega (arith, last.within, c.requires, length-take c.args.entry es)

pub returns : goal.returns
returns c = λ d. c.end_at.ensures c.args.entry (get_or c.args.self.now.entries c.args.entry d).atom.subject (omega (arith, c.requires)) (c.last_before.ensures d)
