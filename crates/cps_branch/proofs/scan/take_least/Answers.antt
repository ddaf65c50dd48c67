-- The least value of a domain is the least that the store leaves, and a subject that is not fixed has others.
use Rattle.std.proofs.Common.{rules, FitsSigned, to_z, of_z, w64}
use Rattle.std.proofs.lemmas.Int.{to_z-of_z}
use Rattle.cps_branch.proofs.SelectedAtoms.{takes_least, undecided_least}
use Rattle.cps_branch.proofs.scan.take_least.Goals as goal

pub returns-clause-least : goal.returns-clause-least
returns-clause-least c =
    let f : FitsSigned w64 c.min.result = search rules in
    takes_least c.args.store.now c.args.subject c.domain.result.now _ c.min.result c.domain.ensures c.min.ensures.within c.min.ensures.least (to_z-of_z w64 c.min.result f)

pub returns-clause-undecided : goal.returns-clause-undecided
returns-clause-undecided c =
    let f : FitsSigned w64 c.min.result = search rules in
    let v = to_z w64 (of_z w64 c.min.result) in
    undecided_least c.args.store.now c.args.subject v c.requires.subject c.requires.open_now
    (takes_least c.args.store.now c.args.subject c.domain.result.now v c.min.result c.domain.ensures c.min.ensures.within c.min.ensures.least (to_z-of_z w64 c.min.result f))
