use Rattle.std.proofs.Common.{w64, FitsSigned, rules}
use Rattle.std.proofs.lemmas.Int.{to_z-of_z}
use Rattle.cps_p_linear.proofs.Reaches.{hull_of}
use Rattle.cps_p_linear.proofs.ends.ends_now.Goals as goal

pub returns : goal.returns
returns c =
    let m = c.min.result in
    let n = c.max.result in
    let fm : FitsSigned w64 c.min.result = search rules in
    let fn : FitsSigned w64 c.max.result = search rules in
    rw (to_z-of_z w64 m fm, to_z-of_z w64 n fn) (hull_of c.args.store.now c.args.term.now c.domain-domain.result.now (record { low = m; high = n }) c.requires.sound c.domain-domain.ensures c.min.ensures.within c.min.ensures.least c.min.ensures.low
    c.max.ensures.within c.max.ensures.greatest c.max.ensures.high)
