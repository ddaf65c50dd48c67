-- A subject has a value and no other where it is its least and its greatest one.
use Rattle.std.proofs.Common.{rules, of_z, FitsSigned, w64}
use Rattle.cps_p_lookup.proofs.Meeting.{read_same, test_same, single_by}
use Rattle.cps_p_lookup.proofs.bans.is_single.Goals as goal

pub returns-then-low-value-clause-yes : goal.returns-then-low-value-clause-yes
returns-then-low-value-clause-yes c =
    let a = c.min-low.result in
    let b = c.max-high.result in
    let v = c.args.value in
    let fa : FitsSigned w64 a = search rules in
    let fb : FitsSigned w64 b = search rules in
    λ e. single_by c.args.store.now c.args.subject c.domain-domain.result.now a b v c.domain-domain.ensures c.min-low.ensures.least c.max-high.ensures.greatest
    (read_same a v fa c.ranges.value c.if-low-value.true) (read_same b v fb c.ranges.value (test_same (of_z w64 b) (of_z w64 v) e))
