use Rattle.std.proofs.Common.{rules, ◌+◌, ◌<◌, ◌≤◌, length}
use Rattle.cps_p_arith.proofs.Resting.{NarrowsUpTo, narrows_target, narrows_member, narrows_over, narrows_all, passed_over}
use Rattle.cps_p_arith.proofs.narrow.narrow.Goals as goal
use Rattle.cps_p_arith.proofs.narrow.narrow.Goals.{then-is_worth_trying+in_ok-narrow_place-2, else-is_worth_trying}

pub loop-k-init : goal.loop-k-init
loop-k-init c =
    narrows_target c.args.bounds.now c.args.demand.now c.target.result c.args.found.now.items c.narrow_place.new.found.items c.target.ensures.subject c.target.ensures.ends
    c.in_ok-narrow_place.ensures.implied c.in_ok-narrow_place.ensures.tried

pub loop-k-preserved : goal.loop-k-preserved
loop-k-preserved c =
    let l : c.loop-k.k < length c.args.demand.now.exprs.items = search rules in
    elim c.if-is_worth_trying.branch [
      | then-is_worth_trying+in_ok-narrow_place-2 w ↦ (
          let h : NarrowsUpTo c.args.bounds.now c.args.demand.now (c.loop-k.k + 1) c.if-is_worth_trying.found.items =
          rw w.found-is (narrows_member c.args.bounds.now c.args.demand.now c.loop-k.k c.member-place.result c.loop-k.found.items w.narrow_place-then-is_worth_trying.new.found.items l c.member-place.ensures.is
          c.loop-k.invariant w.in_ok-narrow_place-2.ensures.implied w.in_ok-narrow_place-2.ensures.tried) in h)
      | else-is_worth_trying w ↦ (
          let no = w.if-is_worth_trying.false in
          let h : NarrowsUpTo c.args.bounds.now c.args.demand.now (c.loop-k.k + 1) c.if-is_worth_trying.found.items =
          rw w.found-is (narrows_over c.args.bounds.now c.args.demand.now c.loop-k.k c.loop-k.found.items c.loop-k.invariant
          (passed_over c.args.demand.now c.args.bounds.now c.loop-k.k c.only_reaching-only.result c.is_at-is_only.result c.requires.len l (rw c.as_slice.ensures.value at c.only_reaching-only.ensures) c.is_at-is_only.ensures
          (c.is_worth_trying.ensures.relation no) (rw c.member-place.ensures.is at c.is_worth_trying.ensures.high no) (rw c.member-place.ensures.is at c.is_worth_trying.ensures.low no))) in h)
    ]

pub returns-clause-implied : goal.returns-clause-implied
returns-clause-implied c = c.loop-k.invariant.implied

pub returns-clause-tried : goal.returns-clause-tried
returns-clause-tried c =
    let past : length c.args.demand.now.exprs.items ≤ c.loop-k.k = search rules in
    narrows_all c.args.bounds.now c.args.demand.now c.loop-k.k c.loop-k.found.items past c.loop-k.invariant
