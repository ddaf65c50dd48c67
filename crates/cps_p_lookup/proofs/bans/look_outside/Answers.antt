-- Each row so far is missed, and none of them is banned.
use Rattle.std.proofs.Common.{Ok, ap, length}
use Rattle.cps_p_lookup.proofs.Tables.{row_inside, banned_none, missed_seen, missed_rest, missed_more, missing_more}
use Rattle.cps_p_lookup.proofs.bans.look_outside.Goals as goal

pub visit-requires-clause-row : goal.visit-requires-clause-row
visit-requires-clause-row c = row_inside (length c.args.grid.now.values.now) (length c.args.grid.now.exprs.now) c.loop-row.row c.requires.some c.loop-row-test.true

pub returns-then-branch-clause-seen : goal.returns-then-branch-clause-seen
returns-then-branch-clause-seen c =
    let es = c.args.grid.now.exprs.now in
    let vs = c.args.grid.now.values.now in
    banned_none c.args.store.now es vs c.loop-row.row c.requires.some c.requires.fits (row_inside (length vs) (length es) c.loop-row.row c.requires.some c.loop-row-test.true) (c.in_ok-visit.ensures.banned (ap Ok c.if-branch.true))

pub loop-row-preserved : goal.loop-row-preserved
loop-row-preserved c = record {
  given = c.in_ok-visit.ensures.given;
  missed = missed_more c.args.store.now c.args.grid.now.exprs.now c.args.grid.now.values.now c.loop-row.row c.loop-row.invariant.missed (c.in_ok-visit.ensures.missed (ap Ok c.if-branch.false));
  rests = missing_more c.args.store.now c.args.grid.now.exprs.now c.args.grid.now.values.now c.loop-row.row c.loop-row.found.items _ c.loop-row.invariant.rests (c.in_ok-visit.ensures.rests (ap Ok c.if-branch.false));
}

pub returns-clause-rest : goal.returns-clause-rest
returns-clause-rest c = λ e trues. missed_rest c.args.store.now c.args.grid.now.exprs.now c.args.grid.now.values.now c.loop-row.row c.requires.some c.loop-row-test.false c.loop-row.invariant.missed (c.loop-row.invariant.rests trues)

pub returns-clause-seen : goal.returns-clause-seen
returns-clause-seen c = missed_seen c.args.store.now c.args.grid.now.exprs.now c.args.grid.now.values.now c.loop-row.row c.requires.some c.loop-row-test.false c.loop-row.invariant.missed
