use Rattle.std.proofs.Common.{length, arith}
use Rattle.cps_p_cumulative.proofs.Moves.{count_free, count_tied, none_of, some_of}
use Rattle.cps_p_cumulative.proofs.tank.Tank.count.Goals as goal

pub returns-then-is_empty : goal.returns-then-is_empty
returns-then-is_empty c =
    let k = c.args.self.now in
    let a = c.min-count.ensures in
    let b = c.len.ensures in
    let d = c.len-2.ensures in
    let e = count_free k.times k.changes k.active (none_of (length k.active) c.is_empty.result c.is_empty.ensures c.if-is_empty.true) in
    omega arith

pub returns : goal.returns
returns c =
    let k = c.args.self.now in
    let a = c.min-count.ensures in
    let b = c.len.ensures in
    let d = c.len-2.ensures in
    let f = c.len-3.ensures in
    let g = c.min.ensures in
    let e = count_tied k.times k.changes k.active (some_of (length k.active) c.is_empty.result c.is_empty.ensures c.if-is_empty.false) in
    omega arith
