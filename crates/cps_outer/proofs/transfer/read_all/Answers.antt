-- Where there is no memory for the bytes of the last read, the source has lost them.
use Rattle.std.proofs.Common.{◌+◌, ◌≤◌, length, take, arith}
use Rattle.std.proofs.lemmas.List.{length-take}
use Rattle.cps_outer.proofs.Parts.{part_read}
use Rattle.cps_outer.proofs.transfer.read_all.Goals as goal

pub returns-then-is_err-clause-bytes : goal.returns-then-is_err-clause-bytes
returns-then-is_err-clause-bytes g c =
    let few : length c.loop-buf.bytes.items + length (take c.in-Ok.count c.read_piece.new.buf) ≤ c.args.limit + 1 = let e = length-take c.in-Ok.count c.read_piece.new.buf in let f = c.in-Ok.ensures.count.0 in let v = c.loop-buf.bytes.ok in omega arith in
    part_read _ _ _ c.loop-buf.bytes.items (take c.in-Ok.count c.read_piece.new.buf) (c.args.limit + 1) c.loop-buf.invariant.read c.in-Ok.ensures.bytes.0 few
