use Rattle.std.proofs.Common.{true, sym, arith}
use Rattle.std.proofs.lemmas.List.{set_past}
use Rattle.cps_clauses.proofs.forget.mark.Goals as goal

pub returns-else-number-len : goal.returns-else-number-len
returns-else-number-len c = sym (set_past c.args.marks.now.items c.args.number true (omega arith))
