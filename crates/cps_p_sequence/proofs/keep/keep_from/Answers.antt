-- Each value is within the bound already, or is kept within it.
use Rattle.std.proofs.Common.{rules, w64, FitsSigned}
use Rattle.std.proofs.lemmas.Int.{to_z-of_z}
use Rattle.cps_p_sequence.proofs.Layering.{more_kept, from_given, from_true}
use Rattle.cps_p_sequence.proofs.Keeping.{open_from}
use Rattle.cps_p_sequence.proofs.keep.keep_from.Goals as goal

pub returns : goal.returns
returns c =
    let s = c.args.store.now in
    let i = c.args.subject in
    let v = c.args.least in
    let old = c.args.found.now.items in
    let new = c.push.new.self.items in
    let n = c.given.result in
    let f : FitsSigned w64 v = search rules in
    let value = rw (to_z-of_z w64 v f) at c.given.ensures.value in
    record {
      given = λ b h. from_given s old new n c.in_ok-push.ensures.items i v c.given.ensures.subject value c.given.ensures.op b c.requires h;
      kept = more_kept s old new n c.in_ok-push.ensures.items;
      from = from_true s old new n c.in_ok-push.ensures.items i v c.given.ensures.subject value c.given.ensures.op;
    }

pub returns-then-least-min-clause-from : goal.returns-then-least-min-clause-from
returns-then-least-min-clause-from c =
    let number : FitsSigned w64 c.args.least = c.ranges.least in
    let fits : FitsSigned w64 c.min.result = search rules in
    λ all. open_from c.args.store.now c.args.subject c.domain.result.now c.args.least c.min.result c.domain.ensures c.min.ensures.least (simp to_z-of_z at c.if-least-min.true)
