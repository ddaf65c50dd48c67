-- Each value is within the bound already, or is kept within it.
use Rattle.std.proofs.Common.{rules, w64, FitsSigned}
use Rattle.std.proofs.lemmas.Int.{to_z-of_z}
use Rattle.cps_p_sequence.proofs.Layering.{more_kept, up_to_given, up_to_true}
use Rattle.cps_p_sequence.proofs.Keeping.{open_up_to}
use Rattle.cps_p_sequence.proofs.keep.keep_up_to.Goals as goal

pub returns : goal.returns
returns c =
    let s = c.args.store.now in
    let i = c.args.subject in
    let v = c.args.greatest in
    let old = c.args.found.now.items in
    let new = c.push.new.self.items in
    let n = c.given.result in
    let f : FitsSigned w64 v = search rules in
    let value = rw (to_z-of_z w64 v f) at c.given.ensures.value in
    record {
      given = λ b h. up_to_given s old new n c.in_ok-push.ensures.items i v c.given.ensures.subject value c.given.ensures.op b c.requires h;
      kept = more_kept s old new n c.in_ok-push.ensures.items;
      up_to = up_to_true s old new n c.in_ok-push.ensures.items i v c.given.ensures.subject value c.given.ensures.op;
    }

pub returns-then-max-greatest-clause-up_to : goal.returns-then-max-greatest-clause-up_to
returns-then-max-greatest-clause-up_to c =
    let number : FitsSigned w64 c.args.greatest = c.ranges.greatest in
    let fits : FitsSigned w64 c.max.result = search rules in
    λ all. open_up_to c.args.store.now c.args.subject c.domain.result.now c.args.greatest c.max.result c.domain.ensures c.max.ensures.greatest (simp to_z-of_z at c.if-max-greatest.true)
