-- No value is negative already, or each is kept from being so.
use Rattle.std.proofs.Common.{pos, rules, w64, FitsSigned}
use Rattle.std.proofs.lemmas.Int.{to_z-of_z}
use Rattle.cps_p_sequence.proofs.Finding.{at_least, more_given, more_kept, more_true, low_given, low_true}
use Rattle.cps_p_sequence.proofs.Keeping.{open_from}
use Rattle.cps_p_sequence.proofs.inverse.keep_from_zero.Goals as goal

pub returns : goal.returns
returns c =
    let s = c.args.store.now in
    let i = c.args.subject in
    let old = c.args.found.now.items in
    let new = c.push.new.self.items in
    let n = c.given.result in
    let t = at_least i (pos 0) in
    record {
      given = λ b count place gs. more_given s old new n t c.in_ok-push.ensures.items c.given.ensures b (low_given b s i count c.requires place) gs;
      kept = λ all. more_kept s old new n t c.in_ok-push.ensures.items c.given.ensures all;
      least = λ all x o. low_true s i (more_true s old new n t c.in_ok-push.ensures.items c.given.ensures all) x o;
    }

pub returns-then-min-ge0-clause-least : goal.returns-then-min-ge0-clause-least
returns-then-min-ge0-clause-least c =
    let fits : FitsSigned w64 c.min.result = search rules in
    λ all. open_from c.args.store.now c.args.subject c.domain.result.now (pos 0) c.min.result c.domain.ensures c.min.ensures.least (simp to_z-of_z at c.if-min-ge0.true)
