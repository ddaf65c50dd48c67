-- Each value is below the number already, or is kept below it.
use Rattle.std.proofs.Common.{◌≡◌, pos, ◌-ℤ◌, refl, rules, w64, FitsSigned, arith}
use Rattle.std.proofs.lemmas.Int.{ints, to_z-of_z}
use Rattle.cps_p_sequence.proofs.Finding.{at_most, more_given, more_kept, more_true, high_given, high_true}
use Rattle.cps_p_sequence.proofs.Keeping.{open_below}
use Rattle.cps_p_sequence.proofs.inverse.keep_below.Goals as goal

pub returns : goal.returns
returns c =
    let s = c.args.store.now in
    let i = c.args.subject in
    let old = c.args.found.now.items in
    let new = c.push.new.self.items in
    let n = c.given.result in
    let v = c.args.count -ℤ pos 1 in
    let t = at_most i v in
    let r = c.requires.count in
    let fc : FitsSigned w64 c.args.count = search rules in
    let fv : FitsSigned w64 v = omega (arith, ints) in
    let is-t : n.target ≡ t = rw (to_z-of_z w64 c.args.count fc, to_z-of_z w64 v fv) at c.given.ensures in
    record {
      given = λ b place gs. more_given s old new n t c.in_ok-push.ensures.items is-t b (high_given b s i c.args.count v refl c.requires.subject place) gs;
      kept = λ all. more_kept s old new n t c.in_ok-push.ensures.items is-t all;
      below = λ all x o. high_true s i c.args.count v refl (more_true s old new n t c.in_ok-push.ensures.items is-t all) x o;
    }

pub returns-then-max-count-clause-below : goal.returns-then-max-count-clause-below
returns-then-max-count-clause-below c =
    let number : FitsSigned w64 c.args.count = c.ranges.count in
    let fits : FitsSigned w64 c.max.result = search rules in
    λ all. open_below c.args.store.now c.args.subject c.domain.result.now c.args.count c.max.result c.domain.ensures c.max.ensures.greatest (simp to_z-of_z at c.if-max-count.true)
