-- No interval so far is crowded.
use Rattle.std.proofs.Common.{ℕ, ◌<◌, ◌≤◌, ◌≤ℤ◌, inl, inr, pos, rules, FitsSigned, w64, sym, subst, length, get_or}
use Rattle.std.proofs.lemmas.Int.{to_z-of_z}
use Rattle.std.proofs.lemmas.List.{get_or_default}
use Rattle.cps_p_alldiff.specs.declared.interval.Interval.{Interval}
use Rattle.cps_p_alldiff.specs.Intervals.{covered, numbers, IsInRange}
use Rattle.cps_p_alldiff.proofs.NoCrowds.{last_or}
use Rattle.cps_p_alldiff.proofs.judge.scan_from.Goals as goal

abbrev no_ends : Interval
no_ends = record { low = pos 0; high = pos 0 }

pub loop-each-preserved : goal.loop-each-preserved
loop-each-preserved c k d l = elim (last_or k c.loop-each.each-index l) [
  | inl i ↦ c.loop-each.invariant k d i
  | inr i ↦
      let es = c.args.ends.now in
      let n = c.loop-each.each-index in
      let m : n < length es = c.loop-each-test.true in
      let low = c.args.low.now.low in
      let e = get_or es n no_ends in
      let fl : FitsSigned w64 low = search rules in
      let fh : FitsSigned w64 e.high = search rules in
      let tried = rw (to_z-of_z w64 low fl, to_z-of_z w64 e.high fh) at (c.is_overfull.ensures.no c.if-is_overfull.false) in
      let range : IsInRange (record { low = low; high = e.high }) = record { low = c.requires.low.low; high = (c.requires.ends n no_ends m).range.high } in
      let P : Interval → Type 0 = λ g. low ≤ℤ g.high → covered (record { low = low; high = g.high }) es ≤ numbers (record { low = low; high = g.high }) in
      let Q : ℕ → Type 0 = λ u. P (get_or es u d) in
      subst Q (sym i) (subst P (get_or_default es n no_ends d m) (λ o. tried (record { range = range; ordered = o })))
]

pub returns-then-is_overfull : goal.returns-then-is_overfull
returns-then-is_overfull c = c.is_overfull.ensures.yes c.if-is_overfull.true
