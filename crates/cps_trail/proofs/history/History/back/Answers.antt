-- Each step leaves one of the entries fewer, until as many as were asked for are left.
use Rattle.std.proofs.Common.{ap, arith, length, ◌≤◌, ◌<◌, ◌∙◌}
use Rattle.cps_trail.specs.Changes.{Past}
use Rattle.cps_trail.proofs.Facts.{entries_length}
use Rattle.cps_trail.proofs.Popping.{popped_length, popped_entries, back_done}
use Rattle.cps_trail.proofs.history.History.back.Goals as goal

pub pop-requires : goal.pop-requires
pop-requires c =
    let i = c.self.inside in
    omega (arith, c.loop-self-test.true, c.len.ensures, i.entries.ok.0, entries_length i.reasons.items i.entries.items, ap (λ (p : Past). length p.entries) c.self.view_is)

pub loop-self-smaller : goal.loop-self-smaller
loop-self-smaller c =
    let i = c.self.inside in
    let some : 0 < length c.loop-self.self.entries = omega (arith, c.loop-self-test.true, c.len.ensures, i.entries.ok.0, entries_length i.reasons.items i.entries.items, ap (λ (p : Past). length p.entries) c.self.view_is) in
    omega (arith, popped_length c.loop-self.self.entries c.pop.new.self.entries some (ap (λ (p : Past). p.entries) c.pop.ensures))

pub loop-self-preserved : goal.loop-self-preserved
loop-self-preserved c =
    let i = c.self.inside in
    let more : c.args.mark < length c.loop-self.self.entries = omega (arith, c.loop-self-test.true, c.len.ensures, i.entries.ok.0, entries_length i.reasons.items i.entries.items, ap (λ (p : Past). length p.entries) c.self.view_is) in
    let some : 0 < length c.loop-self.self.entries = omega (arith, more) in
    let popped = ap (λ (p : Past). p.entries) c.pop.ensures in
    record {
      first = ap (λ (p : Past). p.first) c.pop.ensures ∙ c.loop-self.invariant.first;
      entries = popped_entries c.args.self.now.entries c.loop-self.self.entries c.pop.new.self.entries some c.loop-self.invariant.entries popped;
      above = omega (arith, more, popped_length c.loop-self.self.entries c.pop.new.self.entries some popped);
    }

pub returns : goal.returns
returns c =
    let i = c.self.inside in
    let below : length c.loop-self.self.entries ≤ c.args.mark = omega (arith, c.loop-self-test.false, c.len.ensures, i.entries.ok.0, entries_length i.reasons.items i.entries.items, ap (λ (p : Past). length p.entries) c.self.view_is) in
    back_done c.args.self.now c.loop-self.self c.args.mark c.loop-self.invariant.first c.loop-self.invariant.entries c.loop-self.invariant.above below
