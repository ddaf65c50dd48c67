-- The places from those that are known on have the count.
use Rattle.std.proofs.Common.{◌≤◌, length, sym, ap, arith}
use Rattle.cps_branch.specs.Scope.{InOrder}
use Rattle.cps_branch.specs.Strategies.{order_in}
use Rattle.cps_branch.proofs.FixedSubjects.{notes_to}
use Rattle.cps_branch.proofs.fixed.FixedBrancher.note.Goals as goal

pub returns-clause-notes : goal.returns-clause-notes
returns-clause-notes c =
    let i = c.self.inside in
    let e = c.loop-seen.invariant in
    let room : c.args.place ≤ length c.loop-seen.self-inside.fixed_after.items = omega (arith, c.requires.high, c.self.invariant.1, e.same_length, ap (λ (b : InOrder). length (order_in b.plan)) c.self.view_is) in
    notes_to i.known c.loop-seen.seen c.args.place c.args.count c.args.self.now.fixed_after i.fixed_after.items c.loop-seen.self-inside.fixed_after.items (sym (ap (λ (b : InOrder). b.fixed_after) c.self.view_is)) c.self.invariant.0 c.requires.low (omega arith) room e.kept e.added
