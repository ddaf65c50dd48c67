use Rattle.std.proofs.Common.{List, ◌≤◌, ◌-◌, ◌≡◌, length, take, ap, arith}
use Rattle.std.proofs.lemmas.List.{length-take-le}
use Rattle.cps_trail.specs.Trail.{Entry, up_to}
use Rattle.cps_trail.proofs.Marks.{up_to-up_to}
use Rattle.cps_clauses.proofs.GuardsByLevel.{length-up_to}
use Rattle.cps_clauses.proofs.propagate.end_below.Goals as goal

pub returns-else-level-eq0-clause-end : goal.returns-else-level-eq0-clause-end
returns-else-level-eq0-clause-end c = λ l less.
    let s = c.args.store.now in
    let up : length (take c.end_of.result c.args.store.now.entries) ≡ c.end_of.result = length-take-le c.end_of.result c.args.store.now.entries c.end_of.ensures.within in
    let at : length (take c.end_of.result c.args.store.now.entries) ≡ length (up_to (c.level-level.result - 1) c.args.store.now.entries) = ap (λ (es : List Entry). length es) c.end_of.ensures.front in
    let low : length (up_to l (up_to (c.level-level.result - 1) c.args.store.now.entries)) ≤ length (up_to (c.level-level.result - 1) c.args.store.now.entries) = length-up_to l (up_to (c.level-level.result - 1) c.args.store.now.entries) in
    let same : length (up_to l (up_to (c.level-level.result - 1) c.args.store.now.entries)) ≡ length (up_to l c.args.store.now.entries) = ap (λ (es : List Entry). length es) (up_to-up_to l (c.level-level.result - 1) c.args.store.now.entries (omega (arith, less, c.level-level.ensures.is))) in
    omega (arith, up, at, low, same)
