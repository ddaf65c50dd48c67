use Rattle.std.proofs.Common.{rules, arith, ap, sym, subst, length, ◌≡◌, ◌≤◌, ltb, List, ℕ, true, false}
use Rattle.std.specs.List.Sorted.{IsPartitionedBy, IsPartitionPoint}
use Rattle.std.proofs.lemmas.List.Sorted.{IsPartitionPoint-from_clause}
use Rattle.cps_trail.specs.Trail.{Trail, IsLevelOf}
use Rattle.cps_trail.proofs.Times.{marks_parted, IsLevelOf-parted}
use Rattle.cps_trail.proofs.store.Store.level_of.Goals as goal

pub returns : goal.returns
returns c =
    let h = c.self.inside.history in
    let m = c.self.inside.marks.items in
    let level = c.partition_point.result in
    let enough : c.args.count ≤ length c.self.inside.history.entries = subst (λ (s : Trail). c.args.count ≤ length s.entries) (sym c.self.view_is) c.requires in
    let same : c.deref.result.now ≡ c.self.inside.marks.items = search rules in
    let parted = IsPartitionPoint-from_clause (λ n. ltb n c.args.count) c.deref.result.now level c.partition_point.ensures.partitioned
    (subst (λ (l : List ℕ). IsPartitionedBy (λ n. ltb n c.args.count) l) (sym same) (marks_parted h.first h.entries m c.args.count c.self.invariant)) (λ a r q k. search rules) in
    subst (λ (s : Trail). IsLevelOf s c.args.count c.partition_point.result) c.self.view_is (IsLevelOf-parted h.first h.entries m c.self.inside.refused c.args.count level c.self.invariant enough (omega (arith, c.partition_point.ensures.bound, ap (λ (l : List ℕ). length l) same))
    (subst (λ (l : List ℕ). IsPartitionPoint (λ n. ltb n c.args.count ≡ true) (λ n. ltb n c.args.count ≡ false) l c.partition_point.result) same parted))
