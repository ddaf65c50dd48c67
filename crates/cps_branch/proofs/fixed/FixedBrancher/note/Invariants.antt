-- The counts so far.
use Rattle.std.proofs.Common.{ℕ, ◌≡◌, ◌<◌, ◌≤◌, length, get_or}
use Rattle.cps_branch.proofs.fixed.FixedBrancher.note.Given as goal

abbrev pub invariant-loop-seen : goal.invariant-loop-seen
invariant-loop-seen l = record {
  plan : l.self-inside.plan ≡ l.initial.self-inside.plan;
  same_known : l.self-inside.known ≡ l.initial.self-inside.known;
  same_length : length l.self-inside.fixed_after.items ≡ length l.initial.self-inside.fixed_after.items;
  kept : (i : ℕ) → i < l.initial.self-inside.known → get_or l.self-inside.fixed_after.items i 0 ≡ get_or l.initial.self-inside.fixed_after.items i 0;
  added : (i : ℕ) → l.initial.self-inside.known ≤ i → i < l.seen → get_or l.self-inside.fixed_after.items i 0 ≡ l.count;
}
