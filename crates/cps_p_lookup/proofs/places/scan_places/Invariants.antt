use Rattle.std.proofs.Common.{ℕ, ◌≤◌, ◌<◌, ◌-◌, pos, length, get_or}
use Rattle.std.specs.List.{All}
use Rattle.cps_instance.specs.declared.task.Body.TheVariants.{Element}
use Rattle.cps_rule.specs.Rules.{IsGiven}
use Rattle.cps_p_lookup.specs.Elements.{IsSeenAt, IsLastOpen, IsBetween}
use Rattle.cps_propagate.specs.Now.{IsOpenTo}
use Rattle.cps_propagate.specs.Lookups.{IsOpenPlace}
use Rattle.cps_p_lookup.specs.Resting.{AreTrue}
use Rattle.cps_p_lookup.proofs.places.scan_places.Given as goal

abbrev pub invariant-loop-place : goal.invariant-loop-place
invariant-loop-place l = record {
  given : All (λ n. IsGiven (Element l.lookup.index l.lookup.target l.lookup.exprs.now) l.store n.target) l.found.items;
  seen : (k : ℕ) → l.from ≤ k → k < l.place → k < length l.lookup.exprs.now → IsSeenAt l.store l.lookup.index l.lookup.target (get_or l.lookup.exprs.now k 0) k l.scan;
  last : IsLastOpen l.store l.lookup.index l.lookup.target l.lookup.exprs.now l.place l.scan;
  within : AreTrue l.store l.found.items → 0 < length l.lookup.exprs.now → IsBetween l.store l.lookup.index (pos 0) (pos (length l.lookup.exprs.now - 1));
  places : AreTrue l.store l.found.items → (k : ℕ) → l.from ≤ k → k < l.place → IsOpenTo l.store l.lookup.index (pos k) → IsOpenPlace l.store l.lookup.index l.lookup.target l.lookup.exprs.now k;
}
