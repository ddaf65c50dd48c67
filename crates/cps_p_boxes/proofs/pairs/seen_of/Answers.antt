use Rattle.std.proofs.Common.{List, ℕ, ◌<◌, length, sym, subst}
use Rattle.cps_p_span.specs.declared.seen.Seen.{Seen}
use Rattle.cps_p_boxes.proofs.pairs.seen_of.Goals as goal

pub read-requires : goal.read-requires
read-requires c = subst (λ (vs : List Seen). c.args.place < length vs) (sym c.as_slice.ensures.value) (subst (λ (n : ℕ). c.args.place < n) c.requires.direction.each c.requires.place)
