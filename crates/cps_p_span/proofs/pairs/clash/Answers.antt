use Rattle.std.proofs.Common.{ℕ, ◌<◌, sym, subst}
use Rattle.cps_p_span.specs.declared.pairs.Pair.{Pair}
use Rattle.cps_p_span.specs.Spans.{IsAbsent}
use Rattle.cps_p_span.proofs.Pairing.{neither, absent_before, absent_after}
use Rattle.cps_p_span.proofs.pairs.clash.Goals as goal

pub bounds-seen-pair : goal.bounds-seen-pair
bounds-seen-pair c = subst (λ (n : ℕ). c.args.pair.before < n) c.requires.known.each c.requires.pair.before

pub bounds-seen-pair-2 : goal.bounds-seen-pair-2
bounds-seen-pair-2 c = subst (λ (n : ℕ). c.args.pair.after < n) c.requires.known.each c.requires.pair.after

pub returns-then-after-clause-impossible : goal.returns-then-after-clause-impossible
returns-then-after-clause-impossible c e = λ s are. neither s c.args.spans.now c.args.seen.now are.spans are.seen c.args.pair c.requires.pair c.requires.forth c.requires.back c.if-before.true c.if-after.true

pub exclude-requires-clause-absent : goal.exclude-requires-clause-absent
exclude-requires-clause-absent c = λ s are. absent_before s c.args.spans.now c.args.seen.now are.spans are.seen c.args.pair c.requires.pair c.requires.forth c.requires.back c.if-after-2.true

pub exclude-requires-then-before-2-clause-absent : goal.exclude-requires-then-before-2-clause-absent
exclude-requires-then-before-2-clause-absent c = subst (λ (q : Pair). IsAbsent c.args.spans.now c.args.seen.now q.before) (sym c.swapped.ensures) (λ s are. absent_after s c.args.spans.now c.args.seen.now are.spans are.seen c.args.pair c.requires.pair c.requires.forth c.requires.back c.if-before-2.true)
