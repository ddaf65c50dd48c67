use Rattle.std.proofs.Common.{◌≡◌, ℕ, ◌<◌, ◌≤ℤ◌, ◌-ℤ◌, None, subst, rules, FitsSigned, get_or}
use Rattle.std.specs.Prelude.{IfSome}
use Rattle.std.proofs.lemmas.Int.{to_z-of_z}
use mir.Syntax.{w128}
use Rattle.cps_instance.specs.declared.task.Span.{Span}
use Rattle.cps_trail.specs.Trail.{IsInside}
use Rattle.cps_p_span.specs.Spans.{SaysOfTimes, KeepsStartFrom, KeepsEndUpTo, start_at, end_at, lead, no_seen}
use Rattle.cps_p_span.proofs.Timing.{IfSome-map}
use Rattle.cps_p_span.proofs.Pairing.{start_given, end_given, gives_proposed}
use Rattle.cps_p_span.proofs.Settling.{proposed, in_order}
use Rattle.cps_p_span.proofs.pairs.follow.Goals as goal

pub bounds-seen-pair : goal.bounds-seen-pair
bounds-seen-pair c = subst (λ (n : ℕ). c.args.pair.before < n) c.requires.known.each c.requires.pair.before

pub bounds-seen-pair-2 : goal.bounds-seen-pair-2
bounds-seen-pair-2 c = subst (λ (n : ℕ). c.args.pair.after < n) c.requires.known.each c.requires.pair.after

pub returns-clause-given : goal.returns-clause-given
returns-clause-given c =
    let vs = c.args.seen.now in
    let p = c.args.pair in
    let fa : FitsSigned w128 (get_or c.args.seen.now c.args.pair.before no_seen).times.end_low = search rules in
    let fb : FitsSigned w128 (get_or c.args.seen.now c.args.pair.after no_seen).times.start_high = search rules in
    let d = c.index-spans-pair.result in
    let e = c.index-spans-pair-2.result in
    let first = subst (λ (z : Span). IfSome c.later_start-start.result (λ u. SaysOfTimes z u (λ xs. (get_or vs p.before no_seen).times.end_low ≤ℤ start_at xs z))) c.index-spans-pair.is (rw (to_z-of_z w128 (get_or c.args.seen.now c.args.pair.before no_seen).times.end_low fa) at c.later_start-start.ensures.says) in
    let second = subst (λ (z : Span). IfSome c.earlier_end-end.result (λ u. SaysOfTimes z u (λ xs. end_at xs z ≤ℤ (get_or vs p.after no_seen).times.start_high))) c.index-spans-pair-2.is (rw (to_z-of_z w128 (get_or c.args.seen.now c.args.pair.after no_seen).times.start_high fb) at c.earlier_end-end.ensures.says) in
    λ s are b order h. gives_proposed b s c.earlier_end-end.result c.propose.new.found.items c.propose-2.new.found.items
    (IfSome-map c.earlier_end-end.result (λ u q. end_given s c.args.spans.now c.args.seen.now are.spans are.seen b p e u c.requires.pair order q) second) c.in_ok-propose-2.ensures
    (gives_proposed b s c.later_start-start.result c.args.found.now.items c.propose.new.found.items
    (IfSome-map c.later_start-start.result (λ u q. start_given s c.args.spans.now c.args.seen.now are.spans are.seen b p d u c.requires.pair order q) first) c.in_ok-propose.ensures h)

pub returns-clause-rest : goal.returns-clause-rest
returns-clause-rest c =
    let vs = c.args.seen.now in
    let p = c.args.pair in
    let fa : FitsSigned w128 (get_or c.args.seen.now c.args.pair.before no_seen).times.end_low = search rules in
    let fb : FitsSigned w128 (get_or c.args.seen.now c.args.pair.after no_seen).times.start_high = search rules in
    let start = subst (λ (z : Span). IfSome c.later_start-start.result (KeepsStartFrom z (get_or vs p.before no_seen).times.end_low)) c.index-spans-pair.is (rw (to_z-of_z w128 (get_or c.args.seen.now c.args.pair.before no_seen).times.end_low fa) at c.later_start-start.ensures.now) in
    let no_start = rw (to_z-of_z w128 (get_or c.args.seen.now c.args.pair.before no_seen).times.end_low fa) at c.later_start-start.ensures.none in
    let end' = subst (λ (z : Span). IfSome c.earlier_end-end.result (KeepsEndUpTo z (get_or vs p.after no_seen).times.start_high)) c.index-spans-pair-2.is (rw (to_z-of_z w128 (get_or c.args.seen.now c.args.pair.after no_seen).times.start_high fb) at c.earlier_end-end.ensures.now) in
    let no_end = rw (to_z-of_z w128 (get_or c.args.seen.now c.args.pair.after no_seen).times.start_high fb) at c.earlier_end-end.ensures.none in
    λ s are h.
    let two = proposed s c.earlier_end-end.result c.propose.new.found.items c.propose-2.new.found.items c.in_ok-propose-2.ensures h in
    let one = proposed s c.later_start-start.result c.args.found.now.items c.propose.new.found.items c.in_ok-propose.ensures two.0 in (
      one.0,
      λ fits d. in_order s c.args.spans.now vs are p c.index-spans-pair.result c.index-spans-pair-2.result c.later_start-start.result c.earlier_end-end.result c.requires.pair start no_start end'
          (subst (λ (z : Span). c.earlier_end-end.result ≡ None → IsInside ((get_or vs p.after no_seen).times.start_high -ℤ lead z.length) → (get_or vs p.before no_seen).times.end_high ≤ℤ (get_or vs p.after no_seen).times.start_high) c.index-spans-pair-2.is no_end) one.1 two.1 fits d,
    )
