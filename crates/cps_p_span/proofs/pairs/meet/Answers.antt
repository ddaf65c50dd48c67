-- Of two present spans, one that cannot come first comes after the other.
use Rattle.std.proofs.Common.{ℕ, ◌<◌, ◌<ℤ◌, ◌≤ℤ◌, false, inl, inr, get_or, sym, subst, rules, length, arith}
use Rattle.std.proofs.lemmas.Int.{ints}
use Rattle.cps_instance.specs.declared.task.Body.TheVariants.{NoOverlap}
use Rattle.cps_p_span.specs.declared.pairs.Pair.{Pair}
use Rattle.cps_p_span.specs.Spans.{Orders, no_seen, IsPair}
use Rattle.cps_p_span.proofs.Pairing.{comes, swapped_pair}
use Rattle.cps_p_span.proofs.Settling.{settled_open, settled_forth, settled_back}
use Rattle.cps_p_span.proofs.Refusing.{refused, on_ok_of}
use Rattle.cps_p_span.proofs.pairs.meet.Goals as goal
use Rattle.cps_p_span.proofs.pairs.meet.Goals.{else-not-forth-via-then-not-forth+else-not-back, else-not-forth-via-else-not-forth}

pub bounds-seen-pair : goal.bounds-seen-pair
bounds-seen-pair c = subst (λ (n : ℕ). c.args.pair.before < n) c.requires.known.each c.requires.pair.before

pub bounds-seen-pair-2 : goal.bounds-seen-pair-2
bounds-seen-pair-2 c = subst (λ (n : ℕ). c.args.pair.after < n) c.requires.known.each c.requires.pair.after

pub returns-in_ok-follow-clause-given : goal.returns-in_ok-follow-clause-given
returns-in_ok-follow-clause-given c =
    let late : (get_or c.args.seen.now c.args.pair.before no_seen).times.start_high <ℤ (get_or c.args.seen.now c.args.pair.after no_seen).times.end_low = search rules in
    λ s are. c.in_ok-follow.ensures.given s are (NoOverlap c.args.spans.now) (comes s c.args.spans.now c.args.seen.now are.spans are.seen c.args.pair c.requires.pair late c.if-before.true c.if-after.true)

pub returns-in_ok-follow-2-clause-given : goal.returns-in_ok-follow-2-clause-given
returns-in_ok-follow-2-clause-given c =
    let late : (get_or c.args.seen.now c.args.pair.after no_seen).times.start_high <ℤ (get_or c.args.seen.now c.args.pair.before no_seen).times.end_low = search rules in
    λ s are. c.in_ok-follow-2.ensures.given s are (NoOverlap c.args.spans.now) (subst (λ (q : Pair). Orders (NoOverlap c.args.spans.now) s c.args.spans.now q) (sym c.swapped.ensures)
    (comes s c.args.spans.now c.args.seen.now are.spans are.seen (record { before = c.args.pair.after; after = c.args.pair.before }) (swapped_pair _ c.args.pair c.requires.pair) late c.if-after.true c.if-before.true))

pub returns-in_ok-follow-clause-allowed : goal.returns-in_ok-follow-clause-allowed
returns-in_ok-follow-clause-allowed c = λ e a b. elim c.else-not-forth.branch [
  | else-not-forth-via-then-not-forth+else-not-back w ↦ inr (search rules)
  | else-not-forth-via-else-not-forth w ↦ inl (search rules)
]

pub returns-in_ok-follow-2-clause-allowed : goal.returns-in_ok-follow-2-clause-allowed
returns-in_ok-follow-2-clause-allowed c = λ e a b. elim c.else-not-forth.branch [
  | else-not-forth-via-then-not-forth+else-not-back w ↦ inr (search rules)
  | else-not-forth-via-else-not-forth w ↦ inl (search rules)
]

pub returns-else-not-forth-2-clause-allowed : goal.returns-else-not-forth-2-clause-allowed
returns-else-not-forth-2-clause-allowed c = λ e a b. elim c.else-not-forth.branch [
  | else-not-forth-via-then-not-forth+else-not-back w ↦ inr (search rules)
  | else-not-forth-via-else-not-forth w ↦ inl (search rules)
]

pub returns-then-not-back-clause-rest : goal.returns-then-not-back-clause-rest
returns-then-not-back-clause-rest c e = λ s are h.
    let forth : (get_or c.args.seen.now c.args.pair.after no_seen).times.start_high <ℤ (get_or c.args.seen.now c.args.pair.before no_seen).times.end_low = search (rules, c.if-not-forth.true) in
    let back : (get_or c.args.seen.now c.args.pair.before no_seen).times.start_high <ℤ (get_or c.args.seen.now c.args.pair.after no_seen).times.end_low = search (rules, c.if-not-back.true) in
    (on_ok_of c.clash.result false e c.clash.ensures.kept s h, λ a b d. elim (c.clash.ensures.allowed e a b) [ inl q ↦ absurd (omega (arith, ints)) | inr q ↦ absurd (omega (arith, ints)) ])

pub returns-in_ok-follow-clause-rest : goal.returns-in_ok-follow-clause-rest
returns-in_ok-follow-clause-rest c e = λ s are h.
    let late : (get_or c.args.seen.now c.args.pair.before no_seen).times.start_high <ℤ (get_or c.args.seen.now c.args.pair.after no_seen).times.end_low = search rules in
    let forth : (get_or c.args.seen.now c.args.pair.before no_seen).times.end_low ≤ℤ (get_or c.args.seen.now c.args.pair.after no_seen).times.start_high = elim c.else-not-forth.branch [
      | else-not-forth-via-then-not-forth+else-not-back w ↦ (let back : (get_or c.args.seen.now c.args.pair.after no_seen).times.end_low ≤ℤ (get_or c.args.seen.now c.args.pair.before no_seen).times.start_high = search rules in absurd (omega (arith, ints)))
      | else-not-forth-via-else-not-forth w ↦ search rules
    ] in
    let r = c.in_ok-follow.ensures.rest s are h in
    (r.0, settled_forth s c.args.spans.now c.args.seen.now are c.args.pair c.requires.pair forth (r.1 forth))

pub returns-in_ok-follow-2-clause-rest : goal.returns-in_ok-follow-2-clause-rest
returns-in_ok-follow-2-clause-rest c e = λ s are h.
    let back : (get_or c.args.seen.now c.args.pair.after no_seen).times.end_low ≤ℤ (get_or c.args.seen.now c.args.pair.before no_seen).times.start_high = search rules in
    let r = c.in_ok-follow-2.ensures.rest s are h in
    (r.0, settled_back s c.args.spans.now c.args.seen.now are c.args.pair c.swapped.result c.swapped.ensures c.requires.pair back r.1)

pub returns-else-not-forth-2-clause-rest : goal.returns-else-not-forth-2-clause-rest
returns-else-not-forth-2-clause-rest c e = λ s are h.
    let forth : (get_or c.args.seen.now c.args.pair.before no_seen).times.end_low ≤ℤ (get_or c.args.seen.now c.args.pair.after no_seen).times.start_high = search rules in
    let back : (get_or c.args.seen.now c.args.pair.after no_seen).times.end_low ≤ℤ (get_or c.args.seen.now c.args.pair.before no_seen).times.start_high = search rules in
    (h, settled_open s c.args.spans.now c.args.seen.now are c.args.pair c.requires.pair forth back)

pub clash-requires-clause-known : goal.clash-requires-clause-known
clash-requires-clause-known c = c.requires.known

pub clash-requires-clause-pair : goal.clash-requires-clause-pair
clash-requires-clause-pair c = c.requires.pair

pub follow-requires-clause-known : goal.follow-requires-clause-known
follow-requires-clause-known c = c.requires.known

pub follow-requires-clause-pair : goal.follow-requires-clause-pair
follow-requires-clause-pair c = c.requires.pair

pub follow-requires-then-not-forth-2-clause-known : goal.follow-requires-then-not-forth-2-clause-known
follow-requires-then-not-forth-2-clause-known c = c.requires.known

pub follow-requires-then-not-forth-2-clause-pair : goal.follow-requires-then-not-forth-2-clause-pair
follow-requires-then-not-forth-2-clause-pair c = subst (λ (q : Pair). IsPair (length c.args.spans.now) q) (sym c.swapped.ensures) (swapped_pair _ c.args.pair c.requires.pair)

pub returns-then-not-back-clause-given : goal.returns-then-not-back-clause-given
returns-then-not-back-clause-given c = c.clash.ensures.given

pub returns-then-not-back-clause-impossible : goal.returns-then-not-back-clause-impossible
returns-then-not-back-clause-impossible c = c.clash.ensures.impossible

pub returns-then-not-back-clause-allowed : goal.returns-then-not-back-clause-allowed
returns-then-not-back-clause-allowed c = c.clash.ensures.allowed

pub returns-in_ok-follow-clause-impossible : goal.returns-in_ok-follow-clause-impossible
returns-in_ok-follow-clause-impossible c e = refused e

pub returns-in_ok-follow-2-clause-impossible : goal.returns-in_ok-follow-2-clause-impossible
returns-in_ok-follow-2-clause-impossible c e = refused e

pub returns-else-not-forth-2-clause-impossible : goal.returns-else-not-forth-2-clause-impossible
returns-else-not-forth-2-clause-impossible c e = refused e

pub returns-else-before-clause-impossible : goal.returns-else-before-clause-impossible
returns-else-before-clause-impossible c e = refused e

pub clash-requires-clause-forth : goal.clash-requires-clause-forth
clash-requires-clause-forth c = search (rules, c.if-not-forth.true)

pub clash-requires-clause-back : goal.clash-requires-clause-back
clash-requires-clause-back c = search (rules, c.if-not-back.true)
