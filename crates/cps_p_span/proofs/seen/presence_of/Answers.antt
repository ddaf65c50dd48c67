-- The first atom that is not true is the only one, or it is false, or another one is not true either.
use Rattle.std.proofs.Common.{◌<◌, length, arith}
use Rattle.cps_p_span.proofs.Presences.{each_true, but_one, not_all, not_alone, not_unknown}
use Rattle.cps_p_span.proofs.seen.presence_of.Goals as goal
use Rattle.cps_p_span.proofs.seen.presence_of.Goals.{else-is_open-via-then-is_open+else-first_untrue-none, else-is_open-via-else-is_open}

pub returns-then-open-none : goal.returns-then-open-none
returns-then-open-none c = each_true c.args.store.now c.args.atoms.now c.first_untrue-open.result c.if-open-none.true c.first_untrue-open.ensures.passed

pub returns-then-first_untrue-none : goal.returns-then-first_untrue-none
returns-then-first_untrue-none c =
    let below : c.first_untrue-open.result < length c.args.atoms.now = omega (arith, c.first_untrue-open.ensures.within, c.if-open-none.false) in
    but_one c.args.store.now c.args.atoms.now c.first_untrue-open.result c.first_untrue.result below c.first_untrue-open.ensures.found c.first_untrue-open.ensures.passed c.first_untrue.ensures.passed c.if-first_untrue-none.true

pub returns : goal.returns
returns c =
    let s = c.args.store.now in
    let us = c.args.atoms.now in
    let m = c.first_untrue-open.result in
    let below : m < length us = omega (arith, c.first_untrue-open.ensures.within, c.if-open-none.false) in
    not_all s us m below c.first_untrue-open.ensures.found (λ k d i unknown same rest.
    elim c.else-is_open.branch [
      | else-is_open-via-then-is_open+else-first_untrue-none w ↦
          not_alone s us m k w.first_untrue.result same w.first_untrue.ensures.begins w.first_untrue.ensures.within w.first_untrue.ensures.found w.if-first_untrue-none.false rest
      | else-is_open-via-else-is_open w ↦
          not_unknown s us m k d _ c.truth.result c.is_open-is_open.result i same c.truth.ensures.yes c.truth.ensures.no c.is_open-is_open.ensures w.if-is_open.false unknown
    ])
