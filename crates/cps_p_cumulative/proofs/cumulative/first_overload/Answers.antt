-- Where no time is over the greatest capacity all loads have room, and where one is they have none.
use Rattle.std.specs.Prelude.{unsigned_abs}
use Rattle.std.proofs.Common.{◌≡◌, ◌<◌, ℕ, pos, List, length, refl, sym, subst, rules, FitsSigned, w64, arith}
use Rattle.std.specs.List.{All}
use Rattle.std.proofs.lemmas.Int.{ints, to_z-of_z}
use Rattle.cps_instance.specs.declared.task.Span.{Span}
use Rattle.cps_instance.specs.Tasks.{span_subjects}
use Rattle.cps_p_cumulative.specs.declared.part.Part.{Part}
use Rattle.cps_p_cumulative.specs.Profile.{AreParts}
use Rattle.cps_p_cumulative.proofs.Levelled.{no_none}
use Rattle.cps_p_cumulative.proofs.RestLaw.{impossible-none, impossible-of, capacity-of}
use Rattle.cps_p_cumulative.proofs.SpanDemands.{true_lt}
use Rattle.cps_p_cumulative.proofs.cumulative.first_overload.Goals as goal

pub returns-in-Some-clause-over : goal.returns-in-Some-clause-over
returns-in-Some-clause-over c =
    let s = c.args.past.now in
    let r = c.args.resource.now in
    let most = c.ends-most.result.1 in
    let f : FitsSigned w64 most = search rules in
    let low = c.if-most-lt0.false in
    let e : pos (unsigned_abs most) ≡ most = omega (arith, ints) in
    let over = rw (to_z-of_z w64 most f) at c.in_ok-found_time.ensures in
    impossible-of s r c.as_slice.result.now c.as_slice-2.result.now c.as_slice-3.result.now c.measure.new.parts.items (unsigned_abs most) most c.in-Some.time c.in_ok-found_time.found_time c.requires.inside c.as_slice.ensures c.as_slice-2.ensures c.as_slice-3.ensures.value c.in_ok-measure.ensures
    c.in-Some.is over e c.ends-most.ensures.greatest c.requires.demands

pub returns-clause-rest : goal.returns-clause-rest
returns-clause-rest c = λ ok.
    let s = c.args.past.now in
    let r = c.args.resource.now in
    let most = c.ends-most.result.1 in
    let f : FitsSigned w64 most = search rules in
    let low = c.if-most-lt0.false in
    let e : pos (unsigned_abs most) ≡ most = omega (arith, ints) in
    let fits = rw (to_z-of_z w64 most f) at c.in_ok-found_time.ensures in
    capacity-of s r c.as_slice.result.now c.as_slice-2.result.now c.as_slice-3.result.now c.measure.new.parts.items (unsigned_abs most) most c.in_ok-found_time.found_time c.as_slice.ensures c.as_slice-2.ensures c.as_slice-3.ensures.value c.in_ok-measure.ensures
    c.in_default.not-Some fits e c.ends-most.ensures.high

pub ends-most-requires : goal.ends-most-requires
ends-most-requires c = c.requires.inside.capacity

pub returns-then-most-lt0-clause-over : goal.returns-then-most-lt0-clause-over
returns-then-most-lt0-clause-over c =
    let most = c.ends-most.result.1 in
    let f : FitsSigned w64 most = search rules in
    impossible-none c.args.past.now c.args.resource.now most c.requires.inside.capacity c.ends-most.ensures.greatest (true_lt most (pos 0) (rw (to_z-of_z w64 most f) at c.if-most-lt0.true))

pub overloaded_window-requires : goal.overloaded_window-requires
overloaded_window-requires c = c.requires.inside

pub measure-requires-clause-spans : goal.measure-requires-clause-spans
measure-requires-clause-spans c = subst (λ (ps : List Span). All (λ i. i < length c.args.past.now.first) (span_subjects ps)) (sym c.as_slice.ensures) c.requires.inside.spans

pub measure-requires-clause-demands : goal.measure-requires-clause-demands
measure-requires-clause-demands c = subst (λ (ds : List ℕ). All (λ i. i < length c.args.past.now.first) ds) (sym c.as_slice-2.ensures) c.requires.inside.demands

pub overload-requires-clause-parts : goal.overload-requires-clause-parts
overload-requires-clause-parts c = subst (λ (l : List Part). AreParts l) (sym c.as_slice-3.ensures.value) c.in_ok-measure.ensures.good

pub returns-then-most-lt0-clause-rest : goal.returns-then-most-lt0-clause-rest
returns-then-most-lt0-clause-rest c = λ ok. no_none _ _ ok refl

pub returns-in-Some-clause-rest : goal.returns-in-Some-clause-rest
returns-in-Some-clause-rest c = λ ok. no_none _ _ ok refl
