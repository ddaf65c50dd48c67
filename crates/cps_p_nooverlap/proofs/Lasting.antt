-- How long spans take.
use Rattle.std.proofs.Common.{◌≡◌, ◌≤ℤ◌, ◌+ℤ◌, ℕ, ℤ, pos, Option, Some, List, sym, subst, arith}
use Rattle.std.proofs.lemmas.Int.{ints}
use Rattle.cps_literal.specs.Truth.{value_at}
use Rattle.cps_instance.specs.declared.task.Span.{Span}
use Rattle.cps_p_span.specs.Spans.{start_at, end_of}
use Rattle.cps_p_nooverlap.specs.Crowds.{LastsAt}

-- a span of a fixed length takes so long
pub lasts_far : (xs : List ℤ) (p : Span) (weight : ℕ) (far : ℤ) → p.length ≡ Some far → pos weight ≤ℤ far → LastsAt xs p weight
lasts_far xs p weight far is enough =
    subst (λ (o : Option ℤ). (start_at xs p +ℤ pos weight) ≤ℤ end_of o (value_at xs p.start) (value_at xs p.end)) (sym is) (omega (arith, ints))
