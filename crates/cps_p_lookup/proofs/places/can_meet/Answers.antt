-- Where one of the domains has a single value the other is asked for it, and else their ends are compared.
use Rattle.std.specs.Prelude.{int_le}
use Rattle.std.proofs.Common.{◌≡◌, ◌∙◌, ℤ, ◌≤ℤ◌, true, false, sym, ap, of_z, arith, rules, FitsSigned, w64}
use Rattle.std.proofs.lemmas.Int.{to_z-of_z, ints}
use Rattle.cps_domain.proofs.Tests.{false_le, true_le}
use Rattle.cps_p_lookup.proofs.Meeting.{read_same, single_apart}
use Rattle.cps_p_lookup.proofs.Opening.{meeting_at, meeting_ends}
use Rattle.cps_p_lookup.proofs.places.can_meet.Goals as goal

between : (a b x : ℤ) → int_le a b ≡ false → a ≤ℤ x → x ≤ℤ b → ⊥
between a b x e p q = let l = false_le a b e in omega (arith, ints)

pub returns-then-low-greatest-clause-apart : goal.returns-then-low-greatest-clause-apart
returns-then-low-greatest-clause-apart c =
    let a = c.min-least.result in
    let b = c.max-high.result in
    let fa : FitsSigned w64 a = search rules in
    let fb : FitsSigned w64 b = search rules in
    rw (to_z-of_z w64 a fa, to_z-of_z w64 b fb) (λ e x p q. between a b x e (c.min-least.ensures.least x q) (c.max-high.ensures.greatest x p))

pub returns-else-low-greatest-clause-apart : goal.returns-else-low-greatest-clause-apart
returns-else-low-greatest-clause-apart c =
    let a = c.min-low.result in
    let b = c.max-greatest.result in
    let fa : FitsSigned w64 a = search rules in
    let fb : FitsSigned w64 b = search rules in
    rw (to_z-of_z w64 a fa, to_z-of_z w64 b fb) (λ e x p q. between a b x e (c.min-low.ensures.least x p) (c.max-greatest.ensures.greatest x q))

pub returns-then-low-high-clause-apart : goal.returns-then-low-high-clause-apart
returns-then-low-high-clause-apart c =
    let a = c.min-low.result in
    let b = c.max-high.result in
    let fa : FitsSigned w64 a = search rules in
    let fb : FitsSigned w64 b = search rules in
    λ no x p q. single_apart c.args.target.now c.args.expr.now a b (read_same a b fa fb c.if-low-high.true) c.min-low.ensures.least c.max-high.ensures.greatest (rw (to_z-of_z w64 a fa) at (sym c.contains.ensures ∙ no)) x p q

pub returns-then-least-greatest-clause-apart : goal.returns-then-least-greatest-clause-apart
returns-then-least-greatest-clause-apart c =
    let a = c.min-least.result in
    let b = c.max-greatest.result in
    let fa : FitsSigned w64 a = search rules in
    let fb : FitsSigned w64 b = search rules in
    λ no x p q. single_apart c.args.expr.now c.args.target.now a b (read_same a b fa fb c.if-least-greatest.true) c.min-least.ensures.least c.max-greatest.ensures.greatest (rw (to_z-of_z w64 a fa) at (sym c.contains-then-least-greatest.ensures ∙ no)) x q p

pub returns-then-low-high-clause-meet : goal.returns-then-low-high-clause-meet
returns-then-low-high-clause-meet c =
    let a = c.min-low.result in
    let fa : FitsSigned w64 a = search rules in
    λ yes'. meeting_at c.args.expr.now c.args.target.now a c.min-low.ensures.within (rw (to_z-of_z w64 a fa) at (sym c.contains.ensures ∙ yes'))

pub returns-then-least-greatest-clause-meet : goal.returns-then-least-greatest-clause-meet
returns-then-least-greatest-clause-meet c =
    let a = c.min-least.result in
    let fa : FitsSigned w64 a = search rules in
    λ yes'. meeting_at c.args.expr.now c.args.target.now a (rw (to_z-of_z w64 a fa) at (sym c.contains-then-least-greatest.ensures ∙ yes')) c.min-least.ensures.within

pub returns-then-low-greatest-clause-meet : goal.returns-then-low-greatest-clause-meet
returns-then-low-greatest-clause-meet c =
    let a = c.min-low.result in
    let b = c.max-high.result in
    let l = c.min-least.result in
    let g = c.max-greatest.result in
    let fa : FitsSigned w64 a = search rules in
    let fb : FitsSigned w64 b = search rules in
    let fl : FitsSigned w64 l = search rules in
    let fg : FitsSigned w64 g = search rules in
    let up : int_le a g ≡ true = rw (to_z-of_z w64 a fa, to_z-of_z w64 g fg) at c.if-low-greatest.true in
    rw (to_z-of_z w64 l fl, to_z-of_z w64 b fb) (λ down. meeting_ends c.args.expr.now c.args.target.now a b l g c.min-low.ensures.within c.max-high.ensures.within c.min-least.ensures.within c.max-greatest.ensures.within
    (λ e. c.if-low-high.false (ap (of_z w64) e)) (λ e. c.if-least-greatest.false (ap (of_z w64) e)) (true_le a g up) (true_le l b down))
