-- The ends of a sum are one pair.
use Rattle.std.proofs.Common.{◌≡◌, List, [], ◌∷◌, Bool, refl, sym, ◌∙◌, arith, ℤ, ◌*ℤ◌, ◌≤ℤ◌}
use Rattle.std.proofs.lemmas.Int.{ints}
use Rattle.cps_model.specs.Values.{variable_of}
use Rattle.cps_validate.specs.Signs.{with_sign_of}
use Rattle.cps_unit.specs.Boxes.{Box}
use Rattle.cps_log.specs.Boxes.{Spans, HasEnds}

-- two numbers that are the same
pub record AreSame (a b c d : ℤ) : Type 0 where
  pub lows : a ≡ b
  pub highs : c ≡ d

antisymmetric : (x y : ℤ) → x ≤ℤ y → y ≤ℤ x → x ≡ y
antisymmetric x y p q = omega (arith, ints)

pub spans_unique : (admits : ℤ → Bool) (f : ℤ → ℤ) (l h l' h' : ℤ) → Spans admits f l h → Spans admits f l' h' → AreSame l l' h h'
spans_unique admits f l h l' h' s t =
    let low = s.lowest in
    let low' = t.lowest in
    let high = s.highest in
    let high' = t.highest in
    record {
      lows = antisymmetric l l' (rw (← low'.2) (s.above low'.0 low'.1)) (rw (← low.2) (t.above low.0 low.1));
      highs = antisymmetric h h' (rw (← high.2) (t.below high.0 high.1)) (rw (← high'.2) (s.below high'.0 high'.1));
    }

pub ends_unique : (box : Box) (vars coeffs : List ℤ) (l h l' h' : ℤ) → HasEnds box vars coeffs l h → HasEnds box vars coeffs l' h' → AreSame l l' h h'
ends_unique box [] cs l h l' h' e f = record { lows = e.0 ∙ sym f.0; highs = e.1 ∙ sym f.1 }
ends_unique box (r ∷ rs) [] l h l' h' e f = record { lows = e.0 ∙ sym f.0; highs = e.1 ∙ sym f.1 }
ends_unique box (r ∷ rs) (c ∷ cs) l h l' h' e f =
    let here = spans_unique (box (variable_of r)) (λ x. c *ℤ with_sign_of r x) e.0 e.1 f.0 f.1 e.4 f.4 in
    let rest = ends_unique box rs cs e.2 e.3 f.2 f.3 e.5 f.5 in
    record { lows = rw (e.6, f.6, here.lows, rest.lows) refl; highs = rw (e.7, f.7, here.highs, rest.highs) refl }
