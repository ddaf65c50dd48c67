-- The rule has what the body has.
use Rattle.std.proofs.Common.{ℕ, List, sym, ap, ◌∙◌}
use Rattle.cps_p_lookup.specs.Bodies.{element_of}
use Rattle.cps_p_lookup.proofs.element.Element.new.Goals as goal

pub returns : goal.returns
returns c = ap (λ (es : List ℕ). element_of c.in-Element.index c.in-Element.target es) (c.from_vec.ensures ∙ c.in_ok-from_slice-in-Element.ensures.items ∙ c.as_slice.ensures) ∙ sym c.in-Element.is
