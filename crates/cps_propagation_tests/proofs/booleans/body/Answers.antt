use Rattle.std.proofs.Common.{◌≡◌, ◌∙◌, List, subst, sym}
use Rattle.std.specs.List.{All}
use Rattle.cps_literal.specs.declared.atom.Atom.{Atom}
use Rattle.cps_propagation_tests.specs.Bits.{IsBit}
use Rattle.cps_propagation_tests.proofs.BitFits.{or_over_bits, and_over_bits, at_most_one_over_bits, exactly_one_over_bits, xor_over_bits}
use Rattle.cps_propagation_tests.proofs.booleans.body.Goals as goal

over : (us vs : List Atom) → us ≡ vs → All (IsBit 0 4) vs → All (IsBit 0 4) us
over us vs e h = subst (λ (ws : List Atom). All (IsBit 0 4) ws) (sym e) h

pub returns-in-Or : goal.returns-in-Or
returns-in-Or c = or_over_bits _ (over c.from_vec-list.result c.args.atoms.now (c.from_vec-list.ensures ∙ c.in_ok-from_slice.ensures.items) c.requires)

pub returns-in-And : goal.returns-in-And
returns-in-And c = and_over_bits _ (over c.from_vec-list.result c.args.atoms.now (c.from_vec-list.ensures ∙ c.in_ok-from_slice.ensures.items) c.requires)

pub returns-in-AtMostOne : goal.returns-in-AtMostOne
returns-in-AtMostOne c = at_most_one_over_bits _ (over c.from_vec-list.result c.args.atoms.now (c.from_vec-list.ensures ∙ c.in_ok-from_slice.ensures.items) c.requires)

pub returns-in-ExactlyOne : goal.returns-in-ExactlyOne
returns-in-ExactlyOne c = exactly_one_over_bits _ (over c.from_vec-list.result c.args.atoms.now (c.from_vec-list.ensures ∙ c.in_ok-from_slice.ensures.items) c.requires)

pub returns-in-Xor : goal.returns-in-Xor
returns-in-Xor c = xor_over_bits _ (over c.from_vec-list.result c.args.atoms.now (c.from_vec-list.ensures ∙ c.in_ok-from_slice.ensures.items) c.requires)
