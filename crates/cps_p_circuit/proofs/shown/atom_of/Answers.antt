-- A literal or its opposite says what a sign says, and its value is near 0.
use Rattle.std.proofs.Common.{rules, pos, get_or, FitsSigned, w64}
use Rattle.cps_literal.specs.declared.atom.Op.TheVariants.{Le}
use Rattle.cps_p_circuit.proofs.Literals.{itself, opposite}
use Rattle.cps_p_circuit.proofs.shown.atom_of.Goals as goal

pub returns-then-sign : goal.returns-then-sign
returns-then-sign c =
    let fits : FitsSigned w64 (get_or c.args.literals.now c.args.sign.arc (record { subject = 0; op = Le; value = pos 0 })).value = search rules in
    itself c.args.literals.now c.args.sign (record { subject = 0; op = Le; value = pos 0 }) c.if-sign-literals.false fits c.if-literal-lt0.false c.if-literal-gt1.false c.if-sign.true

pub returns : goal.returns
returns c =
    let fits : FitsSigned w64 c.negate-opposite.result.value = search rules in
    opposite c.args.literals.now c.args.sign (record { subject = 0; op = Le; value = pos 0 }) c.negate-opposite.result c.if-sign-literals.false fits c.if-opposite.false c.if-opposite-gt-FARTHEST.false c.if-sign.false c.negate-opposite.ensures.subject c.negate-opposite.ensures.negated
