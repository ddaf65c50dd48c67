-- Each arm tests what its two comparisons ask.
use Rattle.std.proofs.Common.{false, sym, ap, refl}
use Rattle.std.specs.Prelude.{not}
use Rattle.cps_literal.specs.declared.atom.Op.TheVariants.{Le, Ge, Eq, Ne}
use Rattle.cps_literal.proofs.Implying.{by_arm, code_le, code_lt, code_eq, le_other, ge_other, ne_other}
use Rattle.cps_literal.proofs.atom.op_implies.Goals as goal

pub returns-in-Le-Le : goal.returns-in-Le-Le
returns-in-Le-Le c = by_arm c.args.op Le c.args.other Le c.args.value c.args.bound _ c.in-Le-Le.is-0 c.in-Le-Le.is-1 (code_le c.args.value c.args.bound c.ranges.value c.ranges.bound)

pub returns-in-Le-Ne : goal.returns-in-Le-Ne
returns-in-Le-Ne c = by_arm c.args.op Le c.args.other Ne c.args.value c.args.bound _ c.in-Le-Ne.is-0 c.in-Le-Ne.is-1 (code_lt c.args.value c.args.bound c.ranges.value c.ranges.bound)

pub returns-in-Ge-Ge : goal.returns-in-Ge-Ge
returns-in-Ge-Ge c = by_arm c.args.op Ge c.args.other Ge c.args.value c.args.bound _ c.in-Ge-Ge.is-0 c.in-Ge-Ge.is-1 (code_le c.args.bound c.args.value c.ranges.bound c.ranges.value)

pub returns-in-Ge-Ne : goal.returns-in-Ge-Ne
returns-in-Ge-Ne c = by_arm c.args.op Ge c.args.other Ne c.args.value c.args.bound _ c.in-Ge-Ne.is-0 c.in-Ge-Ne.is-1 (code_lt c.args.bound c.args.value c.ranges.bound c.ranges.value)

pub returns-in-Eq-Le : goal.returns-in-Eq-Le
returns-in-Eq-Le c = by_arm c.args.op Eq c.args.other Le c.args.value c.args.bound _ c.in-Eq-Le.is-0 c.in-Eq-Le.is-1 (code_le c.args.value c.args.bound c.ranges.value c.ranges.bound)

pub returns-in-Eq-Ge : goal.returns-in-Eq-Ge
returns-in-Eq-Ge c = by_arm c.args.op Eq c.args.other Ge c.args.value c.args.bound _ c.in-Eq-Ge.is-0 c.in-Eq-Ge.is-1 (code_le c.args.bound c.args.value c.ranges.bound c.ranges.value)

pub returns-in-Eq-Eq : goal.returns-in-Eq-Eq
returns-in-Eq-Eq c = by_arm c.args.op Eq c.args.other Eq c.args.value c.args.bound _ c.in-Eq-Eq.is-0 c.in-Eq-Eq.is-1 (code_eq c.args.value c.args.bound c.ranges.value c.ranges.bound)

pub returns-in-Eq-Ne : goal.returns-in-Eq-Ne
returns-in-Eq-Ne c = by_arm c.args.op Eq c.args.other Ne c.args.value c.args.bound _ c.in-Eq-Ne.is-0 c.in-Eq-Ne.is-1 (ap not (code_eq c.args.value c.args.bound c.ranges.value c.ranges.bound))

pub returns-in-Ne-Ne : goal.returns-in-Ne-Ne
returns-in-Ne-Ne c = by_arm c.args.op Ne c.args.other Ne c.args.value c.args.bound _ c.in-Ne-Ne.is-0 c.in-Ne-Ne.is-1 (code_eq c.args.value c.args.bound c.ranges.value c.ranges.bound)

pub returns-in_default : goal.returns-in_default
returns-in_default c = by_arm c.args.op Le c.args.other c.args.other c.args.value c.args.bound false c.in_default.is-0 refl (sym (le_other c.args.value c.args.bound c.args.other c.in_default.not-Le-1 c.in_default.not-Ne-1))

pub returns-in_default-2 : goal.returns-in_default-2
returns-in_default-2 c = by_arm c.args.op Ge c.args.other c.args.other c.args.value c.args.bound false c.in_default.is-0 refl (sym (ge_other c.args.value c.args.bound c.args.other c.in_default.not-Ge-1 c.in_default.not-Ne-1))

pub returns-in_default-3 : goal.returns-in_default-3
returns-in_default-3 c = by_arm c.args.op Ne c.args.other c.args.other c.args.value c.args.bound false c.in_default.is-0 refl (sym (ne_other c.args.value c.args.bound c.args.other c.in_default.not-Ne-1))
