use Rattle.std.proofs.Common.{◌≡◌, drop}
use Rattle.cps_lex.specs.declared.escapes.Place.TheVariants.{Inside}
use Rattle.cps_lex.specs.Scan.{closing}
use Rattle.cps_lex.proofs.text.closing.Given as goal

abbrev pub invariant-loop-i : goal.invariant-loop-i
invariant-loop-i l = closing l.quote l.place l.i (drop l.i l.after) ≡ closing l.quote Inside 0 l.after
