-- A byte that leads on and does not close leaves the quote to be looked for behind it.
use Rattle.std.proofs.Common.{sym, ◌∙◌}
use Rattle.std.proofs.lemmas.List.{drop_more}
use Rattle.cps_lex.proofs.Stepping.{closing_on}
use Rattle.cps_lex.proofs.text.closing.Goals as goal

pub loop-i-preserved : goal.loop-i-preserved
loop-i-preserved c =
    closing_on c.args.quote c.loop-i.place c.in-Some.next _ _ c.loop-i.i _ _ _ (sym c.in-Some.ensures) (sym c.is_closed.ensures ∙ c.if-is_closed.false) (drop_more c.args.after.now c.loop-i.i 0 c.loop-i-test.true)
    c.loop-i.invariant
