-- What was drafted is put in the place of what the list held.
use Rattle.std.proofs.Common.{◌∙◌, ◌++◌, List, sym, subst, ap, Ok}
use Rattle.cps_literal.specs.declared.atom.Atom.{Atom}
use Rattle.cps_instance.specs.Tasks.{HoldsTask}
use Rattle.cps_propagate.specs.Notes.{IsReasonBy}
use Rattle.cps_enforce.specs.Reasons.{task_of}
use Rattle.cps_enforce.proofs.Denials.{no_yes}
use Rattle.cps_enforce.proofs.explain.explain_by_rule.Goals as goal

pub draft_entry-requires-clause-within : goal.draft_entry-requires-clause-within
draft_entry-requires-clause-within g c = c.requires.within

pub draft_entry-requires-clause-fits : goal.draft_entry-requires-clause-fits
draft_entry-requires-clause-fits g c = c.requires.fits

pub returns : goal.returns
returns g c = λ _.
    let e = c.in_ok-extend_from_slice.ensures.items ∙ ap (λ (l : List Atom). l ++ c.as_slice.result.now) c.clear.ensures.items ∙ c.as_slice.ensures.value in
    subst (λ (l : List Atom). IsReasonBy (task_of c.args.enforcement.now (g.R.Rule.body c.args.rule.now)) c.args.asked.now.store.now c.args.asked.now.entry l) (sym e) (c.in_ok-is_made.ensures (ap Ok c.if-not-is_made.false))

pub returns-then-not-is_made : goal.returns-then-not-is_made
returns-then-not-is_made g c = λ ok. no_yes _ ok
