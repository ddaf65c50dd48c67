use Rattle.cps_p_bool.proofs.Reduced.{enforcement_fit, sure_fit, live_fit, reasoned}
use Rattle.cps_p_bool.proofs.boolean.Boolean.explain_by_note.Goals as goal

pub explain_entry-requires-clause-fits : goal.explain_entry-requires-clause-fits
explain_entry-requires-clause-fits c = enforcement_fit c.args.store.now c.self.inside.enforcement.items _ _ _ _ _ _ c.self.invariant c.self.view_is c.requires.fits c.as_slice-enforcement.result.now c.as_slice-enforcement.ensures.value

pub explain_entry-requires-clause-sure_fits : goal.explain_entry-requires-clause-sure_fits
explain_entry-requires-clause-sure_fits c = sure_fit c.args.store.now c.self.inside.enforcement.items _ _ _ _ _ _ c.self.invariant c.self.view_is c.requires.fits c.as_slice-sure.result.now c.as_slice-sure.ensures.value

pub explain_entry-requires-clause-live_fits : goal.explain_entry-requires-clause-live_fits
explain_entry-requires-clause-live_fits c = live_fit c.args.store.now c.self.inside.enforcement.items _ _ _ _ _ _ c.self.invariant c.self.view_is c.requires.fits c.as_slice-live.result.now c.as_slice-live.ensures.value

pub returns : goal.returns
returns c = λ is. reasoned c.args.store.now c.self.inside.enforcement.items _ _ _ _ _ _ c.self.invariant c.self.view_is c.requires.fits c.args.entry c.explain_entry.new.reason.items c.as_slice-enforcement.result.now c.as_slice-sure.result.now c.as_slice-live.result.now
    c.as_slice-enforcement.ensures.value c.as_slice-sure.ensures.value c.as_slice-live.ensures.value (c.explain_entry.ensures is)
