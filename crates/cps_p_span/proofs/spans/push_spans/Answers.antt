use Rattle.std.proofs.Common.{◌≡◌, ◌++◌, List, subst}
use Rattle.cps_literal.specs.declared.atom.Atom.{Atom}
use Rattle.cps_instance.specs.Tasks.{atom_subjects}
use Rattle.cps_p_span.proofs.Resting.{more_subjects}
use Rattle.cps_p_span.proofs.spans.push_spans.Goals as goal

pub loop-span-preserved : goal.loop-span-preserved
loop-span-preserved c = more_subjects c.args.subjects.now.items c.loop-span.subjects.items c.push.new.self.items c.push-in-loop-span.new.self.items c.push_atom_subjects.new.subjects.items c.args.spans.now c.loop-span.span-index c.span-item.result c.loop-span-test.true c.span-item.is
    c.loop-span.invariant c.in_ok-push.ensures.items c.in_ok-push-2.ensures.items
    (subst (λ (us : List Atom). c.push_atom_subjects.new.subjects.items ≡ c.push-in-loop-span.new.self.items ++ atom_subjects us) c.as_slice.ensures c.in_ok-push_atom_subjects.ensures)
