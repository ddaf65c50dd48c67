-- The start and the end come first, and then the subjects of the atoms.
use Rattle.std.proofs.Common.{◌∙◌, ◌++◌, ◌∷◌, [], List, ap}
use Rattle.cps_literal.specs.declared.atom.Atom.{Atom}
use Rattle.cps_instance.specs.Tasks.{atom_subjects}
use Rattle.cps_p_cumulative.proofs.SpanDemands.{spread, on_ok}
use Rattle.cps_p_cumulative.proofs.resource.push_span_subjects.Goals as goal

pub returns : goal.returns
returns c =
    on_ok c.push_atom_subjects.result _ _ c.push_atom_subjects.ensures (λ pushed.
    spread c.args.subjects.now.items c.push.new.self.items c.push-2.new.self.items c.push_atom_subjects.new.subjects.items c.args.span.now.start (c.args.span.now.end ∷ []) (atom_subjects c.args.span.now.presence)
    c.in_ok-push.ensures.items c.in_ok-push-2.ensures.items (pushed ∙ ap (λ (us : List Atom). c.push-2.new.self.items ++ atom_subjects us) c.as_slice.ensures))
