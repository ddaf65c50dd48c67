-- The cut's atom is false, and is about a term's subject.
use Rattle.std.proofs.Common.{◌++◌, ℕ, pos, sym, subst}
use Rattle.std.specs.List.{Contains}
use Rattle.cps_instance.specs.declared.term.Term.{Term}
use Rattle.cps_instance.specs.Terms.{term_subjects}
use Rattle.cps_instance.specs.Tasks.{atom_subjects}
use Rattle.cps_trail.specs.Trail.{Trail}
use Rattle.cps_p_linear.specs.declared.ends.Ends.{Ends}
use Rattle.cps_p_linear.specs.Measuring.{Asks, reads, IsSumReason}
use Rattle.cps_p_linear.proofs.Explained.{conflict_of_reason, terms_read}
use Rattle.cps_p_linear.proofs.pass.contradict.Goals as goal

abbrev no_term : Term
no_term = record { coeff = pos 0; subject = 0 }

abbrev no_ends : Ends
no_ends = record { low = pos 0; high = pos 0 }

pub returns : goal.returns
returns c =
    let m = c.args.end.now.measured in
    let t = c.args.cut.now.atom in
    let mine : Contains (reads c.args.end.now.measured.task) c.args.cut.now.atom.subject =
    subst (λ (i : ℕ). Contains (atom_subjects c.args.end.now.measured.task.enforcement.now ++ term_subjects c.args.end.now.measured.task.terms.now) i) (sym (c.requires.cut.cuts no_term no_ends).subject)
    (terms_read m.task.enforcement.now m.task.terms.now c.args.end.now.place no_term c.requires.end.place) in
    conflict_of_reason (Asks m.task) (reads m.task) c.args.store.now t c.explain_end.new.facts.reason.items
    (subst (λ (s : Trail). IsSumReason c.args.end.now.measured.task s c.args.cut.now.atom c.explain_end.new.facts.reason.items) c.present-past.ensures c.in_ok-explain_end.ensures) c.requires.false_now mine
