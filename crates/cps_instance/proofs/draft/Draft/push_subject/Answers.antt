-- One more expression has its subject.
use Rattle.cps_instance.proofs.Drafting.{numbers_one}
use Rattle.cps_instance.proofs.draft.Draft.push_subject.Goals as goal

pub returns : goal.returns
returns c =
    let h = c.in_ok-subject.ensures in
    numbers_one c.args.self.now c.subject_of.new.self c.args.expr.now c.args.subjects.now.items c.push.new.self.items c.in_ok-subject.subject h.begun h.defines h.own c.in_ok-push.ensures.items
