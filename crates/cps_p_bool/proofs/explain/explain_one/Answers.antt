use Rattle.cps_instance.specs.declared.task.Body.TheVariants.{ExactlyOne}
use Rattle.cps_p_bool.proofs.LazyReasons.{AsksForOne-exactly}
use Rattle.cps_p_bool.proofs.AtMostOne.{LimitsToOne-exactly}
use Rattle.cps_p_bool.proofs.explain.explain_one.Goals as goal

pub returns-then-noted : goal.returns-then-noted
returns-then-noted c = λ is. c.explain_last.ensures is (ExactlyOne c.args.atoms.now) (AsksForOne-exactly c.args.atoms.now)

pub returns : goal.returns
returns c = λ is. c.explain_beside.ensures is (ExactlyOne c.args.atoms.now) (LimitsToOne-exactly c.args.atoms.now)
