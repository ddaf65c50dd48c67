use Rattle.std.proofs.Common.{refl}
use Rattle.cps_p_bool.proofs.Sought.{no_not_true}
use Rattle.cps_p_bool.proofs.Denials.{Denies-false}
use Rattle.cps_p_bool.proofs.explain.deny_if_false.Goals as goal

pub returns-in_ok-push-in-No-clause-denies : goal.returns-in_ok-push-in-No-clause-denies
returns-in_ok-push-in-No-clause-denies c = λ _.
    rw c.in_ok-push-in-No.ensures.items
    (Denies-false c.args.past.now c.args.reason.now.items c.args.atom c.requires.subject (c.in-No.ensures.no.0 refl) (no_not_true c.args.past.now c.args.atom (record { yes = c.in-No.ensures.yes; no = c.in-No.ensures.no })))
