-- Each kind of item has its judge.
use Rattle.std.proofs.Common.{◌≡◌, ◌↔◌, Bool, IsTrue, sym, subst}
use Rattle.std.proofs.lemmas.Result.{IfOk-weaker}
use Rattle.cps_model.specs.declared.model.CpModel.{CpModel}
use Rattle.cps_log.specs.declared.item.LogItem.{LogItem}
use Rattle.cps_log.specs.Deriving.{Derivation}
use Rattle.cps_cert.specs.declared.claim.Claim.{Claim}
use Rattle.cps_cert.specs.Accepting.{IsAccepted}
use Rattle.cps_cert.specs.Ledgers.{derivation_of}
use Rattle.cps_cert.proofs.ledger.Ledger.accepts.Goals as goal

told_of : (m : CpModel) (claim : Claim) (g : Derivation) (item kind : LogItem) (b : Bool) → item ≡ kind → IsTrue b ↔ IsAccepted m claim g kind → IsTrue b ↔ IsAccepted m claim g item
told_of m claim g item kind b is told = subst (λ (i : LogItem). IsTrue b ↔ IsAccepted m claim g i) (sym is) told

pub returns-in-Reason-clause-accepted : goal.returns-in-Reason-clause-accepted
returns-in-Reason-clause-accepted c =
    IfOk-weaker c.is_reason.result _ _ (λ b told. told_of c.args.model.now c.args.claim.now (derivation_of c.args.self.now) c.args.item.now _ b c.in-Reason.is (told c.args.claim.now)) c.is_reason.ensures.accepted

pub returns-in-Objective-clause-accepted : goal.returns-in-Objective-clause-accepted
returns-in-Objective-clause-accepted c =
    IfOk-weaker c.is_about_objective.result _ _ (λ b told. told_of c.args.model.now c.args.claim.now (derivation_of c.args.self.now) c.args.item.now _ b c.in-Objective.is told) c.is_about_objective.ensures.accepted

pub returns-in-Ends-clause-accepted : goal.returns-in-Ends-clause-accepted
returns-in-Ends-clause-accepted c =
    IfOk-weaker c.is_about_sum.result _ _ (λ b told. told_of c.args.model.now c.args.claim.now (derivation_of c.args.self.now) c.args.item.now _ b c.in-Ends.is (told c.args.claim.now)) c.is_about_sum.ensures.accepted

pub returns-in-Learnt-clause-accepted : goal.returns-in-Learnt-clause-accepted
returns-in-Learnt-clause-accepted c =
    IfOk-weaker c.is_learnt.result _ _ (λ b told. told_of c.args.model.now c.args.claim.now (derivation_of c.args.self.now) c.args.item.now _ b c.in-Learnt.is (told c.args.claim.now)) c.is_learnt.ensures.accepted
