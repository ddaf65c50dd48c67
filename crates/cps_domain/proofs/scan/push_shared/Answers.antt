use Rattle.std.proofs.Common.{arith, rules, FitsSigned, w64, subst}
use Rattle.std.proofs.lemmas.Int.{ints, to_z-of_z}
use Rattle.cps_domain.specs.Cuts.{IsUpTo, IsFromOn}
use Rattle.cps_domain.proofs.Meeting.{shares_none, shares_one}
use Rattle.cps_domain.proofs.scan.push_shared.Goals as goal

pub returns-then-shared : goal.returns-then-shared
returns-then-shared c =
    let p = c.args.one in let q = c.args.other in let r = c.from_on-start.result in let s = c.up_to-shared.result in
    let f0 : FitsSigned w64 c.args.other.0 = search rules in
    let f1 : FitsSigned w64 c.args.other.1 = search rules in
    shares_none p q r s c.args.list.now.items
    (subst (λ z. IsFromOn c.args.one z c.from_on-start.result) (to_z-of_z w64 c.args.other.0 f0) c.from_on-start.ensures)
    (subst (λ z. IsUpTo c.from_on-start.result z c.up_to-shared.result) (to_z-of_z w64 c.args.other.1 f1) c.up_to-shared.ensures)
    (omega (arith, ints))

pub returns : goal.returns
returns c =
    let p = c.args.one in let q = c.args.other in let r = c.from_on-start.result in let s = c.up_to-shared.result in
    let f0 : FitsSigned w64 c.args.other.0 = search rules in
    let f1 : FitsSigned w64 c.args.other.1 = search rules in
    shares_one p q r s c.args.list.now.items c.push.new.self.items
    (subst (λ z. IsFromOn c.args.one z c.from_on-start.result) (to_z-of_z w64 c.args.other.0 f0) c.from_on-start.ensures)
    (subst (λ z. IsUpTo c.from_on-start.result z c.up_to-shared.result) (to_z-of_z w64 c.args.other.1 f1) c.up_to-shared.ensures)
    (omega (arith, ints)) c.in_ok-push.ensures.items
