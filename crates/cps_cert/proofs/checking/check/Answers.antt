-- What is refused is not accepted as well.
use Rattle.std.proofs.Common.{◌≡◌, sym, ◌∙◌}
use Rattle.cps_cert.proofs.OneVerdict.{accepts_or_refuses}
use Rattle.cps_cert.proofs.Passed.{refused_of}
use Rattle.cps_cert.proofs.checking.check.Goals as goal

pub returns-in-Err-Refused-clause-verified : goal.returns-in-Err-Refused-clause-verified
returns-in-Err-Refused-clause-verified c =
    let stop = rw c.in-Err-Refused.field-0-is at c.in-Err-Refused.ensures in
    let refused = refused_of c.args.model.now c.args.bytes.now c.args.first_line c.in-Err-Refused.line stop in
    (λ e. cc, λ a. absurd (accepts_or_refuses c.args.model.now c.args.bytes.now refused.0 a refused.2))

pub returns-in-Err-Refused-clause-refused : goal.returns-in-Err-Refused-clause-refused
returns-in-Err-Refused-clause-refused c = λ line e. (
    let stop = rw c.in-Err-Refused.field-0-is at c.in-Err-Refused.ensures in
    let refused = refused_of c.args.model.now c.args.bytes.now c.args.first_line c.in-Err-Refused.line stop in
    let same : c.in-Err-Refused.line ≡ line = cc in
    (refused.0, sym same ∙ refused.1, refused.2))
