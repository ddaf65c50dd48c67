-- The token behind the sign has a kind that the type takes, and its number is one of the type, or else this is what is wrong.
use Rattle.std.proofs.Common.{◌≡◌, ◌∙◌, Some, None, ap, sym}
use Rattle.cps_schema.specs.Written.{token_kind, unsigned_token}
use Rattle.cps_schema.specs.Inputs.{written_of}
use Rattle.cps_schema.proofs.Scalars.{behind_sign, worth, no_token, wrong_token, fitting, unfitting}
use Rattle.cps_schema.proofs.number.number_at.Goals as goal

pub returns-in_default-clause-err : goal.returns-in_default-clause-err
returns-in_default-clause-err c =
    let w = written_of c.args.input.now in
    let first = c.args.first in
    no_token w c.args.number first (ap (token_kind w) (sym (behind_sign w first c.is_negative-negative.result c.is_negative-negative.ensures)) ∙ sym c.in_default.ensures)

pub returns-in-Some-token_fault-clause-err : goal.returns-in-Some-token_fault-clause-err
returns-in-Some-token_fault-clause-err c =
    let w = written_of c.args.input.now in
    let first = c.args.first in
    let is : token_kind w (unsigned_token w first) ≡ Some c.in-Some.kind = ap (token_kind w) (sym (behind_sign w first c.is_negative-negative.result c.is_negative-negative.ensures)) ∙ sym c.in-Some.ensures in
    wrong_token w c.args.number first c.in-Some.kind is c.in-Some-token_fault.name (sym c.in-Some-token_fault.ensures)

pub returns-in-Some-whole_number-clause-fault : goal.returns-in-Some-whole_number-clause-fault
returns-in-Some-whole_number-clause-fault c =
    let w = written_of c.args.input.now in
    let first = c.args.first in
    let sign = c.is_negative-negative in
    let is : token_kind w (unsigned_token w first) ≡ Some c.in-Some.kind = ap (token_kind w) (sym (behind_sign w first sign.result sign.ensures)) ∙ sym c.in-Some.ensures in
    let value = worth w c.args.number first c.in-Some.kind sign.result c.token_text.result.now (Some c.in-Some-whole_number.value) sign.ensures c.token_text.ensures c.in-Some-whole_number.ensures in
    fitting w c.args.number first c.in-Some.kind is c.in-Some-whole_number.value (sym c.in_default-token_fault.ensures) value

pub returns-in-None-clause-err : goal.returns-in-None-clause-err
returns-in-None-clause-err c =
    let w = written_of c.args.input.now in
    let first = c.args.first in
    let sign = c.is_negative-negative in
    let is : token_kind w (unsigned_token w first) ≡ Some c.in-Some.kind = ap (token_kind w) (sym (behind_sign w first sign.result sign.ensures)) ∙ sym c.in-Some.ensures in
    let value = worth w c.args.number first c.in-Some.kind sign.result c.token_text.result.now None sign.ensures c.token_text.ensures c.in-None.ensures in
    unfitting w c.args.number first c.in-Some.kind is (sym c.in_default-token_fault.ensures) value ∙ ap Some (sym c.misfit.ensures)
