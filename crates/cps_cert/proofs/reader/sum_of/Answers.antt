-- An offset, and terms behind it.
use Rattle.std.proofs.lemmas.Int.{to_z-of_z}
use mir.Syntax.{w64}
use Rattle.cps_subjects.proofs.Near.{near_fits}
use Rattle.cps_log.specs.Writing.{terms_text}
use Rattle.cps_cert.proofs.Terms.{terms_end, sum_back}
use Rattle.cps_cert.proofs.reader.sum_of.Goals as goal

pub returns-in_default : goal.returns-in_default
returns-in_default c = λ e fits same. c.in_default.ensures e.offset (terms_text e.vars e.coeffs) fits.offset (record { is = same; ends = terms_end e.vars e.coeffs })

pub returns : goal.returns
returns c =
    let offset = c.in-Some.offset in
    let first = c.in-Some.ensures in
    sum_back c.args.text.now c.in-Some.after.now offset _ c.terms_of.result first.0 first.1 (to_z-of_z w64 offset (near_fits offset first.0)) c.terms_of.ensures
