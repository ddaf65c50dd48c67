-- One term more.
use Rattle.std.proofs.Common.{ℤ, ◌++◌, ◌∷◌, [], length, ◌∙◌, ap}
use Rattle.std.proofs.lemmas.Int.{to_z-of_z}
use mir.Syntax.{w32, w64}
use Rattle.cps_subjects.proofs.Near.{near_fits}
use Rattle.cps_cert.proofs.Numbers.{variable_fits}
use Rattle.cps_cert.proofs.Clauses.{not_empty}
use Rattle.cps_cert.proofs.Terms.{no_variable, no_coefficient, left_behind, text_with_term, fit_push}
use Rattle.cps_cert.proofs.reader.terms_of.Goals as goal

pub returns-in_default : goal.returns-in_default
returns-in_default c = λ rs cs fits e. (
    let box_in = c.loop-rest.invariant.begins rs cs fits e in
    let some = not_empty (length c.loop-rest.rest.now) c.is_empty.result c.is_empty.ensures c.loop-rest-test.true in
    no_variable c.loop-rest.rest.now box_in.0 box_in.1 some box_in.2 box_in.3 c.in_default.ensures)

pub returns-in_default-next_number : goal.returns-in_default-next_number
returns-in_default-next_number c = λ rs cs fits e. (
    let box_in = c.loop-rest.invariant.begins rs cs fits e in
    let some = not_empty (length c.loop-rest.rest.now) c.is_empty.result c.is_empty.ensures c.loop-rest-test.true in
    no_coefficient c.loop-rest.rest.now c.in-Some.behind.now box_in.0 box_in.1 c.in-Some.variable some box_in.2 box_in.3 c.in-Some.ensures.0 c.in-Some.ensures.1 c.in_default-next_number.ensures)

pub loop-rest-preserved : goal.loop-rest-preserved
loop-rest-preserved c =
    let before = c.loop-rest.invariant in
    let rest = c.loop-rest.rest.now in
    let behind = c.in-Some.behind.now in
    let after = c.in-Some-next_number.after.now in
    let rs = c.loop-rest.vars.items in
    let cs = c.loop-rest.coeffs.items in
    let r = c.in-Some.variable in
    let v = c.in-Some-next_number.coefficient in
    let first = c.in-Some.ensures in
    let second = c.in-Some-next_number.ensures in
    let some = not_empty (length rest) c.is_empty.result c.is_empty.ensures c.loop-rest-test.true in
    let variables = c.in_ok-push.ensures.items ∙ ap (λ (z : ℤ). rs ++ z ∷ []) (to_z-of_z w32 r (variable_fits r first.0)) in
    let coefficients = c.in_ok-push-2.ensures.items ∙ ap (λ (z : ℤ). cs ++ z ∷ []) (to_z-of_z w64 v (near_fits v second.0)) in
    record {
      fits = rw (variables, coefficients) (fit_push rs cs r v before.fits first.0 second.0);
      text = rw (variables, coefficients) (text_with_term c.args.text.now rest behind after rs cs r v before.fits.paired before.text first.1 second.1);
      begins = λ all others fits e. (let box_in = before.begins all others fits e in left_behind rest behind after box_in.0 box_in.1 r v some box_in.2 box_in.3 first.0 first.1 second.0 second.1);
    }
