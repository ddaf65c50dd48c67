-- The tables of both expressions tell.
use Rattle.std.proofs.Common.{rules, ◌≡◌, ◌∙◌, sym, ap, true, false, List, ℤ, arith, FitsSigned, to_z, of_z, w64, ◌-ℤ◌}
use Rattle.std.specs.Prelude.{Some}
use Rattle.std.proofs.lemmas.Int.{ints}
use Rattle.cps_instance.specs.Lengths.{have_same_coefficients}
use Rattle.cps_instance.proofs.Lengths.{merged-same, length-none, length-no_end, length-some}
use Rattle.cps_instance.proofs.spans.length_between.Goals as goal

pub returns-then-not-have_same_coefficients : goal.returns-then-not-have_same_coefficients
returns-then-not-have_same_coefficients c =
    let start = c.args.start.now in
    let end = c.args.end.now in
    let same = merged-same c.in_ok-of_start.of_start c.in_ok-of_end.of_end start end c.as_slice.result.now c.in_ok-of_start.ensures c.in_ok-of_end.ensures in
    let test : have_same_coefficients start end start.vars ≡ false = ap (λ (rs : List ℤ). have_same_coefficients start end rs) (sym c.as_slice.ensures) ∙ sym same ∙ sym c.have_same_coefficients.ensures ∙ c.if-not-have_same_coefficients.true in
    sym (length-none start end test)

pub returns-then-not-have_same_coefficients-2 : goal.returns-then-not-have_same_coefficients-2
returns-then-not-have_same_coefficients-2 c =
    let start = c.args.start.now in
    let end = c.args.end.now in
    let same = merged-same c.in_ok-of_start.of_start c.in_ok-of_end.of_end start end c.as_slice-2.result.now c.in_ok-of_start.ensures c.in_ok-of_end.ensures in
    let test : have_same_coefficients start end end.vars ≡ false = ap (λ (rs : List ℤ). have_same_coefficients start end rs) (sym c.as_slice-2.ensures) ∙ sym same ∙ sym c.have_same_coefficients-2.ensures ∙ c.if-not-have_same_coefficients-2.true in
    sym (length-no_end start end test)

pub returns : goal.returns
returns c =
    let start = c.args.start.now in
    let end = c.args.end.now in
    let first = merged-same c.in_ok-of_start.of_start c.in_ok-of_end.of_end start end c.as_slice.result.now c.in_ok-of_start.ensures c.in_ok-of_end.ensures in
    let second = merged-same c.in_ok-of_start.of_start c.in_ok-of_end.of_end start end c.as_slice-2.result.now c.in_ok-of_start.ensures c.in_ok-of_end.ensures in
    let test : have_same_coefficients start end start.vars ≡ true = ap (λ (rs : List ℤ). have_same_coefficients start end rs) (sym c.as_slice.ensures) ∙ sym first ∙ sym c.have_same_coefficients.ensures ∙ c.if-not-have_same_coefficients.false in
    let test' : have_same_coefficients start end end.vars ≡ true = ap (λ (rs : List ℤ). have_same_coefficients start end rs) (sym c.as_slice-2.ensures) ∙ sym second ∙ sym c.have_same_coefficients-2.ensures ∙ c.if-not-have_same_coefficients-2.false in
    let f : FitsSigned w64 start.offset = search rules in
    let g : FitsSigned w64 end.offset = search rules in
    let a = c.requires.start in
    let b = c.requires.end in
    let far : to_z w64 (of_z w64 (to_z w64 (of_z w64 end.offset) -ℤ to_z w64 (of_z w64 start.offset))) ≡ end.offset -ℤ start.offset = omega (arith, ints) in
    ap (λ (z : ℤ). Some z) far ∙ sym (length-some start end test test')
