use Rattle.std.proofs.Common.{◌≡◌, ◌∙◌, ◌<◌, ℤ, pos, ◌≤◌, ◌^◌, [], ◌∷◌, ◌++◌, length, get_or, sym, ap, arith, rules, FitsSigned, to_z, w32, w64, lit≤}
use mir.Val.{hbits}
use Rattle.std.proofs.lemmas.Int.{to_z-of_z, to_z_pos}
use Rattle.std.proofs.lemmas.List.{get_or_default}
use Rattle.cps_instance.specs.declared.term.Term.{Term}
use Rattle.cps_instance.specs.declared.task.Body.TheVariants.{Sum}
use Rattle.cps_instance.specs.Terms.{Intervals}
use Rattle.cps_instance.specs.Problem.{variable_count}
use Rattle.cps_search.specs.LogItems.{is_zero}
use Rattle.cps_search.proofs.LogSums.{kept_with, kept_without, read_domain, has_expression}
use Rattle.cps_search.proofs.log_items.expression_of.Goals as goal

no_term : Term
no_term = record { coeff = pos 0; subject = 0 }

pub loop-term-preserved-then-is_zero : goal.loop-term-preserved-then-is_zero
unfolding no_term
loop-term-preserved-then-is_zero c =
    let p = c.args.instance.now in
    let ts = c.as_slice-term-items.result.now in
    let k = c.loop-term.term-index in
    let t = get_or ts k no_term in
    let l : k < length ts = c.loop-term-test.true in
    let count = c.variable_count.ensures in
    let below : t.subject < variable_count p = omega arith in
    let domain = read_domain p c.domains.result.now c.index-domains-subject.result t.subject c.domains.ensures.sound c.domains.ensures.list c.domains.ensures.count below c.index-domains-subject.is in
    kept_without p.domains (variable_count p) ts k _ _ t c.loop-term.invariant l (get_or_default ts k no_term t l) below (ap (λ (ps : Intervals). is_zero ps) (sym domain) ∙ sym c.if-is_zero.ensures)

pub loop-term-preserved : goal.loop-term-preserved
unfolding no_term
loop-term-preserved c =
    let p = c.args.instance.now in
    let ts = c.as_slice-term-items.result.now in
    let k = c.loop-term.term-index in
    let t = get_or ts k no_term in
    let l : k < length ts = c.loop-term-test.true in
    let variables = c.variable_count.ensures in
    let below : t.subject < variable_count p = omega arith in
    let domain = read_domain p c.domains.result.now c.index-domains-subject.result t.subject c.domains.ensures.sound c.domains.ensures.list c.domains.ensures.count below c.index-domains-subject.is in
    let few = c.domains.ensures.sound.domains.few in
    let count = c.domains.ensures.sound.domains.count in
    let room : 2 ^ 31 ≤ 2 ^ hbits w32 = lit≤ tt in
    let fits : FitsSigned w64 t.coeff = search rules in
    let small : to_z w32 t.subject ≡ pos t.subject = to_z_pos w32 t.subject (omega arith) in
    kept_with p.domains (variable_count p) ts k _ _ c.push.new.self.items c.push-in-loop-term.new.self.items t c.loop-term.invariant l (get_or_default ts k no_term t l) below (ap (λ (ps : Intervals). is_zero ps) (sym domain) ∙ sym c.if-is_zero.ensures) (c.in_ok-push.ensures.items ∙ ap (λ (v : ℤ). c.loop-term.vars.items ++ v ∷ []) small)
    (c.in_ok-push-2.ensures.items ∙ ap (λ (v : ℤ). c.loop-term.coeffs.items ++ v ∷ []) (to_z-of_z w64 t.coeff fits))

pub returns : goal.returns
returns c =
    let fits : FitsSigned w64 c.in-Sum.offset = search rules in
    has_expression c.args.instance.now c.args.body.now c.in-Sum._subject c.as_slice-term-items.result.now c.in-Sum.offset c.loop-term.term-index _ _ c.from_vec.result c.from_vec-2.result _
    (c.in-Sum.is ∙ ap (λ ts. Sum c.in-Sum._subject ts c.in-Sum.offset) (sym c.as_slice-term-items.ensures)) c.loop-term.invariant c.loop-term-test.false c.from_vec.ensures c.from_vec-2.ensures (to_z-of_z w64 c.in-Sum.offset fits)
