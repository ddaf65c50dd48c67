-- One blank byte more is counted.
use Rattle.std.proofs.Common.{◌≡◌, ◌∙◌, ◌+◌, Bool, true, false, drop, get_or, refl, sym, subst}
use Rattle.cps_lex.specs.Bytes.{is_blank, opens_comment}
use Rattle.cps_lex.specs.Tokens.{blank_length}
use Rattle.cps_lex.proofs.Fronts.{counted_more}
use Rattle.cps_lex.proofs.scan.blank_length.Goals as goal

pub loop-i-preserved : goal.loop-i-preserved
loop-i-preserved c =
    let rest = c.args.rest.now in
    let i = c.loop-i.i in
    let inside = c.loop-i.inside in
    let b = get_or rest i 0 in
    let blank : is_blank inside b ≡ true = sym c.is_blank.ensures ∙ c.if-not-is_blank.false in
    subst (λ (behind : Bool). (i + 1) + blank_length behind (drop (i + 1) rest) ≡ blank_length false rest) (sym c.opens_comment-inside.ensures)
    (counted_more (blank_length inside) (blank_length (opens_comment inside b)) rest i (blank_length false rest) c.loop-i-test.true (rw blank refl) c.loop-i.invariant)
