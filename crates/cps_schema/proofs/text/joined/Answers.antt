-- Each string adds its bytes, and the last leaves the bytes of all.
use Rattle.std.proofs.Common.{◌∙◌, ◌++◌, List, ℕ, ap}
use Rattle.cps_lex.specs.Texts.{text_value}
use Rattle.cps_schema.proofs.Loops.{text_added, texts_joined}
use Rattle.cps_schema.proofs.text.joined.Goals as goal

pub loop-token-preserved : goal.loop-token-preserved
loop-token-preserved c =
    let text = c.span_text-text.result.now in
    text_added c.args.bytes.now _ c.args.tokens.now c.loop-token.token-index c.loop-token.value.items c.push_text.new.bytes.items text _ c.loop-token-test.true c.span_text-text.ensures
    (c.in_ok-push_text.ensures.ok ∙ ap (λ (before : List ℕ). before ++ text_value text) c.in_ok-reserve.ensures.items) c.loop-token.invariant

pub returns : goal.returns
returns c = texts_joined c.args.bytes.now c.args.tokens.now c.loop-token.token-index c.loop-token.value.items _ c.loop-token-test.false c.loop-token.invariant
