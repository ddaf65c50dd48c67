-- One byte more of a word is counted.
use Rattle.std.specs.List.{prefix_len}
use Rattle.std.proofs.Common.{◌≡◌, ◌∙◌, ◌+◌, true, drop, get_or, sym}
use Rattle.cps_lex.specs.Bytes.{is_word}
use Rattle.cps_lex.proofs.Fronts.{counted_more, passed_more}
use Rattle.cps_lex.proofs.scan.word_length.Goals as goal

pub loop-i-preserved : goal.loop-i-preserved
loop-i-preserved c =
    let rest = c.args.rest.now in
    let i = c.loop-i.i in
    let b = get_or rest i 0 in
    let word : is_word b ≡ true = sym c.is_word.ensures ∙ c.if-not-is_word.false in
    counted_more (prefix_len is_word) (prefix_len is_word) rest i (prefix_len is_word rest) c.loop-i-test.true (passed_more is_word b (drop (i + 1) rest) word) c.loop-i.invariant
