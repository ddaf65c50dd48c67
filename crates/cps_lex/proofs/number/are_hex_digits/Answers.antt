-- One digit more passes.
use Rattle.std.proofs.Common.{◌≡◌, ◌∙◌, true, get_or, refl, sym}
use Rattle.std.proofs.lemmas.List.Folds.{list_all_more}
use Rattle.cps_lex.specs.Bytes.{is_hex_digit}
use Rattle.cps_lex.proofs.number.are_hex_digits.Goals as goal

pub loop-byte-preserved : goal.loop-byte-preserved
loop-byte-preserved c =
    let passes : is_hex_digit (get_or c.args.bytes.now c.loop-byte.byte-index 0) ≡ true = sym c.is_hex_digit.ensures ∙ c.if-not-is_hex_digit.false in
    list_all_more is_hex_digit c.args.bytes.now c.loop-byte.byte-index 0 c.loop-byte-test.true ∙ rw (c.loop-byte.invariant, passes) refl
