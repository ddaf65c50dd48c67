-- Two more blanks.
use Rattle.std.proofs.Common.{◌++◌, [], ◌∷◌, string_bytes, ap, sym, ◌∙◌, append_assoc}
use Rattle.cps_print.specs.Layout.{indent}
use Rattle.cps_print.proofs.Lines.{indent-add_one}
use Rattle.cps_print.proofs.layout.put_indent.Goals as goal

pub loop-preserved : goal.loop-preserved
loop-preserved c =
    c.in_ok-push_str.ensures.bytes
    ∙ (ap (λ xs. xs ++ 32 ∷ 32 ∷ []) c.loop.invariant
    ∙ (append_assoc (string_bytes c.args.text.now) (indent c.loop.counter) (32 ∷ 32 ∷ [])
    ∙ ap (λ xs. string_bytes c.args.text.now ++ xs) (sym (indent-add_one c.loop.counter))))
