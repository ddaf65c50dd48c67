use Rattle.std.specs.Str.{IsUtf8, is_utf8}
use Rattle.std.specs.Prelude.{Vec, String, string_bytes}
use Rattle.std.proofs.Common.{◌≡◌, ℕ, List, Bool, true, false, refl, sym, ap, ◌∙◌}
use Rattle.std.proofs.lemmas.Str.{IsUtf8-from_is_utf8, is_utf8-from_IsUtf8, IsUtf8-string_bytes}
use Rattle.cps_schema.proofs.text.utf8_text.Goals as goal

-- a string's bytes are UTF-8
of_string : {Z : Type 0} (s : String Z) (v : Vec ℕ Z) → s.bytes ≡ v → is_utf8 v.items ≡ true
of_string {Z} s v e = ap (λ (x : Vec ℕ Z). is_utf8 x.items) (sym e) ∙ is_utf8-from_IsUtf8 (string_bytes s) (IsUtf8-string_bytes s)

-- bytes that would be a string
refused_by : (bytes : List ℕ) → (IsUtf8 bytes → false ≡ true) → is_utf8 bytes ≡ false
refused_by bytes wrong = by_test (is_utf8 bytes) refl where
  by_test : (b : Bool) → is_utf8 bytes ≡ b → is_utf8 bytes ≡ false
  by_test true e = e ∙ sym (wrong (IsUtf8-from_is_utf8 bytes e))
  by_test false e = e

pub returns-in-Ok-clause-good : goal.returns-in-Ok-clause-good
returns-in-Ok-clause-good c = of_string c.in-Ok.text c.args.bytes c.in-Ok.ensures.ok

pub returns-clause-none : goal.returns-clause-none
returns-clause-none c = refused_by c.args.bytes.items c.in-Err.ensures.succeeds
