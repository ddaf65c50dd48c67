-- How the bytes of a text are written between quotes.
use Rattle.std.specs.Prelude.{ℕ, ◌+◌, ◌/◌, ◌%◌, ◌==◌, nat_le, ◌&&◌, if◌then◌else◌, List, [], ◌∷◌, ◌++◌, codes}
use Rattle.std.specs.List.{flat_map}

-- three octal digits
abbrev pub octal : ℕ → List ℕ
octal b = 92 ∷ (48 + b / 64) ∷ (48 + b / 8 % 8) ∷ (48 + b % 8) ∷ []

-- a line feed, a carriage return, a tab, quotes and a backslash by their signs, what is printable as it is, and every
-- other byte in octal
unfoldable pub escaped : ℕ → List ℕ
escaped b =
    if b == 10 then codes "\\n"
    else (if b == 13 then codes "\\r"
    else (if b == 9 then codes "\\t"
    else (if b == 34 then codes "\\\""
    else (if b == 39 then codes "\\'"
    else (if b == 92 then codes "\\\\"
    else (if nat_le 32 b && nat_le b 126 then b ∷ []
    else octal b))))))

unfoldable pub in_quotes : List ℕ → List ℕ
in_quotes bytes = 34 ∷ (flat_map escaped bytes ++ 34 ∷ [])
