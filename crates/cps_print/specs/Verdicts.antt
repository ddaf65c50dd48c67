-- The line that says whether a response is verified by the log of its proof.
use Rattle.std.specs.Prelude.{ℕ, List, ◌++◌, codes}
use Rattle.std.specs.Fmt.{decimal}

abbrev pub verified_text : List ℕ
verified_text = codes "verified\n"

-- refused at a line, which is counted from 1
abbrev pub refused_text : ℕ → List ℕ
refused_text line = codes "not verified at line " ++ (decimal line ++ codes "\n")
