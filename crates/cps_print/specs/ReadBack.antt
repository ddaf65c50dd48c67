-- What bytes are read as.
use Rattle.std.specs.Prelude.{ℕ, List}
use Rattle.cps_lex.specs.declared.types.Token.{Token}
use Rattle.cps_lex.specs.Tokens.{AreTokens}
use Rattle.cps_textproto.specs.Symbols.{symbols}
use Rattle.cps_textproto.specs.Trees.{Tree}
use Rattle.cps_textproto.specs.Reading.{HasTree}
use Rattle.cps_model.specs.declared.model.CpModel.{CpModel}
use Rattle.cps_schema.specs.Written.{written_with}
use Rattle.cps_schema.specs.Open.{closed_names}
use Rattle.cps_schema.specs.Readings.{ReadsAs}

-- the bytes have tokens, these are a document, and its fields give this model, where those of these names are closed
pub record IsReadWith (closed : List (List ℕ)) (bytes : List ℕ) (m : CpModel) : Type 0 where
  pub tokens : List Token
  pub tree : Tree
  pub cut : AreTokens bytes tokens
  pub parsed : HasTree (symbols bytes tokens) tree
  pub read : ReadsAs (written_with closed bytes tokens) tree m

-- the same with the program's table of closed fields
abbrev pub IsReadAs : List ℕ → CpModel → Type 0
IsReadAs bytes m = IsReadWith closed_names bytes m
