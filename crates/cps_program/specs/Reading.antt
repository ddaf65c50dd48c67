-- The steps from bytes to a model, each with the only answer that it can have.
use Rattle.std.specs.Prelude.{◌≡◌, ℕ, ◌≤◌, List, length}
use Rattle.cps_lex.specs.declared.types.Token.{Token}
use Rattle.cps_lex.specs.Tokens.{AreTokens}
use Rattle.cps_textproto.specs.Symbols.{symbols}
use Rattle.cps_textproto.specs.Trees.{Tree}
use Rattle.cps_textproto.specs.Reading.{HasTree}
use Rattle.cps_model.specs.declared.model.CpModel.{CpModel}
use Rattle.cps_print.specs.ReadBack.{IsReadAs}
use Rattle.cps_program.specs.declared.input.InputError.{InputError}
use Rattle.cps_program.specs.declared.input.InputError.TheVariants.{Fault, OutOfMemory}
use Rattle.cps_program.specs.Inputs.{HasFault, HasNo}

-- the only tokens of the bytes
pub record AreOnlyTokens (bytes : List ℕ) (ts : List Token) : Type 0 where
  pub these : AreTokens bytes ts
  pub alone : (others : List Token) → AreTokens bytes others → ts ≡ others
  pub few : length ts ≤ length bytes

-- the only tree of the tokens
pub record IsParsed (bytes : List ℕ) (ts : List Token) (tree : Tree) : Type 0 where
  pub this : HasTree (symbols bytes ts) tree
  pub alone : (other : Tree) → HasTree (symbols bytes ts) other → tree ≡ other

-- the only model that the bytes are the text of
pub record IsMeant (bytes : List ℕ) (m : CpModel) : Type 0 where
  pub this : IsReadAs bytes m
  pub alone : (other : CpModel) → IsReadAs bytes other → m ≡ other

-- a fault is right, and there is no model of the kind that is wanted then
abbrev pub IsInputRefusal : (List ℕ → CpModel → Type 0) → List ℕ → InputError → Type 0
IsInputRefusal is_input bytes (Fault fault) = HasFault bytes fault × HasNo is_input bytes
IsInputRefusal is_input bytes OutOfMemory = Unit {0}
