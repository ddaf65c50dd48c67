-- Which input is which model, and why an input is no valid model.
use Rattle.std.specs.Prelude.{◌≡◌, ℕ, ◌<◌, ◌≤◌, List, length, Option, Some, None, slice_get}
use Rattle.cps_lex.specs.declared.types.Token.{Token}
use Rattle.cps_lex.specs.Tokens.{AreTokens, HasNoTokenAt}
use Rattle.cps_textproto.specs.Symbols.{symbols}
use Rattle.cps_textproto.specs.Trees.{Tree}
use Rattle.cps_textproto.specs.Grammar.{IsRefusedAt}
use Rattle.cps_textproto.specs.Reading.{HasTree}
use Rattle.cps_model.specs.declared.model.CpModel.{CpModel}
use Rattle.cps_model.specs.declared.fault.FaultName.{FaultName}
use Rattle.cps_model.specs.Validity.{first_invalid, IsValid}
use Rattle.cps_schema.specs.Written.{written}
use Rattle.cps_schema.specs.Faults.{FirstFault}
use Rattle.cps_print.specs.ReadBack.{IsReadAs}
use Rattle.cps_print.specs.declared.fault.Fault.{Fault}
use Rattle.cps_print.specs.declared.fault.Fault.TheVariants.{Text, Field, Rule, TooLong}

-- the most bytes that an input may have
abbrev pub most_bytes : ℕ
most_bytes = 67108864

abbrev pub start_or : ℕ → Option Token → ℕ
start_or end None = end
start_or end (Some t) = t.start

-- the byte at which a token begins; the length of the input behind the last token
abbrev pub byte_of : List ℕ → List Token → ℕ → ℕ
byte_of bytes ts token = start_or (length bytes) (slice_get ts token)

-- the bytes are no document: no token stands at this byte, or with the token there no document goes on
pub data IsTextFault (bytes : List ℕ) (byte : ℕ) : Type 0 where
  no_token : HasNoTokenAt bytes byte → IsTextFault bytes byte
  no_document : (ts : List Token) (token : ℕ) → AreTokens bytes ts → IsRefusedAt (symbols bytes ts) token
      → byte ≡ byte_of bytes ts token → IsTextFault bytes byte

-- the bytes are a document, and at this byte is the first field of it that is refused, or its value
pub record IsFieldFault (bytes : List ℕ) (name : FaultName) (byte : ℕ) : Type 0 where
  pub tokens : List Token
  pub tree : Tree
  pub cut : AreTokens bytes tokens
  pub parsed : HasTree (symbols bytes tokens) tree
  pub token : ℕ
  pub fault : FirstFault (written bytes tokens) tree name token
  pub place : byte ≡ byte_of bytes tokens token

-- the input is the text of this model, valid or not
pub record IsModelText (bytes : List ℕ) (m : CpModel) : Type 0 where
  pub short : length bytes ≤ most_bytes
  pub reads : IsReadAs bytes m

-- the input is the text of this valid model
pub record IsInput (bytes : List ℕ) (m : CpModel) : Type 0 where
  pub text : IsModelText bytes m
  pub valid : IsValid m

-- the input is the text of no such model
abbrev pub HasNo : (List ℕ → CpModel → Type 0) → List ℕ → Type 0
HasNo is_input bytes = (m : CpModel) → is_input bytes m → ⊥

-- why the input is no valid model
abbrev pub HasFault : List ℕ → Fault → Type 0
HasFault bytes (Text byte) = (length bytes ≤ most_bytes) × IsTextFault bytes byte
HasFault bytes (Field name byte) = (length bytes ≤ most_bytes) × IsFieldFault bytes name byte
HasFault bytes (Rule rule place) = (m : CpModel) × IsModelText bytes m × (first_invalid m ≡ Some (rule, place))
HasFault bytes TooLong = most_bytes < length bytes
