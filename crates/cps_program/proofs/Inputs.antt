-- A fault of the input, and that it is no valid model then.
use Rattle.std.specs.Prelude.{Some, length}
use Rattle.std.proofs.Common.{◌≡◌, ℕ, ◌≤◌, List, sym, subst}
use Rattle.cps_lex.specs.declared.types.Token.{Token}
use Rattle.cps_textproto.specs.Symbols.{symbols}
use Rattle.cps_textproto.specs.Grammar.{IsRefusedAt}
use Rattle.cps_textproto.specs.Reading.{HasTree}
use Rattle.cps_textproto.specs.Trees.{Tree}
use Rattle.cps_model.specs.declared.model.CpModel.{CpModel}
use Rattle.cps_model.specs.declared.fault.FaultName.{FaultName}
use Rattle.cps_model.specs.declared.place.Place.{Place}
use Rattle.cps_model.specs.Validity.{first_invalid, IsValid}
use Rattle.cps_schema.specs.Written.{written}
use Rattle.cps_schema.specs.Readings.{ReadsAs}
use Rattle.cps_schema.specs.Faults.{FirstFault}
use Rattle.cps_print.specs.declared.fault.Fault.{Fault}
use Rattle.cps_print.specs.declared.fault.Fault.TheVariants.{Text, Field, Rule}
use Rattle.cps_print.specs.ReadBack.{IsReadAs}
use Rattle.cps_print.specs.Responses.{HasShowableLimits}
use Rattle.cps_schema.proofs.Opened.{model_open}
use Rattle.cps_kinds.specs.Kinds.{AreAllPropagated}
use Rattle.cps_program.proofs.Limits.{showable}
use Rattle.cps_program.proofs.Opening.{open_propagated}
use Rattle.cps_program.specs.declared.input.InputError.{InputError}
use Rattle.cps_program.specs.declared.input.InputError.TheVariants as input_error
use Rattle.cps_program.specs.Inputs.{most_bytes, byte_of, HasNo, IsModelText, IsInput, HasFault}
use Rattle.cps_program.specs.Inputs.IsTextFault.{no_document}
use Rattle.cps_program.specs.Reading.{AreOnlyTokens, IsParsed, IsMeant, IsInputRefusal}

-- a fault that is right
abbrev pub IsRight : (List ℕ → CpModel → Type 0) → List ℕ → Fault → Type 0
IsRight is_input bytes fault = HasFault bytes fault × HasNo is_input bytes

-- the document that the bytes are the text of is on the only tokens
same_document : (bytes : List ℕ) (ts : List Token) (m : CpModel) → AreOnlyTokens bytes ts → (r : IsReadAs bytes m) → HasTree (symbols bytes ts) r.tree
same_document bytes ts m cut r =
    let same = cut.alone r.tokens r.cut in
    subst (λ (us : List Token). HasTree (symbols bytes us) r.tree) (sym same) r.parsed

-- and it has the only tree
same_meaning : (bytes : List ℕ) (ts : List Token) (tree : Tree) (m : CpModel) → AreOnlyTokens bytes ts → IsParsed bytes ts tree → IsReadAs bytes m → ReadsAs (written bytes ts) tree m
same_meaning bytes ts tree m cut parsed r =
    let tokens = cut.alone r.tokens r.cut in
    let trees = parsed.alone r.tree (same_document bytes ts m cut r) in
    subst (λ (t : Tree). ReadsAs (written bytes ts) t m) (sym trees) (subst (λ (us : List Token). ReadsAs (written bytes us) r.tree m) (sym tokens) r.read)

pub no_document_right : (bytes : List ℕ) (ts : List Token) (token byte : ℕ) → length bytes ≤ most_bytes → AreOnlyTokens bytes ts → IsRefusedAt (symbols bytes ts) token
    → byte ≡ byte_of bytes ts token → IsRight IsModelText bytes (Text byte)
no_document_right bytes ts token byte short cut refused place =
    ((short, no_document ts token cut.these refused place), λ m i. let here = same_document bytes ts m cut i.reads in refused.never here.0 here.1)

pub field_right : (bytes : List ℕ) (ts : List Token) (tree : Tree) (name : FaultName) (token byte : ℕ) → length bytes ≤ most_bytes → AreOnlyTokens bytes ts → IsParsed bytes ts tree
    → FirstFault (written bytes ts) tree name token → ((m : CpModel) → ReadsAs (written bytes ts) tree m → ⊥) → byte ≡ byte_of bytes ts token → IsRight IsModelText bytes (Field name byte)
field_right bytes ts tree name token byte short cut parsed fault none place = (
  (short, record { tokens = ts; tree = tree; cut = cut.these; parsed = parsed.this; token = token; fault = fault; place = place }),
  λ m i. none m (same_meaning bytes ts tree m cut parsed i.reads),
)

pub meant : (bytes : List ℕ) (ts : List Token) (tree : Tree) (m : CpModel) → AreOnlyTokens bytes ts → IsParsed bytes ts tree → ReadsAs (written bytes ts) tree m
    → ((other : CpModel) → ReadsAs (written bytes ts) tree other → m ≡ other) → IsMeant bytes m
meant bytes ts tree m cut parsed this only =
    record {
      this = record { tokens = ts; tree = tree; cut = cut.these; parsed = parsed.this; read = this };
      alone = λ other r. only other (same_meaning bytes ts tree other cut parsed r);
    }

invalid_alone : (m other : CpModel) (rule : ℕ) (place : Place) → m ≡ other → first_invalid m ≡ Some (rule, place) → IsValid other → ⊥
invalid_alone m other rule place same broken valid = cc

pub rule_right : (bytes : List ℕ) (m : CpModel) (rule : ℕ) (place : Place) → length bytes ≤ most_bytes → IsMeant bytes m → first_invalid m ≡ Some (rule, place) → IsRight IsInput bytes (Rule rule place)
rule_right bytes m rule place short meant broken =
    ((m, record { short = short; reads = meant.this }, broken), λ other i. invalid_alone m other rule place (meant.alone other i.text.reads) broken i.valid)

-- a valid model that was read is the input
pub valid_input : (bytes : List ℕ) (m v : CpModel) → length bytes ≤ most_bytes → IsMeant bytes m → v ≡ m → IsValid m → IsInput bytes v
valid_input bytes m v short meant same valid =
    let input : IsInput bytes m = record { text = record { short = short; reads = meant.this }; valid = valid } in
    subst (λ (n : CpModel). IsInput bytes n) (sym same) input

-- what is refused as a model is refused as a valid one
pub refused_too : (bytes : List ℕ) (u : InputError) → IsInputRefusal IsModelText bytes u → IsInputRefusal IsInput bytes u
refused_too bytes (input_error.Fault fault) refusal = (refusal.0, λ (m : CpModel) (i : IsInput bytes m). refusal.1 m i.text)
refused_too bytes input_error.OutOfMemory refusal = tt

-- a model that was read can be shown
pub meant_showable : (bytes : List ℕ) (m : CpModel) → IsMeant bytes m → HasShowableLimits m.objective
meant_showable bytes m meant = showable (written bytes meant.this.tokens) meant.this.tree m meant.this.read

-- and only kinds that have a propagator
pub meant_propagated : (bytes : List ℕ) (m : CpModel) → IsMeant bytes m → AreAllPropagated m
meant_propagated bytes m meant = open_propagated m (model_open (written bytes meant.this.tokens) meant.this.tree m meant.this.read)
