-- Each document is read as one model or refused at one token, and never both.
use Rattle.std.proofs.Common.{◌≡◌, ℕ, [], Option, Some, None, ◌⊎◌, inl, inr, refl, sym, ◌∙◌}
use Rattle.cps_textproto.specs.Trees.{Tree}
use Rattle.cps_model.specs.declared.fault.FaultName.{FaultName}
use Rattle.cps_model.specs.declared.model.CpModel.{CpModel}
use Rattle.cps_schema.specs.Written.{Written}
use Rattle.cps_schema.specs.Tables.{model_message}
use Rattle.cps_schema.specs.Faults.{fields_fault, FirstFault}
use Rattle.cps_schema.specs.Readings.{ReadsAs, read_model}

pub read_or_refused : (w : Written) (tree : Tree) →
    ReadsAs w tree (read_model w tree) ⊎ ((name : FaultName) × ((token : ℕ) × FirstFault w tree name token))
read_or_refused w tree = by_fault (fields_fault w model_message [] tree) refl where
  by_fault : (fault : Option (FaultName × ℕ)) → fields_fault w model_message [] tree ≡ fault →
      ReadsAs w tree (read_model w tree) ⊎ ((name : FaultName) × ((token : ℕ) × FirstFault w tree name token))
  by_fault None e = inl (record { accepted = e; reading = refl })
  by_fault (Some (name, token)) e = inr (name, (token, e))

pub not_both : (w : Written) (tree : Tree) (m : CpModel) (name : FaultName) (token : ℕ) → ReadsAs w tree m → FirstFault w tree name token → ⊥
not_both w tree m name token read fault =
    let clash : ◌≡◌ {A = Option (FaultName × ℕ)} None (Some (name, token)) = sym read.accepted ∙ fault in
    cc

pub reads_once : (w : Written) (tree : Tree) (m n : CpModel) → ReadsAs w tree m → ReadsAs w tree n → m ≡ n
reads_once w tree m n one other = one.reading ∙ sym other.reading
