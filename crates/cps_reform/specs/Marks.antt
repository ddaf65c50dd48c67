-- How the core of a failed assumption is marked.
use Rattle.std.specs.Prelude.{◌≡◌, ◌⊎◌, ◌↔◌, ℕ, ◌<◌, ◌≤◌, true, List, length, Contains}
use Rattle.cps_literal.specs.declared.atom.Atom.{Atom}
use Rattle.cps_literal.specs.declared.atom.Op.TheVariants.{Le}
use Rattle.cps_reform.specs.declared.held.Held.{Held}
use Rattle.cps_reform.specs.Forms.{Form, term_at}

-- that a term's subject stays at its bound
abbrev pub assumed : Held → Atom
assumed t = record { subject = t.subject; op = Le; value = t.bound }

-- whether a term is in the core of a failed one, by the decisions behind the assumption that is false: it is the failed
-- one itself, or its assumption is among them
pub record IsTermInCore (ts : List Held) (place : ℕ) (decisions : List Atom) (i : ℕ) : Type 0 where
  pub weighs : 1 ≤ (term_at ts i).weight
  pub led_to : (i ≡ place) ⊎ Contains decisions (assumed (term_at ts i))

-- terms of which just those in the core are marked
pub record AreMarked (ts us : List Held) (place : ℕ) (decisions : List Atom) : Type 0 where
  pub same_length : length us ≡ length ts
  pub same : (i : ℕ) → i < length ts → record (term_at us i) { in_core = (term_at ts i).in_core } ≡ term_at ts i
  pub core : (i : ℕ) → i < length ts → ((term_at us i).in_core ≡ true) ↔ IsTermInCore ts place decisions i

-- a form with just the core marked
pub record IsCoreMarked (f g : Form) (place : ℕ) (decisions : List Atom) : Type 0 where
  pub base : g.base ≡ f.base
  pub terms : AreMarked f.terms g.terms place decisions
