-- How a turn of a core-guided worker goes from step to step.
use Rattle.std.specs.Prelude.{◌≡◌, ℕ, ℤ, Option, Some, None, ◌+◌, ◌<◌, ◌≤◌, ◌<ℤ◌, Bool, true, false, List, length}
use Rattle.cps_literal.specs.declared.atom.Atom.{Atom}
use Rattle.cps_branch.specs.Fixed.{AreFixed}
use Rattle.cps_branch.specs.Scope.{Scope}
use Rattle.cps_instance.specs.Problem.{variable_count}
use Rattle.cps_trail.specs.Trail.{Trail}
use Rattle.cps_search.specs.declared.end.Phase.TheVariants.{Deciding, Stepping}
use Rattle.cps_search.specs.Searches.{Search, IsSettled, NoneBelow}
use Rattle.cps_search.specs.Turns.{SameBest, SameCore, SameImported, SameLearnt, SameRaised}
use Rattle.cps_core_guided.specs.declared.guided.Guided.{Guided}
use Rattle.cps_reform.specs.Forms.{Form, term_at}
use Rattle.cps_search.specs.Growing.{GrewBy}
use Rattle.cps_reform.specs.Cores.{core_sum, least_weight, split}
use Rattle.cps_reform.specs.Floors.{OfEachBelow}
use Rattle.cps_literal.specs.Truth.{atom_holds}
use Rattle.std.specs.List.{All}
use Rattle.cps_reform.specs.Marks.{assumed}
use Rattle.cps_core_guided.specs.Assuming.{IsSomeAssumption}
use Rattle.cps_reform.specs.Floors.{IsFormPast}
use Rattle.cps_core_guided.specs.Reforming.{CoreSearch, ReformsTo, most_sums}
use Rattle.cps_core_guided.specs.CoreTurns.{IsCoreWorking, SameCoreSetting}

-- the core-guided search that a worker stands for, as long as no allocation failed
abbrev pub core_search_of : {P B : Type 0} → Guided P B → CoreSearch
core_search_of {P} {B} g = record {
  search = g.frame;
  form = g.reform;
  sums = g.sums;
  greatest = g.greatest;
  raised = g.raised;
  ended = g.ended;
  core = g.core;
}

-- between two turns: the search, with what its brancher keeps and saw of it
abbrev pub Works : {P B : Type 0} → (B → Scope) → (B → Trail → ℕ → Type 0) → Guided P B → Type 0
Works {P} {B} scope agrees g =
    IsCoreWorking (core_search_of g) (scope g.brancher) (agrees g.brancher g.frame.store) g.kept

-- a decision is due, and not all variables are fixed
pub record IsDue (s : Search) : Type 0 where
  pub phase : s.phase ≡ Deciding
  pub settled : IsSettled s
  pub left_open : AreFixed s.store (variable_count s.instance) → ⊥

-- A term failed, and the search went back to level 0: wherever decisions that are assumptions of the model or of terms
-- are true below z, the term's assumption is false.
pub record HasFailed (s : CoreSearch) (place : ℕ) (decisions : List Atom) : Type 0 where
  pub few : s.sums < most_sums
  pub within : place < length s.form.terms
  pub weighs : 1 ≤ (term_at s.form.terms place).weight
  pub bottom : s.search.store.level ≡ 0
  pub phase : s.search.phase ≡ Stepping
  pub assumptions : All (IsSomeAssumption s.search.instance.model.assumptions s.form.terms) decisions
  pub false_there : OfEachBelow s.search.instance s.search.z
      (λ xs. All (λ u. atom_holds xs u ≡ true) decisions → atom_holds xs (assumed (term_at s.form.terms place)) ≡ false)

-- A reform was tried at level 0. Where it went through, the form is the one that it comes to, which is not past what a
-- solution below z can have; else it would be past that, and no solution is below z.
pub record Tried (s t : CoreSearch) (place : ℕ) (decisions : List Atom) (done : Bool) : Type 0 where
  pub form : Form
  pub more : ℕ
  pub reforms : ReformsTo s.search.store s.search.instance s.form place decisions t.search.instance form more
  pub sums : t.sums ≡ s.sums + more
  pub is : done ≡ true → t.form ≡ form
  pub rises : done ≡ true → s.form.base <ℤ form.base
  pub not_past : done ≡ true → IsFormPast t.search.z t.greatest t.search.instance.domains form → ⊥
  pub past : done ≡ false → IsFormPast t.search.z t.greatest t.search.instance.domains form
  pub none_below : done ≡ false → NoneBelow s.search.instance.model s.search.z
  pub setting : SameCoreSetting s t
  pub entries : t.search.store.entries ≡ s.search.store.entries
  pub level : t.search.store.level ≡ 0
  pub z : t.search.z ≡ s.search.z
  pub learnt : SameLearnt s.search t.search
  pub imported : SameImported s.search t.search
  pub best : SameBest s.search t.search
  pub search_raised : SameRaised s.search t.search
  pub search_core : SameCore s.search t.search
  pub raised : t.raised ≡ s.raised
  pub ended : t.ended ≡ s.ended
  pub core : t.core ≡ s.core
  pub phase : t.search.phase ≡ Stepping

-- A core of several terms was split by its sum, which was defined. Where that went through, the form is the split one;
-- else it stays, and no solution is below z.
pub record SplitsCore (s t : CoreSearch) (done : Bool) : Type 0 where
  pub subject : ℕ
  pub grew : GrewBy s.search t.search (core_sum s.form.terms) subject
  pub sums : t.sums ≡ s.sums + 1
  pub is : done ≡ true → t.form ≡ split s.form (least_weight s.form.terms) subject
  pub stays : done ≡ false → t.form ≡ s.form
  pub not_past : done ≡ true → IsFormPast t.search.z t.greatest t.search.instance.domains t.form → ⊥
  pub past : done ≡ false → IsFormPast t.search.z t.greatest t.search.instance.domains
      (split s.form (least_weight s.form.terms) subject)
  pub none_below : done ≡ false → NoneBelow s.search.instance.model s.search.z
  pub raised : t.raised ≡ s.raised
  pub greatest : t.greatest ≡ s.greatest
  pub ended : t.ended ≡ s.ended
  pub core : t.core ≡ s.core

-- the core of a worker: its own, if it has one
abbrev pub core_or : Option (List ℤ) → List ℤ → List ℤ
core_or None core = core
core_or (Some own) core = own

-- the same with another word on whether memory was refused
abbrev pub with_refused : CoreSearch → Bool → CoreSearch
with_refused s refused = record s { search = record s.search { refused = refused } }
