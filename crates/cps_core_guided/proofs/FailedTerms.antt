-- What is known where a term fails: the search went back to level 0, and a reform was tried.
use Rattle.std.proofs.Common.{◌≡◌, ℕ, ◌<◌, Bool, true, false, Option, ℤ, List, length, refl, sym, ◌∙◌, ap, subst, ◌<ℤ◌}
use Rattle.cps_model.specs.declared.bound.Bound.{Bound}
use Rattle.cps_model.specs.declared.bound.Bound.TheVariants.{At}
use Rattle.cps_model.specs.declared.model.CpModel.{CpModel}
use Rattle.cps_literal.specs.declared.atom.Atom.{Atom}
use Rattle.cps_instance.specs.Terms.{Domains}
use Rattle.cps_trail.specs.Trail.{IsSoundTrail, Trail}
use Rattle.cps_port.specs.declared.part.Part.{Part}
use Rattle.cps_port.specs.Incumbents.{IsLowerBound}
use Rattle.cps_port.specs.Order.{raised_to}
use Rattle.cps_port.proofs.BoundLaws.{BoundLe-refl}
use Rattle.cps_search.specs.Growing.{AreBehindIn}
use Rattle.cps_search.specs.Lessons.{GoesBack}
use Rattle.cps_search.specs.Moves.{moved}
use Rattle.cps_search.specs.Resting.{Rest}
use Rattle.cps_search.specs.Searches.{IsSoundSearch, NoneBelow}
use Rattle.cps_search.specs.Stepping.{Raises}
use Rattle.cps_reform.specs.Forms.{Form, no_term, term_at}
use Rattle.cps_reform.specs.Floors.{IsFormPast}
use Rattle.cps_reform.specs.Marks.{assumed}
use Rattle.cps_core_guided.specs.Assuming.{IsFailed}
use Rattle.cps_core_guided.specs.CoreTurns.{ExhaustsFrom, FailsFrom, RaisesTo, ReformsFrom}
use Rattle.cps_core_guided.specs.Guiding.{HasFailed, Tried}
use Rattle.cps_core_guided.specs.Reforming.{CoreSearch, IsSoundCore, most_sums, whole_core}
use Rattle.cps_core_guided.proofs.Assumptions.{assumes-bottom}
use Rattle.cps_core_guided.proofs.CoreLaw.{assumptions-behind}
use Rattle.cps_core_guided.proofs.CoreSoundness.{sound-search}
use Rattle.cps_core_guided.proofs.Reforms.{base-bound}

-- a search that went back to level 0 is sound
pub sound-bottom : (s : CoreSearch) (bottom : Trail) (rest : Rest) → IsSoundCore s → IsSoundSearch (moved s.search bottom rest) → IsSoundTrail bottom → bottom.level ≡ 0 → s.ended ≡ false → IsSoundCore (record s { search = moved s.search bottom rest })
sound-bottom s bottom rest h sound store level running = sound-search s (moved s.search bottom rest) h sound refl refl (BoundLe-refl s.search.z) running (λ few. assumes-bottom s.search.instance.model.assumptions bottom s.form.terms store level)

-- the decisions behind the assumption that failed are assumptions
pub has-failed : (s : CoreSearch) (bottom : Trail) (rest : Rest) (place : ℕ) (decisions : List Atom) → IsSoundCore s → IsSoundTrail s.search.store → s.sums < most_sums → IsFailed s.search.store s.form.terms place → bottom.level ≡ 0
    → AreBehindIn s.search (assumed (term_at s.form.terms place)) decisions → HasFailed (record s { search = moved s.search bottom rest }) place decisions
has-failed s bottom rest place decisions h store few failed level behind =
    let inside : (term_at s.form.terms place).subject < length s.search.store.first = subst (λ (ds : Domains). (term_at s.form.terms place).subject < length ds) (sym h.search.domains) (h.form.roomy.terms place no_term failed.within).subject in
    record {
      few = few;
      within = failed.within;
      weighs = failed.weighs;
      bottom = level;
      phase = refl;
      assumptions = assumptions-behind _ s.search.instance.model.assumptions s.search.store s.form.terms place (assumed (term_at s.form.terms place)) decisions store (h.assumes few) failed inside behind.led.each;
      false_there = λ a solution below decided. behind.enough a solution.free below decided;
    }

-- where no solution was left before a reform was tried, none is after it
pub none-after : (v : CoreSearch) (model : CpModel) (z : Bound) → v.search.instance.model ≡ model → v.search.z ≡ z → NoneBelow model z → NoneBelow v.search.instance.model v.search.z
none-after v model z same bound none = subst (λ (b : Bound). NoneBelow v.search.instance.model b) (sym bound) (subst (λ (k : CpModel). NoneBelow k z) (sym same) none)

-- a bound that was told to the port is one that was raised to
pub raises-to : (s : CoreSearch) (r : Option Bound) (e : Bool) (c : List ℤ) (p q : Part) (bound : Bound) → Raises bound p.bounds q.bounds → q.board ≡ p.board → r ≡ raised_to s.raised bound → RaisesTo bound s (record s { raised = r; ended = e; core = c }) p q
raises-to s r e c p q bound told board is = record { raised = is; seen = told.seen; at_least = told.at_least; told = told.is; board = board }

-- a raise after a reform is one from before it
raises-from : (m v t : CoreSearch) (p q : Part) (bound : Bound) → v.raised ≡ m.raised → RaisesTo bound v t p q → RaisesTo bound m t p q
raises-from m v t p q bound same r = record { raised = r.raised ∙ ap (λ (o : Option Bound). raised_to o bound) same; seen = r.seen; at_least = r.at_least; told = r.told; board = r.board }

module _ (m v : CoreSearch) (bottom : Trail) (rest : Rest) (place : ℕ) (decisions : List Atom) (done : Bool) (h : Tried (record m { search = moved m.search bottom rest }) v place decisions done) where
  pub failed-from : (r : Option Bound) (e : Bool) (c : List ℤ) → m.sums < most_sums → IsFailed m.search.store m.form.terms place → AreBehindIn m.search (assumed (term_at m.form.terms place)) decisions → GoesBack m.search.store bottom 0 → FailsFrom m (record v { raised = r; ended = e; core = c }) h.form h.more
  failed-from r e c few failed behind back = record {
    few = few;
    place = place;
    failed = failed;
    decisions = decisions;
    behind = behind;
    bottom = bottom;
    back = back;
    reforms = h.reforms;
    entries = h.entries;
    level = h.level;
    sums = h.sums;
    setting = record { model = h.setting.model; gap = h.setting.gap; budget = h.setting.budget; refused = h.setting.refused; greatest = h.setting.greatest };
    z = h.z;
    learnt = record { tally = h.learnt.tally; base = h.learnt.base };
    imported = h.imported;
    best = h.best;
    search_raised = h.search_raised;
    search_core = h.search_core;
    phase = h.phase;
  }

  -- the form that a reform came to has a base that is a lower bound
  pub tried-bound : IsSoundCore v → done ≡ true → IsLowerBound v.search.instance.model (At v.form.base)
  tried-bound sound on = base-bound v sound (subst (λ (f : Form). IsFormPast v.search.z v.greatest v.search.instance.domains f → ⊥) (sym (h.is on)) (h.not_past on))

  pub reforms-from : (r : Option Bound) (e : Bool) (c : List ℤ) (p q : Part) → m.sums < most_sums → IsFailed m.search.store m.form.terms place → AreBehindIn m.search (assumed (term_at m.form.terms place)) decisions → GoesBack m.search.store bottom 0
      → done ≡ true → RaisesTo (At v.form.base) v (record v { raised = r; ended = e; core = c }) p q → e ≡ false → ReformsFrom m (record v { raised = r; ended = e; core = c }) p q v.form.base
  reforms-from r e c p q few failed behind back on raises off = record {
    more = h.more;
    fails = subst (λ (f : Form). FailsFrom m (record v { raised = r; ended = e; core = c }) f h.more) (sym (h.is on)) (failed-from r e c few failed behind back);
    is = refl;
    rises = subst (λ (f : Form). m.form.base <ℤ f.base) (sym (h.is on)) (h.rises on);
    not_past = subst (λ (f : Form). IsFormPast v.search.z v.greatest v.search.instance.domains f → ⊥) (sym (h.is on)) (h.not_past on);
    raises = raises-from m v (record v { raised = r; ended = e; core = c }) p q (At v.form.base) h.raised raises;
    ended = off;
  }

  pub exhausts-from : (r : Option Bound) (e : Bool) (c : List ℤ) (p q : Part) → m.sums < most_sums → IsFailed m.search.store m.form.terms place → AreBehindIn m.search (assumed (term_at m.form.terms place)) decisions → GoesBack m.search.store bottom 0
      → done ≡ false → RaisesTo v.search.z v (record v { raised = r; ended = e; core = c }) p q → e ≡ true → c ≡ whole_core v.search.instance.model v.search.z → ExhaustsFrom m (record v { raised = r; ended = e; core = c }) p q
  exhausts-from r e c p q few failed behind back off raises on all = record {
    form = h.form;
    more = h.more;
    fails = failed-from r e c few failed behind back;
    past = h.past off;
    none_below = subst (λ (b : Bound). NoneBelow m.search.instance.model b) (sym h.z) (h.none_below off);
    raises = raises-from m v (record v { raised = r; ended = e; core = c }) p q v.search.z h.raised raises;
    ended = on;
    core = all ∙ ap (λ (k : CpModel). whole_core k v.search.z) h.setting.model;
  }
