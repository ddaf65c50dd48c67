-- What keeps a core-guided search sound: a step of its frame, a decision, a new form at level 0, a sum more, a raise.
use Rattle.std.specs.Prelude.{unsigned_abs, IfSome, is_some}
use Rattle.std.proofs.Common.{◌≡◌, ◌⊎◌, ℕ, ◌+◌, ◌<◌, ◌≤◌, ◌^◌, ℤ, List, true, false, true≢false, Option, Some, None, [], ◌∷◌, refl, length, sym, ◌∙◌, ap, subst, arith, length-append}
use Rattle.cps_model.specs.declared.bound.Bound.{Bound}
use Rattle.cps_model.specs.declared.model.CpModel.{CpModel}
use Rattle.cps_literal.specs.declared.atom.Atom.{Atom}
use Rattle.cps_instance.specs.Posting.{objective_terms}
use Rattle.cps_instance.specs.Problem.{Problem, Defines, IsInstance}
use Rattle.cps_instance.specs.Sums.{DefinedSum}
use Rattle.cps_instance.specs.Terms.{Domains, greatest_of_terms}
use Rattle.cps_trail.specs.Trail.{IsSoundTrail}
use Rattle.cps_port.specs.Order.{BoundLe, raised_to}
use Rattle.cps_port.specs.Incumbents.{IsLowerBound}
use Rattle.cps_port.proofs.BoundLaws.{BoundLe-refl, greater_is}
use Rattle.cps_search.specs.Growing.{GrewBy}
use Rattle.cps_search.specs.Logged.{Log}
use Rattle.cps_search.specs.Moves.{moved, decided}
use Rattle.cps_search.specs.Searches.{Search, IsSoundSearch, NoneBelow}
use Rattle.cps_search.specs.Turns.{GoesOnAndBack}
use Rattle.cps_reform.specs.Forms.{Form}
use Rattle.cps_reform.specs.Floors.{IsReform}
use Rattle.cps_reform.proofs.Objectives.{greatest-longer}
use Rattle.cps_core_guided.specs.Assuming.{AreAssumed, AssumesFirst, IsSomeAssumption}
use Rattle.cps_core_guided.specs.Reforming.{CoreSearch, IsSoundCore, greatest_objective, most_sums, whole_core}
use Rattle.cps_core_guided.proofs.Assumptions.{assumes-bottom, assumes-decided, assumes-on-and-back, reform-falls}

-- a search without a log has none after a turn
unlogged : (a b : Option Log) → is_some a ≡ is_some b → b ≡ None → a ≡ None
unlogged None b same none = refl
unlogged (Some l) b same none = absurd (true≢false (same ∙ ap (λ (o : Option Log). is_some o) none))

-- another search over the same problem, below a bound that is no greater
pub sound-search : (s : CoreSearch) (t : Search) → IsSoundCore s → IsSoundSearch t → t.instance ≡ s.search.instance → is_some t.log ≡ is_some s.search.log → BoundLe t.z s.search.z → s.ended ≡ false → (s.sums < most_sums → AssumesFirst t.instance.model.assumptions t.store s.form.terms) → IsSoundCore (record s { search = t })
sound-search s t h sound same logs falls running assumes = record {
  search = sound;
  form = subst (λ (x : Problem). IsReform x t.z s.form) (sym same) (reform-falls s.search.instance t.z s.search.z s.form falls h.form);
  base = h.base;
  greatest = h.greatest ∙ ap (λ (p : Problem). greatest_objective p) (sym same);
  assumes = assumes;
  few = h.few;
  room = subst (λ (x : Problem). length x.domains + most_sums ≤ 2 ^ 31 + s.sums) (sym same) h.room;
  raised = subst (λ (x : Problem). IfSome s.raised (IsLowerBound x.model)) (sym same) h.raised;
  ended = λ is. absurd (true≢false (sym is ∙ running));
  no_log = unlogged t.log s.search.log logs h.no_log;
}

-- the steps of a frame, after which the last entries may go
pub sound-stepped : (s : CoreSearch) (t : Search) → IsSoundCore s → IsSoundSearch t → t.instance ≡ s.search.instance → is_some t.log ≡ is_some s.search.log → BoundLe t.z s.search.z → s.ended ≡ false → GoesOnAndBack s.search.store t.store → IsSoundCore (record s { search = t })
sound-stepped s t h sound same logs falls running store = sound-search s t h sound same logs falls running
    (λ few. subst (λ (p : Problem). AssumesFirst p.model.assumptions t.store s.form.terms) (sym same) (assumes-on-and-back s.search.instance.model.assumptions s.search.store t.store s.form.terms store (h.assumes few)))

-- a decision that is an assumption, or that is made where all of them are true
pub sound-decided : (s : CoreSearch) (t : Search) (a : Atom) → IsSoundCore s → IsSoundSearch t → t ≡ moved s.search (decided s.search.store a) s.search.rested
    → s.ended ≡ false → (s.sums < most_sums → IsSomeAssumption s.search.instance.model.assumptions s.form.terms a ⊎ AreAssumed s.search.store.first s.search.store.entries s.form.terms) → IsSoundCore (record s { search = t })
sound-decided s t a h sound is running new =
    sound-search s t h sound (ap (λ (x : Search). x.instance) is) (ap (λ (x : Search). is_some x.log) is) (subst (λ (x : Search). BoundLe x.z s.search.z) (sym is) (BoundLe-refl s.search.z)) running
    (λ few. subst (λ (x : Search). AssumesFirst x.instance.model.assumptions x.store s.form.terms) (sym is) (assumes-decided s.search.instance.model.assumptions s.search.store a s.form.terms (h.assumes few) (new few)))

-- a new form at level 0
pub sound-form : (s : CoreSearch) (f : Form) → IsSoundCore s → IsReform s.search.instance s.search.z f → unsigned_abs f.base < 2 ^ 62 → IsSoundTrail s.search.store → s.search.store.level ≡ 0 → IsSoundCore (record s { form = f })
sound-form s f h reform small sound bottom = record {
  search = h.search;
  form = reform;
  base = small;
  greatest = h.greatest;
  assumes = λ few. assumes-bottom s.search.instance.model.assumptions s.search.store f.terms sound bottom;
  few = h.few;
  room = h.room;
  raised = h.raised;
  ended = h.ended;
  no_log = h.no_log;
}

-- the greatest objective stays where a sum is defined
pub greatest-grown : (p q : Problem) (sum : DefinedSum) (subject : ℕ) → IsInstance p → Defines p q sum subject → greatest_objective q ≡ greatest_objective p
greatest-grown p q sum subject i d =
    ap (λ (m : CpModel). greatest_of_terms q.domains (objective_terms m.objective)) d.model
    ∙ ap (λ (ds : Domains). greatest_of_terms ds (objective_terms p.model.objective)) d.domains
    ∙ sym (greatest-longer p (d.added ∷ []) i)

-- a sum more at level 0, with a form over it
pub sound-grown : (s : CoreSearch) (t : Search) (f : Form) (sum : DefinedSum) (subject : ℕ) → IsSoundCore s → s.sums < most_sums → IsSoundSearch t → GrewBy s.search t sum subject → IsReform t.instance t.z f → unsigned_abs f.base < 2 ^ 62 → IsSoundTrail t.store
    → t.store.level ≡ 0 → s.ended ≡ false → IsSoundCore (record s { search = t; form = f; sums = s.sums + 1 })
sound-grown s t f sum subject h few sound grew reform small store bottom running =
    let d = grew.defines in
    let longer : length t.instance.domains ≡ length s.search.instance.domains + 1 = ap (λ (ds : Domains). length ds) d.domains ∙ length-append s.search.instance.domains (d.added ∷ []) in
    let room = h.room in
    let z : t.z ≡ s.search.z = ap (λ (x : Search). x.z) grew.is in
    record {
      search = sound;
      form = reform;
      base = small;
      greatest = h.greatest ∙ sym (greatest-grown s.search.instance t.instance sum subject h.search.instance d);
      assumes = λ few. assumes-bottom t.instance.model.assumptions t.store f.terms store bottom;
      few = omega (arith, few);
      room = omega (arith, longer, room);
      raised = subst (λ (m : CpModel). IfSome s.raised (IsLowerBound m)) (sym d.model) h.raised;
      ended = λ is. absurd (true≢false (sym is ∙ running));
      no_log = ap (λ (x : Search). x.log) grew.is ∙ h.no_log;
    }

raised_sound : (m : CpModel) (raised : Option Bound) (b : Bound) → IfSome raised (IsLowerBound m) → IsLowerBound m b → IfSome (raised_to raised b) (IsLowerBound m)
raised_sound m None b h k = k
raised_sound m (Some a) b h k = greater_is (IsLowerBound m) a b h k

-- a raise
pub sound-raised : (s : CoreSearch) (bound : Bound) → IsSoundCore s → IsLowerBound s.search.instance.model bound → IsSoundCore (record s { raised = raised_to s.raised bound })
sound-raised s bound h lower = record {
  search = h.search;
  form = h.form;
  base = h.base;
  greatest = h.greatest;
  assumes = h.assumes;
  few = h.few;
  room = h.room;
  raised = raised_sound s.search.instance.model s.raised bound h.raised lower;
  ended = h.ended;
  no_log = h.no_log;
}

-- the end in place of a reform
pub sound-ended : (s : CoreSearch) (core : List ℤ) → IsSoundCore s → NoneBelow s.search.instance.model s.search.z → core ≡ whole_core s.search.instance.model s.search.z → IsSoundCore (record s { ended = true; core = core })
sound-ended s core h none all = record {
  search = h.search;
  form = h.form;
  base = h.base;
  greatest = h.greatest;
  assumes = h.assumes;
  few = h.few;
  room = h.room;
  raised = h.raised;
  ended = λ is. (none, all);
  no_log = h.no_log;
}
