-- A worker whose memory was not refused is seen as it is, also where it was handed another solution.
use Rattle.std.proofs.Common.{◌≡◌, ◌∙◌, ℤ, Bool, true, false, cond, Some, None, List, length, ap, sym, arith}
use Rattle.cps_neighbourhood.specs.declared.aim.Aim.{Aim}
use Rattle.cps_neighbourhood.specs.declared.explorer.Explorer.{Explorer}
use Rattle.cps_neighbourhood.specs.Exploring.{IsExploring, near_as, near_of}
use Rattle.cps_neighbourhood.specs.Standing.{solution_of}

pub as_running : {P : Type 0} (x : Explorer P) → IsExploring x → near_as false (near_of x) ≡ near_of x
as_running x h = ap (λ (b : Bool). near_as b (near_of x)) (sym h.running)

pub as_refused : {P : Type 0} (refused : Bool) (x : Explorer P) → refused ≡ false → IsExploring x → near_as refused (near_of x) ≡ near_of x
as_refused refused x e h = ap (λ (b : Bool). near_as b (near_of x)) e ∙ as_running x h

pub solved : (a : Aim) (values : List ℤ) → solution_of a ≡ Some values → a.values.items ≡ values
solved a values e = by_set a.is_set a.values.items e
  where
    by_set : (b : Bool) (items : List ℤ) → cond b (Some items) None ≡ Some values → items ≡ values
    by_set true items e = cc
    by_set false items e = absurd (cc e)

pub explores_aimed : {P : Type 0} (x : Explorer P) (a : Aim) → IsExploring x → length a.values.items ≡ length x.aim.values.items → IsExploring (record x { aim = a })
explores_aimed x a h same = record {
  sound = h.sound;
  running = h.running;
  scope = h.scope;
  budget = h.budget;
  conflicts = h.conflicts;
  imported = h.imported;
  within = h.within;
  no_log = h.no_log;
  agreed = h.agreed;
  variables = same ∙ h.variables;
  few_variables = omega (arith, same, h.few_variables);
  rounds = h.rounds;
  tally = h.tally;
  between = h.between;
  under_way = h.under_way;
}
