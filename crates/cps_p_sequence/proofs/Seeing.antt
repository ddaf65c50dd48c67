-- What the rule of an automaton knows of a body, which is seen through its lists.
use Rattle.std.specs.Prelude.{All}
use Rattle.std.proofs.Common.{◌≡◌, ℕ, ◌<◌, ℤ, Bool, true, false, Option, List, length, sym, ◌∙◌, ap, subst}
use Rattle.cps_model.specs.Sequences.{transitions}
use Rattle.cps_instance.specs.declared.task.Body.{Body}
use Rattle.cps_instance.specs.declared.task.Body.TheVariants.{Automaton}
use Rattle.cps_instance.specs.Terms.{Domains}
use Rattle.cps_trail.specs.Trail.{Trail}
use Rattle.cps_propagate.specs.Strength.{IsExcludedBody}
use Rattle.cps_rule.specs.Rules.{IsAtRest, IsFittingRule}
use Rattle.cps_p_sequence.specs.declared.states.Step.{Step}
use Rattle.cps_p_sequence.specs.Networks.{IsNetwork, IsStepWithin}
use Rattle.cps_rule.specs.declared.rule.Narrowing.{Narrowing}
use Rattle.cps_p_sequence.specs.Runs.{CanEnd, IsFollowed, AreEndsAlive, AreFound, IsDead, IsRunLooked}
use Rattle.cps_literal.specs.declared.atom.Atom.{Atom}
use Rattle.cps_rule.specs.Facts.{GivesGoal}
use Rattle.cps_p_sequence.specs.Cuts.{IsCut}
use Rattle.cps_p_sequence.proofs.Running.{body_followed, body_rests, body_possible}
use Rattle.cps_p_sequence.proofs.Cutting.{cut_gives}

-- what a look's answer says
pub looked_some : (s : Trail) (steps : List Step) (first : ℕ) (last : List Bool) (is : List ℕ) (found : List Narrowing) (r : Bool) → r ≡ true → IsRunLooked s steps first last is found r → CanEnd s steps last is first × AreFound s steps first last is (length is) found
looked_some s steps first last is found r e h = subst (λ (v : Bool). IsRunLooked s steps first last is found v) e h

pub looked_none : (s : Trail) (steps : List Step) (first : ℕ) (last : List Bool) (is : List ℕ) (found : List Narrowing) (r : Bool) → r ≡ false → IsRunLooked s steps first last is found r → IsDead s steps first last is found
looked_none s steps first last is found r e h = subst (λ (v : Bool). IsRunLooked s steps first last is found v) e h

module _ (b : Body) (start : ℤ) (finals tails heads labels : List ℤ) (is is' : List ℕ) (states : List ℤ) (first : ℕ) (last last' : List Bool) (steps steps' : List Step)
    (view : Automaton start finals tails heads labels is ≡ b) (same-is : is' ≡ is) (same-last : last' ≡ last) (same-steps : steps' ≡ steps)
    (net : IsNetwork (transitions tails heads labels) finals start states first last steps) where
  is_body : Automaton start finals tails heads labels is' ≡ b
  is_body = ap (λ (xs : List ℕ). Automaton start finals tails heads labels xs) same-is ∙ view

  network : IsNetwork (transitions tails heads labels) finals start states first last' steps'
  network = subst (λ (ls : List Bool). IsNetwork (transitions tails heads labels) finals start states first ls steps') (sym same-last)
      (subst (λ (ts : List Step). IsNetwork (transitions tails heads labels) finals start states first last ts) (sym same-steps) net)

  pub seen_subjects : (domains : Domains) → IsFittingRule domains b → All (λ i. i < length domains) is'
  seen_subjects domains h = (subst (λ (x : Body). IsFittingRule domains x) (sym is_body) h).subjects

  pub seen_steps : All (IsStepWithin (length last')) steps'
  seen_steps = network.within

  pub seen_first : first < length last'
  seen_first = network.begin

  module _ (s : Trail) where
    pub seen_followed : IsFittingRule s.first b → IsFollowed b s steps' first last' is'
    seen_followed h = subst (λ (x : Body). IsFollowed x s steps' first last' is') is_body (body_followed start finals tails heads labels states first last' steps' network s is' (seen_subjects s.first h))

    pub seen_rests : CanEnd s steps' last' is' first → AreEndsAlive s steps' first last' is' (length is') → IsAtRest b s
    seen_rests h alive = subst (λ (x : Body). IsAtRest x s) is_body (body_rests start finals tails heads labels states first last' steps' network s is' h alive)

    pub seen_possible : CanEnd s steps' last' is' first → IsExcludedBody b s → ⊥
    seen_possible h = subst (λ (x : Body). IsExcludedBody x s → ⊥) is_body (body_possible start finals tails heads labels states first last' steps' network s is' h)

    pub seen_gives : (goal : Option Atom) (us : List Atom) → IsCut s goal steps' first last' is' us → GivesGoal b s goal us
    seen_gives goal us h = subst (λ (x : Body). GivesGoal x s goal us) is_body (cut_gives start finals tails heads labels states first last' steps' network s goal is' us h)
