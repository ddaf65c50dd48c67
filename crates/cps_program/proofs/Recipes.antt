-- A generated model can be shown and solved, and what a demonstration says of it.
use Rattle.std.specs.Prelude.{IsTrue, Some}
use Rattle.std.proofs.Common.{◌≡◌, ◌∙◌, ℕ, true, refl, ap, subst, All, arith}
use Rattle.std.proofs.lemmas.List.Elements.{All-weaker}
use Rattle.cps_model.specs.declared.model.CpModel.{CpModel}
use Rattle.cps_model.specs.declared.constraint.Constraint.{Constraint}
use Rattle.cps_model.specs.declared.constraint.Kind.{Kind}
use Rattle.cps_model.specs.declared.constraint.Kind.TheVariants as kinds
use Rattle.cps_model.specs.Validity.{IsValid}
use Rattle.cps_gen.specs.declared.family.Family.{Family}
use Rattle.cps_gen.specs.declared.family.Family.TheVariants.{Knapsack, Jobshop, Tour}
use Rattle.cps_gen.specs.Generated.{generated, is_generated}
use Rattle.cps_kinds.specs.Kinds.{is_propagated, AreAllPropagated}
use Rattle.cps_print.specs.Responses.{HasShowableLimits}
use Rattle.cps_print.specs.Demonstrations.{demo_text}
use Rattle.cps_options.specs.declared.options.Options.{Options}
use Rattle.cps_options.specs.Ranges.{AreInRange}
use Rattle.cps_command.specs.declared.recipe.Recipe.{Recipe}
use Rattle.cps_crew.specs.declared.outcome.Outcome.{Outcome}
use Rattle.cps_crew.specs.Outcomes.{IsGoodOutcome}
use Rattle.cps_portfolio.specs.Workers.{IsDrawnRun}
use Rattle.cps_program.specs.declared.answer.Answer.{Answer}
use Rattle.cps_program.specs.Answers.{model_of, demo_options, Demonstrates}
use Rattle.cps_program.proofs.Outcomes.{promise_kept}

-- its objective has no offset, and the scaling 1 or -1
pub generated_showable : (f : Family) (size seed : ℕ) → HasShowableLimits (generated f size seed).objective
unfolding generated
generated_showable Knapsack size seed = record { offset = omega arith; scaling = omega arith }
generated_showable Jobshop size seed = record { offset = omega arith; scaling = omega arith }
generated_showable Tour size seed = record { offset = omega arith; scaling = omega arith }

kind_propagated : (k : Kind) → IsTrue (is_generated k) → is_propagated k ≡ true
kind_propagated kinds.Empty h = absurd cc
kind_propagated (kinds.BoolOr literals) h = absurd cc
kind_propagated (kinds.BoolAnd literals) h = absurd cc
kind_propagated (kinds.AtMostOne literals) h = absurd cc
kind_propagated (kinds.ExactlyOne literals) h = absurd cc
kind_propagated (kinds.BoolXor literals) h = absurd cc
kind_propagated (kinds.Linear vars coeffs domain) h = refl
kind_propagated (kinds.IntDiv target exprs) h = absurd cc
kind_propagated (kinds.IntMod target exprs) h = absurd cc
kind_propagated (kinds.IntProd target exprs) h = absurd cc
kind_propagated (kinds.LinMax target exprs) h = absurd cc
kind_propagated (kinds.Element index target exprs) h = absurd cc
kind_propagated (kinds.Table exprs values negated) h = absurd cc
kind_propagated (kinds.AllDiff exprs) h = absurd cc
kind_propagated (kinds.Circuit tails heads literals) h = refl
kind_propagated (kinds.Interval start end size) h = refl
kind_propagated (kinds.NoOverlap intervals) h = refl
kind_propagated (kinds.Cumulative capacity intervals demands) h = absurd cc
kind_propagated (kinds.Inverse direct inverse) h = absurd cc
kind_propagated (kinds.Automaton start finals tails heads labels exprs) h = absurd cc
kind_propagated (kinds.Reservoir min max times changes active) h = absurd cc
kind_propagated (kinds.NoOverlap2d x y) h = absurd cc

pub generated_propagated : (m : CpModel) → All (λ (c : Constraint). IsTrue (is_generated c.kind)) m.constraints → AreAllPropagated m
generated_propagated m h =
    All-weaker (λ (c : Constraint). IsTrue (is_generated c.kind)) (λ (c : Constraint). is_propagated c.kind ≡ true) (λ c g. kind_propagated c.kind g) m.constraints h

pub demo_in_range : (seed : ℕ) → AreInRange (demo_options seed)
demo_in_range seed =
    record { some_worker = omega arith; workers = omega arith; conflicts = omega arith; gap = omega arith; log = λ on. absurd cc }

-- the lines that are written are those of the outcome, which is good for the model that the words name
pub demonstrated : (r : Recipe) (m : CpModel) (options : Options) (o : Outcome) (answer : Answer) → m ≡ model_of r → options ≡ demo_options r.seed → IsValid m
    → IsGoodOutcome m options o → IsDrawnRun m options 4096 o.ends → answer.exit ≡ 0 → answer.outcome ≡ Some o → answer.text ≡ demo_text m o.status o.solution
    → Demonstrates r answer
demonstrated r m options o answer same goes valid good drawn exit outcome text =
    let here = subst (λ (k : Options). IsGoodOutcome (model_of r) k o) goes (subst (λ (n : CpModel). IsGoodOutcome n options o) same good) in
    record {
      found = o;
      exit = exit;
      outcome = outcome;
      text = text ∙ ap (λ (n : CpModel). demo_text n o.status o.solution) same;
      valid = subst IsValid same valid;
      good = here;
      promise = promise_kept (model_of r) (demo_options r.seed) o here;
      drawn = subst (λ (k : Options). IsDrawnRun (model_of r) k 4096 o.ends) goes (subst (λ (n : CpModel). IsDrawnRun n options 4096 o.ends) same drawn);
    }
