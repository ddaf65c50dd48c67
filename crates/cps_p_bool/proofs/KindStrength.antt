-- The strength of each Boolean kind, where its body is consistent in a store.
use Rattle.std.proofs.Common.{ℕ, ◌<◌, List, length, sym, subst}
use Rattle.std.specs.List.{All}
use Rattle.std.proofs.lemmas.List.Elements.{All-map}
use Rattle.cps_literal.specs.declared.atom.Atom.{Atom}
use Rattle.cps_instance.specs.declared.task.Body.{Body}
use Rattle.cps_instance.specs.Tasks.{subjects_of_body}
use Rattle.cps_trail.specs.Trail.{Trail, IsTrueNow}
use Rattle.cps_propagate.specs.Strength.{IsStrong}
use Rattle.cps_p_bool.specs.Denying.{AreLiterals, task_of}
use Rattle.cps_p_bool.specs.Taking.{CanHold, IsConsistent}
use Rattle.cps_p_bool.specs.Seeking.{IsIdle}
use Rattle.cps_p_bool.specs.Rules.{IsBoolean}
use Rattle.cps_p_bool.proofs.Unforced.{AreUnforced-consistent, not_excluded}
use Rattle.cps_p_bool.proofs.KindSteps.{not_enforced}

module _ (s : Trail) (e : List Atom) (b : Body) (us : List Atom) (boolean : IsBoolean b us) (fits : AreLiterals s.first us) where
  pub body_subjects : All (λ i. i < length s.first) (subjects_of_body b)
  body_subjects = subst (λ (is : List ℕ). All (λ i. i < length s.first) is) (sym boolean.reads) (All-map (λ i. i < length s.first) (λ (u : Atom). u.subject) us (λ k d l. (fits k d l).subject))

  -- strong, where the body can hold, and is consistent if the task is in force
  pub IsStrong-consistent : CanHold s b → (All (IsTrueNow s) e → IsConsistent s b) → IsStrong (task_of e b) s
  IsStrong-consistent can h = record {
    body = λ trues. boolean.strong s (AreUnforced-consistent s b body_subjects us (λ k d l. (fits k d l).subject) (h trues));
    last = λ k d l others no. absurd (not_excluded s b body_subjects can (boolean.excluded s no));
  }

-- a task that is not in force is strong, where an enforcement atom is false or two are not true
pub IsStrong-idle : (s : Trail) (e : List Atom) (b : Body) → IsIdle s e → IsStrong (task_of e b) s
IsStrong-idle s e b idle = record {
  body = λ trues. absurd (not_enforced s e idle.place idle.within idle.not_true trues);
  last = λ k d l others no. idle.last k d l others;
}
