-- One pass over what a look found.
use Rattle.std.specs.Prelude.{All}
use Rattle.std.proofs.Common.{ℕ, ◌+◌, ◌<◌, ◌≡◌, ◌∙◌, List, [], ◌∷◌, ◌++◌, length, take, get_or, ap, arith, append-nil, length-append}
use Rattle.std.proofs.lemmas.List.Elements.{All-more, All-weaker}
use Rattle.cps_literal.specs.declared.atom.Atom.{Atom}
use Rattle.cps_instance.specs.declared.task.Body.{Body}
use Rattle.cps_instance.specs.Tasks.{HoldsTask}
use Rattle.cps_trail.specs.Trail.{Entry, Trail, IsTrueNow}
use Rattle.cps_trail.specs.Adds.{Infers}
use Rattle.cps_trail.specs.Notes.{ByTask}
use Rattle.cps_trail.proofs.Inferring.{Infers-trans, stays_true}
use Rattle.cps_rule.specs.declared.rule.Narrowing.{Narrowing}
use Rattle.cps_enforce.specs.Reasons.{task_of}

-- the first narrowings were made
pub record Narrows (number : ℕ) (us : List Atom) (b : Body) (s u : Trail) (found : List Narrowing) : Type 0 where
  pub infers : Infers (ByTask number (HoldsTask (task_of us b))) s u
  pub made : All (λ n. IsTrueNow u n.target) found

pub Narrows-more : (number : ℕ) (us : List Atom) (b : Body) (s u v : Trail) (found : List Narrowing) (i : ℕ) (d : Narrowing) → i < length found → Narrows number us b s u (take i found)
    → Infers (ByTask number (HoldsTask (task_of us b))) u v → IsTrueNow v (get_or found i d).target → Narrows number us b s v (take (i + 1) found)
Narrows-more number us b s u v found i d l h more here = record {
  infers = Infers-trans (ByTask number (HoldsTask (task_of us b))) s u v h.infers more;
  made = All-more (λ (n : Narrowing). IsTrueNow v n.target) found i d l
      (All-weaker (λ (n : Narrowing). IsTrueNow u n.target) (λ (n : Narrowing). IsTrueNow v n.target) (λ n t. stays_true (ByTask number (HoldsTask (task_of us b))) u v more n.target t) (take i found) h.made) here;
}

-- where no entry was added, the entries are the same
pub none_added : (es new added : List Entry) → new ≡ es ++ added → length new ≡ length es → new ≡ es
none_added es new [] e l = e ∙ append-nil es
none_added es new (a ∷ added) e l = absurd (omega (arith, ap (λ (xs : List Entry). length xs) e, length-append es (a ∷ added), l))
