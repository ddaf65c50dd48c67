-- What tasks remember of the entries after which they came to rest stays so where these entries stay.
use Rattle.std.specs.Prelude.{IfSome}
use Rattle.std.proofs.Common.{ℕ, ◌≤◌, ◌≡◌, ◌∙◌, Option, Some, None, List, ◌++◌, take, length, sym, ap, arith}
use Rattle.std.proofs.lemmas.List.{take-take, take-append-le}
use Rattle.cps_instance.specs.declared.task.Task.{Task}
use Rattle.cps_trail.specs.Trail.{Entry, Trail}
use Rattle.cps_trail.specs.Adds.{Grounds, Infers}
use Rattle.cps_propagate.specs.Recalling.{Recall, AllRecall}
use Rattle.cps_propagate.proofs.Remembering.{Recalls-same}
use Rattle.cps_search.specs.Resting.{IsRestedAt, IsResting, recalled}
use Rattle.cps_clauses.specs.Bases.{Base}

-- what is remembered of the first entries of a store is so in one with the same first entries
pub recalls_front : (r : Recall) (s t : Trail) (n m : ℕ) → t.first ≡ s.first → n ≤ m → take n t.entries ≡ take n s.entries → AllRecall r s m → AllRecall r t n
recalls_front r s t n m first less same h number k d within few stands =
    Recalls-same _ s t k first (λ j l. sym (take-take j n t.entries (omega (arith, l, few))) ∙ ap (λ (es : List Entry). take j es) same ∙ take-take j n s.entries (omega (arith, l, few)))
    (h number k d within (omega (arith, few, less)) stands)

-- and so where entries are added
pub recalls_longer : (r : Recall) (s t : Trail) (added : List Entry) (n : ℕ) → t.first ≡ s.first → t.entries ≡ s.entries ++ added → n ≤ length s.entries → AllRecall r s n → AllRecall r t n
recalls_longer r s t added n first more within h =
    recalls_front r s t n n first (omega arith) (ap (λ (es : List Entry). take n es) more ∙ take-append-le n s.entries added within) h

-- inference adds entries
pub recalls_inferred : (C : Grounds) (tasks : List Task) (r : Recall) (s t : Trail) (rested : Option ℕ) → Infers C s t → IsRestedAt tasks s rested → IfSome rested (AllRecall r s) → IfSome rested (AllRecall r t)
recalls_inferred C tasks r s t None h k l = tt
recalls_inferred C tasks r s t (Some from) h k l = recalls_longer r s t h.added from h.first h.entries k.within l

-- where tasks were at rest nowhere, nothing that they remember counts
pub recalls_of : (r : Recall) (s : Trail) (rested : Option ℕ) → IfSome rested (AllRecall (recalled rested r) s) → IfSome rested (AllRecall r s)
recalls_of r s None h = tt
recalls_of r s (Some from) h = h

pub of_recalls : (r : Recall) (s : Trail) (rested : Option ℕ) → IfSome rested (AllRecall r s) → IfSome rested (AllRecall (recalled rested r) s)
of_recalls r s None h = tt
of_recalls r s (Some from) h = h

pub resting_of : (tasks : List Task) (r : Recall) (base : Base) (s : Trail) (rested : Option ℕ) (from : ℕ) → IsResting tasks (recalled rested r) base s rested from → IsResting tasks r base s rested from
resting_of tasks r base s rested from h = record { tasks_rest = h.tasks_rest; recalls = recalls_of r s rested h.recalls; within = h.within; clauses_rest = h.clauses_rest }

pub of_resting : (tasks : List Task) (r : Recall) (base : Base) (s : Trail) (rested : Option ℕ) (from : ℕ) → IsResting tasks r base s rested from → IsResting tasks (recalled rested r) base s rested from
of_resting tasks r base s rested from h = record { tasks_rest = h.tasks_rest; recalls = of_recalls r s rested h.recalls; within = h.within; clauses_rest = h.clauses_rest }
