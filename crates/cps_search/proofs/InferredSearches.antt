-- A search whose clauses and tasks inferred, until both were at rest or one was in conflict, is the search in the store that they left.
use Rattle.std.proofs.Common.{ℕ, ◌≡◌, ◌∙◌, Option, List, sym, ap, subst}
use Rattle.cps_instance.specs.declared.task.Task.{Task}
use Rattle.cps_trail.specs.Trail.{Trail}
use Rattle.cps_trail.specs.Adds.{Infers}
use Rattle.cps_clauses.specs.Bases.{Base}
use Rattle.cps_propagate.specs.Recalling.{Recall}
use Rattle.cps_search.specs.Giving.{ByAll}
use Rattle.cps_search.specs.Moves.{moved}
use Rattle.cps_search.specs.Resting.{Rest, IsResting, recalled}
use Rattle.cps_search.specs.Searches.{Search, IsSoundSearch}
use Rattle.cps_search.specs.Shelves.{Shelf, base_with, shelf_of}
use Rattle.cps_search.proofs.Recalls.{of_resting}
use Rattle.cps_search.proofs.SearchInvariants.{sound_inferred}

-- where tasks and clauses came to rest
abbrev pub rest_of : Base → Recall → Option ℕ → ℕ → Rest
rest_of base recall rested from = record { tasks = rested; recall = recalled rested recall; clauses = from; watched = base.watched }

-- the search with a store, clauses and tasks that inference left
abbrev pub with_parts : Search → Trail → Base → List Task → Recall → Option ℕ → ℕ → Search
with_parts s trail base tasks recall rested from = record (moved s trail (rest_of base recall rested from)) { base = shelf_of base; tasks = tasks }

-- inference adds no clause and no task
pub parts_are : (s d : Search) (trail : Trail) (base : Base) (tasks : List Task) (recall : Recall) (rested : Option ℕ) (from : ℕ) → s ≡ d → shelf_of base ≡ s.base → tasks ≡ s.tasks → with_parts s trail base tasks recall rested from ≡ moved d trail (rest_of base recall rested from)
parts_are s d trail base tasks recall rested from is shelf same =
    subst (λ (x : Search). with_parts s trail base tasks recall rested from ≡ moved x trail (rest_of base recall rested from)) is
    (ap (λ (b : Shelf). record (moved s trail (rest_of base recall rested from)) { base = b; tasks = tasks }) shelf ∙ ap (λ (ts : List Task). record (moved s trail (rest_of base recall rested from)) { tasks = ts }) same)

-- and so the search stays sound
pub parts_sound : (s d : Search) (trail : Trail) (base : Base) (tasks : List Task) (recall : Recall) (rested : Option ℕ) (from : ℕ) → s ≡ d → IsSoundSearch d → shelf_of base ≡ s.base → tasks ≡ s.tasks → Infers (ByAll s.tasks s.base.clauses) s.store trail → IsResting s.tasks recall base trail rested from → IsSoundSearch (with_parts s trail base tasks recall rested from)
parts_sound s d trail base tasks recall rested from is sound shelf same infers rests =
    subst (λ (b : Shelf). IsSoundSearch (record (moved s trail (rest_of base recall rested from)) { base = b; tasks = tasks })) (sym shelf)
    (subst (λ (ts : List Task). IsSoundSearch (record (moved s trail (rest_of base recall rested from)) { tasks = ts })) (sym same)
    (sound_inferred s trail (rest_of base recall rested from) (subst (λ (x : Search). IsSoundSearch x) (sym is) sound) infers
    (subst (λ (b : Shelf). IsResting s.tasks (recalled rested recall) (base_with b base.watched) trail rested from) shelf (of_resting s.tasks recall base trail rested from rests))))
