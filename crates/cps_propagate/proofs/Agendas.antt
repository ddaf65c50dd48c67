-- What contracts see of an engine whose fields change.
use Rattle.std.specs.Prelude.{false, OnErr}
use Rattle.std.proofs.Common.{Result, Ok, Err, ℕ, ◌+◌, ◌≤◌, ◌<◌, ◌^◌, ℤ, ◌≡◌, Bool, true, List, [], ◌∷◌, ◌++◌, length, take, drop, map, refl, sym, ◌∙◌, ap, subst, arith, true≢false}
use Rattle.std.proofs.lemmas.List.{length-map}
use Rattle.cps_instance.specs.declared.task.Task.{Task}
use Rattle.cps_instance.specs.Tasks.{lowered}
use Rattle.cps_literal.specs.declared.atom.Atom.{Atom}
use Rattle.cps_propagate.specs.declared.propagator.Answer.{Answer}
use Rattle.cps_propagate.specs.declared.propagator.Answer.TheVariants as answers
use Rattle.cps_propagate.specs.declared.engine.Traced.{Traced}
use Rattle.cps_propagate.specs.declared.engine.Traced.TheVariants.{Settled}
use Rattle.cps_propagate.specs.Agenda.{Agenda}
use Rattle.cps_propagate.specs.Conflicts.{as_traced}
use Rattle.cps_propagate.specs.Readers.{BySide}
use Rattle.cps_propagate.specs.Recalling.{Memory, Seen, Recall}
use Rattle.cps_propagate.specs.Wiring.{IsPlanned}
use Rattle.cps_propagate.proofs.Planning.{lowered_whole, map-push}

abbrev pub agenda : List Task → Recall → Bool → Agenda
agenda tasks recall refused = record { tasks = tasks; recall = recall; refused = refused }

abbrev pub recall_of : {X : Type 0} → (X → Memory) → List X → Seen → Recall
recall_of memory list seen = record { memories = map memory list; seen = seen }

pub same_recall : (a b : Recall) → a.memories ≡ b.memories → a.seen ≡ b.seen → a ≡ b
same_recall a b e f = ap (λ (ms : List Memory). let r : Recall = record { memories = ms; seen = a.seen } in r) e ∙ ap (λ (seen : Seen). let r : Recall = record { memories = b.memories; seen = seen } in r) f

-- an engine that was refused memory stands by no plan
pub no_plan : (P : Type 0) → true ≡ false → P
no_plan P e = absurd (true≢false e)

pub on_err : {A E : Type 0} (r : Result A E) (P : Type 0) → P → OnErr r P
on_err (Ok x) P h = tt
on_err (Err e) P h = h

module _ {X : Type 0} (f : X → Task) (old : Agenda) (was_recall recall : Recall) (refused : Bool) (before after : List X) (was : agenda (map f before) was_recall refused ≡ old) where
  -- the tasks are those of before, and memory was refused
  pub refused_now : map f after ≡ map f before → agenda (map f after) recall true ≡ agenda old.tasks recall true
  refused_now same = ap (λ (ts : List Task). agenda ts recall true) same ∙ ap (λ (a : Agenda). agenda a.tasks recall true) was

  -- the tasks are those of before, and memory was not refused
  pub as_before : map f after ≡ map f before → refused ≡ false → agenda (map f after) recall false ≡ agenda old.tasks recall old.refused
  as_before same not = ap (λ (ts : List Task). agenda ts recall false) same ∙ ap (λ (b : Bool). agenda (map f before) recall b) (sym not) ∙ ap (λ (a : Agenda). agenda a.tasks recall a.refused) was

  -- one more task
  pub added : (x : X) → map f after ≡ map f before ++ f x ∷ [] → refused ≡ false → agenda (map f after) recall false ≡ agenda (old.tasks ++ f x ∷ []) recall old.refused
  added x more not =
      ap (λ (ts : List Task). agenda ts recall false) more ∙ ap (λ (b : Bool). agenda (map f before ++ f x ∷ []) recall b) (sym not) ∙ ap (λ (a : Agenda). agenda (a.tasks ++ f x ∷ []) recall a.refused) was

-- the number of propagators
pub few_before : {X : Type 0} (f : X → Task) (old : Agenda) (before : List X) → map f before ≡ old.tasks → length old.tasks + 1 < 2 ^ 32 → (n : ℕ) → n ≡ length before → n + 1 < 2 ^ 32
few_before f old before was few n is = omega (arith, few, is, length-map before f, ap (λ (ts : List Task). length ts) was)

-- an engine to which a task is added has the tasks of one propagator more
pub one_added : {X : Type 0} (f : X → Task) (old new : Agenda) (xs : List X) (x : X) → old.tasks ≡ map f xs → new ≡ agenda (old.tasks ++ f x ∷ []) new.recall old.refused → new.tasks ≡ map f (xs ++ x ∷ [])
one_added f old new xs x was more =
    ap (λ (a : Agenda). a.tasks) more ∙ ap (λ (ts : List Task). ts ++ f x ∷ []) was ∙ sym (map-push f xs xs (xs ++ x ∷ []) x refl refl)

-- lists of one length
pub same_count : {X : Type 0} (f : X → Task) (xs ys : List X) (n : ℕ) → map f ys ≡ map f xs → n ≡ length xs → n ≡ length ys
same_count f xs ys n keeps is = omega (arith, is, ap (λ (ts : List Task). length ts) keeps, length-map ys f, length-map xs f)

-- the end of each task has fallen
pub lowered_agenda : (upper : ℤ) (tasks tasks' : List Task) (i : ℕ) (recall recall' : Recall) (refused refused' : Bool) → tasks' ≡ map (lowered upper) (take i tasks) ++ drop i tasks → length tasks ≤ i → recall' ≡ recall → refused' ≡ refused
    → agenda tasks' recall' refused' ≡ agenda (map (lowered upper) tasks) recall refused
lowered_agenda upper tasks tasks' i recall recall' refused refused' e l r same =
    ap (λ (ts : List Task). agenda ts recall' refused') (lowered_whole upper tasks tasks' i e l) ∙ ap (λ (b : Bool). agenda (map (lowered upper) tasks) recall' b) same
    ∙ ap (λ (m : Recall). agenda (map (lowered upper) tasks) m refused) r

-- what is planned for tasks is so whichever of them wait
pub planned_again : (tasks tasks' : List Task) (readers : BySide) (cuts : List ℕ) (waits waits' : List Bool) → tasks' ≡ tasks → length waits' ≡ length waits → IsPlanned tasks readers cuts waits → IsPlanned tasks' readers cuts waits'
planned_again tasks tasks' readers cuts waits waits' same count h =
    subst (λ (ts : List Task). IsPlanned ts readers cuts waits') (sym same) (record { wired = h.wired; are_cuts = h.are_cuts; count = count ∙ h.count; few = h.few })

-- an answer that is traced as no conflict is none
pub settled_of : {E : Type 0} (answer : Answer) (number : ℕ) (clause : List Atom) (traced : Traced) → traced ≡ as_traced answer number clause → ◌≡◌ {A = Result Traced E} (Ok traced) (Ok Settled) → answer ≡ answers.NoConflict
settled_of answers.NoConflict number clause traced is e = refl
settled_of answers.Conflict number clause traced is e = absurd (cc (is, e))
