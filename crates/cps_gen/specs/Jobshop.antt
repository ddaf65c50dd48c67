-- A job shop of n jobs on n machines: each job has n steps, each on another machine, in order. Task t is step t % n of
-- job t / n. Variable t is when task t starts, and variable n * n is when all tasks have ended.
use Rattle.std.specs.Prelude.{ℕ, ◌+◌, ◌-◌, ◌*◌, ◌/◌, ◌%◌, ◌==◌, Bool, not, pos, neg_ℤ, List, [], ◌∷◌, ◌++◌, map, filter, replicate, sum_by}
use Rattle.rand_pcg.specs.Lcg.{Lcg}
use Rattle.cps_model.specs.declared.model.CpModel.{CpModel}
use Rattle.cps_model.specs.declared.constraint.Constraint.{Constraint}
use Rattle.cps_model.specs.declared.constraint.Kind.{Kind}
use Rattle.cps_model.specs.declared.constraint.Kind.TheVariants.{Linear, Interval, NoOverlap}
use Rattle.cps_gen.specs.Draws.{drawn}
use Rattle.cps_gen.specs.Parts.{first, up_to, fixed, moved, in_force, least_of, model_of}

-- all tasks, job by job, and in a job step by step
abbrev pub tasks : ℕ → List ℕ
tasks n = first (n * n)

-- the machine of a task
abbrev pub machine : ℕ → ℕ → ℕ
machine n t = (t / n + t % n) % n

-- how long a task runs: for each task in order 1 to 20 is drawn
abbrev pub duration : Lcg → ℕ → ℕ
duration draws t = 1 + drawn draws t 20

-- what all tasks take one after another
abbrev pub horizon : Lcg → ℕ → ℕ
horizon draws n = sum_by (duration draws) (tasks n)

-- a task runs from its start for its duration
abbrev pub run : Lcg → ℕ → Kind
run draws t = Interval (moved t 0) (moved t (duration draws t)) (fixed (duration draws t))

-- a variable is as late as the end of a task, or later
abbrev pub no_sooner : Lcg → ℕ → ℕ → ℕ → Kind
no_sooner draws n later t =
    Linear (pos later ∷ pos t ∷ []) (pos 1 ∷ neg_ℤ (pos 1) ∷ []) (pos (duration draws t) ∷ pos (horizon draws n) ∷ [])

-- whether a task is not the first of its job
abbrev pub is_later : ℕ → ℕ → Bool
is_later n t = not (t % n == 0)

-- the last task of a job
abbrev pub last_task : ℕ → ℕ → ℕ
last_task n job = job * n + (n - 1)

-- the tasks of a machine
abbrev pub tasks_on : ℕ → ℕ → List ℕ
tasks_on n m = filter (λ t. machine n t == m) (tasks n)

-- All tasks run. Each that is not the first of its job starts when the one before it has ended, or later. All has ended
-- no sooner than the last task of each job. No two tasks of a machine run at once.
abbrev pub jobshop_constraints : Lcg → ℕ → List Constraint
jobshop_constraints draws n =
    map (λ t. in_force (run draws t)) (tasks n)
    ++ map (λ t. in_force (no_sooner draws n t (t - 1))) (filter (is_later n) (tasks n))
    ++ map (λ job. in_force (no_sooner draws n (n * n) (last_task n job))) (first n)
    ++ map (λ m. in_force (NoOverlap (map pos (tasks_on n m)))) (first n)

-- when all has ended is minimised
abbrev pub jobshop : Lcg → ℕ → CpModel
jobshop draws n =
    model_of (replicate (n * n + 1) (up_to (horizon draws n))) (jobshop_constraints draws n)
    (least_of (pos (n * n) ∷ []) (pos 1 ∷ []) (pos 1))
