use Rattle.std.proofs.Common.{◌≡◌, ℕ, length, refl, ap, arith}
use Rattle.cps_search.specs.declared.log_items.TaskCounts.{TaskCounts}
use Rattle.cps_search.specs.LogItems.{counts_of}
use Rattle.cps_search.proofs.LogItems.{tasks_counted}
use Rattle.cps_search.proofs.log_items.TaskCounts.of.Goals as goal

same_counts : (a b : TaskCounts) → a.variables ≡ b.variables → a.constraints ≡ b.constraints → a.sums ≡ b.sums → a ≡ b
same_counts a b e f g = same a.variables a.constraints a.sums b.variables b.constraints b.sums e f g where
  same : (v c s v' c' s' : ℕ) → v ≡ v' → c ≡ c' → s ≡ s' → (let n : TaskCounts = record { variables = v; constraints = c; sums = s } in n) ≡ (let n : TaskCounts = record { variables = v'; constraints = c'; sums = s' } in n)
  same v c s v' c' s' e f g = rw (e, f, g) refl

pub overflow_sub-constraints : goal.overflow_sub-constraints
overflow_sub-constraints c =
    let all = tasks_counted c.args.instance.now c.tasks.ensures.sound in
    let same = ap (λ ts. length ts) c.tasks.ensures.list in
    let count = c.tasks.ensures.sound.domains.count in
    omega arith

pub overflow_sub-constraints-2 : goal.overflow_sub-constraints-2
overflow_sub-constraints-2 c =
    let all = tasks_counted c.args.instance.now c.tasks.ensures.sound in
    let same = ap (λ ts. length ts) c.tasks.ensures.list in
    let count = c.tasks.ensures.sound.domains.count in
    omega arith

pub returns-clause-is : goal.returns-clause-is
returns-clause-is c =
    let all = tasks_counted c.args.instance.now c.tasks.ensures.sound in
    let same = ap (λ ts. length ts) c.tasks.ensures.list in
    let count = c.tasks.ensures.sound.domains.count in
    same_counts _ (counts_of c.args.instance.now) c.variable_count-variables.ensures (omega arith) (omega arith)
