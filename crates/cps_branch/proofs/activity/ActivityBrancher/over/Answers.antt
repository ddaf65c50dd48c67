-- No variable has an activity or a mark yet.
use Rattle.std.proofs.Common.{ℕ, ◌≡◌, ◌∙◌, List, length, replicate, false, get_or, ap}
use Rattle.std.proofs.lemmas.List.{length-replicate}
use Rattle.cps_branch.proofs.Lists.{alike}
use Rattle.cps_branch.proofs.Parts.{begun_parts}
use Rattle.cps_branch.proofs.activity.ActivityBrancher.over.Goals as goal

pub invariant_of-result : goal.invariant_of-result
invariant_of-result c =
    let n = c.args.count in
    let none : c.in_ok-vec.field-0.items ≡ replicate n 0 = c.in_ok-vec.ensures.items_if_clones_equal (λ y e. e) in
    let unmarked : c.in_ok-vec-2.field-0.items ≡ replicate n false = c.in_ok-vec-2.ensures.items_if_clones_equal (λ y e. e) in
    let e = c.in_ok-over.ensures in
    begun_parts n c.in_ok-vec.field-0.items c.in_ok-vec-2.field-0.items c.in_ok-hints_of.field-0.items c.in_ok-over.field-0 c.requires none unmarked c.in_ok-hints_of.ensures.count e.ranking e.count e.idle

pub returns-clause-count : goal.returns-clause-count
returns-clause-count c =
    let none : c.in_ok-vec.field-0.items ≡ replicate c.args.count 0 = c.in_ok-vec.ensures.items_if_clones_equal (λ y e. e) in
    ap (λ (xs : List ℕ). length xs) none ∙ length-replicate c.args.count 0

pub returns-clause-idle : goal.returns-clause-idle
returns-clause-idle c = λ i.
    let none : c.in_ok-vec.field-0.items ≡ replicate c.args.count 0 = c.in_ok-vec.ensures.items_if_clones_equal (λ y e. e) in
    ap (λ (xs : List ℕ). get_or xs i 0) none ∙ alike c.args.count i 0
