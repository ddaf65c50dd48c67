-- The products with the ends of the domain.
use Rattle.cps_domain.specs.Window.{contains}
use Rattle.cps_subjects.proofs.Products.{are_ends, opposite_fits, ends_shown, opposite_shown, is_positive, is_opposite}
use Rattle.cps_subjects.proofs.sums.term_ends.Goals as goal

pub overflow_sub-result : goal.overflow_sub-result
overflow_sub-result c =
    let ends = are_ends (contains c.args.domain.now) c.args.coefficient c.min.result c.max.result c.min-low.result c.max-high.result c.ranges.coefficient (record { sfits = c.min.type_inv }) (record { sfits = c.max.type_inv }) (record { least = c.min.ensures.within; greatest = c.max.ensures.within; above = c.min.ensures.least; below = c.max.ensures.greatest }) c.requires.fits c.min-low.ensures.value c.max-high.ensures.value in
    opposite_fits c.max-high.result ends.high_near

pub overflow_sub-result-then-variable-lt0 : goal.overflow_sub-result-then-variable-lt0
overflow_sub-result-then-variable-lt0 c =
    let ends = are_ends (contains c.args.domain.now) c.args.coefficient c.min.result c.max.result c.min-low.result c.max-high.result c.ranges.coefficient (record { sfits = c.min.type_inv }) (record { sfits = c.max.type_inv }) (record { least = c.min.ensures.within; greatest = c.max.ensures.within; above = c.min.ensures.least; below = c.max.ensures.greatest }) c.requires.fits c.min-low.ensures.value c.max-high.ensures.value in
    opposite_fits c.min-low.result ends.low_near

pub returns-then-variable-lt0 : goal.returns-then-variable-lt0
returns-then-variable-lt0 c =
    let ends = are_ends (contains c.args.domain.now) c.args.coefficient c.min.result c.max.result c.min-low.result c.max-high.result c.ranges.coefficient (record { sfits = c.min.type_inv }) (record { sfits = c.max.type_inv }) (record { least = c.min.ensures.within; greatest = c.max.ensures.within; above = c.min.ensures.least; below = c.max.ensures.greatest }) c.requires.fits c.min-low.ensures.value c.max-high.ensures.value in
    opposite_shown (contains c.args.domain.now) c.args.coefficient c.args.variable c.min-low.result c.max-high.result ends (is_opposite c.args.variable c.ranges.variable c.if-variable-lt0.true)

pub returns-else-variable-lt0 : goal.returns-else-variable-lt0
returns-else-variable-lt0 c =
    let ends = are_ends (contains c.args.domain.now) c.args.coefficient c.min.result c.max.result c.min-low.result c.max-high.result c.ranges.coefficient (record { sfits = c.min.type_inv }) (record { sfits = c.max.type_inv }) (record { least = c.min.ensures.within; greatest = c.max.ensures.within; above = c.min.ensures.least; below = c.max.ensures.greatest }) c.requires.fits c.min-low.ensures.value c.max-high.ensures.value in
    ends_shown (contains c.args.domain.now) c.args.coefficient c.args.variable c.min-low.result c.max-high.result ends (is_positive c.args.variable c.ranges.variable c.if-variable-lt0.false)
