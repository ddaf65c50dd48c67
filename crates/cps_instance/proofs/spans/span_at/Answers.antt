-- The constraint at the place is an interval.
use Rattle.std.specs.Prelude.{unsigned_abs}
use Rattle.std.proofs.Common.{◌≡◌, ℕ, List, arith, w32, ◌∙◌, ap, length}
use Rattle.std.proofs.lemmas.Int.{to_z-of_z}
use Rattle.std.proofs.lemmas.Result.{IfOk-weaker}
use Rattle.cps_instance.specs.declared.task.Span.{Span}
use Rattle.cps_instance.specs.Posting.{span_of, span_at, CanBePosted}
use Rattle.cps_instance.proofs.Valuing.{zip_length}
use Rattle.cps_instance.proofs.Placing.{zip_at, named_at, interval_at, three_expressions, span_is}
use Rattle.cps_instance.proofs.spans.span_at.Goals as goal

pub bounds-lists-place : goal.bounds-lists-place
bounds-lists-place c =
    let n = named_at c.args.constraints.now c.args.index c.requires.named in
    let long = zip_length (λ d js. CanBePosted c.args.constraints.now js d.kind) c.args.constraints.now c.args.lists.now c.requires.posted in
    let within = n.within in
    rw (to_z-of_z w32 c.args.index c.ranges.index) (omega arith)

pub bounds-constraints-place : goal.bounds-constraints-place
bounds-constraints-place c =
    let n = named_at c.args.constraints.now c.args.index c.requires.named in
    rw (to_z-of_z w32 c.args.index c.ranges.index) n.within

pub span_of-requires-clause-interval : goal.span_of-requires-clause-interval
span_of-requires-clause-interval c =
    let n = named_at c.args.constraints.now c.args.index c.requires.named in
    interval_at c.args.constraints.now (unsigned_abs c.args.index) c.index-constraints-place.result n.within (rw (to_z-of_z w32 c.args.index c.ranges.index) at c.index-constraints-place.is) n.interval

pub span_of-requires-clause-each : goal.span_of-requires-clause-each
span_of-requires-clause-each c =
    let cs = c.args.constraints.now in
    let n = named_at cs c.args.index c.requires.named in
    let own = rw (to_z-of_z w32 c.args.index c.ranges.index) at c.index-constraints-place.is in
    let subjects = rw (to_z-of_z w32 c.args.index c.ranges.index) at c.index-lists-place.is in
    let posted = zip_at (λ d js. CanBePosted cs js d.kind) cs c.args.lists.now c.requires.posted (unsigned_abs c.args.index) c.index-constraints-place.result c.index-lists-place.result n.within own subjects in
    ap length c.as_slice.ensures ∙ posted.each ∙ three_expressions c.index-constraints-place.result.kind (interval_at cs (unsigned_abs c.args.index) c.index-constraints-place.result n.within own n.interval)

pub span_of-requires-clause-offsets : goal.span_of-requires-clause-offsets
span_of-requires-clause-offsets c =
    let cs = c.args.constraints.now in
    let n = named_at cs c.args.index c.requires.named in
    let own = rw (to_z-of_z w32 c.args.index c.ranges.index) at c.index-constraints-place.is in
    let subjects = rw (to_z-of_z w32 c.args.index c.ranges.index) at c.index-lists-place.is in
    (zip_at (λ d js. CanBePosted cs js d.kind) cs c.args.lists.now c.requires.posted (unsigned_abs c.args.index) c.index-constraints-place.result c.index-lists-place.result n.within own subjects).offsets

pub returns : goal.returns
returns c =
    let cs = c.args.constraints.now in
    let lists = c.args.lists.now in
    let d = c.index-constraints-place.result in
    let n = named_at cs c.args.index c.requires.named in
    let own = rw (to_z-of_z w32 c.args.index c.ranges.index) at c.index-constraints-place.is in
    let subjects = rw (to_z-of_z w32 c.args.index c.ranges.index) at c.index-lists-place.is in
    let long = zip_length (λ e js. CanBePosted cs js e.kind) cs lists c.requires.posted in
    let within = n.within in
    let is = span_is cs lists c.args.index (unsigned_abs c.args.index) d c.index-lists-place.result n.is within (omega arith) own subjects in
    let same : span_of c.as_slice.result.now d.enforcement d.kind ≡ span_at cs lists c.args.index = ap (λ (js : List ℕ). span_of js d.enforcement d.kind) c.as_slice.ensures ∙ is in
    IfOk-weaker c.span_of.result _ _ (λ (span : Span). λ e. e ∙ same) c.span_of.ensures
