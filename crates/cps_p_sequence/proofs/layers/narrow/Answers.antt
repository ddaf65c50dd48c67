-- The rows that are left are those of the subjects that are left; each label that is kept is alive.
use Rattle.std.proofs.Common.{◌≡◌, ◌+◌, ◌-◌, ℕ, List, Bool, length, drop, get_or, refl, sym, ◌∙◌, ap, subst, arith, vec_len}
use Rattle.cps_p_sequence.specs.Networks.{IsStepWithin}
use Rattle.cps_p_sequence.specs.Runs.{AreRows}
use Rattle.cps_p_sequence.proofs.Layering.{top_of, reached_begun, reached_more, found_begun, found_more, dead_by, labels_at, heads_at, given_at, listed_ends, whole_at, empty_is, some_items, no_items}
use Rattle.cps_p_sequence.proofs.layers.narrow.Goals as goal

pub loop-subject-init : goal.loop-subject-init
loop-subject-init c =
    let s = c.args.store.now in
    let net = c.args.net.now in
    record {
      rows = c.requires.rows;
      reached = reached_begun s net.steps.now net.last.now net.first (length net.last.now) net.subjects.now c.mark_first.new.row.items c.in_ok-mark_first.ensures.size c.in_ok-mark_first.ensures.marked;
      found = found_begun s net.steps.now net.last.now net.first net.subjects.now c.clear.new.self.items c.clear.ensures.items;
    }

pub top_row-heads-requires : goal.top_row-heads-requires
top_row-heads-requires c =
    let net = c.args.net.now in
    let top = top_of c.args.store.now net.steps.now net.last.now net.subjects.now c.loop-subject.subject-index c.loop-subject.room.rows.items c.loop-subject-test.true c.loop-subject.invariant.rows in
    rw c.as_slice-stack.ensures.value top.room

pub put_labels-requires-clause-tails : goal.put_labels-requires-clause-tails
put_labels-requires-clause-tails c =
    let e : length c.as_slice-before.result.now ≡ length c.args.net.now.last.now = ap (λ (xs : List Bool). length xs) c.as_slice-before.ensures.value ∙ c.loop-subject.invariant.reached.size in
    λ k d l. subst (λ (n : ℕ). IsStepWithin n (get_or c.args.net.now.steps.now k d)) (sym e) (c.requires.steps k d l)

pub put_labels-requires-clause-heads : goal.put_labels-requires-clause-heads
put_labels-requires-clause-heads c =
    let net = c.args.net.now in
    let top = top_of c.args.store.now net.steps.now net.last.now net.subjects.now c.loop-subject.subject-index c.loop-subject.room.rows.items c.loop-subject-test.true c.loop-subject.invariant.rows in
    let at : c.top_row-heads.result.now ≡ drop (length c.loop-subject.room.rows.items - length net.last.now) c.loop-subject.room.rows.items = c.top_row-heads.ensures.rows ∙ ap (λ (xs : List Bool). drop (length xs - length net.last.now) xs) c.as_slice-stack.ensures.value in
    let e : length c.top_row-heads.result.now ≡ length net.last.now = ap (λ (xs : List Bool). length xs) at ∙ top.top.size in
    λ k d l. subst (λ (n : ℕ). IsStepWithin n (get_or net.steps.now k d)) (sym e) (c.requires.steps k d l)

pub returns-then-is_empty : goal.returns-then-is_empty
returns-then-is_empty c =
    let s = c.args.store.now in
    let net = c.args.net.now in
    let is = net.subjects.now in
    let n = c.loop-subject.subject-index in
    let l = c.loop-subject-test.true in
    let old = c.loop-subject.room.rows.items in
    let top = top_of s net.steps.now net.last.now is n old l c.loop-subject.invariant.rows in
    let at : c.top_row-heads.result.now ≡ drop (length old - length net.last.now) old = c.top_row-heads.ensures.rows ∙ ap (λ (xs : List Bool). drop (length xs - length net.last.now) xs) c.as_slice-stack.ensures.value in
    let labels = labels_at s (get_or is n 0) net.steps.now c.loop-subject.room.reached.items c.as_slice-before.result.now (drop (length old - length net.last.now) old) c.top_row-heads.result.now c.put_labels.new.labels.items c.as_slice-before.ensures.value at c.in_ok-put_labels.ensures.alive in
    let none = no_items (vec_len c.put_labels.new.labels) (length c.put_labels.new.labels.items) _ c.is_empty.ensures c.if-is_empty.true c.put_labels.new.labels.ok.0 in
    dead_by s net.steps.now net.last.now net.first (length net.last.now) is n (get_or is n 0) c.loop-subject.room.reached.items (drop (length old - length net.last.now) old) c.put_labels.new.labels.items l refl
    c.loop-subject.invariant.reached top.top labels c.loop-subject.found.items (empty_is c.put_labels.new.labels.items none) c.loop-subject.invariant.found

pub keep_labels-requires-clause-some : goal.keep_labels-requires-clause-some
keep_labels-requires-clause-some c = rw c.as_slice-kept.ensures.value (some_items (vec_len c.put_labels.new.labels) (length c.put_labels.new.labels.items) _ c.is_empty.ensures c.if-is_empty.false c.put_labels.new.labels.ok.0)

pub keep_labels-requires-clause-rising : goal.keep_labels-requires-clause-rising
keep_labels-requires-clause-rising c = rw c.as_slice-kept.ensures.value c.in_ok-put_labels.ensures.rising

pub put_labels-requires-clause-subject : goal.put_labels-requires-clause-subject
put_labels-requires-clause-subject c = c.requires.subjects c.loop-subject.subject-index 0 c.loop-subject-test.true

pub keep_labels-requires-clause-subject : goal.keep_labels-requires-clause-subject
keep_labels-requires-clause-subject c = c.requires.subjects c.loop-subject.subject-index 0 c.loop-subject-test.true

pub heads_of-requires-clause-subject : goal.heads_of-requires-clause-subject
heads_of-requires-clause-subject c = c.requires.subjects c.loop-subject.subject-index 0 c.loop-subject-test.true

pub heads_of-requires-clause-steps : goal.heads_of-requires-clause-steps
heads_of-requires-clause-steps c =
    let e : length c.as_slice-tails.result.now ≡ length c.args.net.now.last.now = ap (λ (xs : List Bool). length xs) c.as_slice-tails.ensures.value ∙ c.loop-subject.invariant.reached.size in
    λ k d l. subst (λ (n : ℕ). IsStepWithin n (get_or c.args.net.now.steps.now k d)) (sym e) (c.requires.steps k d l)

pub drop_top-requires : goal.drop_top-requires
drop_top-requires c =
    let net = c.args.net.now in
    let top = top_of c.args.store.now net.steps.now net.last.now net.subjects.now c.loop-subject.subject-index c.loop-subject.room.rows.items c.loop-subject-test.true c.loop-subject.invariant.rows in
    top.room

pub loop-subject-preserved : goal.loop-subject-preserved
loop-subject-preserved c =
    let s = c.args.store.now in
    let net = c.args.net.now in
    let is = net.subjects.now in
    let n = c.loop-subject.subject-index in
    let i = get_or is n 0 in
    let l = c.loop-subject-test.true in
    let old = c.loop-subject.room.rows.items in
    let top = top_of s net.steps.now net.last.now is n old l c.loop-subject.invariant.rows in
    let at : c.top_row-heads.result.now ≡ drop (length old - length net.last.now) old = c.top_row-heads.ensures.rows ∙ ap (λ (xs : List Bool). drop (length xs - length net.last.now) xs) c.as_slice-stack.ensures.value in
    let labels = labels_at s i net.steps.now c.loop-subject.room.reached.items c.as_slice-before.result.now (drop (length old - length net.last.now) old) c.top_row-heads.result.now c.put_labels.new.labels.items c.as_slice-before.ensures.value at c.in_ok-put_labels.ensures.alive in
    let heads = heads_at s i net.steps.now c.loop-subject.room.reached.items c.as_slice-tails.result.now c.heads_of.new.heads.items c.as_slice-tails.ensures.value c.in_ok-heads_of.ensures in
    record {
      rows = subst (λ (xs : List Bool). AreRows s net.steps.now net.last.now (drop (n + 1) is) xs) (sym c.drop_top.ensures) top.below;
      reached = rw c.swap.ensures.x_after (reached_more s net.steps.now net.last.now net.first (length net.last.now) is n i c.loop-subject.room.reached.items c.heads_of.new.heads.items refl c.loop-subject.invariant.reached heads);
      found = found_more s net.steps.now net.last.now net.first (length net.last.now) is n i c.loop-subject.room.reached.items (drop (length old - length net.last.now) old) c.put_labels.new.labels.items l refl
          c.loop-subject.invariant.reached top.top labels net.alphabet.now c.requires.alphabet c.loop-subject.found.items c.keep_labels.new.found.items
          (given_at s i c.put_labels.new.labels.items c.as_slice-kept.result.now c.loop-subject.found.items c.keep_labels.new.found.items c.as_slice-kept.ensures.value c.in_ok-keep_labels.ensures.given)
          c.in_ok-keep_labels.ensures.kept
          (listed_ends s i c.put_labels.new.labels.items c.as_slice-kept.result.now c.keep_labels.new.found.items c.as_slice-kept.ensures.value c.in_ok-keep_labels.ensures.ends)
          (rw c.as_slice-kept.ensures.value at c.in_ok-keep_labels.ensures.closed)
          (whole_at s i c.put_labels.new.labels.items c.as_slice-kept.result.now c.keep_labels.new.found.items c.as_slice-kept.ensures.value c.in_ok-keep_labels.ensures.whole)
          c.loop-subject.invariant.found;
    }

pub returns : goal.returns
returns c =
    let f = c.loop-subject.invariant.found in
    let past = c.loop-subject-test.false in
    record { given = f.given; ends = λ all. record { at = λ k v l m h. (f.ends all).at k v (omega arith) m h; labels = λ k t l m h o. (f.ends all).labels k t (omega arith) m h o; values = λ k v l m narrow o. (f.ends all).values k v (omega arith) m narrow o } }
