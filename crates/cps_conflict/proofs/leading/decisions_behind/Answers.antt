use Rattle.std.proofs.Common.{◌≡◌, ◌∙◌, Bool, false, List, length, replicate, ap, sym, subst, arith}
use Rattle.std.proofs.lemmas.Result.{IfOk-weaker}
use Rattle.cps_conflict.specs.Conflicts.{AreTrueReasons}
use Rattle.cps_conflict.specs.Leading.{IsFetched, FollowedSoFar, is_marked}
use Rattle.cps_conflict.proofs.Walking.{marks_written, none_marked, picked-behind}
use Rattle.cps_conflict.proofs.leading.decisions_behind.Goals as goal

pub mark_led_to-requires-clause-none : goal.mark_led_to-requires-clause-none
mark_led_to-requires-clause-none g c = λ k.
    let n = length c.entries.result.now in
    let all : c.deref_mut.result.now ≡ replicate n false = c.deref_mut.ensures.value ∙ c.in_ok-marks.ensures.items_if_clones_equal (λ x h. h) in
    ap (λ (ms : List Bool). is_marked ms k) all ∙ none_marked n k

pub returns : goal.returns
returns g c =
    let s = c.args.store.now in
    let made = IsFetched (g.E.Explain.makes c.args.explain.now s) s in
    let holds = AreTrueReasons (g.E.Explain.makes c.args.explain.now c.args.store.now) c.args.store.now in
    let walked = c.in_ok-mark_led_to.ensures in
    let size : length c.mark_led_to.new.marks ≡ c.in_ok-marks.marks.len = omega (arith, walked.same_length, c.in_ok-marks.ensures.len, c.entries.ensures.views.same_length) in
    let same : c.deref.result.now ≡ c.mark_led_to.new.marks = c.deref.ensures.value ∙ marks_written c.in_ok-marks.marks.items c.mark_led_to.new.marks c.in_ok-marks.marks.len size in
    let followed = subst (λ (ms : List Bool). FollowedSoFar made holds s c.args.atom 0 ms) (sym same) walked in
    IfOk-weaker c.pick.result _ _ (λ decisions picked. picked-behind made holds s c.args.atom c.deref.result.now decisions.items c.requires.subject followed picked) c.pick.ensures
