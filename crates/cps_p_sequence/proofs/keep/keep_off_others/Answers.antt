-- Each label of the alphabet so far is one of the labels, or is not open, or is kept off.
use Rattle.std.proofs.Common.{◌∙◌, sym, pos, get_or, rules, arith, w64, FitsSigned, true≢false}
use Rattle.std.proofs.lemmas.Int.{to_z-of_z}
use Rattle.cps_p_sequence.proofs.Layering.{hole_given, hole_true, more_kept, closed_more, closed_whole}
use Rattle.cps_p_sequence.proofs.keep.keep_off_others.Goals as goal

pub loop-label-init : goal.loop-label-init
loop-label-init c = record { given = λ b h gs. gs; kept = λ all. all; closed = λ all k l. absurd (omega arith) }

pub loop-label-preserved-then-is_listed : goal.loop-label-preserved-then-is_listed
loop-label-preserved-then-is_listed c =
    let v = get_or c.args.alphabet.now c.loop-label.label-index (pos 0) in
    let f : FitsSigned w64 v = search rules in
    let listed = rw (to_z-of_z w64 v f) at c.is_listed.ensures.listed in
    let p = c.loop-label.invariant in
    record { given = p.given; kept = p.kept; closed = λ all. closed_more c.args.store.now c.args.subject c.args.alphabet.now c.args.labels.now c.loop-label.label-index (p.closed all) (λ o. listed c.if-is_listed.true) }

pub loop-label-preserved-then-not-is_open : goal.loop-label-preserved-then-not-is_open
loop-label-preserved-then-not-is_open c =
    let v = get_or c.args.alphabet.now c.loop-label.label-index (pos 0) in
    let f : FitsSigned w64 v = search rules in
    let decided = simp to_z-of_z at c.is_open.ensures in
    let p = c.loop-label.invariant in
    record { given = p.given; kept = p.kept; closed = λ all. closed_more c.args.store.now c.args.subject c.args.alphabet.now c.args.labels.now c.loop-label.label-index (p.closed all) (λ o. absurd (true≢false (sym (decided.1 o) ∙ c.if-not-is_open.true))) }

pub loop-label-preserved : goal.loop-label-preserved
loop-label-preserved c =
    let s = c.args.store.now in
    let i = c.args.subject in
    let v = get_or c.args.alphabet.now c.loop-label.label-index (pos 0) in
    let old = c.loop-label.found.items in
    let new = c.push.new.self.items in
    let n = c.given.result in
    let f : FitsSigned w64 v = search rules in
    let value = rw (to_z-of_z w64 v f) at c.given.ensures.value in
    let none = rw (to_z-of_z w64 v f) at c.is_listed.ensures.missing in
    let p = c.loop-label.invariant in
    record {
      given = λ b h gs. hole_given s old new n c.in_ok-push.ensures.items i v c.given.ensures.subject value c.given.ensures.op b c.args.labels.now c.requires.subject (none c.if-is_listed.false) h (p.given b h gs);
      kept = λ all. p.kept (more_kept s old new n c.in_ok-push.ensures.items all);
      closed = λ all. closed_more s i c.args.alphabet.now c.args.labels.now c.loop-label.label-index (p.closed (more_kept s old new n c.in_ok-push.ensures.items all))
          (λ o. absurd (hole_true s old new n c.in_ok-push.ensures.items i v c.given.ensures.subject value c.given.ensures.op all o));
    }

pub returns : goal.returns
returns c =
    let p = c.loop-label.invariant in
    record { given = p.given; kept = p.kept; closed = λ all. closed_whole c.args.store.now c.args.subject c.args.alphabet.now c.args.labels.now c.loop-label.label-index c.loop-label-test.false (p.closed all) }
