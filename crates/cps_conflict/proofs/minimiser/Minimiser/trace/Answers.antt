-- What leads back is what the atoms of the reason lead to, one after another.
use Rattle.std.proofs.Common.{◌≡◌, ◌<◌, ◌∙◌, ◌+◌, List, length, get_or, ap, sym, subst, refl, inl, arith}
use Rattle.std.proofs.lemmas.List.{take_all}
use Rattle.cps_literal.specs.declared.atom.Atom.{Atom}
use Rattle.cps_conflict.specs.declared.minimiser.Minimiser.{Minimiser}
use Rattle.cps_conflict.specs.Nodes.{Traces, TraceSoFar}
use Rattle.cps_conflict.proofs.Uniting.{found_equal}
use Rattle.cps_conflict.proofs.Minimising.{traced_back, TraceSoFar-back, TraceSoFar-on}
use Rattle.cps_conflict.proofs.minimiser.Minimiser.trace.Goals as goal
use Rattle.cps_conflict.proofs.minimiser.Minimiser.trace.Goals.{in-Back, in-On+in_ok-push-in-On}

pub loop-index-preserved-then-eq : goal.loop-index-preserved-then-eq
loop-index-preserved-then-eq c =
    let same : c.index.result.now ≡ c.args.entry = found_equal c.index.result.now c.args.entry c.eq.result c.eq.ensures c.if-eq.true in
    let l : c.loop-index.index < length c.args.self.now.reason.items = omega (arith, c.loop-index-test.true, c.len-index-end.ensures) in
    TraceSoFar-back c.args.store.now c.args.resolvent.now.earlier c.args.entry c.args.self.now c.loop-index.self c.loop-index.latest c.loop-index.latest c.loop-index.index c.index.result.now l
    (c.index.ensures ∙ ap (λ v. get_or v.items c.loop-index.index c.index.result.now) c.loop-index.invariant.reason) (omega arith) (inl same) c.loop-index.invariant

pub loop-index-preserved : goal.loop-index-preserved
loop-index-preserved c =
    let l : c.loop-index.index < length c.args.self.now.reason.items = omega (arith, c.loop-index-test.true, c.len-index-end.ensures) in
    let is = c.index.ensures ∙ ap (λ v. get_or v.items c.loop-index.index c.index.result.now) c.loop-index.invariant.reason in
    elim c.match-look.branch [
      | in-Back w ↦
          subst (λ m. TraceSoFar c.args.store.now c.args.resolvent.now.earlier c.args.entry c.args.self.now m c.match-look.latest (c.loop-index.index + 1)) (sym w.self-is)
          (subst (λ n. TraceSoFar c.args.store.now c.args.resolvent.now.earlier c.args.entry c.args.self.now c.loop-index.self n (c.loop-index.index + 1)) (sym w.latest-is)
          (TraceSoFar-back c.args.store.now c.args.resolvent.now.earlier c.args.entry c.args.self.now c.loop-index.self c.loop-index.latest w.later-latest.result c.loop-index.index c.index.result.now l is w.later-latest.ensures.one
          (traced_back c.args.store.now c.args.resolvent.now.earlier c.args.self.now c.args.entry c.loop-index.self.pending.items c.loop-index.self.assert w.in-Back.from w.later-latest.result c.index.result.now c.loop-index.invariant.assert w.later-latest.ensures.other
          (λ a b on. w.in-Back.ensures a b on)) c.loop-index.invariant))
      | in-On+in_ok-push-in-On w ↦
          let new : Minimiser = record c.loop-index.self { pending = w.push.new.self } in
          subst (λ m. TraceSoFar c.args.store.now c.args.resolvent.now.earlier c.args.entry c.args.self.now m c.match-look.latest (c.loop-index.index + 1)) (sym w.self-is)
          (subst (λ n. TraceSoFar c.args.store.now c.args.resolvent.now.earlier c.args.entry c.args.self.now new n (c.loop-index.index + 1)) (sym w.latest-is)
          (TraceSoFar-on c.args.store.now c.args.resolvent.now.earlier c.args.entry c.args.self.now c.loop-index.self new c.loop-index.latest c.loop-index.index (record { atom = c.index.result.now; from = w.in-On.from }) l is refl refl refl
          w.in_ok-push-in-On.ensures.items c.loop-index.invariant))
    ]

pub returns-clause-traces : goal.returns-clause-traces
returns-clause-traces c =
    let all = take_all c.loop-index.index c.args.self.now.reason.items (omega (arith, c.loop-index-test.false, c.len-index-end.ensures)) in
    subst (λ (ts : List Atom). Traces c.args.store.now c.args.resolvent.now.earlier c.args.self.now c.args.entry c.loop-index.self.pending.items c.loop-index.latest ts) all c.loop-index.invariant.traces
