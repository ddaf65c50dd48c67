use Rattle.std.proofs.Common.{◌+◌, List, take, get_or, inl, inr, refl, sym, ap, subst, ◌∙◌, true≢false, Ok}
use Rattle.std.specs.List.{All, Contains}
use Rattle.std.proofs.lemmas.List.{take_all}
use Rattle.std.proofs.lemmas.List.Elements.{Contains-get_or}
use Rattle.cps_literal.specs.declared.atom.Atom.{Atom}
use Rattle.cps_literal.specs.Truth.{Implies}
use Rattle.cps_conflict.specs.Conflicts.{AreTrueReasons}
use Rattle.cps_conflict.specs.declared.resolvent.Fallen.{Fallen}
use Rattle.cps_conflict.specs.Drafts.{IsEarlier, Collects, IsRedundant}
use Rattle.cps_conflict.proofs.Drafting.{none_fallen, Collects-none, Collects-push, Collects-skip}
use Rattle.cps_conflict.proofs.Minimising.{AreNodes-none}
use Rattle.cps_conflict.proofs.minimiser.Minimiser.collect.Goals as goal

pub loop-fallen-init : goal.loop-fallen-init
loop-fallen-init g c = record {
  nodes = AreNodes-none (AreTrueReasons (g.E.Explain.makes c.args.explain.now c.args.store.now) c.args.store.now) c.args.store.now c.args.resolvent.now.earlier c.args.self.now c.requires.nodes;
  assert = refl;
  collects = subst (λ (l : List Atom). Collects (AreTrueReasons (g.E.Explain.makes c.args.explain.now c.args.store.now) c.args.store.now) c.args.store.now c.args.resolvent.now.start c.args.resolvent.now.earlier c.args.self.now.assert (take 0 c.earlier-fallen-items.result.now) l 0) (sym c.clear.ensures.items)
      (Collects-none (AreTrueReasons (g.E.Explain.makes c.args.explain.now c.args.store.now) c.args.store.now) c.args.store.now c.args.resolvent.now.start c.args.resolvent.now.earlier c.args.self.now.assert c.earlier-fallen-items.result.now);
}

pub loop-fallen-preserved-then-implies : goal.loop-fallen-preserved-then-implies
loop-fallen-preserved-then-implies g c = record {
  nodes = c.loop-fallen.invariant.nodes;
  assert = c.loop-fallen.invariant.assert;
  collects = Collects-skip (AreTrueReasons (g.E.Explain.makes c.args.explain.now c.args.store.now) c.args.store.now) c.args.store.now c.args.resolvent.now.start c.args.resolvent.now.earlier c.args.self.now.assert c.earlier-fallen-items.result.now c.loop-fallen.fallen-index none_fallen c.loop-fallen.atoms.items c.loop-fallen.latest c.loop-fallen-test.true
      (inl (subst (λ (t : Atom). Implies (get_or c.earlier-fallen-items.result.now c.loop-fallen.fallen-index none_fallen).atom t) c.loop-fallen.invariant.assert (c.implies.ensures.0 c.if-implies.true))) c.loop-fallen.invariant.collects;
}

pub loop-fallen-preserved-then-branch : goal.loop-fallen-preserved-then-branch
loop-fallen-preserved-then-branch g c = record {
  nodes = c.in_ok-is_redundant.ensures.nodes;
  assert = c.in_ok-is_redundant.ensures.assert ∙ c.loop-fallen.invariant.assert;
  collects = Collects-skip (AreTrueReasons (g.E.Explain.makes c.args.explain.now c.args.store.now) c.args.store.now) c.args.store.now c.args.resolvent.now.start c.args.resolvent.now.earlier c.args.self.now.assert c.earlier-fallen-items.result.now c.loop-fallen.fallen-index none_fallen c.loop-fallen.atoms.items c.loop-fallen.latest c.loop-fallen-test.true
      (inr (subst (λ (t : Atom). IsRedundant (AreTrueReasons (g.E.Explain.makes c.args.explain.now c.args.store.now) c.args.store.now) c.args.store.now c.args.resolvent.now.earlier t (get_or c.earlier-fallen-items.result.now c.loop-fallen.fallen-index none_fallen)) c.loop-fallen.invariant.assert (c.in_ok-is_redundant.ensures.redundant (ap Ok c.if-branch.true)))) c.loop-fallen.invariant.collects;
}

pub loop-fallen-preserved : goal.loop-fallen-preserved
loop-fallen-preserved g c =
    let earlier : IsEarlier c.args.store.now c.args.resolvent.now.start (get_or c.earlier-fallen-items.result.now c.loop-fallen.fallen-index none_fallen) =
    subst (λ (l : List Fallen). All (IsEarlier c.args.store.now c.args.resolvent.now.start) l) (sym c.earlier-fallen-items.ensures) c.requires.draft.earlier c.loop-fallen.fallen-index none_fallen c.loop-fallen-test.true in
    let has : Contains c.args.resolvent.now.earlier (get_or c.earlier-fallen-items.result.now c.loop-fallen.fallen-index none_fallen) =
    subst (λ (l : List Fallen). Contains l (get_or c.earlier-fallen-items.result.now c.loop-fallen.fallen-index none_fallen)) c.earlier-fallen-items.ensures (Contains-get_or c.earlier-fallen-items.result.now c.loop-fallen.fallen-index none_fallen c.loop-fallen-test.true) in
    record {
      nodes = c.in_ok-is_redundant.ensures.nodes;
      assert = c.in_ok-is_redundant.ensures.assert ∙ c.loop-fallen.invariant.assert;
      collects = subst (λ (l : List Atom). Collects (AreTrueReasons (g.E.Explain.makes c.args.explain.now c.args.store.now) c.args.store.now) c.args.store.now c.args.resolvent.now.start c.args.resolvent.now.earlier c.args.self.now.assert (take (c.loop-fallen.fallen-index + 1) c.earlier-fallen-items.result.now) l c.later-latest.result) (sym c.in_ok-push.ensures.items)
          (Collects-push (AreTrueReasons (g.E.Explain.makes c.args.explain.now c.args.store.now) c.args.store.now) c.args.store.now c.args.resolvent.now.start c.args.resolvent.now.earlier c.args.self.now.assert c.earlier-fallen-items.result.now c.loop-fallen.fallen-index none_fallen c.loop-fallen.atoms.items c.loop-fallen.latest c.later-latest.result c.loop-fallen-test.true earlier has
          (λ i. true≢false (sym (c.implies.ensures.1 (subst (λ (t : Atom). Implies (get_or c.earlier-fallen-items.result.now c.loop-fallen.fallen-index none_fallen).atom t) (sym c.loop-fallen.invariant.assert) i)) ∙ c.if-implies.false)) c.later-latest.ensures.one c.later-latest.ensures.other c.later-latest.ensures.either c.loop-fallen.invariant.collects);
    }

pub returns : goal.returns
returns g c =
    subst (λ (l : List Fallen). Collects (AreTrueReasons (g.E.Explain.makes c.args.explain.now c.args.store.now) c.args.store.now) c.args.store.now c.args.resolvent.now.start c.args.resolvent.now.earlier c.args.self.now.assert l c.loop-fallen.atoms.items c.loop-fallen.latest)
    (take_all c.loop-fallen.fallen-index c.earlier-fallen-items.result.now c.loop-fallen-test.false ∙ c.earlier-fallen-items.ensures) c.loop-fallen.invariant.collects
