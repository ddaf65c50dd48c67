use Rattle.std.proofs.Common.{List, map, ap, sym, subst}
use Rattle.std.specs.List.{All}
use Rattle.std.proofs.lemmas.List.Elements.{All-map, All-push}
use Rattle.cps_domain.specs.Window.{Window, intervals}
use Rattle.cps_instance.specs.Terms.{Domains, AreIntervals}
use Rattle.cps_trail.specs.Trail.{Trail}
use Rattle.cps_rule_tests.proofs.stores.store_of.Goals as goal

pub loop-each-preserved : goal.loop-each-preserved
loop-each-preserved c =
    subst (λ (ws : List Window). All (λ d. AreIntervals (intervals d)) ws) (sym c.in_ok-push.ensures.items)
    (All-push (λ (d : Window). AreIntervals (intervals d)) c.loop-each.domains.items c.in_ok-domain.domain c.loop-each.invariant c.in_ok-domain.ensures)

pub returns : goal.returns
returns c = record {
  none = ap (λ (s : Trail). s.entries) c.in_ok-store.ensures;
  sound = subst (λ (ds : Domains). All AreIntervals ds) (sym (ap (λ (s : Trail). s.first) c.in_ok-store.ensures))
      (subst (λ (ws : List Window). All AreIntervals (map intervals ws)) (sym c.as_slice.ensures.value) (All-map AreIntervals intervals c.loop-each.domains.items c.loop-each.invariant));
}
