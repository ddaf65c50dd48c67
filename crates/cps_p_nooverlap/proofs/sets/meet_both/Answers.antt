use Rattle.std.proofs.Common.{Ok, ◌≡◌, ℕ, Bool, true, None, List, vec_len, rules, sym, subst, arith}
use Rattle.std.proofs.lemmas.Bool.Decides.{nat_tests}
use Rattle.std.proofs.lemmas.List.{nil_from_length}
use Rattle.std.proofs.lemmas.List.Elements.{All-nil}
use Rattle.std.specs.Prelude.{◌==◌, IfSome}
use Rattle.cps_instance.specs.declared.task.Body.TheVariants.{NoOverlap}
use Rattle.cps_trail.specs.Trail.{Trail, IsTrueNow}
use Rattle.cps_rule.specs.declared.rule.Hint.{Hint}
use Rattle.cps_rule.specs.declared.rule.Narrowing.{Narrowing}
use Rattle.cps_rule.specs.Rules.{IsImpossible}
use Rattle.cps_p_span.specs.Citing.{AreTrueNow, GivesMore}
use Rattle.cps_p_span.specs.Spans.{AreSpans}
use Rattle.cps_p_span.proofs.Pairing.{are_known}
use Rattle.cps_p_nooverlap.proofs.sets.meet_both.Goals as goal

pub meet_all-requires : goal.meet_all-requires
meet_all-requires c = are_known c.args.store.now c.args.spans.now c.args.seen.now c.requires

pub meet_sets-requires : goal.meet_sets-requires
meet_sets-requires c = subst (λ (s : Trail). AreSpans s.first c.args.spans.now) (sym c.present-past.ensures) c.requires.spans

pub returns-clause-given : goal.returns-clause-given
returns-clause-given c = λ h.
    subst (λ (s : Trail). GivesMore (NoOverlap c.args.spans.now) s c.meet_all.new.found.items c.meet_sets.new.found.items) c.present-past.ensures c.in_ok-hint.ensures.given (c.in_ok-pair.ensures.given c.args.store.now c.requires h)

pub returns-clause-impossible : goal.returns-clause-impossible
returns-clause-impossible c = subst (λ (s : Trail). IfSome c.in_ok-hint.hint (λ (hint : Hint). IsImpossible (NoOverlap c.args.spans.now) s)) c.present-past.ensures c.in_ok-hint.ensures.impossible

pub returns-then-not-is_empty-clause-rest : goal.returns-then-not-is_empty-clause-rest
returns-then-not-is_empty-clause-rest c e all =
    let none : c.meet_all.result ≡ Ok None = search rules in
    (c.meet_all.ensures.rest none c.args.store.now c.requires all).1

none_there : (n : ℕ) (b : Bool) → b ≡ (n == 0) → b ≡ true → n ≡ 0
none_there n b e t = grind (arith, nat_tests)

pub returns-clause-rest : goal.returns-clause-rest
returns-clause-rest c e all =
    let none : c.meet_all.result ≡ Ok None = search rules in
    let none_left = none_there (vec_len c.meet_all.new.found) c.is_empty.result c.is_empty.ensures c.if-not-is_empty.false in
    let empty = nil_from_length c.meet_all.new.found.items (omega (arith, none_left, c.meet_all.new.found.ok.0)) in
    (c.meet_all.ensures.rest none c.args.store.now c.requires (subst (λ (ns : List Narrowing). AreTrueNow c.args.store.now ns) (sym empty) (All-nil (λ (n : Narrowing). IsTrueNow c.args.store.now n.target)))).1
