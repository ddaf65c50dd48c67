use Rattle.std.proofs.Common.{ℕ, ◌-◌, ◌≡◌, ◌<◌, Bool, List, length, take, sym, ◌∙◌, ap, subst, arith}
use Rattle.std.specs.List.{All}
use Rattle.cps_clauses.specs.Bases.{Base, base_of}
use Rattle.cps_clauses.specs.Forgets.{GoInOrder, Forgets}
use Rattle.cps_clauses.specs.Journals.{count_standing, standing_in}
use Rattle.cps_clauses.proofs.ForgottenClauses.{forgets_first}
use Rattle.cps_clauses.proofs.base.ClauseBase.choose.Goals as goal

pub in_turn-requires-clause-sizes : goal.in_turn-requires-clause-sizes
in_turn-requires-clause-sizes c = ap (λ (ds : List Bool). length ds) c.as_slice.ensures.value ∙ c.self.invariant.sound.sizes

pub in_turn-requires-clause-within : goal.in_turn-requires-clause-within
in_turn-requires-clause-within c = subst (λ (ns : List ℕ). All (λ i. i < length c.self.inside.clauses) ns) (sym c.as_slice-2.ensures.value) c.self.invariant.sound.numbered.within

pub returns : goal.returns
returns c =
    let i = c.self.inside in
    let b : Base = base_of i.clauses i.dropped.items i.learnt.items i.watching.watches.items i.settled i.watching.visits i.journal i.refused in
    let order : GoInOrder c.self.inside.clauses c.self.inside.dropped.items c.self.inside.learnt.items c.args.store.now c.in_ok-which.which.items =
    subst (λ (ds : List Bool). GoInOrder c.self.inside.clauses ds c.self.inside.learnt.items c.args.store.now c.in_ok-which.which.items) c.as_slice.ensures.value
    (subst (λ (ns : List ℕ). GoInOrder c.self.inside.clauses c.as_slice.result.now ns c.args.store.now c.in_ok-which.which.items) c.as_slice-2.ensures.value c.in_ok-which.ensures) in
    let count : c.saturating_sub.result ≡ count_standing (standing_in c.self.inside.journal) - c.args.keep = omega (arith, c.saturating_sub.ensures, c.self.invariant.count) in
    let is : c.truncate.new.self.items ≡ take (count_standing (standing_in c.self.inside.journal) - c.args.keep) c.in_ok-which.which.items = c.truncate.ensures.items ∙ ap (λ (n : ℕ). take n c.in_ok-which.which.items) count in
    subst (λ (x : Base). Forgets x c.args.store.now c.args.keep c.truncate.new.self.items) c.self.view_is
    (subst (λ (ns : List ℕ). Forgets b c.args.store.now c.args.keep ns) (sym is) (forgets_first b c.args.store.now c.args.keep c.in_ok-which.which.items order))
