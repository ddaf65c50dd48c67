-- How a core-guided search and its actor's part of the shared state move together.
use Rattle.std.specs.Int.{int_max}
use Rattle.std.proofs.Common.{◌≡◌, Option, Some, None, List, length, refl, sym, ◌∙◌, ap, subst, arith, ℤ}
use Rattle.std.proofs.lemmas.Int.{ints}
use Rattle.cps_model.specs.declared.bound.Bound.{Bound}
use Rattle.cps_model.specs.declared.bound.Bound.TheVariants.{At, Infinite}
use Rattle.cps_model.specs.declared.model.CpModel.{CpModel}
use Rattle.cps_port.specs.declared.part.BoardPart.{BoardPart}
use Rattle.cps_port.specs.declared.part.BoundsPart.{BoundsPart}
use Rattle.cps_port.specs.declared.part.Part.{Part}
use Rattle.cps_port.specs.Order.{BoundLe, lesser, greater, greater_of, raised_to}
use Rattle.cps_port.proofs.BoundLaws.{BoundLe-refl, greater-assoc}
use Rattle.cps_search.specs.Following.{MovesWith, best_bound}
use Rattle.cps_search.specs.Turns.{SameBest, SameImported, SameRaised}
use Rattle.cps_search.proofs.Bounds.{raised_more}
use Rattle.cps_core_guided.specs.Reforming.{CoreSearch, whole}
use Rattle.cps_core_guided.specs.CoreTurns.{RaisesTo}

max_swap : (x y : ℤ) → int_max x y ≡ int_max y x
max_swap x y = grind (arith, ints)

greater-swap : (a b : Bound) → greater a b ≡ greater b a
greater-swap (At x) (At y) = ap At (max_swap x y)
greater-swap (At x) Infinite = refl
greater-swap Infinite (At y) = refl
greater-swap Infinite Infinite = refl

greater_of-swap : (a x r : Option Bound) → greater_of a (greater_of x r) ≡ greater_of (greater_of a r) x
greater_of-swap a x None = refl
greater_of-swap a None (Some r) = refl
greater_of-swap None (Some x) (Some r) = ap Some (greater-swap x r)
greater_of-swap (Some a) (Some x) (Some r) = ap Some (ap (λ (b : Bound). greater a b) (greater-swap x r) ∙ greater-assoc a r x)

-- what the frame does, where the worker itself raises nothing
pub moves-whole : (s t : CoreSearch) (p q : Part) → MovesWith s.search t.search p q → t.raised ≡ s.raised → MovesWith (whole s) (whole t) p q
moves-whole s t p q h same = record {
  falls = h.falls;
  follows = h.follows;
  offers = h.offers;
  raises = λ before was.
      h.raises (greater_of before s.raised) (was ∙ greater_of-swap before s.search.raised s.raised)
      ∙ sym (greater_of-swap before t.search.raised s.raised)
      ∙ ap (λ (o : Option Bound). greater_of before (greater_of t.search.raised o)) (sym same);
  imports = h.imports;
}

-- what the worker itself raises
pub moves-raised : (m t : CoreSearch) (p q : Part) (bound : Bound) → RaisesTo bound m t p q → t.search.instance.model ≡ m.search.instance.model → t.search.z ≡ m.search.z → SameBest m.search t.search → SameImported m.search t.search
    → SameRaised m.search t.search → MovesWith (whole m) (whole t) p q
moves-raised m t p q bound r model z best imported raised = record {
  falls = subst (λ (b : Bound). BoundLe b m.search.z) (sym z) (BoundLe-refl m.search.z);
  follows = λ above. subst (λ (b : Bound). BoundLe q.bounds.saw_upper b) (sym z) (subst (λ (b : BoundsPart). BoundLe b.saw_upper m.search.z) (sym r.told) above);
  offers = λ before was.
      ap (λ (b : BoundsPart). b.offered) r.told ∙ was
      ∙ ap (λ (o : Option (List ℤ)). lesser before (best_bound m.search.instance.model o)) (sym best)
      ∙ ap (λ (k : CpModel). lesser before (best_bound k t.search.best)) (sym model);
  raises = λ before was.
      ap (λ (b : BoundsPart). b.raised) r.told
      ∙ ap (λ (o : Option Bound). raised_to o bound) was
      ∙ raised_more before (greater_of m.search.raised m.raised) bound
      ∙ ap (λ (o : Option Bound). greater_of before o) (raised_more m.search.raised m.raised bound ∙ ap (λ (o : Option Bound). greater_of m.search.raised o) (sym r.raised) ∙ ap (λ (o : Option Bound). greater_of o t.raised) (sym raised));
  imports = λ few. omega (arith, few, imported, ap (λ (b : BoardPart). length b.taken) r.board);
}
