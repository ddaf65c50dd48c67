-- A kind that the table of closed kinds leaves open has a propagator.
use Rattle.std.specs.Prelude.{IsTrue}
use Rattle.std.proofs.Common.{◌≡◌, true, refl, List, [], ◌∷◌, All}
use Rattle.std.proofs.lemmas.List.Elements.{All-nil, All-cons, All-head, All-tail}
use Rattle.cps_model.specs.declared.model.CpModel.{CpModel}
use Rattle.cps_model.specs.declared.constraint.Constraint.{Constraint}
use Rattle.cps_model.specs.declared.constraint.Kind.{Kind}
use Rattle.cps_model.specs.declared.constraint.Kind.TheVariants as kinds
use Rattle.cps_schema.specs.Open.{closed_names, is_open, OpenKinds}
use Rattle.cps_kinds.specs.Kinds.{is_propagated, AreAllPropagated}

kind_propagated : (k : Kind) → IsTrue (is_open closed_names k) → is_propagated k ≡ true
kind_propagated kinds.Empty h = refl
kind_propagated (kinds.BoolOr literals) h = refl
kind_propagated (kinds.BoolAnd literals) h = refl
kind_propagated (kinds.AtMostOne literals) h = refl
kind_propagated (kinds.ExactlyOne literals) h = refl
kind_propagated (kinds.BoolXor literals) h = refl
kind_propagated (kinds.Linear vars coeffs domain) h = refl
kind_propagated (kinds.IntDiv target exprs) h = h
kind_propagated (kinds.IntMod target exprs) h = h
kind_propagated (kinds.IntProd target exprs) h = h
kind_propagated (kinds.LinMax target exprs) h = h
kind_propagated (kinds.Element index target exprs) h = h
kind_propagated (kinds.Table exprs values negated) h = h
kind_propagated (kinds.AllDiff exprs) h = h
kind_propagated (kinds.Circuit tails heads literals) h = h
kind_propagated (kinds.Interval start end size) h = h
kind_propagated (kinds.NoOverlap intervals) h = h
kind_propagated (kinds.Cumulative capacity intervals demands) h = h
kind_propagated (kinds.Inverse direct inverse) h = h
kind_propagated (kinds.Automaton start finals tails heads labels exprs) h = h
kind_propagated (kinds.Reservoir min max times changes active) h = h
kind_propagated (kinds.NoOverlap2d x y) h = h

pub open_propagated : (m : CpModel) → OpenKinds closed_names m → AreAllPropagated m
open_propagated m h = all m.constraints h
  where
    all : (cs : List Constraint) → All (λ (c : Constraint). IsTrue (is_open closed_names c.kind)) cs → All (λ c. is_propagated c.kind ≡ true) cs
    all [] h = All-nil (λ c. is_propagated c.kind ≡ true)
    all (c ∷ cs) h =
        All-cons (λ (c : Constraint). is_propagated c.kind ≡ true) c cs
        (kind_propagated c.kind (All-head (λ (c : Constraint). IsTrue (is_open closed_names c.kind)) c cs h))
        (all cs (All-tail (λ (c : Constraint). IsTrue (is_open closed_names c.kind)) c cs h))
