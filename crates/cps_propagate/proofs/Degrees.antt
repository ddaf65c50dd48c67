-- What rest asks of a circuit's degrees depends on the values of its literals' subjects alone.
use Rattle.std.specs.Prelude.{◌<◌}
use Rattle.std.proofs.Common.{ℕ, ℤ, List, ◌++◌, length, sym, ◌∙◌, inl, inr}
use Rattle.std.specs.List.{All}
use Rattle.cps_literal.specs.declared.atom.Atom.{Atom}
use Rattle.cps_trail.specs.Trail.{Trail}
use Rattle.cps_propagate.specs.Now.{IsSameAt}
use Rattle.cps_propagate.specs.Degrees.{IsTaken, IsUntaken, HasTwoArcs, HasNoArc, IsNodeLost, HasLostNode, HasOneArcEach, HasDegrees}

abbrev pub AreSame : Trail → Trail → List Atom → Type 0
AreSame s u literals = All (λ t. IsSameAt s u t.subject) literals

module _ (s u : Trail) (literals : List Atom) (same : AreSame s u literals) where
  taken_same : (k : ℕ) → k < length literals → IsTaken s literals k → IsTaken u literals k
  taken_same k l h d x a = h d x (same k d l x ∙ a)

  untaken_same : (k : ℕ) → k < length literals → IsUntaken s literals k → IsUntaken u literals k
  untaken_same k l h d x a = h d x (same k d l x ∙ a)

  none_same : (ends : List ℤ) (node : ℤ) → HasNoArc s ends literals node → HasNoArc u ends literals node
  none_same ends node h k at = untaken_same k at.within (h k at)

  two_same : (ends : List ℤ) (node : ℤ) → HasTwoArcs s ends literals node → HasTwoArcs u ends literals node
  two_same ends node h = record {
    i = h.i;
    j = h.j;
    apart = h.apart;
    first = h.first;
    second = h.second;
    one = taken_same h.i h.first.within h.one;
    other = taken_same h.j h.second.within h.other;
  }

  node_same : (ends nodes : List ℤ) → IsNodeLost s ends nodes literals → IsNodeLost u ends nodes literals
  node_same ends nodes h = record {
    node = h.node;
    listed = h.listed;
    lost = elim h.lost [ inl two ↦ inl (two_same ends h.node two) | inr none ↦ inr (none_same ends h.node none) ];
  }

  pub lost_same : (tails heads : List ℤ) → HasLostNode s tails heads literals → HasLostNode u tails heads literals
  lost_same tails heads (inl h) = inl (node_same tails (tails ++ heads) h)
  lost_same tails heads (inr h) = inr (node_same heads (tails ++ heads) h)

module _ (s u : Trail) (literals : List Atom) (same : AreSame s u literals) where
  back : AreSame u s literals
  back k d l x = sym (same k d l x)

  one_each : (ends nodes : List ℤ) → HasOneArcEach s ends nodes literals → HasOneArcEach u ends nodes literals
  one_each ends nodes h = record {
    some = λ node has none. h.some node has (none_same u s literals back ends node none);
    at_most = λ node i j differ at_i at_j one.
        untaken_same s u literals same j at_j.within (h.at_most node i j differ at_i at_j (taken_same u s literals back i at_i.within one));
    at_least = λ node k at others.
        taken_same s u literals same k at.within (h.at_least node k at (λ j differ at_j. untaken_same u s literals back j at_j.within (others j differ at_j)));
  }

  pub degrees_same : (tails heads : List ℤ) → HasDegrees s tails heads literals → HasDegrees u tails heads literals
  degrees_same tails heads h = record {
    out = one_each tails (tails ++ heads) h.out;
    into = one_each heads (tails ++ heads) h.into;
  }
