-- What a propagator may count on: a task whose subjects have domains in which none of its sums leaves its type.
use Rattle.std.specs.Prelude.{◌≡◌, ◌⊎◌, ℕ, ◌<◌, ◌^◌, ℤ, pos, ◌≤ℤ◌, IsTrue, true, List, length, All}
use Rattle.cps_model.specs.Within.{is_well_shaped}
use Rattle.cps_domain.specs.Window.{is_among}
use Rattle.cps_literal.specs.declared.atom.Atom.{Atom}
use Rattle.cps_instance.specs.declared.term.Term.{Term}
use Rattle.cps_instance.specs.declared.task.Task.{Task}
use Rattle.cps_instance.specs.declared.task.Body.{Body}
use Rattle.cps_instance.specs.declared.task.Span.{Span}
use Rattle.cps_instance.specs.declared.task.Body.TheVariants.{Empty, BoolOr, BoolAnd, AtMostOne, ExactlyOne, BoolXor, Linear, IntDiv, IntMod, IntProd, LinMax, Element, Table, AllDiff, Circuit, Interval, NoOverlap, Cumulative, Inverse, Automaton, Reservoir, NoOverlap2d, Sum, ObjectiveList, Cut}
use Rattle.cps_instance.specs.Terms.{Domains, AreIntervals, domain_at, terms_reach}
use Rattle.cps_instance.specs.Sums.{IsSumOf}
use Rattle.cps_instance.specs.Tasks.{subjects_of}

-- an atom that stands for a literal: it compares with 0 or 1, and its subject's values are among 0 and 1
pub record IsLiteral (domains : Domains) (u : Atom) : Type 0 where
  pub low : pos 0 ≤ℤ u.value
  pub high : u.value ≤ℤ pos 1
  pub least : (x : ℤ) → is_among (domain_at domains u.subject) x ≡ true → pos 0 ≤ℤ x
  pub greatest : (x : ℤ) → is_among (domain_at domains u.subject) x ≡ true → x ≤ℤ pos 1

-- terms whose sum stays below 2 ^ 62 in magnitude
pub record HaveSmallSum (domains : Domains) (terms : List Term) : Type 0 where
  pub small : terms_reach domains terms < 2 ^ 62

-- such terms, and a list of bounds in order for their sum
pub record AreSmallWithin (domains : Domains) (terms : List Term) (bounds : List ℤ) : Type 0 where
  pub small : terms_reach domains terms < 2 ^ 62
  pub shaped : IsTrue (is_well_shaped bounds)

-- a span's presence atoms stand for literals
abbrev pub IsFittingSpan : Domains → Span → Type 0
IsFittingSpan domains s = All (IsLiteral domains) s.presence

-- the spans of two directions, one of each for a box
pub record AreFittingSpans (domains : Domains) (x y : List Span) : Type 0 where
  pub paired : length x ≡ length y
  pub x_fit : All (IsFittingSpan domains) x
  pub y_fit : All (IsFittingSpan domains) y

-- a subject with no value below 0
abbrev pub IsNeverNegative : Domains → ℕ → Type 0
IsNeverNegative domains i = (x : ℤ) → is_among (domain_at domains i) x ≡ true → pos 0 ≤ℤ x

-- spans, each with a demand that is never negative
pub record AreFittingDemands (domains : Domains) (spans : List Span) (demands : List ℕ) : Type 0 where
  pub spans_fit : All (IsFittingSpan domains) spans
  pub demands_fit : All (IsNeverNegative domains) demands

-- arcs, each with a tail, a head, and an atom that stands for a literal
pub record AreFittingArcs (domains : Domains) (tails heads : List ℤ) (literals : List Atom) : Type 0 where
  pub headed : length tails ≡ length heads
  pub named : length tails ≡ length literals
  pub literals_fit : All (IsLiteral domains) literals

-- transitions, each with a tail, a head and a label
pub record AreFittingSteps (tails heads labels : List ℤ) : Type 0 where
  pub headed : length tails ≡ length heads
  pub labelled : length tails ≡ length labels

-- levels between which 0 lies, and events, each with a time, a change, and an atom that stands for a literal where any
-- has one
pub record AreFittingLevels (domains : Domains) (min max : ℤ) (times changes : List ℕ) (active : List Atom) : Type 0 where
  pub paired : length times ≡ length changes
  pub tied : (length active ≡ 0) ⊎ (length active ≡ length times)
  pub low : min ≤ℤ pos 0
  pub high : pos 0 ≤ℤ max
  pub active_fit : All (IsLiteral domains) active

abbrev pub IsFittingBody : Domains → Body → Type 0
IsFittingBody domains Empty = Unit {0}
IsFittingBody domains (BoolOr atoms) = All (IsLiteral domains) atoms
IsFittingBody domains (BoolAnd atoms) = All (IsLiteral domains) atoms
IsFittingBody domains (AtMostOne atoms) = All (IsLiteral domains) atoms
IsFittingBody domains (ExactlyOne atoms) = All (IsLiteral domains) atoms
IsFittingBody domains (BoolXor atoms) = All (IsLiteral domains) atoms
IsFittingBody domains (Linear terms bounds) = AreSmallWithin domains terms bounds
IsFittingBody domains (IntDiv target exprs) = Unit {0}
IsFittingBody domains (IntMod target exprs) = Unit {0}
IsFittingBody domains (IntProd target exprs) = Unit {0}
IsFittingBody domains (LinMax target exprs) = Unit {0}
IsFittingBody domains (Element index target exprs) = Unit {0}
IsFittingBody domains (Table exprs values negated) = Unit {0}
IsFittingBody domains (AllDiff exprs) = Unit {0}
IsFittingBody domains (Circuit tails heads literals) = AreFittingArcs domains tails heads literals
IsFittingBody domains (Interval start end size) = Unit {0}
IsFittingBody domains (NoOverlap spans) = All (IsFittingSpan domains) spans
IsFittingBody domains (Cumulative capacity spans demands) = AreFittingDemands domains spans demands
IsFittingBody domains (Inverse direct inverse) = length direct ≡ length inverse
IsFittingBody domains (Automaton start finals tails heads labels exprs) = AreFittingSteps tails heads labels
IsFittingBody domains (Reservoir min max times changes active) = AreFittingLevels domains min max times changes active
IsFittingBody domains (NoOverlap2d x y) = AreFittingSpans domains x y
IsFittingBody domains (Sum subject terms offset) = IsSumOf domains subject (record { terms = terms; offset = offset })
IsFittingBody domains (ObjectiveList terms bounds) = AreSmallWithin domains terms bounds
IsFittingBody domains (Cut terms upper) = HaveSmallSum domains terms

-- the task's subjects are among those with these domains, whose intervals rise, and it fits them
pub record IsFitting (domains : Domains) (t : Task) : Type 0 where
  pub subjects : All (λ s. s < length domains) (subjects_of t)
  pub sound : All (λ s. AreIntervals (domain_at domains s)) (subjects_of t)
  pub enforcement : All (IsLiteral domains) t.enforcement
  pub body : IsFittingBody domains t.body
