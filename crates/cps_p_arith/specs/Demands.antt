-- What is demanded of a target and its members, and what bounds of their values say of it.
use Rattle.std.specs.Prelude.{◌≡◌, ◌≢◌, ◌⊎◌, ℕ, ◌<◌, ℤ, pos, ◌≤ℤ◌, ◌<ℤ◌, true, false, Bool, Option, Some, None, List, [], ◌∷◌, ◌++◌, length, slice_index_or, All, Contains}
use Rattle.std.specs.List.{AllZip}
use Rattle.cps_model.specs.Arithmetic.{IsQuotient, IsRemainder, IsProduct, IsGreatest}
use Rattle.cps_literal.specs.declared.atom.Atom.{Atom}
use Rattle.cps_literal.specs.Truth.{value_at, atom_holds, meets}
use Rattle.cps_instance.specs.declared.task.Body.{Body}
use Rattle.cps_instance.specs.declared.task.Body.TheVariants.{IntDiv, IntMod, IntProd, LinMax}
use Rattle.cps_instance.specs.Terms.{Domains, AreIntervals, domain_at}
use Rattle.cps_instance.specs.Parts.{values_at}
use Rattle.cps_trail.specs.Trail.{Trail, admits, IsWithin, IsTrueNow}
use Rattle.cps_trail.specs.Changes.{IsHull}
use Rattle.cps_rule.specs.Rules.{AreFacts, AllTrueAt}
use Rattle.cps_propagate.specs.Arithmetic.{MayMultiply, MayDivide, MayLeave}
use Rattle.cps_propagate.specs.Reasons.{SpeaksOf}
use Rattle.cps_p_arith.specs.declared.ends.Ends.{Ends}
use Rattle.cps_p_arith.specs.declared.bounds.Bounds.{Bounds}
use Rattle.cps_p_arith.specs.declared.bounds.Demand.{Demand}
use Rattle.cps_p_arith.specs.declared.bounds.Place.{Place}
use Rattle.cps_rule.specs.declared.rule.Narrowing.{Narrowing}
use Rattle.cps_p_arith.specs.declared.relation.Relation.{Relation}
use Rattle.cps_p_arith.specs.declared.relation.Relation.TheVariants.{Quotient, Remainder, Product, Greatest}
use Rattle.cps_p_arith.specs.declared.narrow.Side.{Side}
use Rattle.cps_p_arith.specs.declared.narrow.Side.TheVariants.{Low, High}
use Rattle.cps_p_arith.specs.Ranges.{IsIn, AreIn, IsAt, AreAt, IsOrdered}
use Rattle.cps_p_arith.specs.Maxima.{MayReach, IsAlone}

abbrev pub Relates : Relation → ℤ → List ℤ → Type 0
Relates Quotient v ns = IsQuotient v ns
Relates Remainder v ns = IsRemainder v ns
Relates Product v ns = IsProduct v ns
Relates Greatest v ns = IsGreatest v ns

abbrev pub body_by : Relation → ℕ → List ℕ → Body
body_by Quotient target exprs = IntDiv target exprs
body_by Remainder target exprs = IntMod target exprs
body_by Product target exprs = IntProd target exprs
body_by Greatest target exprs = LinMax target exprs

-- the body that a demand stands for
abbrev pub body_of : Demand → Body
body_of d = body_by d.relation d.target d.exprs.items

-- no value of the target belongs to values of the members
abbrev pub IsExcludedBy : Relation → Ends → List Ends → Type 0
IsExcludedBy k target members = (v : ℤ) (ns : List ℤ) → IsIn target v → AreIn members ns → Relates k v ns → ⊥

-- where all are fixed, the target's value belongs to those of the members
abbrev pub IsComputed : Relation → Ends → List Ends → Type 0
IsComputed k target members = (v : ℤ) (ns : List ℤ) → IsAt target v → AreAt members ns → Relates k v ns

-- the ends of two members, of which a quotient is taken, or what is left
abbrev pub MayDivideEach : Ends → List Ends → Type 0
MayDivideEach target (n ∷ d ∷ []) = MayDivide (IsIn n) (IsIn d) (IsIn target)
MayDivideEach target members = ⊥

abbrev pub MayLeaveEach : Ends → List Ends → Type 0
MayLeaveEach target (n ∷ d ∷ []) = MayLeave (IsIn n) (IsIn d) (IsIn target)
MayLeaveEach target members = ⊥

-- what a kind asks of values between ends
abbrev pub Admits : Relation → Ends → List Ends → Type 0
Admits Quotient target members = MayDivideEach target members
Admits Remainder target members = MayLeaveEach target members
Admits Product target members = MayMultiply (AreIn members) (IsIn target)
Admits Greatest target members = MayReach target members

-- ends that are in order are admitted
pub record AdmitsOrdered (k : Relation) (target : Ends) (members : List Ends) : Type 0 where
  pub at : IsOrdered target → All IsOrdered members → Admits k target members

-- a demand's subjects have domains
pub record HasKnownSubjects (first : Domains) (d : Demand) : Type 0 where
  pub target : d.target < length first
  pub exprs : All (λ i. i < length first) d.exprs.items

-- the ends of what a subject may be
abbrev pub AreEndsNow : Trail → ℕ → Ends → Type 0
AreEndsNow s i e = IsHull (admits s.first s.entries i) (e.low, e.high)

-- bounds that are read off a store
pub record AreMeasured (s : Trail) (d : Demand) (b : Bounds) : Type 0 where
  pub target : AreEndsNow s d.target b.target
  pub members : AllZip (AreEndsNow s) d.exprs.items b.members.items

-- a subject's value lies between ends
abbrev pub IsHeldIn : List ℤ → ℕ → Ends → Type 0
IsHeldIn xs i e = IsIn e (value_at xs i)

abbrev pub AreHeldEach : List ℤ → List ℕ → List Ends → Type 0
AreHeldEach xs is es = AllZip (IsHeldIn xs) is es

-- the values of a demand's subjects lie between the bounds
pub record LieWithinBounds (b : Bounds) (d : Demand) (xs : List ℤ) : Type 0 where
  pub target : IsIn b.target (value_at xs d.target)
  pub members : AreHeldEach xs d.exprs.items b.members.items

-- they are what the bounds say
pub record AreFixedAt (b : Bounds) (d : Demand) (xs : List ℤ) : Type 0 where
  pub target : IsAt b.target (value_at xs d.target)
  pub members : AllZip (λ i e. IsAt e (value_at xs i)) d.exprs.items b.members.items

abbrev pub IsDemandMet : Demand → List ℤ → Type 0
IsDemandMet d xs = Relates d.relation (value_at xs d.target) (values_at xs d.exprs.items)

-- no values between the bounds meet the demand
pub record IsDemandMissed (b : Bounds) (d : Demand) : Type 0 where
  pub at : (xs : List ℤ) → LieWithinBounds b d xs → IsDemandMet d xs → ⊥

-- where all bounds are fixed, they meet it
pub record IsComputedBy (b : Bounds) (d : Demand) : Type 0 where
  pub at : (xs : List ℤ) → AreFixedAt b d xs → IsDemandMet d xs

-- a subject is one of a demand's
abbrev pub IsDemandSubject : Demand → ℕ → Type 0
IsDemandSubject d i = (m : ℕ) → All (λ j. j < m) (d.target ∷ d.exprs.items) → i < m

-- a subject of a demand whose value lies between ends where all lie between the bounds
pub record IsHeldPlace (b : Bounds) (d : Demand) (p : Place) : Type 0 where
  pub named : IsDemandSubject d p.subject
  pub held : (xs : List ℤ) → LieWithinBounds b d xs → IsIn p.ends (value_at xs p.subject)

-- an atom is true wherever values between the bounds meet the demand
pub record IsImplied (b : Bounds) (d : Demand) (u : Atom) : Type 0 where
  pub named : IsDemandSubject d u.subject
  pub at : (xs : List ℤ) → LieWithinBounds b d xs → IsDemandMet d xs → atom_holds xs u ≡ true

abbrev pub AreImplied : Bounds → Demand → List Narrowing → Type 0
AreImplied b d ns = All (λ n. IsImplied b d n.target) ns

-- a list of narrowings has one more, where there is an atom
abbrev pub AddsNarrowing : Option Atom → List Narrowing → List Narrowing → Type 0
AddsNarrowing None old new = new ≡ old
AddsNarrowing (Some u) old new = (n : Narrowing) × (n.target ≡ u) × (new ≡ old ++ n ∷ [])

-- an atom, where there is one, is true
abbrev pub IsSupposed : Option Atom → List ℤ → Type 0
IsSupposed None xs = Unit {0}
IsSupposed (Some u) xs = atom_holds xs u ≡ true

-- after more facts an atom is true wherever they are and what is supposed is
pub record Needs (s : Trail) (supposed : Option Atom) (u : Atom) (old new : List Atom) : Type 0 where
  pub facts : AreFacts s new
  pub keeps : (xs : List ℤ) → AllTrueAt xs new → AllTrueAt xs old
  pub holds : (xs : List ℤ) → AllTrueAt xs new → IsSupposed supposed xs → atom_holds xs u ≡ true
  pub about : (is : List ℕ) → Contains is u.subject → SpeaksOf is old → SpeaksOf is new

-- and within the first domains
pub record NeedsWithin (s : Trail) (supposed : Option Atom) (u : Atom) (old new : List Atom) : Type 0 where
  pub facts : AreFacts s new
  pub keeps : (xs : List ℤ) → AllTrueAt xs new → AllTrueAt xs old
  pub holds : (xs : List ℤ) → IsWithin s.first xs → AllTrueAt xs new → IsSupposed supposed xs → atom_holds xs u ≡ true
  pub about : (is : List ℕ) → Contains is u.subject → SpeaksOf is old → SpeaksOf is new

-- after more facts a subject's value lies between ends wherever they are and what is supposed is
pub record SupportsEnds (s : Trail) (supposed : Option Atom) (i : ℕ) (e : Ends) (old new : List Atom) : Type 0 where
  pub facts : AreFacts s new
  pub keeps : (xs : List ℤ) → AllTrueAt xs new → AllTrueAt xs old
  pub holds : (xs : List ℤ) → IsWithin s.first xs → AllTrueAt xs new → IsSupposed supposed xs → IsHeldIn xs i e
  pub about : (is : List ℕ) → Contains is i → SpeaksOf is old → SpeaksOf is new

-- and those of several subjects
pub record SupportsEach (s : Trail) (supposed : Option Atom) (is : List ℕ) (es : List Ends) (old new : List Atom) : Type 0 where
  pub facts : AreFacts s new
  pub keeps : (xs : List ℤ) → AllTrueAt xs new → AllTrueAt xs old
  pub holds : (xs : List ℤ) → IsWithin s.first xs → AllTrueAt xs new → IsSupposed supposed xs → AreHeldEach xs is es
  pub about : (js : List ℕ) → All (Contains js) is → SpeaksOf js old → SpeaksOf js new

-- facts about a demand's subjects beside which, and beside what is supposed, the demand is not met
pub record RefutesDemand (s : Trail) (d : Demand) (supposed : Option Atom) (facts : List Atom) : Type 0 where
  pub true_now : AreFacts s facts
  pub speaks : SpeaksOf (d.target ∷ d.exprs.items) facts
  pub excludes : (xs : List ℤ) → IsWithin s.first xs → AllTrueAt xs facts → IsSupposed supposed xs → IsDemandMet d xs → ⊥

-- the first domains of a demand's subjects are in order
pub record AreSoundFor (first : Domains) (d : Demand) : Type 0 where
  pub target : AreIntervals (domain_at first d.target)
  pub exprs : All (λ i. AreIntervals (domain_at first i)) d.exprs.items

-- a body is of one of the kinds whose rule stands
abbrev pub is_arithmetic : Body → Bool
is_arithmetic (IntDiv target exprs) = true
is_arithmetic (IntMod target exprs) = true
is_arithmetic (IntProd target exprs) = true
is_arithmetic (LinMax target exprs) = true
is_arithmetic body = false

-- a subject's ends are those of a place that is about it, and else of what it may be now
pub record IsCutAt (s : Trail) (p : Place) (j : ℕ) (e : Ends) : Type 0 where
  pub own : j ≡ p.subject → e ≡ p.ends
  pub other : j ≢ p.subject → AreEndsNow s j e

pub record AreCut (s : Trail) (d : Demand) (p : Place) (b : Bounds) : Type 0 where
  pub target : IsCutAt s p d.target b.target
  pub members : AllZip (IsCutAt s p) d.exprs.items b.members.items

-- the ends that are left are admitted, where one subject has one value alone
pub record IsPossibleAt (s : Trail) (d : Demand) (i : ℕ) (v : ℤ) : Type 0 where
  pub bounds : Bounds
  pub cut : AreCut s d (record { subject = i; ends = record { low = v; high = v } }) bounds
  pub admitted : Admits d.relation bounds.target bounds.members.items

-- no values between the bounds at which a subject has a value meet the demand
pub record IsMissedAt (b : Bounds) (d : Demand) (i : ℕ) (v : ℤ) : Type 0 where
  pub at : (xs : List ℤ) → LieWithinBounds b d xs → value_at xs i ≡ v → IsDemandMet d xs → ⊥

-- bounds that are read off a store, and that are admitted
pub record AreAdmitted (s : Trail) (d : Demand) (b : Bounds) : Type 0 where
  pub measured : AreMeasured s d b
  pub admitted : Admits d.relation b.target b.members.items

abbrev pub end_of : Side → Ends → ℤ
end_of Low e = e.low
end_of High e = e.high

-- a value lies further from the end of a side than another
abbrev pub IsPast : Side → ℤ → ℤ → Type 0
IsPast Low from x = from <ℤ x
IsPast High from x = x <ℤ from

-- an atom about a place's subject is implied, and is false at its end
pub record IsFoundAt (b : Bounds) (d : Demand) (p : Place) (side : Side) (u : Atom) : Type 0 where
  pub implied : IsImplied b d u
  pub subject : u.subject ≡ p.subject
  pub denies : meets u.op u.value (end_of side p.ends) ≡ false

-- of an end an atom is found, or it is possible
abbrev pub IsEndTried : Bounds → Demand → Place → Side → Option Atom → Type 0
IsEndTried b d p side None = p.ends.low <ℤ p.ends.high → (s : Trail) → AreMeasured s d b
    → IsPossibleAt s d p.subject (end_of side p.ends)
IsEndTried b d p side (Some u) = IsFoundAt b d p side u

abbrev pub AllTrueNow : Trail → List Narrowing → Type 0
AllTrueNow s ns = All (λ n. IsTrueNow s n.target) ns

-- both ends of a place are possible
pub record AreEndsPossible (s : Trail) (d : Demand) (p : Place) : Type 0 where
  pub low : IsPossibleAt s d p.subject p.ends.low
  pub high : IsPossibleAt s d p.subject p.ends.high

-- after more narrowings the ends of a place are possible, where all these are true already
pub record TriesPlace (b : Bounds) (d : Demand) (p : Place) (old new : List Narrowing) : Type 0 where
  pub keeps : (s : Trail) → AllTrueNow s new → AllTrueNow s old
  pub possible : (s : Trail) → AreAdmitted s d b → AreEndsNow s p.subject p.ends → AllTrueNow s new
      → AreEndsPossible s d p

-- the place of a member
abbrev pub member_of : Demand → Bounds → ℕ → Place
member_of d b k = record {
  subject = slice_index_or d.exprs.items k 0;
  ends = slice_index_or b.members.items k (record { low = pos 0; high = pos 0 });
}

-- a member may be passed over: a greatest value reaches as far, and where no other reaches the target, it does so
-- wherever it is, or nowhere
pub record IsPassedOver (d : Demand) (target : Ends) (members : List Ends) (k : ℕ) (own : Ends) : Type 0 where
  pub relation : d.relation ≡ Greatest
  pub high : own.high ≤ℤ target.high
  pub low : IsAlone target members k → (target.low ≤ℤ own.low) ⊎ (own.high <ℤ target.low)

-- the ends of all subjects are possible, but those of members that are passed over
pub record AreTried (s : Trail) (d : Demand) (b : Bounds) : Type 0 where
  pub target : AreEndsPossible s d (record { subject = d.target; ends = b.target })
  pub members : (k : ℕ) → k < length d.exprs.items → AreEndsPossible s d (member_of d b k)
      ⊎ IsPassedOver d b.target b.members.items k (member_of d b k).ends
