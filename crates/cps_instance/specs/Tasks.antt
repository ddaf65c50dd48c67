-- When a task holds at a list of values, one for each subject; what it reads; and a cut with a lower end.
use Rattle.std.specs.Prelude.{◌≡◌, ℕ, ◌%◌, ◌≤◌, ℤ, ◌+ℤ◌, ◌≤ℤ◌, IsTrue, Option, Some, None, List, [], ◌∷◌, ◌++◌, map, All}
use Rattle.std.specs.List.{list_all, list_any, count_by}
use Rattle.std.specs.Int.{int_min}
use Rattle.cps_model.specs.Within.{is_within, is_allowed}
use Rattle.cps_model.specs.Arithmetic.{IsQuotient, IsRemainder, IsProduct, IsGreatest}
use Rattle.cps_model.specs.Lookups.{IsElement, IsInTable, IsAllDifferent}
use Rattle.cps_model.specs.Circuits.{IsCircuit}
use Rattle.cps_model.specs.Scheduling.{IsInterval, IsNoOverlap, IsCumulative, IsNoOverlap2d}
use Rattle.cps_model.specs.Sequences.{AreInverse, transitions, Accepts}
use Rattle.cps_model.specs.Reservoirs.{IsReservoir}
use Rattle.cps_literal.specs.declared.atom.Atom.{Atom}
use Rattle.cps_literal.specs.Truth.{value_at, atom_holds}
use Rattle.cps_instance.specs.declared.task.Task.{Task}
use Rattle.cps_instance.specs.declared.task.Body.{Body}
use Rattle.cps_instance.specs.declared.task.Span.{Span}
use Rattle.cps_instance.specs.declared.task.Body.TheVariants.{Empty, BoolOr, BoolAnd, AtMostOne, ExactlyOne, BoolXor, Linear, IntDiv, IntMod, IntProd, LinMax, Element, Table, AllDiff, Circuit, Interval, NoOverlap, Cumulative, Inverse, Automaton, Reservoir, NoOverlap2d, Sum, ObjectiveList, Cut}
use Rattle.cps_instance.specs.Terms.{terms_value, term_subjects}
use Rattle.cps_instance.specs.Parts.{values_at, true_arcs, span_runs, span_uses, span_areas, changes_at}

-- how many positions have a true atom
abbrev pub true_atoms : List ℤ → List Atom → ℕ
true_atoms xs atoms = count_by (atom_holds xs) atoms

-- a sum is at most an end, where there is one
abbrev pub IsSumUpTo : Option ℤ → ℤ → Type 0
IsSumUpTo None v = Unit {0}
IsSumUpTo (Some upper) v = v ≤ℤ upper

-- what each kind of task demands
abbrev pub HoldsBody : Body → List ℤ → Type 0
HoldsBody Empty xs = Unit {0}
HoldsBody (BoolOr atoms) xs = IsTrue (list_any (atom_holds xs) atoms)
HoldsBody (BoolAnd atoms) xs = IsTrue (list_all (atom_holds xs) atoms)
HoldsBody (AtMostOne atoms) xs = true_atoms xs atoms ≤ 1
HoldsBody (ExactlyOne atoms) xs = true_atoms xs atoms ≡ 1
HoldsBody (BoolXor atoms) xs = true_atoms xs atoms % 2 ≡ 1
HoldsBody (Linear terms domain) xs = IsTrue (is_within domain (terms_value xs terms))
HoldsBody (IntDiv target exprs) xs = IsQuotient (value_at xs target) (values_at xs exprs)
HoldsBody (IntMod target exprs) xs = IsRemainder (value_at xs target) (values_at xs exprs)
HoldsBody (IntProd target exprs) xs = IsProduct (value_at xs target) (values_at xs exprs)
HoldsBody (LinMax target exprs) xs = IsGreatest (value_at xs target) (values_at xs exprs)
HoldsBody (Element index target exprs) xs = IsElement (value_at xs index) (value_at xs target) (values_at xs exprs)
HoldsBody (Table exprs values negated) xs = IsInTable negated values (values_at xs exprs)
HoldsBody (AllDiff exprs) xs = IsAllDifferent (values_at xs exprs)
HoldsBody (Circuit tails heads literals) xs = IsCircuit (tails ++ heads) (true_arcs xs tails heads literals)
HoldsBody (Interval start end size) xs = IsInterval (value_at xs start) (value_at xs end) (value_at xs size)
HoldsBody (NoOverlap spans) xs = IsNoOverlap (span_runs xs spans)
HoldsBody (Cumulative capacity spans demands) xs = IsCumulative (value_at xs capacity) (span_uses xs spans demands)
HoldsBody (Inverse direct inverse) xs = AreInverse (values_at xs direct) (values_at xs inverse)
HoldsBody (Automaton start finals tails heads labels exprs) xs = Accepts (transitions tails heads labels) finals start
    (values_at xs exprs)
HoldsBody (Reservoir min max times changes active) xs = IsReservoir min max (changes_at xs times changes active)
HoldsBody (NoOverlap2d x y) xs = IsNoOverlap2d (span_areas xs x y)
HoldsBody (Sum subject terms offset) xs = value_at xs subject ≡ terms_value xs terms +ℤ offset
HoldsBody (ObjectiveList terms domain) xs = IsTrue (is_allowed domain (terms_value xs terms))
HoldsBody (Cut terms upper) xs = IsSumUpTo upper (terms_value xs terms)

-- a task holds where an enforcement atom is false, or where what its kind demands holds
abbrev pub HoldsTask : Task → List ℤ → Type 0
HoldsTask t xs = IsTrue (list_all (atom_holds xs) t.enforcement) → HoldsBody t.body xs

-- each task of a list holds
abbrev pub HoldAll : List Task → List ℤ → Type 0
HoldAll tasks xs = All (λ t. HoldsTask t xs) tasks

abbrev pub atom_subjects : List Atom → List ℕ
atom_subjects atoms = map (λ u. u.subject) atoms

-- the subjects that a span's place depends on
abbrev pub subjects_of_span : Span → List ℕ
subjects_of_span s = s.start ∷ s.end ∷ atom_subjects s.presence

abbrev pub span_subjects : List Span → List ℕ
span_subjects [] = []
span_subjects (s ∷ ss) = subjects_of_span s ++ span_subjects ss

-- the subjects that a task reads
abbrev pub subjects_of_body : Body → List ℕ
subjects_of_body Empty = []
subjects_of_body (BoolOr atoms) = atom_subjects atoms
subjects_of_body (BoolAnd atoms) = atom_subjects atoms
subjects_of_body (AtMostOne atoms) = atom_subjects atoms
subjects_of_body (ExactlyOne atoms) = atom_subjects atoms
subjects_of_body (BoolXor atoms) = atom_subjects atoms
subjects_of_body (Linear terms domain) = term_subjects terms
subjects_of_body (IntDiv target exprs) = target ∷ exprs
subjects_of_body (IntMod target exprs) = target ∷ exprs
subjects_of_body (IntProd target exprs) = target ∷ exprs
subjects_of_body (LinMax target exprs) = target ∷ exprs
subjects_of_body (Element index target exprs) = index ∷ target ∷ exprs
subjects_of_body (Table exprs values negated) = exprs
subjects_of_body (AllDiff exprs) = exprs
subjects_of_body (Circuit tails heads literals) = atom_subjects literals
subjects_of_body (Interval start end size) = start ∷ end ∷ size ∷ []
subjects_of_body (NoOverlap spans) = span_subjects spans
subjects_of_body (Cumulative capacity spans demands) = capacity ∷ span_subjects spans ++ demands
subjects_of_body (Inverse direct inverse) = direct ++ inverse
subjects_of_body (Automaton start finals tails heads labels exprs) = exprs
subjects_of_body (Reservoir min max times changes active) = times ++ (changes ++ atom_subjects active)
subjects_of_body (NoOverlap2d x y) = span_subjects x ++ span_subjects y
subjects_of_body (Sum subject terms offset) = subject ∷ term_subjects terms
subjects_of_body (ObjectiveList terms domain) = term_subjects terms
subjects_of_body (Cut terms upper) = term_subjects terms

abbrev pub subjects_of : Task → List ℕ
subjects_of t = atom_subjects t.enforcement ++ subjects_of_body t.body

-- the lesser of an end and another, which is the other where there was none
abbrev pub lowered_end : ℤ → Option ℤ → ℤ
lowered_end upper None = upper
lowered_end upper (Some old) = int_min old upper

-- a cut's end falls to the lesser of itself and `upper`, and other tasks stay
abbrev pub lowered_body : ℤ → Body → Body
lowered_body upper (Cut terms old) = Cut terms (Some (lowered_end upper old))
lowered_body upper body = body

abbrev pub lowered : ℤ → Task → Task
lowered upper t = record { enforcement = t.enforcement; body = lowered_body upper t.body }

-- what is cut off: the sum of a cut is at most `upper`
abbrev pub IsBodyUpTo : ℤ → Body → List ℤ → Type 0
IsBodyUpTo upper (Cut terms old) xs = terms_value xs terms ≤ℤ upper
IsBodyUpTo upper body xs = Unit {0}
