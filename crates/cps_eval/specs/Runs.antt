-- Transitions of an automaton by the state and the label at which they are taken.
use Rattle.std.specs.Prelude.{◌≡◌, ℕ, ◌-◌, ◌<◌, ◌≤◌, Bool, true, false, ◌&&◌, ◌||◌, ℤ, int_le, int_lt, List, length, take, drop, slice_index_or, Contains}
use Rattle.std.specs.List.Sorted.{IsPartitionPoint}
use Rattle.std.specs.Ordering.{int_eq}
use Rattle.cps_model.specs.declared.parts.Transition.{Transition}
use Rattle.cps_model.specs.Sequences.{Accepts}

-- whether a transition comes before those of a state and a label, where they are sorted by state and label
abbrev pub comes_before : ℤ → ℤ → Transition → Bool
comes_before state label step = int_lt step.tail state || (int_eq step.tail state && int_lt step.label label)

-- the same, or it is one of them
abbrev pub comes_up_to : ℤ → ℤ → Transition → Bool
comes_up_to state label step = int_lt step.tail state || (int_eq step.tail state && int_le step.label label)

-- they are sorted by state and label
abbrev pub AreGrouped : List Transition → Type 0
AreGrouped steps =
    (i j : ℕ) (d : Transition) → i ≤ j → j < length steps →
    comes_up_to (slice_index_or steps j d).tail (slice_index_or steps j d).label (slice_index_or steps i d) ≡ true

-- those of a state and a label begin at an index, and end before one
abbrev pub BeginAt : List Transition → ℤ → ℤ → ℕ → Type 0
BeginAt steps state label first = IsPartitionPoint (λ y. comes_before state label y ≡ true)
    (λ y. comes_before state label y ≡ false) steps first

abbrev pub EndBefore : List Transition → ℤ → ℤ → ℕ → Type 0
EndBefore steps state label end = IsPartitionPoint (λ y. comes_up_to state label y ≡ true)
    (λ y. comes_up_to state label y ≡ false) steps end

-- the transitions from one place to before another
abbrev pub part : List Transition → ℕ → ℕ → List Transition
part steps first end = take (end - first) (drop first steps)

-- a transition leads from a state to the next by a label
abbrev pub LeadsBy : List Transition → ℤ → ℤ → ℤ → Type 0
LeadsBy steps label state next = Contains steps (record { tail = state; head = next; label = label })

-- some of these states is the one from which a transition leads
abbrev pub LeadsFromSome : List Transition → ℤ → List ℤ → ℤ → Type 0
LeadsFromSome steps label states next = (state : ℤ) × Contains states state × LeadsBy steps label state next

-- some of these states accepts the labels
abbrev pub SomeAccepts : List Transition → List ℤ → List ℤ → List ℤ → Type 0
SomeAccepts steps finals states labels = (state : ℤ) × Contains states state × Accepts steps finals state labels

-- some of these states is final
abbrev pub SomeIsFinal : List ℤ → List ℤ → Type 0
SomeIsFinal finals states = (state : ℤ) × Contains states state × Contains finals state
