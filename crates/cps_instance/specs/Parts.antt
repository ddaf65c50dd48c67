-- What bodies are made of at a list of values, one for each subject.
use Rattle.std.specs.Prelude.{if◌then◌else◌, ℕ, ℤ, ◌+ℤ◌, List, [], ◌∷◌, map, Option, Some, None, filter_map}
use Rattle.std.specs.List.{list_all, cons_option}
use Rattle.cps_model.specs.declared.parts.Arc.{Arc}
use Rattle.cps_model.specs.declared.parts.Area.{Area}
use Rattle.cps_model.specs.declared.parts.Event.{Event}
use Rattle.cps_model.specs.declared.parts.Run.{Run}
use Rattle.cps_model.specs.declared.parts.Use.{Use}
use Rattle.cps_model.specs.Scheduling.{use_of, area_of}
use Rattle.cps_literal.specs.declared.atom.Atom.{Atom}
use Rattle.cps_literal.specs.Truth.{value_at, atom_holds}
use Rattle.cps_instance.specs.declared.task.Span.{Span}

abbrev pub values_at : List ℤ → List ℕ → List ℤ
values_at xs subjects = map (value_at xs) subjects

-- the arcs whose atoms are true
abbrev pub true_arcs : List ℤ → List ℤ → List ℤ → List Atom → List Arc
true_arcs xs (t ∷ ts) (h ∷ hs) (u ∷ us) =
    if atom_holds xs u then record { tail = t; head = h } ∷ true_arcs xs ts hs us else true_arcs xs ts hs us
true_arcs xs [] hs us = []
true_arcs xs (t ∷ ts) [] us = []
true_arcs xs (t ∷ ts) (h ∷ hs) [] = []

-- where a span ends: so far after its start where it has a length, and else at its end
abbrev pub span_end : List ℤ → ℕ → ℕ → Option ℤ → ℤ
span_end xs start end (Some far) = value_at xs start +ℤ far
span_end xs start end None = value_at xs end

-- a span that is present
abbrev pub span_run : List ℤ → Span → Option Run
span_run xs s =
    if list_all (atom_holds xs) s.presence then Some
    (record { start = value_at xs s.start; end = span_end xs s.start s.end s.length }) else None

abbrev pub span_runs : List ℤ → List Span → List Run
span_runs xs spans = filter_map (span_run xs) spans

-- the spans that are present, with their demands
abbrev pub span_uses : List ℤ → List Span → List ℕ → List Use
span_uses xs (s ∷ ss) (d ∷ ds) = cons_option (use_of (span_run xs s) (value_at xs d)) (span_uses xs ss ds)
span_uses xs [] ds = []
span_uses xs (s ∷ ss) [] = []

-- the boxes both of whose spans are present
abbrev pub span_areas : List ℤ → List Span → List Span → List Area
span_areas xs (s ∷ ss) (t ∷ ts) = cons_option (area_of (span_run xs s) (span_run xs t)) (span_areas xs ss ts)
span_areas xs [] ts = []
span_areas xs (s ∷ ss) [] = []

abbrev pub change_at : List ℤ → ℕ → ℕ → Event
change_at xs time change = record { time = value_at xs time; change = value_at xs change }

abbrev pub all_changes : List ℤ → List ℕ → List ℕ → List Event
all_changes xs (t ∷ ts) (c ∷ cs) = change_at xs t c ∷ all_changes xs ts cs
all_changes xs [] cs = []
all_changes xs (t ∷ ts) [] = []

-- the events whose atoms are true
abbrev pub true_changes : List ℤ → List ℕ → List ℕ → List Atom → List Event
true_changes xs (t ∷ ts) (c ∷ cs) (u ∷ us) =
    if atom_holds xs u then change_at xs t c ∷ true_changes xs ts cs us else true_changes xs ts cs us
true_changes xs [] cs us = []
true_changes xs (t ∷ ts) [] us = []
true_changes xs (t ∷ ts) (c ∷ cs) [] = []

-- without atoms each event is active
abbrev pub changes_at : List ℤ → List ℕ → List ℕ → List Atom → List Event
changes_at xs times changes [] = all_changes xs times changes
changes_at xs times changes (u ∷ us) = true_changes xs times changes (u ∷ us)
