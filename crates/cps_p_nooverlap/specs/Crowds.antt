-- Spans that are counted in a window of time, each with a length that it surely has, and 0 for one that is not counted.
use Rattle.std.specs.Prelude.{◌≡◌, ◌<◌, ◌+◌, ◌≤ℤ◌, ◌<ℤ◌, ◌+ℤ◌, ◌-ℤ◌, ℕ, ℤ, pos, Bool, true, false, List, [], length, slice_index_or}
use Rattle.std.specs.List.{sum}
use Rattle.cps_literal.specs.declared.atom.Atom.{Atom}
use Rattle.cps_literal.specs.Truth.{atom_holds}
use Rattle.cps_instance.specs.declared.task.Span.{Span}
use Rattle.cps_model.specs.Scheduling.{IsNoOverlap}
use Rattle.cps_instance.specs.Parts.{span_runs}
use Rattle.cps_trail.specs.Trail.{Trail}
use Rattle.cps_p_nooverlap.specs.declared.crowd.Ends.{Ends}
use Rattle.cps_p_nooverlap.specs.declared.crowd.Ends.TheVariants.{Both, Start, End}
use Rattle.cps_p_nooverlap.specs.declared.crowd.PushedSpan.{PushedSpan}
use Rattle.cps_p_nooverlap.specs.declared.crowd.Crowd.{Crowd}
use Rattle.cps_p_nooverlap.specs.declared.crowd.Crowd.TheVariants.{Detectable, NotFirst, EdgeFinding}
use Rattle.cps_p_nooverlap.specs.declared.edge_finding.Edge.{Edge}
use Rattle.cps_p_span.specs.Citing.{Cites}
use Rattle.cps_p_span.specs.Spans.{start_at, end_at, is_present}
use Rattle.cps_instance.specs.Tasks.{span_subjects}

-- where a span starts, in time or with time reversed
abbrev pub near_at : Bool → List ℤ → Span → ℤ
near_at false xs p = start_at xs p
near_at true xs p = pos 0 -ℤ end_at xs p

-- where it ends
abbrev pub far_at : Bool → List ℤ → Span → ℤ
far_at false xs p = end_at xs p
far_at true xs p = pos 0 -ℤ start_at xs p

-- the end of a span that does not lie before a window
abbrev pub low_at : Ends → Bool → List ℤ → Span → ℤ
low_at Both r xs p = near_at r xs p
low_at Start r xs p = near_at r xs p
low_at End r xs p = far_at r xs p

-- the end of a span that does not lie after a window
abbrev pub high_at : Ends → Bool → List ℤ → Span → ℤ
high_at Both r xs p = far_at r xs p
high_at Start r xs p = near_at r xs p
high_at End r xs p = far_at r xs p

-- at values a span takes so long
abbrev pub LastsAt : List ℤ → Span → ℕ → Type 0
LastsAt xs p w = (start_at xs p +ℤ pos w) ≤ℤ end_at xs p

-- at values a span is present, takes so long, and its ends, or one of them, lie between two times
pub record IsRun (e : Ends) (r : Bool) (xs : List ℤ) (p : Span) (w : ℕ) (a b : ℤ) : Type 0 where
  pub present : is_present xs p ≡ true
  pub lasts : LastsAt xs p w
  pub from : a ≤ℤ low_at e r xs p
  pub to : high_at e r xs p ≤ℤ b

-- so does each counted span among the first n
abbrev pub AreRunsUpTo : ℕ → Ends → Bool → List ℤ → List Span → List ℕ → ℤ → ℤ → Type 0
AreRunsUpTo n e r xs ps ws a b = (k : ℕ) → k < n → (d : Span) → 0 < slice_index_or ws k 0
    → IsRun e r xs (slice_index_or ps k d) (slice_index_or ws k 0) a b

abbrev pub AreRuns : Ends → Bool → List ℤ → List Span → List ℕ → ℤ → ℤ → Type 0
AreRuns e r xs ps ws a b = AreRunsUpTo (length ps) e r xs ps ws a b

-- what is counted: something, and a number for each of n spans
pub record IsSpanCount (n : ℕ) (ws : List ℕ) (m : ℕ) : Type 0 where
  pub each : length ws ≡ n
  pub is : m ≡ sum ws
  pub some : 0 < m

-- and one of the n spans is not counted
pub record IsUncounted (n : ℕ) (ws : List ℕ) (k m : ℕ) : Type 0 where
  pub count : IsSpanCount n ws m
  pub place : k < n
  pub aside : slice_index_or ws k 0 ≡ 0

-- the span that a crowd pushes
abbrev pub pushed_by : Crowd → PushedSpan
pushed_by (Detectable c) = c.pushed
pushed_by (NotFirst c) = c.pushed
pushed_by (EdgeFinding c) = c.pushed

-- one of n spans is not counted, and the counted ones leave no room for it in the window
pub record IsCrowd (n : ℕ) (whole part : List ℕ) (c : Edge) (m : ℕ) : Type 0 where
  pub place : c.pushed.place < n
  pub every : length whole ≡ n
  pub late : IsSpanCount n part m
  pub aside : slice_index_or whole c.pushed.place 0 ≡ 0
  pub aside_too : slice_index_or part c.pushed.place 0 ≡ 0
  pub takes : 0 < c.weight
  pub full : c.to <ℤ (c.from +ℤ pos (sum whole + c.weight))

-- where the spans do not overlap, one starts at a time or later, if it is present
abbrev pub StartsFrom : Bool → List ℤ → List Span → ℕ → ℤ → Type 0
StartsFrom r xs ps k time = (d : Span) → IsNoOverlap (span_runs xs ps) → is_present xs (slice_index_or ps k d) ≡ true
    → time ≤ℤ near_at r xs (slice_index_or ps k d)

-- where an atom is false, a span is present and starts before a time
abbrev pub StartsBeforeUnless : Bool → List ℤ → Span → ℤ → Atom → Type 0
StartsBeforeUnless r xs p time u = atom_holds xs u ≡ false → (is_present xs p ≡ true) × (near_at r xs p <ℤ time)

-- an atom is about the subject of one of a list
pub record IsAboutOne (us : List Atom) (u : Atom) : Type 0 where
  pub place : ℕ
  pub inside : place < length us
  pub about : (d : Atom) → u.subject ≡ (slice_index_or us place d).subject

-- facts of the store and spans that do not overlap give an atom
pub record IsReasoned (s : Trail) (ps : List Span) (us : List Atom) (u : Atom) : Type 0 where
  pub subject : u.subject < length s.first
  pub cites : Cites s (span_subjects ps) [] us (λ xs. IsNoOverlap (span_runs xs ps) → atom_holds xs u ≡ true)
