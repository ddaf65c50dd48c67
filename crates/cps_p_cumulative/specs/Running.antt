-- What spans demand at a time and a list of values.
use Rattle.std.specs.Prelude.{◌≡◌, ◌⊎◌, ℕ, zero, suc, ◌<◌, ℤ, pos, ◌+ℤ◌, ◌≤ℤ◌, Bool, ◌&&◌, int_le, int_lt, if◌then◌else◌, List, length, All}
use Rattle.std.specs.List.{list_all}
use Rattle.cps_model.specs.Scheduling.{load_at}
use Rattle.cps_literal.specs.Truth.{value_at, atom_holds}
use Rattle.cps_instance.specs.declared.task.Span.{Span}
use Rattle.cps_instance.specs.declared.task.Body.{Body}
use Rattle.cps_instance.specs.declared.task.Body.TheVariants.{Cumulative}
use Rattle.cps_instance.specs.Tasks.{subjects_of_span, span_subjects}
use Rattle.cps_instance.specs.Parts.{span_end, span_uses}
use Rattle.cps_trail.specs.Trail.{Domains}
use Rattle.cps_p_cumulative.specs.declared.resource.Resource.{Resource}

-- whether a span is present and runs at a time
abbrev pub is_running : List ℤ → ℤ → Span → Bool
is_running xs t p = list_all (atom_holds xs) p.presence &&
    (int_le (value_at xs p.start) t && int_lt t (span_end xs p.start p.end p.length))

-- what it demands then
abbrev pub demand_of : List ℤ → ℤ → Span → ℕ → ℤ
demand_of xs t p d = if is_running xs t p then value_at xs d else pos 0

-- what all demand at a time
abbrev pub demands_at : List ℤ → ℤ → List Span → List ℕ → ℤ
demands_at xs t ps ds = load_at t (span_uses xs ps ds)

-- what a span uses of so many times from one on, and what all use
abbrev pub energy_of : List ℤ → ℤ → ℕ → Span → ℕ → ℤ
energy_of xs t zero p d = pos 0
energy_of xs t (suc n) p d = demand_of xs t p d +ℤ energy_of xs (t +ℤ pos 1) n p d

abbrev pub energies : List ℤ → ℤ → ℕ → List Span → List ℕ → ℤ
energies xs t zero ps ds = pos 0
energies xs t (suc n) ps ds = demands_at xs t ps ds +ℤ energies xs (t +ℤ pos 1) n ps ds

-- no demand is negative
abbrev pub AreSome : List ℤ → List ℕ → Type 0
AreSome xs ds = All (λ d. pos 0 ≤ℤ value_at xs d) ds

-- a span over the subjects of a store
abbrev pub IsSpanOf : Domains → Span → Type 0
IsSpanOf first p = All (λ i. i < length first) (subjects_of_span p)

-- a subject is that of a span's start or of its end
abbrev pub IsTimeOf : Span → ℕ → Type 0
IsTimeOf p i = (i ≡ p.start) ⊎ (i ≡ p.end)

-- what a resource asks
abbrev pub body_of : Resource → Body
body_of r = Cumulative r.capacity r.spans r.demands

-- a resource over the subjects of a store
pub record IsResourceOf (first : Domains) (r : Resource) : Type 0 where
  pub capacity : r.capacity < length first
  pub spans : All (λ i. i < length first) (span_subjects r.spans)
  pub demands : All (λ i. i < length first) r.demands

-- a body is that of a resource
abbrev pub IsCumulativeBody : Body → Type 0
IsCumulativeBody (Cumulative capacity spans demands) = Unit {0}
IsCumulativeBody body = ⊥
