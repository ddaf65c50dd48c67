-- How compulsory parts make a profile.
use Rattle.std.proofs.Common.{ℕ, ◌+◌, ◌<◌, ◌≤◌, ◌^◌, ℤ, pos, ◌+ℤ◌, ◌≤ℤ◌, ◌<ℤ◌, ◌≡◌, ◌⊎◌, inl, inr, Bool, true, false, cond, List, [], ◌∷◌, ◌++◌, length, drop, get_or, refl, sym, ◌∙◌, ap, subst, arith}
use Rattle.std.specs.Prelude.{int_le, int_lt, Option, Some, None}
use Rattle.std.specs.List.{list_all, All}
use Rattle.std.proofs.lemmas.Int.{ints}
use Rattle.std.proofs.lemmas.List.{drop_more, drop_all}
use Rattle.std.proofs.lemmas.List.Elements.{All-nil, All-push, All-head, All-tail}
use Rattle.std.proofs.lemmas.List.Sums.{sum_by_push}
use Rattle.cps_domain.proofs.Tests.{true_le, le_true, first_of_both, second_of_both, both}
use Rattle.cps_literal.specs.declared.atom.Atom.{Atom}
use Rattle.cps_literal.specs.Truth.{value_at, atom_holds}
use Rattle.cps_instance.specs.declared.task.Span.{Span}
use Rattle.cps_instance.specs.Parts.{span_end}
use Rattle.cps_trail.specs.Trail.{Trail, IsTrueNow, IsAdmitted}
use Rattle.cps_propagate.specs.Now.{IsOpenTo}
use Rattle.cps_propagate.specs.Strength.{EndsAfter, IsCovering, IsLeastNow, IsLoadOfSome}
use Rattle.cps_p_cumulative.specs.declared.part.Part.{Part}
use Rattle.cps_p_cumulative.specs.Profile.{covers, at, height, AreParts}
use Rattle.cps_p_cumulative.specs.Running.{demand_of, demands_at, AreSome}
use Rattle.cps_p_cumulative.specs.Measuring.{IsPartMeasured, IsProfile}
use Rattle.cps_p_cumulative.proofs.SpanDemands.{demands-cons, lt_true, true_lt, running, demand-runs, demand-some}

at_zero : (t from : ℤ) → at t (record { from = from; to = from; demand = 0 }) ≡ 0
at_zero t from = by (covers t (record { from = from; to = from; demand = 0 }))
  where
    by : (b : Bool) → ◌≡◌ {A = ℕ} (cond b 0 0) 0
    by true = refl
    by false = refl

-- a span of which nothing is measured, as it surely runs at no time or may demand nothing
pub measured-none : (s : Trail) (p : Span) (d : ℕ) (from : ℤ) → ((t m : ℤ) → IsCovering s t p → IsLeastNow s d m → m ≤ℤ pos 0) → IsPartMeasured s p d (record { from = from; to = from; demand = 0 })
measured-none s p d from none = record {
  whole = λ t m c l. (let a = none t m c l in let e = at_zero t from in omega (arith, ints));
  sound = λ t xs open' some. (let a = demand-some xs t p d some in let e = at_zero t from in omega (arith, ints));
  ordered = omega (arith, ints);
  small = omega arith;
}

pub measured-bare : (s : Trail) (p : Span) (d : ℕ) (from to : ℤ) → to ≡ from → ((t m : ℤ) → IsCovering s t p → IsLeastNow s d m → m ≤ℤ pos 0) → IsPartMeasured s p d (record { from = from; to = to; demand = 0 })
measured-bare s p d from to e none = subst (λ (x : ℤ). IsPartMeasured s p d (record { from = from; to = x; demand = 0 })) (sym e) (measured-none s p d from none)

-- where a span of a length ends at least
pub ends-some : (s : Trail) (t : ℤ) (start end : ℕ) (length : Option ℤ) (far low v : ℤ) → length ≡ Some far → ((x : ℤ) → IsOpenTo s start x → low ≤ℤ x) → t <ℤ v → v ≡ low +ℤ far → EndsAfter s t start end length
ends-some s t start end length far low v e least l same = subst (λ (o : Option ℤ). EndsAfter s t start end o) (sym e) (λ x o. (let a = least x o in omega (arith, ints)))

-- and any other span
pub ends-none : (s : Trail) (t : ℤ) (start end : ℕ) (length : Option ℤ) (low v : ℤ) → length ≡ None → ((x : ℤ) → IsOpenTo s end x → low ≤ℤ x) → t <ℤ v → v ≡ low → EndsAfter s t start end length
ends-none s t start end length low v e least l same = subst (λ (o : Option ℤ). EndsAfter s t start end o) (sym e) (λ x o. (let a = least x o in omega (arith, ints)))

-- and it ends there
pub some-ends : (s : Trail) (t : ℤ) (start end : ℕ) (length : Option ℤ) (far low v : ℤ) → length ≡ Some far → IsOpenTo s start low → v ≡ low +ℤ far → EndsAfter s t start end length → t <ℤ v
some-ends s t start end length far low v e reached same h =
    let after : EndsAfter s t start end (Some far) = subst (λ (o : Option ℤ). EndsAfter s t start end o) e h in
    subst (λ (z : ℤ). t <ℤ z) (sym same) (after low reached)

pub none-ends : (s : Trail) (t : ℤ) (start end : ℕ) (length : Option ℤ) (low v : ℤ) → length ≡ None → IsOpenTo s end low → v ≡ low → EndsAfter s t start end length → t <ℤ v
none-ends s t start end length low v e reached same h =
    let after : EndsAfter s t start end None = subst (λ (o : Option ℤ). EndsAfter s t start end o) e h in
    subst (λ (z : ℤ). t <ℤ z) (sym same) (after low reached)

present_at : (s : Trail) (xs : List ℤ) (us : List Atom) → All (λ u. u.subject < length s.first) us → All (IsTrueNow s) us → IsAdmitted s.first s.entries xs → list_all (atom_holds xs) us ≡ true
present_at s xs [] inside now admitted = refl
present_at s xs (u ∷ us) inside now admitted =
    both (atom_holds xs u) (list_all (atom_holds xs) us) (All-head (IsTrueNow s) u us now (value_at xs u.subject) (admitted u.subject (All-head (λ v. v.subject < length s.first) u us inside)))
    (present_at s xs us (All-tail (λ v. v.subject < length s.first) u us inside) (All-tail (IsTrueNow s) u us now) admitted)

ends_at : (s : Trail) (xs : List ℤ) (t : ℤ) (start end : ℕ) (length : Option ℤ) → EndsAfter s t start end length → IsOpenTo s start (value_at xs start) → IsOpenTo s end (value_at xs end) → t <ℤ span_end xs start end length
ends_at s xs t start end None h a b = h (value_at xs end) b
ends_at s xs t start end (Some far) h a b = h (value_at xs start) a

-- what is known of a span with a compulsory part
pub record IsSure (s : Trail) (p : Span) (d : ℕ) (part : Part) : Type 0 where
  pub start-inside : p.start < length s.first
  pub end-inside : p.end < length s.first
  pub demand-inside : d < length s.first
  pub atoms-inside : All (λ u. u.subject < length s.first) p.presence
  pub present : All (IsTrueNow s) p.presence
  pub start : IsOpenTo s p.start part.from
  pub greatest : (x : ℤ) → IsOpenTo s p.start x → x ≤ℤ part.from
  pub runs : (t : ℤ) → t <ℤ part.to → EndsAfter s t p.start p.end p.length
  pub ends : (t : ℤ) → EndsAfter s t p.start p.end p.length → t <ℤ part.to
  pub reached : IsOpenTo s d (pos part.demand)
  pub least : (x : ℤ) → IsOpenTo s d x → pos part.demand ≤ℤ x
  pub small : part.demand < 2 ^ 63
  pub ordered : part.from ≤ℤ part.to

at_covered : (t : ℤ) (part : Part) → covers t part ≡ true → at t part ≡ part.demand
at_covered t part h = ap (λ b. cond b part.demand 0) h

at_bare : (t : ℤ) (part : Part) → covers t part ≡ false → at t part ≡ 0
at_bare t part h = ap (λ b. cond b part.demand 0) h

module _ (s : Trail) (p : Span) (d : ℕ) (part : Part) (sure : IsSure s p d part) where
  sure_whole : (t m : ℤ) → IsCovering s t p → IsLeastNow s d m → m ≤ℤ pos (at t part)
  sure_whole t m c l =
      let a = c.started part.from sure.start in
      let b = sure.ends t c.running in
      let e = at_covered t part (both (int_le part.from t) (int_lt t part.to) (le_true part.from t a) (lt_true t part.to b)) in
      let f = l.below (pos part.demand) sure.reached in
      omega (arith, ints)

  sure_sound : (t : ℤ) (xs : List ℤ) → IsAdmitted s.first s.entries xs → pos 0 ≤ℤ value_at xs d → pos (at t part) ≤ℤ demand_of xs t p d
  sure_sound t xs admitted some = by (covers t part) refl
    where
      by : (b : Bool) → covers t part ≡ b → pos (at t part) ≤ℤ demand_of xs t p d
      by true h =
          let e = at_covered t part h in
          let from = true_le part.from t (first_of_both (int_le part.from t) (int_lt t part.to) h) in
          let to = true_lt t part.to (second_of_both (int_le part.from t) (int_lt t part.to) h) in
          let started = sure.greatest (value_at xs p.start) (admitted p.start sure.start-inside) in
          let r = running xs t p (present_at s xs p.presence sure.atoms-inside sure.present admitted) (omega (arith, ints))
          (ends_at s xs t p.start p.end p.length (sure.runs t to) (admitted p.start sure.start-inside) (admitted p.end sure.end-inside)) in
          let f = demand-runs xs t p d r in
          let g = sure.least (value_at xs d) (admitted d sure.demand-inside) in
          omega (arith, ints)
      by false h = (let e = at_bare t part h in let a = demand-some xs t p d some in omega (arith, ints))

  pub measured-some : IsPartMeasured s p d part
  measured-some = record { whole = sure_whole; sound = sure_sound; ordered = sure.ordered; small = sure.small }

-- the parts of the first spans, up to a place
pub record IsProfileTo (s : Trail) (ps : List Span) (ds : List ℕ) (k : ℕ) (parts : List Part) : Type 0 where
  pub whole : (t load : ℤ) → IsLoadOfSome s t ps ds load → (rest : ℤ) × IsLoadOfSome s t (drop k ps) (drop k ds) rest × (load ≤ℤ (pos (height t parts) +ℤ rest))
  pub sound : (t : ℤ) (xs : List ℤ) → IsAdmitted s.first s.entries xs → AreSome xs ds → (pos (height t parts) +ℤ demands_at xs t (drop k ps) (drop k ds)) ≤ℤ demands_at xs t ps ds
  pub good : AreParts parts

-- no span so far
pub profile-begun : (s : Trail) (ps : List Span) (ds : List ℕ) (parts : List Part) → parts ≡ [] → IsProfileTo s ps ds 0 parts
profile-begun s ps ds parts none = subst (λ (v : List Part). IsProfileTo s ps ds 0 v) (sym none) (record {
  whole = λ t load some. (load, some, omega (arith, ints));
  sound = λ t xs admitted all. omega (arith, ints);
  good = record { ordered = All-nil (λ p. p.from ≤ℤ p.to); small = All-nil (λ p. p.demand < 2 ^ 63) };
})

one_load : (s : Trail) (t load : ℤ) (p : Span) (d : ℕ) (ps : List Span) (ds : List ℕ) (part : Part) → IsPartMeasured s p d part → IsLoadOfSome s t (p ∷ ps) (d ∷ ds) load → (rest : ℤ) × IsLoadOfSome s t ps ds rest × (load ≤ℤ (pos (at t part) +ℤ rest))
one_load s t load p d ps ds part m (inl h) = (h.2, h.4, (let a = m.whole t h.1 h.0 h.3 in let e = h.5 in omega (arith, ints)))
one_load s t load p d ps ds part m (inr h) = (load, h, omega (arith, ints))

module _ (s : Trail) (ps : List Span) (ds : List ℕ) (k : ℕ) (p : Span) (d : ℕ) (part : Part) (parts more : List Part) (l : k < length ps) (m : k < length ds) (measured : IsPartMeasured s (get_or ps k p) (get_or ds k d) part)
    (higher : (t : ℤ) → height t more ≡ height t parts + at t part) (good' : AreParts more) (h : IsProfileTo s ps ds k parts) where
  more_whole : (t load : ℤ) → IsLoadOfSome s t ps ds load → (rest : ℤ) × IsLoadOfSome s t (drop (k + 1) ps) (drop (k + 1) ds) rest × (load ≤ℤ (pos (height t more) +ℤ rest))
  more_whole t load some =
      let a = h.whole t load some in
      let b : IsLoadOfSome s t (get_or ps k p ∷ drop (k + 1) ps) (get_or ds k d ∷ drop (k + 1) ds) a.0 =
      subst (λ (es : List ℕ). IsLoadOfSome s t (get_or ps k p ∷ drop (k + 1) ps) es a.0) (drop_more ds k d m) (subst (λ (qs : List Span). IsLoadOfSome s t qs (drop k ds) a.0) (drop_more ps k p l) a.1) in
      let c = one_load s t a.0 (get_or ps k p) (get_or ds k d) (drop (k + 1) ps) (drop (k + 1) ds) part measured b in
      let e = higher t in
      let f = a.2 in
      let g = c.2 in
      (c.0, c.1, omega (arith, ints))

  more_sound : (t : ℤ) (xs : List ℤ) → IsAdmitted s.first s.entries xs → AreSome xs ds → (pos (height t more) +ℤ demands_at xs t (drop (k + 1) ps) (drop (k + 1) ds)) ≤ℤ demands_at xs t ps ds
  more_sound t xs o some =
      let a = h.sound t xs o some in
      let e : demands_at xs t (drop k ps) (drop k ds) ≡ demands_at xs t (get_or ps k p ∷ drop (k + 1) ps) (get_or ds k d ∷ drop (k + 1) ds) =
      ap (λ (qs : List Span). demands_at xs t qs (drop k ds)) (drop_more ps k p l) ∙ ap (λ (es : List ℕ). demands_at xs t (get_or ps k p ∷ drop (k + 1) ps) es) (drop_more ds k d m) in
      let f = demands-cons xs t (get_or ps k p) (get_or ds k d) (drop (k + 1) ps) (drop (k + 1) ds) in
      let g = measured.sound t xs o (some k d m) in
      let i = higher t in
      omega (arith, ints)

  pub profile-step : IsProfileTo s ps ds (k + 1) more
  profile-step = record { whole = more_whole; sound = more_sound; good = good' }

-- one part more
pub profile-more : (s : Trail) (ps : List Span) (ds : List ℕ) (k : ℕ) (p : Span) (d : ℕ) (part : Part) (parts more : List Part) → k < length ps → k < length ds → IsPartMeasured s (get_or ps k p) (get_or ds k d) part
    → more ≡ parts ++ part ∷ [] → IsProfileTo s ps ds k parts → IsProfileTo s ps ds (k + 1) more
profile-more s ps ds k p d part parts more l m measured is h = profile-step s ps ds k p d part parts more l m measured
    (λ t. ap (height t) is ∙ sum_by_push (at t) parts part)
    (subst AreParts (sym is) (record {
      ordered = All-push (λ q. q.from ≤ℤ q.to) parts part h.good.ordered measured.ordered;
      small = All-push (λ q. q.demand < 2 ^ 63) parts part h.good.small measured.small;
    }))
    h

-- none, where there is nothing in it
pub profile-same : (s : Trail) (ps : List Span) (ds : List ℕ) (k : ℕ) (p : Span) (d : ℕ) (part : Part) (parts : List Part) → k < length ps → k < length ds → IsPartMeasured s (get_or ps k p) (get_or ds k d) part
    → part.demand ≡ 0 → IsProfileTo s ps ds k parts → IsProfileTo s ps ds (k + 1) parts
profile-same s ps ds k p d part parts l m measured none h = profile-step s ps ds k p d part parts parts l m measured (λ t. (let e = nothing t in omega arith)) h.good h
  where
    nothing : (t : ℤ) → at t part ≡ 0
    nothing t = by (covers t part)
      where
        by : (b : Bool) → cond b part.demand 0 ≡ 0
        by true = none
        by false = refl

-- nothing is left
load_end : (s : Trail) (t load : ℤ) (ps : List Span) (ds : List ℕ) → (ps ≡ []) ⊎ (ds ≡ []) → IsLoadOfSome s t ps ds load → load ≡ pos 0
load_end s t load [] ds e h = h
load_end s t load (p ∷ ps) [] e h = h
load_end s t load (p ∷ ps) (d ∷ ds) (inl e) h = cc
load_end s t load (p ∷ ps) (d ∷ ds) (inr e) h = cc

demands_end : (xs : List ℤ) (t : ℤ) (ps : List Span) (ds : List ℕ) → (ps ≡ []) ⊎ (ds ≡ []) → demands_at xs t ps ds ≡ pos 0
demands_end xs t [] ds e = refl
demands_end xs t (p ∷ ps) [] e = refl
demands_end xs t (p ∷ ps) (d ∷ ds) (inl e) = cc
demands_end xs t (p ∷ ps) (d ∷ ds) (inr e) = cc

drop_end : {X : Type 0} (k : ℕ) (xs : List X) → length xs ≤ k → drop k xs ≡ []
drop_end k xs l = drop_all k xs l

at_end : (k : ℕ) (ps : List Span) (ds : List ℕ) → (length ps ≤ k) ⊎ (length ds ≤ k) → (drop k ps ≡ []) ⊎ (drop k ds ≡ [])
at_end k ps ds (inl l) = inl (drop_end k ps l)
at_end k ps ds (inr l) = inr (drop_end k ds l)

pub profile-all : (s : Trail) (ps : List Span) (ds : List ℕ) (k : ℕ) (parts : List Part) → (length ps ≤ k) ⊎ (length ds ≤ k) → IsProfileTo s ps ds k parts → IsProfile s ps ds parts
profile-all s ps ds k parts past h = record {
  whole = λ t load some.
      let a = h.whole t load some in
      let b = load_end s t a.0 (drop k ps) (drop k ds) (at_end k ps ds past) a.1 in
      let c = a.2 in
      omega (arith, ints);
  sound = λ t xs o some.
      let a = h.sound t xs o some in
      let b = demands_end xs t (drop k ps) (drop k ds) (at_end k ps ds past) in
      omega (arith, ints);
  good = h.good;
}

-- and what was charged is demanded
pub demands-past : (xs : List ℤ) (t : ℤ) (ps : List Span) (ds : List ℕ) (k : ℕ) → (length ps ≤ k) ⊎ (length ds ≤ k) → demands_at xs t (drop k ps) (drop k ds) ≡ pos 0
demands-past xs t ps ds k past = demands_end xs t (drop k ps) (drop k ds) (at_end k ps ds past)
