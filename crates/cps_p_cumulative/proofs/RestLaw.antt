-- Where no time is overloaded: the law at rest, and that the body holds where its subjects are fixed.
use Rattle.std.proofs.Common.{ℕ, ◌<◌, ℤ, pos, ◌+ℤ◌, ◌≤ℤ◌, ◌<ℤ◌, ◌≡◌, inl, inr, Bool, true, false, ◌&&◌, List, [], ◌∷◌, ◌++◌, length, get_or, refl, sym, ◌∙◌, ap, subst, arith}
use Rattle.std.specs.Prelude.{Option, Some, None, MatchOption}
use Rattle.std.specs.List.{list_all, All}
use Rattle.std.proofs.lemmas.Int.{ints}
use Rattle.std.proofs.lemmas.List.Elements.{All-head, All-tail, All-nil, All-cons}
use Rattle.cps_literal.specs.declared.atom.Atom.{Atom}
use Rattle.cps_literal.specs.Truth.{meets, value_at, atom_holds}
use Rattle.cps_instance.specs.declared.task.Span.{Span}
use Rattle.cps_instance.specs.Tasks.{HoldsBody, subjects_of_body, subjects_of_span, span_subjects, atom_subjects}
use Rattle.cps_instance.specs.Parts.{span_end}
use Rattle.cps_instance.specs.Fitting.{IsNeverNegative}
use Rattle.cps_instance.proofs.Agreeing.{All-append_left, All-append_right}
use Rattle.cps_trail.specs.Trail.{Trail, IsTrueNow, IsAdmitted}
use Rattle.cps_trail.proofs.Laws.{admits-within}
use Rattle.cps_propagate.specs.Now.{IsOpenTo, IsFixedNow, AreOpen}
use Rattle.cps_propagate.specs.Strength.{EndsAfter, IsCovering, IsLeastNow, IsLoadOfSome, HasCapacity}
use Rattle.cps_rule.specs.Rules.{IsAtRest, IsImpossible}
use Rattle.cps_p_cumulative.specs.declared.resource.Resource.{Resource}
use Rattle.cps_p_cumulative.specs.declared.part.Part.{Part}
use Rattle.cps_p_cumulative.specs.Profile.{FitsCapacity, IsOverCapacity}
use Rattle.cps_p_cumulative.specs.Running.{is_running, demand_of, demands_at, AreSome, IsResourceOf, body_of}
use Rattle.cps_p_cumulative.specs.Measuring.{IsProfile}
use Rattle.cps_p_cumulative.proofs.SpanDemands.{demands-cons, demand-runs, demand-rests, runs_of}

-- some of the spans, and none of them
pub load-none : (s : Trail) (t : ℤ) (ps : List Span) (ds : List ℕ) → IsLoadOfSome s t ps ds (pos 0)
load-none s t [] ds = refl
load-none s t (p ∷ ps) [] = refl
load-none s t (p ∷ ps) (d ∷ ds) = inr (load-none s t ps ds)

-- fixed subjects that have these values
pub record AreSettled (s : Trail) (xs : List ℤ) (is : List ℕ) : Type 0 where
  pub is-fixed : All (IsFixedNow s) is
  pub are-open : All (λ i. IsOpenTo s i (value_at xs i)) is

settled_value : (s : Trail) (xs : List ℤ) (i : ℕ) (is : List ℕ) → AreSettled s xs (i ∷ is) → (x : ℤ) → IsOpenTo s i x → x ≡ value_at xs i
settled_value s xs i is h x o = (All-head (IsFixedNow s) i is h.is-fixed) x (value_at xs i) o (All-head (λ j. IsOpenTo s j (value_at xs j)) i is h.are-open)

settled_rest : (s : Trail) (xs : List ℤ) (i : ℕ) (is : List ℕ) → AreSettled s xs (i ∷ is) → AreSettled s xs is
settled_rest s xs i is h = record {
  is-fixed = All-tail (IsFixedNow s) i is h.is-fixed;
  are-open = All-tail (λ j. IsOpenTo s j (value_at xs j)) i is h.are-open;
}

settled_left : (s : Trail) (xs : List ℤ) (is js : List ℕ) → AreSettled s xs (is ++ js) → AreSettled s xs is
settled_left s xs is js h = record {
  is-fixed = All-append_left (IsFixedNow s) is js h.is-fixed;
  are-open = All-append_left (λ j. IsOpenTo s j (value_at xs j)) is js h.are-open;
}

settled_right : (s : Trail) (xs : List ℤ) (is js : List ℕ) → AreSettled s xs (is ++ js) → AreSettled s xs js
settled_right s xs is js h = record {
  is-fixed = All-append_right (IsFixedNow s) is js h.is-fixed;
  are-open = All-append_right (λ j. IsOpenTo s j (value_at xs j)) is js h.are-open;
}

split : (b c : Bool) → (b && c) ≡ true → (b ≡ true) × (c ≡ true)
split true c h = (refl, h)
split false c h = (h, absurd (bad h))
  where
    bad : false ≡ true → ⊥
    bad e = cc

settled_atoms : (s : Trail) (xs : List ℤ) (us : List Atom) → AreSettled s xs (atom_subjects us) → list_all (atom_holds xs) us ≡ true → All (IsTrueNow s) us
settled_atoms s xs [] h holds = All-nil (IsTrueNow s)
settled_atoms s xs (u ∷ us) h holds =
    let q = split (atom_holds xs u) (list_all (atom_holds xs) us) holds in
    All-cons (IsTrueNow s) u us
    (λ x o. ap (meets u.op u.value) (settled_value s xs u.subject (atom_subjects us) h x o) ∙ q.0)
    (settled_atoms s xs us (settled_rest s xs u.subject (atom_subjects us) h) q.1)

settled_end : (s : Trail) (xs : List ℤ) (t : ℤ) (start end : ℕ) (length : Option ℤ) (is : List ℕ) → AreSettled s xs (start ∷ end ∷ is) → t <ℤ span_end xs start end length → EndsAfter s t start end length
settled_end s xs t start end None is h l = λ x o. (let e = settled_value s xs end is (settled_rest s xs start (end ∷ is) h) x o in omega (arith, ints))
settled_end s xs t start end (Some far) is h l = λ x o. (let e = settled_value s xs start (end ∷ is) h x o in omega (arith, ints))

settled_cover : (s : Trail) (xs : List ℤ) (t : ℤ) (p : Span) → AreSettled s xs (subjects_of_span p) → is_running xs t p ≡ true → IsCovering s t p
settled_cover s xs t p h running =
    let r = runs_of xs t p running in
    let atoms = atom_subjects p.presence in
    record {
      present = settled_atoms s xs p.presence (settled_rest s xs p.end atoms (settled_rest s xs p.start (p.end ∷ atoms) h)) r.present;
      started = λ x o. (let e = settled_value s xs p.start (p.end ∷ atoms) h x o in let a = r.started in omega (arith, ints));
      running = settled_end s xs t p.start p.end p.length atoms h r.later;
    }

settled_least : (s : Trail) (xs : List ℤ) (d : ℕ) (ds : List ℕ) → AreSettled s xs (d ∷ ds) → IsLeastNow s d (value_at xs d)
settled_least s xs d ds h = record {
  reached = All-head (λ j. IsOpenTo s j (value_at xs j)) d ds h.are-open;
  below = λ x o. (let e = settled_value s xs d ds h x o in omega (arith, ints));
}

no_more : (x y z : ℤ) → x ≡ y +ℤ z → y ≡ pos 0 → x ≡ z
no_more x y z f g = omega (arith, ints)

load_one : (s : Trail) (xs : List ℤ) (t : ℤ) (p : Span) (d : ℕ) (ps : List Span) (ds : List ℕ) → AreSettled s xs (span_subjects (p ∷ ps)) → AreSettled s xs (d ∷ ds) → IsLoadOfSome s t ps ds (demands_at xs t ps ds)
    → (v : Bool) → is_running xs t p ≡ v → IsLoadOfSome s t (p ∷ ps) (d ∷ ds) (demands_at xs t (p ∷ ps) (d ∷ ds))
load_one s xs t p d ps ds a b rest true e = inl (
  settled_cover s xs t p (settled_left s xs (subjects_of_span p) (span_subjects ps) a) e,
  value_at xs d,
  demands_at xs t ps ds,
  settled_least s xs d ds b,
  rest,
  demands-cons xs t p d ps ds ∙ ap (λ x. x +ℤ demands_at xs t ps ds) (demand-runs xs t p d e),
)
load_one s xs t p d ps ds a b rest false e = inr (subst (λ (x : ℤ). IsLoadOfSome s t ps ds x)
    (sym (no_more (demands_at xs t (p ∷ ps) (d ∷ ds)) (demand_of xs t p d) (demands_at xs t ps ds) (demands-cons xs t p d ps ds) (demand-rests xs t p d e))) rest)

-- where all is fixed, what is demanded is such a load
settled_load : (s : Trail) (xs : List ℤ) (t : ℤ) (ps : List Span) (ds : List ℕ) → AreSettled s xs (span_subjects ps) → AreSettled s xs ds → IsLoadOfSome s t ps ds (demands_at xs t ps ds)
settled_load s xs t [] ds a b = refl
settled_load s xs t (p ∷ ps) [] a b = refl
settled_load s xs t (p ∷ ps) (d ∷ ds) a b =
    load_one s xs t p d ps ds a b (settled_load s xs t ps ds (settled_right s xs (subjects_of_span p) (span_subjects ps) a) (settled_rest s xs d ds b)) (is_running xs t p) refl

pub decided : (s : Trail) (r : Resource) → HasCapacity s r.capacity r.spans r.demands → All (IsFixedNow s) (subjects_of_body (body_of r)) → (xs : List ℤ) → AreOpen s xs (subjects_of_body (body_of r)) → HoldsBody (body_of r) xs
decided s r h is-fixed xs are-open =
    let all : AreSettled s xs (r.capacity ∷ (span_subjects r.spans ++ r.demands)) = record { is-fixed = is-fixed; are-open = are-open } in
    let rest = settled_rest s xs r.capacity (span_subjects r.spans ++ r.demands) all in
    let most : (x : ℤ) → IsOpenTo s r.capacity x → x ≤ℤ value_at xs r.capacity = λ x o. (let e = settled_value s xs r.capacity (span_subjects r.spans ++ r.demands) all x o in omega (arith, ints)) in
    record {
      some_room = h.enough (pos 0) (pos 0) (value_at xs r.capacity) (load-none s (pos 0) r.spans r.demands) most;
      enough = λ t. h.enough t (demands_at xs t r.spans r.demands) (value_at xs r.capacity)
          (settled_load s xs t r.spans r.demands (settled_left s xs (span_subjects r.spans) r.demands rest) (settled_right s xs (span_subjects r.spans) r.demands rest)) most;
    }

pub at_rest : (s : Trail) (r : Resource) → HasCapacity s r.capacity r.spans r.demands → IsAtRest (body_of r) s
at_rest s r h = record { decided = decided s r h; strong = h }

-- where demands have no value below 0, none is negative at values that the store leaves
some_of : (s : Trail) (ds : List ℕ) → All (λ i. i < length s.first) ds → All (IsNeverNegative s.first) ds → (xs : List ℤ) → IsAdmitted s.first s.entries xs → AreSome xs ds
some_of s ds inside fit xs admitted = λ k d l.
    let i = get_or ds k d in
    fit k d l (value_at xs i) (admits-within s.first s.entries i (value_at xs i) (admitted i (inside k d l)))

-- parts that leave no room
pub impossible : (s : Trail) (r : Resource) (parts : List Part) (most : ℕ) (t : ℤ) → IsResourceOf s.first r → IsProfile s r.spans r.demands parts → IsOverCapacity parts most t → ((x : ℤ) → IsOpenTo s r.capacity x → x ≤ℤ pos most)
    → All (IsNeverNegative s.first) r.demands → IsImpossible (body_of r) s
impossible s r parts most t inside profile over greatest fit = record {
  at = λ xs admitted holds.
      let a = profile.sound t xs admitted (some_of s r.demands inside.demands fit xs admitted) in
      let b = over.over in
      let c = greatest (value_at xs r.capacity) (admitted r.capacity inside.capacity) in
      let d = holds.enough t in
      absurd (omega (arith, ints));
}

-- a capacity below 0
pub impossible-none : (s : Trail) (r : Resource) (most : ℤ) → r.capacity < length s.first → ((x : ℤ) → IsOpenTo s r.capacity x → x ≤ℤ most) → most <ℤ pos 0 → IsImpossible (body_of r) s
impossible-none s r most inside up low = record { at = λ xs admitted holds. (let a = up (value_at xs r.capacity) (admitted r.capacity inside) in let b = holds.some_room in absurd (omega (arith, ints))) }

-- the same, by what the code reads
pub impossible-of : (s : Trail) (r : Resource) (ps : List Span) (ds : List ℕ) (parts room : List Part) (n : ℕ) (most t : ℤ) (found : Option ℤ) → IsResourceOf s.first r → ps ≡ r.spans → ds ≡ r.demands → parts ≡ room → IsProfile s ps ds room
    → found ≡ Some t → MatchOption found (FitsCapacity parts n) (λ u. IsOverCapacity parts n u) → pos n ≡ most → ((x : ℤ) → IsOpenTo s r.capacity x → x ≤ℤ most) → All (IsNeverNegative s.first) r.demands → IsImpossible (body_of r) s
impossible-of s r ps ds parts room n most t None inside a b d profile is over low up fit = cc
impossible-of s r ps ds parts room n most t (Some u) inside a b d profile is over low up fit =
    let q : IsProfile s r.spans r.demands room = subst (λ (es : List ℕ). IsProfile s r.spans es room) b (subst (λ (qs : List Span). IsProfile s qs ds room) a profile) in
    impossible s r room n u inside q (subst (λ (rs : List Part). IsOverCapacity rs n u) d over) (λ x o. (let e = up x o in omega (arith, ints))) fit

-- where no time is over the capacity, by what the code reads
pub capacity-of : (s : Trail) (r : Resource) (ps : List Span) (ds : List ℕ) (parts room : List Part) (n : ℕ) (most : ℤ) (found : Option ℤ) → ps ≡ r.spans → ds ≡ r.demands → parts ≡ room → IsProfile s ps ds room
    → ((t : ℤ) → found ≡ Some t → ⊥) → MatchOption found (FitsCapacity parts n) (λ u. IsOverCapacity parts n u) → pos n ≡ most → IsOpenTo s r.capacity most → HasCapacity s r.capacity r.spans r.demands
capacity-of s r ps ds parts room n most (Some u) a b d profile none fits low reached = absurd (none u refl)
capacity-of s r ps ds parts room n most None a b d profile none fits low reached = record {
  enough = λ time load top loads up.
      (let q : IsProfile s r.spans r.demands room = subst (λ (es : List ℕ). IsProfile s r.spans es room) b (subst (λ (qs : List Span). IsProfile s qs ds room) a profile) in
      let w = q.whole time load loads in
      let f : FitsCapacity room n = subst (λ (rs : List Part). FitsCapacity rs n) d fits in
      let h = f.room time in
      let u = up most reached in
      omega (arith, ints));
}
