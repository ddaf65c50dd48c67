-- What a long sum remembers, as one term after the other is read anew.
use Rattle.std.specs.Prelude.{unsigned_abs, max, ◌*◌, if◌then◌else◌, IsOk}
use Rattle.std.specs.List.{AllZip, All, Contains}
use Rattle.std.proofs.Common.{◌≡◌, ◌≢◌, ℕ, zero, suc, ◌+◌, ◌<◌, ◌≤◌, ◌^◌, ℤ, pos, ◌+ℤ◌, ◌-ℤ◌, Bool, true, false, min, ◌⊎◌, inl, inr, arith, ap, refl, sym, ◌∙◌, List, [], ◌∷◌, ◌++◌, length, take, get_or, set, length-set, length-append, subst, Result, Ok, Err}
use Rattle.std.proofs.lemmas.Int.{ints}
use Rattle.std.proofs.lemmas.List.{get_or_default, get_or_append_left, take_all}
use Rattle.std.proofs.Math.Seq.{get_or-append_seam}
use Rattle.std.proofs.lemmas.List.Elements.{All-push, Contains-push, Contains-append_left}
use Rattle.std.proofs.Math.Nat.{mul-le-mul_left}
use Rattle.cps_model.proofs.Sums.{unsigned_abs-add}
use Rattle.cps_instance.specs.declared.term.Term.{Term}
use Rattle.cps_instance.specs.Terms.{Domains, AreIntervals, domain_at, magnitude, terms_reach}
use Rattle.cps_instance.proofs.Intervals.{value_size}
use Rattle.cps_trail.specs.Trail.{Trail, Entry, admits, IsLastOn}
use Rattle.cps_trail.specs.Changes.{IsHull}
use Rattle.cps_trail.proofs.Walks.{skip}
use Rattle.cps_trail.proofs.Room.{among_first}
use Rattle.cps_trail.proofs.LastEnds.{admits_fewer}
use Rattle.cps_propagate.specs.Recalling.{Remembered, Memory, IsRecalled, IsOfFirst, Recalls, no_memory}
use Rattle.cps_propagate.proofs.Remembering.{Recalls-nothing, Recalls-inferred, Recalls-fewer}
use Rattle.cps_trail.specs.Adds.{Grounds, Infers}
use Rattle.cps_p_linear.specs.declared.ends.Ends.{Ends}
use Rattle.cps_p_linear.specs.declared.ends.Side.{Side}
use Rattle.cps_p_linear.specs.declared.ends.Side.TheVariants.{Low, High}
use Rattle.cps_p_linear.specs.Ends.{term_end, sum_end, reach_of, IsNoWider, IsTightEnds, AreMeasurable}
use Rattle.cps_p_linear.specs.declared.gauge.Gauge.{Gauge}
use Rattle.cps_p_linear.specs.Chains.{IsIndexed, IsOnChain, NoneBetween}
use Rattle.cps_p_linear.specs.Gauging.{remembered, read_of, memory_of, IsReadBy, IsDue, IsHeld, IsFresh, RecallsNow, Renews}
use Rattle.cps_p_linear.specs.Spreading.{IsSumNow}
use Rattle.cps_p_linear.proofs.Chaining.{set_here, set_other, same_or_not}
use Rattle.cps_p_linear.proofs.Reaches.{term_size, term_reach, hull_ends, zip_at, zip_length}

-- what was read of a term's subject
abbrev pub read_as : Term → Ends → ℕ → Remembered
read_as t e n = record { subject = t.subject; low = e.low; high = e.high; since = n }

pub length-remembered : (ts : List Term) (es : List Ends) (ns : List ℕ) → length es ≡ length ts → length ns ≡ length ts → length (remembered ts es ns) ≡ length ts
length-remembered [] es ns a b = refl
length-remembered (t ∷ ts) [] ns a b = absurd (omega arith)
length-remembered (t ∷ ts) (e ∷ es) [] a b = absurd (omega arith)
length-remembered (t ∷ ts) (e ∷ es) (n ∷ ns) a b = ap (λ (k : ℕ). suc k) (length-remembered ts es ns (omega arith) (omega arith))

pub remembered_at : (ts : List Term) (es : List Ends) (ns : List ℕ) (j : ℕ) (t : Term) (e : Ends) (n : ℕ) (d : Remembered) → length es ≡ length ts → length ns ≡ length ts → j < length ts
    → get_or (remembered ts es ns) j d ≡ read_as (get_or ts j t) (get_or es j e) (get_or ns j n)
remembered_at [] es ns j t e n d a b l = absurd (omega arith)
remembered_at (u ∷ ts) [] ns j t e n d a b l = absurd (omega arith)
remembered_at (u ∷ ts) (f ∷ es) [] j t e n d a b l = absurd (omega arith)
remembered_at (u ∷ ts) (f ∷ es) (m ∷ ns) zero t e n d a b l = refl
remembered_at (u ∷ ts) (f ∷ es) (m ∷ ns) (suc j) t e n d a b l = remembered_at ts es ns j t e n d (omega arith) (omega arith) (omega arith)

pub remembered_set : (ts : List Term) (es : List Ends) (ns : List ℕ) (p : ℕ) (t : Term) (e : Ends) (n : ℕ) → length es ≡ length ts → length ns ≡ length ts → p < length ts
    → remembered ts (set es p e) (set ns p n) ≡ set (remembered ts es ns) p (read_as (get_or ts p t) e n)
remembered_set [] es ns p t e n a b l = absurd (omega arith)
remembered_set (u ∷ ts) [] ns p t e n a b l = absurd (omega arith)
remembered_set (u ∷ ts) (f ∷ es) [] p t e n a b l = absurd (omega arith)
remembered_set (u ∷ ts) (f ∷ es) (m ∷ ns) zero t e n a b l = refl
remembered_set (u ∷ ts) (f ∷ es) (m ∷ ns) (suc p) t e n a b l = ap (λ (rs : List Remembered). read_as u f m ∷ rs) (remembered_set ts es ns p t e n (omega arith) (omega arith) (omega arith))

-- the sum with one term's end replaced
pub sum_end-set : (side : Side) (ts : List Term) (es : List Ends) (p : ℕ) (t : Term) (d e : Ends) → length es ≡ length ts → p < length ts
    → sum_end side ts (set es p e) ≡ (sum_end side ts es -ℤ term_end side (get_or ts p t) (get_or es p d)) +ℤ term_end side (get_or ts p t) e
sum_end-set side [] es p t d e a l = absurd (omega arith)
sum_end-set side (u ∷ ts) [] p t d e a l = absurd (omega arith)
sum_end-set side (u ∷ ts) (f ∷ es) zero t d e a l = omega (arith, ints)
sum_end-set side (u ∷ ts) (f ∷ es) (suc p) t d e a l = let rest = sum_end-set side ts es p t d e (omega arith) (omega arith) in omega (arith, ints)

-- the widths of terms that are not listed as wide
pub widths-set : (old new : ℕ) (ts : List Term) (es : List Ends) (flags : List Bool) (p : ℕ) (d e : Ends) → old ≤ new → p < length es → ((j : ℕ) (t : Term) (f : Ends) → j < length ts → get_or flags j true ≡ false → IsNoWider old (get_or ts j t) (get_or es j f))
    → ((t : Term) → get_or flags p true ≡ false → IsNoWider new (get_or ts p t) e) → (j : ℕ) (t : Term) (f : Ends) → j < length ts → get_or flags j true ≡ false → IsNoWider new (get_or ts j t) (get_or (set es p e) j f)
widths-set old new ts es flags p d e m l h own j t f b flag = elim (same_or_not j p) [
  | inl at ↦ (let x = ap (λ (i : ℕ). get_or (set es p e) i f) at ∙ set_here es p e f l in
      subst (λ (y : Ends). IsNoWider new (get_or ts j t) y) (sym x) (subst (λ (i : ℕ). IsNoWider new (get_or ts i t) e) (sym at) (own t (ap (λ (i : ℕ). get_or flags i true) (sym at) ∙ flag))))
  | inr o ↦ (let z = h j t f b flag in
      subst (λ (y : Ends). IsNoWider new (get_or ts j t) y) (sym (set_other es p j e f o)) (omega (arith, ints)))
]

-- a term goes no further than its subject's first domain lets it
abbrev pub IsReached : Domains → Term → Ends → Type 0
IsReached first t e = reach_of t e ≤ unsigned_abs t.coeff * magnitude (domain_at first t.subject)

pub sum_size : (side : Side) (first : Domains) (ts : List Term) (es : List Ends) → AllZip (IsReached first) ts es → unsigned_abs (sum_end side ts es) ≤ terms_reach first ts
sum_size side first [] [] h = omega arith
sum_size side first [] (e ∷ es) h = absurd h
sum_size side first (t ∷ ts) [] h = absurd h
sum_size side first (t ∷ ts) (e ∷ es) h =
    let rest = sum_size side first ts es h.1 in
    let own = term_size side t e in
    let near = h.0 in
    let both = unsigned_abs-add (term_end side t e) (sum_end side ts es) in
    omega arith

pub others_size : (side : Side) (first : Domains) (ts : List Term) (es : List Ends) (p : ℕ) (t : Term) (d : Ends) → AllZip (IsReached first) ts es → p < length ts
    → unsigned_abs (sum_end side ts es -ℤ term_end side (get_or ts p t) (get_or es p d)) + unsigned_abs (get_or ts p t).coeff * magnitude (domain_at first (get_or ts p t).subject) ≤ terms_reach first ts
others_size side first [] es p t d h l = absurd (omega arith)
others_size side first (u ∷ ts) [] p t d h l = absurd h
others_size side first (u ∷ ts) (f ∷ es) zero t d h l =
    let rest = sum_size side first ts es h.1 in
    let same : (term_end side u f +ℤ sum_end side ts es) -ℤ term_end side u f ≡ sum_end side ts es = omega (arith, ints) in
    let size = ap (λ (z : ℤ). unsigned_abs z) same in
    omega arith
others_size side first (u ∷ ts) (f ∷ es) (suc p) t d h l =
    let rest = others_size side first ts es p t d h.1 (omega arith) in
    let own = term_size side u f in
    let near = h.0 in
    let left = sum_end side ts es -ℤ term_end side (get_or ts p t) (get_or es p d) in
    let both = unsigned_abs-add (term_end side u f) left in
    let same : (term_end side u f +ℤ sum_end side ts es) -ℤ term_end side (get_or ts p t) (get_or es p d) ≡ term_end side u f +ℤ left = omega (arith, ints) in
    let size = ap (λ (z : ℤ). unsigned_abs z) same in
    omega arith

-- two lists whose items go together by place
pub zip_from : {A B : Type 0} (R : A → B → Type 0) (xs : List A) (ys : List B) → length ys ≡ length xs → ((j : ℕ) (a : A) (b : B) → j < length xs → R (get_or xs j a) (get_or ys j b)) → AllZip R xs ys
zip_from R [] [] e h = tt
zip_from R [] (y ∷ ys) e h = absurd (omega arith)
zip_from R (x ∷ xs) [] e h = absurd (omega arith)
zip_from R (x ∷ xs) (y ∷ ys) e h = (h 0 x y (omega arith), zip_from R xs ys (omega arith) (λ j a b l. h (suc j) a b (omega arith)))

both_at_most : (a b k : ℕ) → a ≤ k → b ≤ k → max a b ≤ k
both_at_most a b k p q = omega arith

reached : (first : Domains) (t : Term) (e : Ends) (n : ℕ) → AreIntervals (domain_at first t.subject) → IsOfFirst first (read_as t e n) → IsReached first t e
reached first t e n sound h =
    let low = value_size (domain_at first t.subject) e.low sound (among_first first [] t.subject e.low h.low) in
    let high = value_size (domain_at first t.subject) e.high sound (among_first first [] t.subject e.high h.high) in
    mul-le-mul_left (unsigned_abs t.coeff) (both_at_most (unsigned_abs e.low) (unsigned_abs e.high) (magnitude (domain_at first t.subject)) low high)

pub all_reached : (first : Domains) (ts : List Term) (es : List Ends) (ns : List ℕ) → AreMeasurable first ts → length es ≡ length ts → length ns ≡ length ts → All (IsOfFirst first) (remembered ts es ns) → AllZip (IsReached first) ts es
all_reached first ts es ns m a b h = zip_from (IsReached first) ts es a (λ j t e l.
    reached first (get_or ts j t) (get_or es j e) (get_or ns j 0) (m.sound j t l)
    (subst (IsOfFirst first) (remembered_at ts es ns j t e 0 (read_as t e 0) a b l) (h j (read_as t e 0) (omega (arith, l, length-remembered ts es ns a b)))))

-- what was read is right about fewer entries, if it was read by then
pub recalled_fewer : (s : Trail) (n k : ℕ) (r : Remembered) → k ≤ n → n ≤ length s.entries → r.since ≤ k → IsRecalled s n r → IsRecalled s k r
recalled_fewer s n k r l within since h =
    let same : (x : ℤ) → admits s.first (take n s.entries) r.subject x ≡ admits s.first (take k s.entries) r.subject x = λ x. skip s.first s.entries r.subject x k n l within (λ j d low high. h.after j d (omega (arith, since, low)) high) in
    record {
      hull = record { low = sym (same r.low) ∙ h.hull.low; high = sym (same r.high) ∙ h.hull.high; least = λ x o. h.hull.least x (same x ∙ o); greatest = λ x o. h.hull.greatest x (same x ∙ o) };
      after = λ j d low high. h.after j d low (omega (arith, high, l));
    }

-- and about one more entry, if that is about another subject
pub read_more : (s : Trail) (k : ℕ) (r : Remembered) → k < length s.entries → ((d : Entry) → (get_or s.entries k d).atom.subject ≢ r.subject) → IsReadBy s k r → IsReadBy s (k + 1) r
read_more s k r l other h =
    let same : (x : ℤ) → admits s.first (take (k + 1) s.entries) r.subject x ≡ admits s.first (take k s.entries) r.subject x = λ x. skip s.first s.entries r.subject x k (k + 1) (omega arith) (omega (arith, l)) (λ j d low high. at j d (omega (arith, low, high))) in
    record {
      recalled = record {
        hull = record { low = same r.low ∙ h.recalled.hull.low; high = same r.high ∙ h.recalled.hull.high; least = λ x o. h.recalled.hull.least x (sym (same x) ∙ o); greatest = λ x o. h.recalled.hull.greatest x (sym (same x) ∙ o) };
        after = λ j d low high. elim (before_or_at j k high) [ inl b ↦ h.recalled.after j d low b | inr e ↦ at j d e ];
      };
      since = omega (arith, h.since);
    }
  where
    at : (j : ℕ) (d : Entry) → j ≡ k → (get_or s.entries j d).atom.subject ≢ r.subject
    at j d e = subst (λ (i : ℕ). (get_or s.entries i d).atom.subject ≢ r.subject) (sym e) (other d)

    before_or_at : (j k : ℕ) → j < k + 1 → (j < k) ⊎ (j ≡ k)
    before_or_at j k h = grind arith

pub of_first : (s : Trail) (k : ℕ) (r : Remembered) → IsRecalled s k r → IsOfFirst s.first r
of_first s k r h = record {
  low = admits_fewer s.first s.entries r.subject r.low 0 k (omega arith) h.hull.low;
  high = admits_fewer s.first s.entries r.subject r.high 0 k (omega arith) h.hull.high;
}

-- a term that was just read
pub just_read : (s : Trail) (t : Term) (e : Ends) (n : ℕ) → IsTightEnds s t e → IsLastOn s.entries t.subject n → IsReadBy s (length s.entries) (read_as t e n)
just_read s t e n tight last =
    let whole : take (length s.entries) s.entries ≡ s.entries = take_all (length s.entries) s.entries (omega arith) in
    record {
      recalled = record {
        hull = subst (λ (es : List Entry). IsHull (admits s.first es t.subject) (e.low, e.high)) (sym whole) (record { low = tight.low; high = tight.high; least = tight.bounded.least; greatest = tight.bounded.greatest });
        after = λ j d low high. last.after j d low high;
      };
      since = last.within;
    }

-- the ends of all terms are right now
pub fresh_ends : (s : Trail) (ts : List Term) (es : List Ends) (ns : List ℕ) → AreMeasurable s.first ts → length es ≡ length ts → length ns ≡ length ts → All (IsReadBy s (length s.entries)) (remembered ts es ns) → AllZip (IsTightEnds s) ts es
fresh_ends s ts es ns m a b h =
    let whole : take (length s.entries) s.entries ≡ s.entries = take_all (length s.entries) s.entries (omega arith) in
    zip_from (IsTightEnds s) ts es a (λ j t e l.
    let now = subst (IsReadBy s (length s.entries)) (remembered_at ts es ns j t e 0 (read_as t e 0) a b l) (h j (read_as t e 0) (omega (arith, l, length-remembered ts es ns a b))) in
    hull_ends s (get_or ts j t) (get_or es j e).low (get_or es j e).high (m.sound j t l)
    (subst (λ (fs : List Entry). IsHull (admits s.first fs (get_or ts j t).subject) ((get_or es j e).low, (get_or es j e).high)) whole now.recalled.hull))

-- what is right now is remembered right
pub fresh_recalls : (s : Trail) (rs : List Remembered) (n k : ℕ) → k ≤ length s.entries → All (IsReadBy s (length s.entries)) rs → All (λ r. r.since ≤ k → IsRecalled s k r) rs
fresh_recalls s rs n k l h j d b = λ since. recalled_fewer s (length s.entries) k (get_or rs j d) l (omega arith) since (h j d b).recalled

pub old_reach : (first : Domains) (ts : List Term) (es : List Ends) (p : ℕ) (t : Term) (d : Ends) → AreMeasurable first ts → AllZip (IsReached first) ts es → p < length ts → reach_of (get_or ts p t) (get_or es p d) < 2 ^ 63
old_reach first ts es p t d m h l =
    let near = zip_at (IsReached first) ts es p t d h l in
    let all = others_size Low first ts es p t d h l in
    let small = m.small in
    omega arith

pub replaced_small : (side : Side) (first : Domains) (ts : List Term) (es : List Ends) (p : ℕ) (t : Term) (d e : Ends) (x y z : ℤ) → AreMeasurable first ts → AllZip (IsReached first) ts es → p < length ts → x ≡ sum_end side ts es
    → y ≡ term_end side (get_or ts p t) (get_or es p d) → z ≡ term_end side (get_or ts p t) e → IsReached first (get_or ts p t) e → unsigned_abs (x -ℤ y) + unsigned_abs z < 2 ^ 63
replaced_small side first ts es p t d e x y z m h l is old new near =
    let all = others_size side first ts es p t d h l in
    let own = term_size side (get_or ts p t) e in
    let small = m.small in
    let same : x -ℤ y ≡ sum_end side ts es -ℤ term_end side (get_or ts p t) (get_or es p d) = cc (is, old) in
    let size = ap (λ (v : ℤ). unsigned_abs v) same in
    let size' = ap (λ (v : ℤ). unsigned_abs v) new in
    omega arith

all_set : (P : Remembered → Type 0) (rs : List Remembered) (p : ℕ) (r : Remembered) → p < length rs → All P rs → P r → All P (set rs p r)
all_set P rs p r l h own j d b = elim (same_or_not j p) [
  | inl e ↦ subst P (sym (ap (λ (i : ℕ). get_or (set rs p r) i d) e ∙ set_here rs p r d l)) own
  | inr o ↦ subst P (sym (set_other rs p j r d o)) (h j d (omega (arith, b, length-set rs p r)))
]

-- one term was read anew
module _ (s : Trail) (ts : List Term) (g : Gauge) (p : ℕ) (t : Term) (d e : Ends) (n : ℕ) (m : AreMeasurable s.first ts) (h : IsHeld s ts g) (l : p < length ts) (tight : IsTightEnds s (get_or ts p t) e) (last : IsLastOn s.entries (get_or ts p t).subject n) where
  abbrev now : Remembered
  now = read_as (get_or ts p t) e n

  pub set_read : remembered ts (set g.values.items p e) (set g.since.items p n) ≡ set (read_of ts g) p now
  set_read = remembered_set ts g.values.items g.since.items p t e n h.gauge.values h.gauge.since l

  pub now_right : IsReadBy s (length s.entries) now
  now_right = just_read s (get_or ts p t) e n tight last

  pub first_set : All (IsOfFirst s.first) (remembered ts (set g.values.items p e) (set g.since.items p n))
  first_set = subst (λ (rs : List Remembered). All (IsOfFirst s.first) rs) (sym set_read)
      (all_set (IsOfFirst s.first) (read_of ts g) p now (omega (arith, l, length-remembered ts g.values.items g.since.items h.gauge.values h.gauge.since)) h.first (of_first s (length s.entries) now now_right.recalled))

-- the terms so far of which an entry is gone were read anew
pub record GoneSoFar (s : Trail) (ts : List Term) (read : Bool) (count place : ℕ) (g : Gauge) : Type 0 where
  pub held : IsHeld s ts g
  pub is_read : g.is_read ≡ read
  pub due : (j : ℕ) (d : Remembered) → j < length (read_of ts g) → (j < place) ⊎ ((get_or (read_of ts g) j d).since ≤ count) → IsDue s count (get_or (read_of ts g) j d)

pub gone_begins : (s : Trail) (ts : List Term) (g : Gauge) (count : ℕ) → IsHeld s ts g → All (λ r. r.since ≤ count → IsRecalled s count r) (read_of ts g) → GoneSoFar s ts g.is_read count 0 g
gone_begins s ts g count h here = record {
  held = h;
  is_read = refl;
  due = λ j d l either. elim either [ inl b ↦ absurd (omega (arith, b)) | inr since ↦ inr (record { recalled = here j d l since; since = since }) ];
}

before_or_at : (j k : ℕ) → j < k + 1 → (j < k) ⊎ (j ≡ k)
before_or_at j k h = grind arith

pub gone_renewed : (s : Trail) (ts : List Term) (is_read : Bool) (count place : ℕ) (g g' : Gauge) → place < length ts → GoneSoFar s ts is_read count place g → Renews s ts g g' place → GoneSoFar s ts is_read count (place + 1) g'
gone_renewed s ts is_read count place g g' l so h = record {
  held = h.held;
  is_read = h.is_read ∙ so.is_read;
  due = λ j d b either. subst (λ (rs : List Remembered). IsDue s count (get_or rs j d)) (sym h.read) (elim (same_or_not j place) [
    | inl e ↦ inl (subst (IsReadBy s (length s.entries)) (sym (ap (λ (i : ℕ). get_or (set (read_of ts g) place h.now) i d) e ∙ set_here (read_of ts g) place h.now d sized)) h.right)
    | inr o ↦ subst (IsDue s count) (sym (set_other (read_of ts g) place j h.now d o)) (so.due j d (omega (arith, b, ap (λ (rs : List Remembered). length rs) h.read, length-set (read_of ts g) place h.now))
        (elim either [
          | inl c ↦ elim (before_or_at j place c) [ inl low ↦ inl low | inr e ↦ absurd (o e) ]
          | inr since ↦ inr (subst (λ (r : Remembered). r.since ≤ count) (ap (λ (rs : List Remembered). get_or rs j d) h.read ∙ set_other (read_of ts g) place j h.now d o) since)
        ]))
  ]);
}
  where
    sized : place < length (read_of ts g)
    sized = omega (arith, l, length-remembered ts g.values.items g.since.items so.held.gauge.values so.held.gauge.since)

pub gone_passed : (s : Trail) (ts : List Term) (is_read : Bool) (count place : ℕ) (g : Gauge) → place < length ts → GoneSoFar s ts is_read count place g → ((d : Remembered) → (get_or (read_of ts g) place d).since ≤ count) → GoneSoFar s ts is_read count (place + 1) g
gone_passed s ts is_read count place g l so since = record {
  held = so.held;
  is_read = so.is_read;
  due = λ j d b either. so.due j d b (elim either [
    | inl c ↦ elim (before_or_at j place c) [ inl low ↦ inl low | inr e ↦ inr (subst (λ (i : ℕ). (get_or (read_of ts g) i d).since ≤ count) (sym e) (since d)) ]
    | inr k ↦ inr k
  ]);
}

-- the terms of a chain so far that are about a subject were read anew
pub record OnSoFar (s : Trail) (ts : List Term) (g₀ : Gauge) (subject above : ℕ) (g : Gauge) : Type 0 where
  pub held : IsHeld s ts g
  pub is_read : g.is_read ≡ g₀.is_read
  pub chain : IsOnChain ts g.places subject above
  pub due : (k : ℕ) → All (IsDue s k) (read_of ts g₀) → All (IsDue s k) (read_of ts g)
  pub now : (j : ℕ) (d : Remembered) → above ≤ j → j < length ts → (get_or (read_of ts g) j d).subject ≡ subject → IsReadBy s (length s.entries) (get_or (read_of ts g) j d)

subject_at : (s : Trail) (ts : List Term) (g : Gauge) → IsHeld s ts g → (j : ℕ) (d : Remembered) (t : Term) → j < length ts → (get_or (read_of ts g) j d).subject ≡ (get_or ts j t).subject
subject_at s ts g h j d t l = ap (λ (r : Remembered). r.subject) (remembered_at ts g.values.items g.since.items j t (record { low = pos 0; high = pos 0 }) 0 d h.gauge.values h.gauge.since l)

abbrev pub no_term : Term
no_term = record { coeff = pos 0; subject = 0 }

pub on_begins : (s : Trail) (ts : List Term) (g : Gauge) (subject above : ℕ) → IsHeld s ts g → IsOnChain ts g.places subject above → NoneBetween ts subject above (length ts) → OnSoFar s ts g subject above g
on_begins s ts g subject above h chain none = record {
  held = h;
  is_read = refl;
  chain = chain;
  due = λ k a. a;
  now = λ j d low high e. absurd (none j no_term low high (sym (subject_at s ts g h j d no_term high) ∙ e));
}

pub on_passed : (s : Trail) (ts : List Term) (g₀ g : Gauge) (subject place above : ℕ) → OnSoFar s ts g₀ subject (place + 1) g → ((t : Term) → (get_or ts place t).subject ≡ subject → ⊥) → IsOnChain ts g.places subject above → NoneBetween ts subject above place → OnSoFar s ts g₀ subject above g
on_passed s ts g₀ g subject place above so other chain none = record {
  held = so.held;
  is_read = so.is_read;
  chain = chain;
  due = so.due;
  now = λ j d low high e. elim (side j) [
    | inl b ↦ absurd (none j no_term low b (sym (subject_at s ts g so.held j d no_term high) ∙ e))
    | inr c ↦ elim c [
      | inl at ↦ absurd (other no_term (ap (λ (i : ℕ). (get_or ts i no_term).subject) (sym at) ∙ sym (subject_at s ts g so.held j d no_term high) ∙ e))
      | inr up ↦ so.now j d up high e
    ]
  ];
}
  where
    side : (j : ℕ) → (j < place) ⊎ ((j ≡ place) ⊎ (place + 1 ≤ j))
    side j = grind arith

pub on_renewed : (s : Trail) (ts : List Term) (g₀ g g' : Gauge) (subject place above : ℕ) → place < length ts → OnSoFar s ts g₀ subject (place + 1) g → Renews s ts g g' place → IsOnChain ts g'.places subject above → NoneBetween ts subject above place → OnSoFar s ts g₀ subject above g'
on_renewed s ts g₀ g g' subject place above l so h chain none = record {
  held = h.held;
  is_read = h.is_read ∙ so.is_read;
  chain = chain;
  due = λ k a. subst (λ (rs : List Remembered). All (IsDue s k) rs) (sym h.read) (all_set (IsDue s k) (read_of ts g) place h.now sized (so.due k a) (inl h.right));
  now = λ j d low high e. elim (side j) [
    | inl b ↦ absurd (none j no_term low b (sym (subject_at s ts g' h.held j d no_term high) ∙ e))
    | inr c ↦ subst (λ (rs : List Remembered). IsReadBy s (length s.entries) (get_or rs j d)) (sym h.read) (elim c [
      | inl at ↦ subst (IsReadBy s (length s.entries)) (sym (ap (λ (i : ℕ). get_or (set (read_of ts g) place h.now) i d) at ∙ set_here (read_of ts g) place h.now d sized)) h.right
      | inr up ↦ (let o : j ≡ place → ⊥ = λ same. omega (arith, same, up) in
          subst (IsReadBy s (length s.entries)) (sym (set_other (read_of ts g) place j h.now d o))
          (so.now j d up high (ap (λ (r : Remembered). r.subject) (sym (set_other (read_of ts g) place j h.now d o)) ∙ ap (λ (rs : List Remembered). (get_or rs j d).subject) (sym h.read) ∙ e)))
    ])
  ];
}
  where
    side : (j : ℕ) → (j < place) ⊎ ((j ≡ place) ⊎ (place + 1 ≤ j))
    side j = grind arith

    sized : place < length (read_of ts g)
    sized = omega (arith, l, length-remembered ts g.values.items g.since.items so.held.gauge.values so.held.gauge.since)

-- one more entry was gone past
pub due_more : (s : Trail) (ts : List Term) (g : Gauge) (k : ℕ) (subject : ℕ) → k < length s.entries → ((d : Entry) → (get_or s.entries k d).atom.subject ≡ subject) → All (IsDue s k) (read_of ts g)
    → All (λ r. r.subject ≡ subject → IsReadBy s (length s.entries) r) (read_of ts g) → All (IsDue s (k + 1)) (read_of ts g)
due_more s ts g k subject l is h now j d b = elim (h j d b) [
  | inl right ↦ inl right
  | inr old ↦ elim (same_or_not (get_or (read_of ts g) j d).subject subject) [
    | inl same ↦ inl (now j d b same)
    | inr other ↦ inr (read_more s k (get_or (read_of ts g) j d) l (λ x e. other (sym e ∙ is x)) old)
  ]
]

pub since_at : (s : Trail) (ts : List Term) (g : Gauge) → IsHeld s ts g → (place count since : ℕ) → place < length ts → since ≡ get_or g.since.items place since → since ≤ count → (d : Remembered) → (get_or (read_of ts g) place d).since ≤ count
since_at s ts g h place count since l is low d =
    let at = ap (λ (r : Remembered). r.since) (remembered_at ts g.values.items g.since.items place no_term (record { low = pos 0; high = pos 0 }) since d h.gauge.values h.gauge.since l) in
    omega (arith, at, is, low)

pub all_gone : (s : Trail) (ts : List Term) (is_read : Bool) (count place : ℕ) (g : Gauge) → length ts ≤ place → GoneSoFar s ts is_read count place g → All (IsDue s count) (read_of ts g)
all_gone s ts is_read count place g past so j d l = so.due j d l (inl (omega (arith, l, past, length-remembered ts g.values.items g.since.items so.held.gauge.values so.held.gauge.since)))

pub all_on : (s : Trail) (ts : List Term) (g₀ g : Gauge) (subject above : ℕ) → above ≤ 0 → OnSoFar s ts g₀ subject above g → All (λ r. r.subject ≡ subject → IsReadBy s (length s.entries) r) (read_of ts g)
all_on s ts g₀ g subject above low so j d l = λ e. so.now j d (omega (arith, low)) (omega (arith, l, length-remembered ts g.values.items g.since.items so.held.gauge.values so.held.gauge.since)) e

-- what was read by fewer entries
pub recalls_back : (s : Trail) (b : Bool) (rs : List Remembered) (old new count n : ℕ) → new ≡ min old count → Recalls (if b then record { ends = rs; count = old } else no_memory) s count → Recalls (if b then record { ends = rs; count = new } else no_memory) s n
recalls_back s true rs old new count n is h = record { first = h.first; here = λ k low high. h.here k (at_most k new old count is low).0 (at_most k new old count is low).1 }
  where
    at_most : (k m a b : ℕ) → m ≡ min a b → k ≤ m → (k ≤ a) × (k ≤ b)
    at_most k m a b e l = (grind (arith, e, l), grind (arith, e, l))
recalls_back s false rs old new count n is h = Recalls-nothing s n

-- one more of the numbers after how many entries the last one came
pub last_more : (es : List Entry) (ts : List Term) (ns : List ℕ) (place v : ℕ) (t : Term) → length ns ≡ place → place < length ts → IsLastOn es (get_or ts place t).subject v → ((j : ℕ) (d : Term) → j < place → IsLastOn es (get_or ts j d).subject (get_or ns j 0))
    → (j : ℕ) (d : Term) → j < place + 1 → IsLastOn es (get_or ts j d).subject (get_or (ns ++ v ∷ []) j 0)
last_more es ts ns place v t count l own h j d b = elim (before_or_at j place b) [
  | inl low ↦ subst (IsLastOn es (get_or ts j d).subject) (sym (get_or_append_left ns (v ∷ []) 0 j (omega (arith, low, count)))) (h j d low)
  | inr e ↦ (let value : get_or (ns ++ v ∷ []) j 0 ≡ v = ap (λ (i : ℕ). get_or (ns ++ v ∷ []) i 0) (e ∙ sym count) ∙ get_or-append_seam ns v [] 0 in
      let subject : (get_or ts place t).subject ≡ (get_or ts j d).subject = ap (λ (u : Term). u.subject) (get_or_default ts place t d l) ∙ ap (λ (i : ℕ). (get_or ts i d).subject) (sym e) in
      subst (IsLastOn es (get_or ts j d).subject) (sym value) (subst (λ (i : ℕ). IsLastOn es i v) subject own))
]

-- all was just read
pub all_read : (s : Trail) (ts : List Term) (es : List Ends) (ns : List ℕ) → AllZip (IsTightEnds s) ts es → length ns ≡ length ts → ((j : ℕ) (d : Term) → j < length ts → IsLastOn s.entries (get_or ts j d).subject (get_or ns j 0)) → All (IsReadBy s (length s.entries)) (remembered ts es ns)
all_read s ts es ns hulls count last j d l =
    let sized : length es ≡ length ts = sym (zip_length (IsTightEnds s) ts es hulls) in
    let b : j < length ts = omega (arith, l, length-remembered ts es ns sized count) in
    let e₀ : Ends = record { low = pos 0; high = pos 0 } in
    subst (IsReadBy s (length s.entries)) (sym (remembered_at ts es ns j no_term e₀ 0 d sized count b))
    (just_read s (get_or ts j no_term) (get_or es j e₀) (get_or ns j 0) (zip_at (IsTightEnds s) ts es j no_term e₀ hulls b) (last j no_term b))

pub width_fits : (t : Term) (e : Ends) → reach_of t e < 2 ^ 63 → IsNoWider 18446744073709551615 t e
width_fits t e h =
    let a = term_size High t e in
    let b = term_size Low t e in
    omega (arith, ints)

pub since_within : (s : Trail) (rs : List Remembered) (n m : ℕ) → n ≡ m → All (IsReadBy s n) rs → All (λ r. r.since ≤ m) rs
since_within s rs n m e h j d l = omega (arith, e, (h j d l).since)

-- all that was read, as a memory
pub fresh_now : (s : Trail) (ts : List Term) (g : Gauge) → IsFresh s ts g → RecallsNow (memory_of ts g) s
fresh_now s ts g h = of_flag g.is_read h.is_read
  where
    of_flag : (b : Bool) → b ≡ true → RecallsNow (if b then record { ends = read_of ts g; count = g.count } else no_memory) s
    of_flag true e = record {
      count = omega (arith, h.count);
      recalls = record {
        first = λ j d l. of_first s (length s.entries) (get_or (read_of ts g) j d) (h.now j d l).recalled;
        here = λ k low high. fresh_recalls s (read_of ts g) (length s.entries) k high h.now;
      };
    }
    of_flag false e = absurd (cc e)

pub fresh_sum : (s : Trail) (ts : List Term) (g : Gauge) → AreMeasurable s.first ts → IsFresh s ts g → IsSumNow s ts g.spread.sum
fresh_sum s ts g m h = record {
  values = g.values.items;
  hulls = fresh_ends s ts g.values.items g.since.items m h.whole.gauge.values h.whole.gauge.since h.now;
  ends = h.whole.gauge.ends;
}

pub fresh_reach : (s : Trail) (ts : List Term) (g : Gauge) (p : ℕ) (t : Term) (d : Ends) → AreMeasurable s.first ts → IsFresh s ts g → p < length ts → reach_of (get_or ts p t) (get_or g.values.items p d) < 2 ^ 63
fresh_reach s ts g p t d m h l =
    term_reach s ts p t (get_or g.values.items p d) m l (zip_at (IsTightEnds s) ts g.values.items p t d (fresh_ends s ts g.values.items g.since.items m h.whole.gauge.values h.whole.gauge.since h.now) l).bounded

-- what is remembered right of fewer entries
pub recalls_here : (s : Trail) (b : Bool) (rs : List Remembered) (count standing entries low from : ℕ) → (b ≡ false → ⊥) → Recalls (if b then record { ends = rs; count = count } else no_memory) s standing → low ≡ min standing count → from ≡ min low entries → All (λ r. r.since ≤ from → IsRecalled s from r) rs
recalls_here s true rs count standing entries low from some h e f = h.here from (grind (arith, e, f)) (grind (arith, e, f))
recalls_here s false rs count standing entries low from some h e f = absurd (some refl)

-- the wide ones of the terms so far are listed, and the others are within a width
pub record SortedSoFar (ts : List Term) (g₀ g : Gauge) (limit widest place : ℕ) : Type 0 where
  pub is_read : g.is_read ≡ false
  pub values : g.values ≡ g₀.values
  pub since : g.since ≡ g₀.since
  pub count : g.count ≡ g₀.count
  pub newest : g.newest ≡ g₀.newest
  pub sum : g.spread.sum ≡ g₀.spread.sum
  pub places : g.places ≡ g₀.places
  pub flags : length g.is_wide.items ≡ length ts
  pub wide : All (λ k. k < length ts) g.wide.items
  pub listed : (j : ℕ) → j < place → get_or g.is_wide.items j false ≡ true → Contains g.wide.items j
  pub widths : (j : ℕ) (t : Term) (e : Ends) → j < place → get_or g.is_wide.items j true ≡ false → IsNoWider widest (get_or ts j t) (get_or g.values.items j e)
  pub within : widest ≤ limit

-- a sum whose terms were sorted out
pub sorted_fresh : (s : Trail) (ts : List Term) (g₀ g g' : Gauge) (limit widest place : ℕ) → length ts ≤ place → IsFresh s ts g₀ → SortedSoFar ts g₀ g limit widest place → g' ≡ record g { is_read = true; spread = record { sum = g.spread.sum; widest = widest } } → IsFresh s ts g'
sorted_fresh s ts g₀ g g' limit widest place past h so is = subst (λ (x : Gauge). IsFresh s ts x) (sym is) (record {
  is_read = refl;
  count = so.count ∙ h.count;
  whole = record {
    gauge = record {
      values = ap (λ (v : _). length v.items) so.values ∙ h.whole.gauge.values;
      since = ap (λ (v : _). length v.items) so.since ∙ h.whole.gauge.since;
      ends = record { low = ap (λ (x : Ends). x.low) so.sum ∙ h.whole.gauge.ends.low ∙ ap (λ (v : _). sum_end Low ts v.items) (sym so.values); high = ap (λ (x : Ends). x.high) so.sum ∙ h.whole.gauge.ends.high ∙ ap (λ (v : _). sum_end High ts v.items) (sym so.values) };
      flags = so.flags;
      wide = so.wide;
      listed = λ j l. so.listed j (omega (arith, l, past));
      widths = λ j t e l. so.widths j t e (omega (arith, l, past));
      indexed = subst (IsIndexed ts) (sym so.places) h.whole.gauge.indexed;
    };
    newest = subst (λ (n : ℕ). All (λ r. r.since ≤ n) (read_of ts g)) (sym so.newest) (subst (λ (rs : List Remembered). All (λ r. r.since ≤ g₀.newest) rs) same h.whole.newest);
  };
  now = subst (λ (rs : List Remembered). All (IsReadBy s (length s.entries)) rs) same h.now;
})
  where
    same : read_of ts g₀ ≡ read_of ts g
    same = ap (λ (v : _). remembered ts v.items g₀.since.items) (sym so.values) ∙ ap (λ (v : _). remembered ts g.values.items v.items) (sym so.since)

pub ok_of : {A E : Type 0} (r : Result A E) (x : A) → r ≡ Ok x → IsOk r
ok_of (Ok y) x e = refl
ok_of (Err y) x e = absurd (cc e)

-- a memory of all entries is right where more came
pub recalls_grown : (C : Grounds) (m : Memory) (s t : Trail) → Infers C s t → RecallsNow m s → RecallsNow m t
recalls_grown C m s t i h =
    let longer : length s.entries ≤ length t.entries = omega (arith, ap (λ (es : List Entry). length es) i.entries, length-append s.entries i.added) in
    let there = Recalls-inferred C m s t (length s.entries) i (omega arith) h.recalls in
    record {
      count = omega (arith, longer, h.count);
      recalls = record { first = there.first; here = λ k low high. there.here k low (omega (arith, low, h.count)) };
    }

pub recalls_from : (m : Memory) (s : Trail) (n : ℕ) → n ≤ length s.entries → RecallsNow m s → Recalls m s n
recalls_from m s n l h = Recalls-fewer m s (length s.entries) n l h.recalls

-- one more term was sorted out: it is wide, or it is not
pub sorted_wide : (ts : List Term) (g₀ g g' : Gauge) (limit widest place : ℕ) → place < length ts → SortedSoFar ts g₀ g limit widest place → g'.is_read ≡ g.is_read → g'.values ≡ g.values → g'.since ≡ g.since → g'.count ≡ g.count → g'.newest ≡ g.newest → g'.spread ≡ g.spread → g'.places ≡ g.places
    → g'.is_wide.items ≡ set g.is_wide.items place true → g'.wide.items ≡ g.wide.items ++ place ∷ [] → SortedSoFar ts g₀ g' limit widest (place + 1)
sorted_wide ts g₀ g g' limit widest place l so a b c d e f p flags wide = record {
  is_read = a ∙ so.is_read;
  values = b ∙ so.values;
  since = c ∙ so.since;
  count = d ∙ so.count;
  newest = e ∙ so.newest;
  sum = ap (λ (x : _). x.sum) f ∙ so.sum;
  places = p ∙ so.places;
  flags = ap (λ (bs : List Bool). length bs) flags ∙ length-set g.is_wide.items place true ∙ so.flags;
  wide = subst (λ (ks : List ℕ). All (λ k. k < length ts) ks) (sym wide) (All-push (λ k. k < length ts) g.wide.items place so.wide l);
  listed = λ j b flag. subst (λ (ks : List ℕ). Contains ks j) (sym wide) (elim (same_or_not j place) [
    | inl same ↦ subst (λ (i : ℕ). Contains (g.wide.items ++ place ∷ []) i) (sym same) (Contains-push g.wide.items place)
    | inr o ↦ Contains-append_left g.wide.items (place ∷ []) j (so.listed j (earlier j b o) (sym (ap (λ (bs : List Bool). get_or bs j false) flags ∙ set_other g.is_wide.items place j true false o) ∙ flag))
  ]);
  widths = λ j t x b flag. elim (same_or_not j place) [
    | inl same ↦ absurd (let y : get_or g'.is_wide.items j true ≡ true = ap (λ (bs : List Bool). get_or bs j true) flags ∙ ap (λ (i : ℕ). get_or (set g.is_wide.items place true) i true) same ∙ set_here g.is_wide.items place true true (omega (arith, l, so.flags)) in cc (y, flag))
    | inr o ↦ subst (λ (v : _). IsNoWider widest (get_or ts j t) (get_or v.items j x)) (sym b') (so.widths j t x (earlier j b o) (sym (ap (λ (bs : List Bool). get_or bs j true) flags ∙ set_other g.is_wide.items place j true true o) ∙ flag))
  ];
  within = so.within;
}
  where
    b' : g'.values ≡ g.values
    b' = b

    earlier : (j : ℕ) → j < place + 1 → (j ≡ place → ⊥) → j < place
    earlier j b o = grind (arith, o)

pub sorted_narrow : (ts : List Term) (g₀ g g' : Gauge) (limit widest more place : ℕ) (t₀ : Term) (e₀ : Ends) → place < length ts → place < length g.values.items → SortedSoFar ts g₀ g limit widest place → g'.is_read ≡ g.is_read → g'.values ≡ g.values → g'.since ≡ g.since → g'.count ≡ g.count → g'.newest ≡ g.newest → g'.spread ≡ g.spread → g'.places ≡ g.places
    → g'.is_wide.items ≡ set g.is_wide.items place false → g'.wide ≡ g.wide → widest ≤ more → more ≤ limit → IsNoWider more (get_or ts place t₀) (get_or g.values.items place e₀) → SortedSoFar ts g₀ g' limit more (place + 1)
sorted_narrow ts g₀ g g' limit widest more place t₀ e₀ l v so a b c d e f p flags wide up within own = record {
  is_read = a ∙ so.is_read;
  values = b ∙ so.values;
  since = c ∙ so.since;
  count = d ∙ so.count;
  newest = e ∙ so.newest;
  sum = ap (λ (x : _). x.sum) f ∙ so.sum;
  places = p ∙ so.places;
  flags = ap (λ (bs : List Bool). length bs) flags ∙ length-set g.is_wide.items place false ∙ so.flags;
  wide = subst (λ (w : _). All (λ k. k < length ts) w.items) (sym wide) so.wide;
  listed = λ j b flag. subst (λ (w : _). Contains w.items j) (sym wide) (elim (same_or_not j place) [
    | inl same ↦ absurd (let y : get_or g'.is_wide.items j false ≡ false = ap (λ (bs : List Bool). get_or bs j false) flags ∙ ap (λ (i : ℕ). get_or (set g.is_wide.items place false) i false) same ∙ set_here g.is_wide.items place false false (omega (arith, l, so.flags)) in cc (y, flag))
    | inr o ↦ so.listed j (earlier j b o) (sym (ap (λ (bs : List Bool). get_or bs j false) flags ∙ set_other g.is_wide.items place j false false o) ∙ flag)
  ]);
  widths = λ j t x b flag. subst (λ (w : _). IsNoWider more (get_or ts j t) (get_or w.items j x)) (sym b') (elim (same_or_not j place) [
    | inl same ↦ subst (λ (i : ℕ). IsNoWider more (get_or ts i t) (get_or g.values.items i x)) (sym same)
        (subst (λ (u : Term). IsNoWider more u (get_or g.values.items place x)) (get_or_default ts place t₀ t l) (subst (λ (y : Ends). IsNoWider more (get_or ts place t₀) y) (get_or_default g.values.items place e₀ x v) own))
    | inr o ↦ (let z = so.widths j t x (earlier j b o) (sym (ap (λ (bs : List Bool). get_or bs j true) flags ∙ set_other g.is_wide.items place j false true o) ∙ flag) in omega (arith, ints, z, up))
  ]);
  within = within;
}
  where
    b' : g'.values ≡ g.values
    b' = b

    earlier : (j : ℕ) → j < place + 1 → (j ≡ place → ⊥) → j < place
    earlier j b o = grind (arith, o)
