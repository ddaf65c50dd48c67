-- Where the wide terms of a long sum are in their room, each term is.
use Rattle.std.specs.Prelude.{OnOk}
use Rattle.std.specs.List.{All, Contains}
use Rattle.std.proofs.Common.{◌≡◌, ℕ, ◌+◌, ◌<◌, ◌-ℤ◌, Bool, true, false, ◌⊎◌, inl, inr, arith, ap, refl, sym, ◌∙◌, List, length, get_or, subst, Result, Ok, Err}
use Rattle.std.proofs.lemmas.Int.{ints}
use Rattle.std.proofs.lemmas.List.{get_or_default}
use Rattle.std.proofs.lemmas.List.Elements.{All-contains}
use Rattle.cps_instance.specs.declared.term.Term.{Term}
use Rattle.cps_trail.specs.Trail.{Trail}
use Rattle.cps_trail.specs.Adds.{Grounds, Infers}
use Rattle.cps_propagate.specs.Strength.{IsStrongSum}
use Rattle.cps_propagate.specs.Recalling.{no_memory}
use Rattle.cps_propagate.proofs.Remembering.{Recalls-nothing}
use Rattle.cps_p_linear.specs.declared.admitted.Admitted.{Admitted}
use Rattle.cps_p_linear.specs.declared.ends.Ends.{Ends}
use Rattle.cps_p_linear.specs.declared.ends.Side.TheVariants.{Low, High}
use Rattle.cps_p_linear.specs.declared.gauge.Gauge.{Gauge}
use Rattle.cps_p_linear.specs.Ends.{term_end, IsNoWider, AreTermsBounded, AreSumEnds}
use Rattle.cps_p_linear.specs.Admitting.{passes, IsGoal}
use Rattle.cps_p_linear.specs.Rooms.{IsInRoomAt, AreInRoom, FitsWidest}
use Rattle.cps_p_linear.specs.Passing.{IsSumInRange, IsMeasured}
use Rattle.cps_p_linear.specs.Gauging.{IsFresh, RecallsNow}
use Rattle.cps_p_linear.proofs.Explained.{cut_kept, room_of_cuts, room_later, measured_of, measured_later, strong_pass}
use Rattle.cps_p_linear.proofs.Gauges.{fresh_ends}

-- the first so many listed terms are in their room
abbrev pub ListedInRoom : Trail → Ends → Ends → List Term → List Ends → List ℕ → ℕ → Type 0
ListedInRoom s sum goal ts es places n = (j d : ℕ) → j < n → IsInRoomAt s sum goal ts es (get_or places j d)

before_or_at : (j k : ℕ) → j < k + 1 → (j < k) ⊎ (j ≡ k)
before_or_at j k h = grind arith

pub listed_more : (C : Grounds) (s u : Trail) (sum goal : Ends) (ts : List Term) (es : List Ends) (places : List ℕ) (n : ℕ) → Infers C s u → n < length places → ListedInRoom s sum goal ts es places n → IsInRoomAt u sum goal ts es (get_or places n 0)
    → ListedInRoom u sum goal ts es places (n + 1)
listed_more C s u sum goal ts es places n h l rooms here j d b = elim (before_or_at j n b) [
  | inl low ↦ (λ t f. room_later C s u sum goal (get_or ts (get_or places j d) t) (get_or es (get_or places j d) f) h (rooms j d low t f))
  | inr at ↦ subst (λ (k : ℕ). IsInRoomAt u sum goal ts es k) (get_or_default places n 0 d l ∙ ap (λ (i : ℕ). get_or places i d) (sym at)) here
]

-- a term that is no wider than the room that the sum leaves is in its room
pub room_of_width : (s : Trail) (sum goal : Ends) (ts : List Term) (es : List Ends) (widest k : ℕ) → k < length ts → AreTermsBounded s ts es → ((t : Term) (e : Ends) → IsNoWider widest (get_or ts k t) (get_or es k e)) → FitsWidest widest sum goal → IsInRoomAt s sum goal ts es k
room_of_width s sum goal ts es widest k l bounded narrow fits d f =
    let own : Ends = record { low = term_end Low (get_or ts k d) (get_or es k f); high = term_end High (get_or ts k d) (get_or es k f) } in
    let room : Ends = record { low = goal.low -ℤ (sum.high -ℤ own.high); high = goal.high -ℤ (sum.low -ℤ own.low) } in
    let w = narrow d f in
    let above = fits.above in
    let below = fits.below in
    room_of_cuts s sum goal ts es k
    (cut_kept Low s sum goal own room ts es k d f l bounded refl refl refl refl (omega (arith, ints)))
    (cut_kept High s sum goal own room ts es k d f l bounded refl refl refl refl (omega (arith, ints))) d f

flag_or_not : (b : Bool) → (b ≡ true) ⊎ (b ≡ false)
flag_or_not true = inl refl
flag_or_not false = inr refl

-- what was read of a long sum, as a measured one
pub fresh_measured : (s : Trail) (ts : List Term) (g : Gauge) (admitted : Admitted) (es : List Ends) (sum : Ends) → IsSumInRange s.first ts admitted → IsFresh s ts g → es ≡ g.values.items → sum ≡ g.spread.sum → IsMeasured s ts admitted es sum
fresh_measured s ts g admitted es sum range h same is =
    let gauge = h.whole.gauge in
    measured_of s ts admitted g.values.items es sum range (fresh_ends s ts g.values.items g.since.items range.measurable gauge.values gauge.since h.now) (subst (λ (x : Ends). AreSumEnds ts g.values.items x) (sym is) gauge.ends) same

-- a long sum is strong where its wide terms are in their room and no entry was added
pub strong_wide : (C : Grounds) (s u : Trail) (ts : List Term) (g : Gauge) (admitted : Admitted) (es : List Ends) (places : List ℕ) (sum goal : Ends) → IsSumInRange s.first ts admitted → IsFresh s ts g → es ≡ g.values.items → sum ≡ g.spread.sum → places ≡ g.wide.items
    → IsGoal admitted sum goal → FitsWidest g.spread.widest g.spread.sum goal → Infers C s u → All (IsInRoomAt u sum goal ts es) places → u.entries ≡ s.entries → IsStrongSum (passes admitted) u ts
strong_wide C s u ts g admitted es places sum goal range h same is listed to fits infers rooms e =
    let gauge = h.whole.gauge in
    strong_pass C s u ts g.values.items es admitted sum goal (length ts) infers e (fresh_ends s ts g.values.items g.since.items range.measurable gauge.values gauge.since h.now)
    (subst (λ (x : Ends). AreSumEnds ts g.values.items x) (sym is) gauge.ends) same to (omega arith) each
  where
    bounded : AreTermsBounded u ts es
    bounded = (measured_later C s u ts admitted es sum infers (fresh_measured s ts g admitted es sum range h same is)).bounded

    fits' : FitsWidest g.spread.widest sum goal
    fits' = subst (λ (x : Ends). FitsWidest g.spread.widest x goal) (sym is) fits

    each : AreInRoom u sum goal ts es (length ts)
    each k d f l = elim (flag_or_not (get_or g.is_wide.items k false)) [
      | inl wide ↦ All-contains (IsInRoomAt u sum goal ts es) places k rooms (subst (λ (ks : List ℕ). Contains ks k) (sym listed) (h.whole.gauge.listed k l wide)) d f
      | inr narrow ↦ (let flag : get_or g.is_wide.items k true ≡ false = sym (get_or_default g.is_wide.items k false true (omega (arith, l, h.whole.gauge.flags))) ∙ narrow in
          room_of_width u sum goal ts es g.spread.widest k l bounded (λ t x. subst (λ (fs : List Ends). IsNoWider g.spread.widest (get_or ts k t) (get_or fs k x)) (sym same) (h.whole.gauge.widths k t x l flag)) fits' d f)
    ]

-- what holds of a value that is there
pub of_ok : {A E P : Type 0} (r : Result A E) {x : A} → r ≡ Ok x → OnOk r P → P
of_ok (Ok y) is h = h
of_ok (Err e) is h = absurd (cc is)

pub nothing_now : (s : Trail) → RecallsNow no_memory s
nothing_now s = record { count = omega arith; recalls = Recalls-nothing s (length s.entries) }
