-- What is seen of a level, and of what facts give of it.
use Rattle.std.proofs.Common.{ℕ, inl, inr, get_or, take, unsigned_abs, ◌+◌, ◌*◌, ◌^◌, ◌<◌, ◌≤◌, ℤ, pos, neg_ℤ, ◌+ℤ◌, ◌≤ℤ◌, ◌<ℤ◌, ◌≡◌, Bool, true, false, not, cond, ◌&&◌, List, [], ◌∷◌, ◌++◌, length, refl, sym, ◌∙◌, ap, subst, arith, FitsSigned, w64, true≢false}
use Rattle.std.specs.Prelude.{int_le, Option, Some, None, IfSome, IfOk, Result, Ok, Err}
use Rattle.std.specs.declared.alloc.AllocError.{AllocError}
use Rattle.std.specs.Result.{IsErr, is_err}
use Rattle.std.specs.List.{All, Contains}
use Rattle.std.proofs.lemmas.Int.{ints}
use Rattle.std.proofs.lemmas.List.{take_more, take_all}
use Rattle.std.proofs.lemmas.List.Elements.{All-head, All-tail, All-more, All-contains, All-contains_itself}
use Rattle.cps_domain.proofs.Tests.{true_le, le_true, le_false, both}
use Rattle.cps_model.proofs.Inside.{unsigned_abs-neg}
use Rattle.cps_model.proofs.Sums.{unsigned_abs-add}
use Rattle.cps_literal.specs.declared.atom.Atom.{Atom}
use Rattle.cps_literal.specs.declared.atom.Op.TheVariants.{Le, Ge}
use Rattle.cps_literal.specs.declared.atom.Truth.{Truth}
use Rattle.cps_literal.specs.declared.atom.Truth.TheVariants.{Yes, No, Undecided}
use Rattle.cps_literal.specs.Truth.{meets, value_at, atom_holds}
use Rattle.cps_instance.specs.Tasks.{HoldsBody, subjects_of_body}
use Rattle.cps_instance.proofs.Agreeing.{All-append_left, All-append_right}
use Rattle.cps_trail.specs.Trail.{Trail, Domains, IsTrueNow, IsFalseNow, IsAdmitted}
use Rattle.cps_propagate.specs.Now.{IsOpenTo, IsFixedNow, AreOpen}
use Rattle.cps_rule.specs.declared.rule.Hint.{Hint}
use Rattle.cps_rule.specs.declared.rule.Look.{Look}
use Rattle.cps_rule.specs.declared.rule.Look.TheVariants.{Possible, Impossible}
use Rattle.cps_rule.specs.Rules.{AreFacts, IsFittingRule, IsImpossible, IsAtRest, IsSeen}
use Rattle.cps_propagate.specs.Strength.{MayHaveActed, MayHaveRested}
use Rattle.cps_p_cumulative.specs.declared.tank.Tank.{Tank}
use Rattle.cps_p_cumulative.specs.declared.tank.Move.{Move}
use Rattle.cps_p_cumulative.specs.declared.tank.Side.{Side}
use Rattle.cps_p_cumulative.specs.declared.tank.Side.TheVariants.{Over, Under}
use Rattle.cps_p_cumulative.specs.Levels.{toward, is_active, has_acted, share_of, total, moves_of, tank_body, limit, active_subjects, move_subjects, IsMoveOf, IsTankOf, IsShareToward, MayAddUp, StaysFrom, IsShare, IsLevel, MayBeActive, IsMoveSure, IsSureFixed, IsLeastToward, AllowsZero, HasRoomAfter, HasRoomTo, IsTowardBound, IsRest, IsAdded, AreAdded, AreMovesOpen, AreMovesFixed}
use Rattle.cps_p_cumulative.specs.Relying.{Relies}
use Rattle.cps_p_cumulative.proofs.Moves.{moves_all, total-last, toward-none, passed, never_passed}
use Rattle.cps_p_cumulative.proofs.EventTimes.{zero_limit, has_levels}
use Rattle.cps_p_cumulative.proofs.Energy.{number_size}
use Rattle.cps_p_cumulative.proofs.Relied.{Relies-none, Relies-then, Relies-so, Relies-among, one_of}

-- the subjects of an event
pub on_time : (P : ℕ → Type 0) (m : Move) → All P (move_subjects m) → P m.time
on_time P m h = All-head P m.time (m.change ∷ active_subjects m.active) h

pub on_change : (P : ℕ → Type 0) (m : Move) → All P (move_subjects m) → P m.change
on_change P m h = All-head P m.change (active_subjects m.active) (All-tail P m.time (m.change ∷ active_subjects m.active) h)

pub on_atom : (P : ℕ → Type 0) (m : Move) (u : Atom) → m.active ≡ Some u → All P (move_subjects m) → P u.subject
on_atom P m u e h = All-head P u.subject [] (subst (λ (o : Option Atom). All P (active_subjects o)) e (All-tail P m.change (active_subjects m.active) (All-tail P m.time (m.change ∷ active_subjects m.active) h)))

-- whether an event takes place, wherever its subjects may be, and where they are fixed
pub record IsActiveSure (s : Trail) (m : Move) (v : Bool) : Type 0 where
  pub sure : (xs : List ℤ) → AreOpen s xs (move_subjects m) → is_active xs m.active ≡ v
  pub may : MayBeActive s m.active v

pub record IsActiveFixed (s : Trail) (m : Move) (v : Bool) : Type 0 where
  pub sure : (xs : List ℤ) → AreOpen s xs (move_subjects m) → All (IsFixedNow s) (move_subjects m) → is_active xs m.active ≡ v
  pub may : MayBeActive s m.active v

may_as : (s : Trail) (m : Move) (o : Option Atom) (v : Bool) → m.active ≡ o → MayBeActive s o v → MayBeActive s m.active v
may_as s m o v e h = subst (λ (p : Option Atom). MayBeActive s p v) (sym e) h

pub active_none : (s : Trail) (m : Move) → m.active ≡ None → IsActiveSure s m true
active_none s m e = record { sure = λ xs o. ap (is_active xs) e; may = may_as s m None true e tt }

pub active_true : (s : Trail) (m : Move) (u : Atom) → m.active ≡ Some u → IsTrueNow s u → (IsFalseNow s u → ⊥) → IsActiveSure s m true
active_true s m u e h never = record {
  sure = λ xs o. ap (is_active xs) e ∙ h (value_at xs u.subject) (on_atom (λ i. IsOpenTo s i (value_at xs i)) m u e o);
  may = may_as s m (Some u) true e never;
}

pub active_false : (s : Trail) (m : Move) (u : Atom) → m.active ≡ Some u → IsFalseNow s u → (IsTrueNow s u → ⊥) → IsActiveSure s m false
active_false s m u e h never = record {
  sure = λ xs o. ap (is_active xs) e ∙ h (value_at xs u.subject) (on_atom (λ i. IsOpenTo s i (value_at xs i)) m u e o);
  may = may_as s m (Some u) false e never;
}

pub active_fixed : (s : Trail) (m : Move) (v : Bool) → IsActiveSure s m v → IsActiveFixed s m v
active_fixed s m v h = record { sure = λ xs o f. h.sure xs o; may = h.may }

-- what is true is not false
abbrev is_yes_truth : Truth → Bool
is_yes_truth Yes = true
is_yes_truth No = false
is_yes_truth Undecided = false

pub yes_not_no : Yes ≡ No → ⊥
yes_not_no e = true≢false (ap is_yes_truth e)

pub no_not_yes : No ≡ Yes → ⊥
no_not_yes e = true≢false (sym (ap is_yes_truth e))

either : (b : Bool) → (b ≡ true → ⊥) → b ≡ false
either true f = absurd (f refl)
either false f = refl

either_true : (b : Bool) → (b ≡ false → ⊥) → b ≡ true
either_true true f = refl
either_true false f = absurd (f refl)

pub active_not_true : (s : Trail) (m : Move) (u : Atom) → m.active ≡ Some u → (IsTrueNow s u → ⊥) → IsActiveFixed s m false
active_not_true s m u e h = record {
  sure = λ xs o f. ap (is_active xs) e ∙ either (atom_holds xs u) (λ holds. h (λ x may.
      ap (meets u.op u.value) (on_atom (IsFixedNow s) m u e f x (value_at xs u.subject) may (on_atom (λ i. IsOpenTo s i (value_at xs i)) m u e o)) ∙ holds));
  may = may_as s m (Some u) false e h;
}

pub active_not_false : (s : Trail) (m : Move) (u : Atom) → m.active ≡ Some u → (IsFalseNow s u → ⊥) → IsActiveFixed s m true
active_not_false s m u e h = record {
  sure = λ xs o f. ap (is_active xs) e ∙ either_true (atom_holds xs u) (λ holds. h (λ x may.
      ap (meets u.op u.value) (on_atom (IsFixedNow s) m u e f x (value_at xs u.subject) may (on_atom (λ i. IsOpenTo s i (value_at xs i)) m u e o)) ∙ holds));
  may = may_as s m (Some u) true e h;
}

and_false : (a b : Bool) → b ≡ false → (a && b) ≡ false
and_false true b e = e
and_false false b e = refl

no_and : (a b : Bool) → a ≡ false → (a && b) ≡ false
no_and a b e = ap (λ c. c && b) e

-- that it has taken place by a time, or has not
pub sure_acted : (s : Trail) (t late : ℤ) (m : Move) → late ≤ℤ t → IsOpenTo s m.time late → ((x : ℤ) → IsOpenTo s m.time x → x ≤ℤ late) → IsActiveSure s m true → IsMoveSure s t m true
sure_acted s t late m l reached up h = record {
  sure = λ xs o. (let a = up (value_at xs m.time) (on_time (λ i. IsOpenTo s i (value_at xs i)) m o) in
      both (is_active xs m.active) (int_le (value_at xs m.time) t) (h.sure xs o) (le_true (value_at xs m.time) t (omega (arith, ints))));
  may = record { possible = h.may; value = late; reached = reached; by = l };
}

pub sure_later : (s : Trail) (t early : ℤ) (m : Move) → t <ℤ early → IsOpenTo s m.time early → ((x : ℤ) → IsOpenTo s m.time x → early ≤ℤ x) → IsMoveSure s t m false
sure_later s t early m l reached down = record {
  sure = λ xs o. (let a = down (value_at xs m.time) (on_time (λ i. IsOpenTo s i (value_at xs i)) m o) in
      and_false (is_active xs m.active) (int_le (value_at xs m.time) t) (le_false (value_at xs m.time) t (omega (arith, ints))));
  may = inr (early, reached, l);
}

pub sure_absent : (s : Trail) (t : ℤ) (m : Move) → IsActiveSure s m false → IsMoveSure s t m false
sure_absent s t m h = record { sure = λ xs o. no_and (is_active xs m.active) (int_le (value_at xs m.time) t) (h.sure xs o); may = inl h.may }

pub fixed_later : (s : Trail) (t late : ℤ) (m : Move) → t <ℤ late → IsOpenTo s m.time late → IsSureFixed s t m false
fixed_later s t late m l reached = record {
  sure = λ xs o f. (let e = on_time (IsFixedNow s) m f late (value_at xs m.time) reached (on_time (λ i. IsOpenTo s i (value_at xs i)) m o) in
      and_false (is_active xs m.active) (int_le (value_at xs m.time) t) (le_false (value_at xs m.time) t (omega (arith, ints))));
  may = inr (late, reached, l);
}

pub fixed_absent : (s : Trail) (t : ℤ) (m : Move) → IsActiveFixed s m false → IsSureFixed s t m false
fixed_absent s t m h = record { sure = λ xs o f. no_and (is_active xs m.active) (int_le (value_at xs m.time) t) (h.sure xs o f); may = inl h.may }

pub fixed_acted : (s : Trail) (t early : ℤ) (m : Move) → early ≤ℤ t → IsOpenTo s m.time early → IsActiveFixed s m true → IsSureFixed s t m true
fixed_acted s t early m l reached h = record {
  sure = λ xs o f. (let e = on_time (IsFixedNow s) m f early (value_at xs m.time) reached (on_time (λ i. IsOpenTo s i (value_at xs i)) m o) in
      both (is_active xs m.active) (int_le (value_at xs m.time) t) (h.sure xs o f) (le_true (value_at xs m.time) t (omega (arith, ints))));
  may = record { possible = h.may; value = early; reached = reached; by = l };
}

-- what an event adds
share_acted : (side : Side) (xs : List ℤ) (t : ℤ) (m : Move) → has_acted xs t m ≡ true → share_of side xs t m ≡ toward side (value_at xs m.change)
share_acted side xs t m e = ap (λ b. cond b (toward side (value_at xs m.change)) (pos 0)) e

share_rests : (side : Side) (xs : List ℤ) (t : ℤ) (m : Move) → has_acted xs t m ≡ false → share_of side xs t m ≡ pos 0
share_rests side xs t m e = ap (λ b. cond b (toward side (value_at xs m.change)) (pos 0)) e

at_least_share : (side : Side) (xs : List ℤ) (t v : ℤ) (m : Move) → v ≤ℤ toward side (value_at xs m.change) → v ≤ℤ pos 0 → v ≤ℤ share_of side xs t m
at_least_share side xs t v m a b = by (has_acted xs t m)
  where
    by : (c : Bool) → v ≤ℤ cond c (toward side (value_at xs m.change)) (pos 0)
    by true = a
    by false = b

-- what an event may have added by a time it may have added by a later one too, as long as nothing becomes sure of it
acted_later : (s : Trail) (t u : ℤ) (m : Move) → t ≤ℤ u → MayHaveActed s t m.time m.active → MayHaveActed s u m.time m.active
acted_later s t u m l h = record { possible = h.possible; value = h.value; reached = h.reached; by = (let a = h.by in omega (arith, ints)) }

rested_later : (s : Trail) (t u : ℤ) (m : Move) → StaysFrom s t u m → MayHaveRested s t m.time m.active → MayHaveRested s u m.time m.active
rested_later s t u m stays (inl may) = inl may
rested_later s t u m (inl due) (inr later) = (let a = due later.0 later.1 in let b = later.2 in absurd (omega (arith, ints)))
rested_later s t u m (inr after) (inr later) = inr after

share_may_act : (s : Trail) (t : ℤ) (side : Side) (m : Move) (v : ℤ) → MayHaveActed s t m.time m.active → IsLeastToward s side m.change v → (u : ℤ) → t ≤ℤ u → StaysFrom s t u m → IsShareToward side s u m v
share_may_act s t side m v acted l u after stays = (l.attained.0, inl (acted_later s t u m after acted, l.attained.1), l.attained.2)

share_may_rest : (s : Trail) (t : ℤ) (side : Side) (m : Move) → MayHaveRested s t m.time m.active → (u : ℤ) → t ≤ℤ u → StaysFrom s t u m → IsShareToward side s u m (pos 0)
share_may_rest s t side m rested u after stays = (pos 0, inr (rested_later s t u m stays rested, refl), toward-none side)

pub share_none : (s : Trail) (t : ℤ) (side : Side) (m : Move) → IsMoveSure s t m false → IsShare s t side m (pos 0)
share_none s t side m h = record {
  sound = λ xs o. (let e = share_rests side xs t m (h.sure xs o) in omega (arith, ints));
  exact = λ xs o f. (let e = share_rests side xs t m (h.sure xs o) in omega (arith, ints));
  may = share_may_rest s t side m h.may;
  near = omega arith;
}

pub share_sure : (s : Trail) (t : ℤ) (side : Side) (m : Move) (v : ℤ) → IsMoveSure s t m true → IsLeastToward s side m.change v → IsShare s t side m v
share_sure s t side m v h l = record {
  sound = λ xs o. (let e = share_acted side xs t m (h.sure xs o) in let a = l.least (value_at xs m.change) (on_change (λ i. IsOpenTo s i (value_at xs i)) m o) in omega (arith, ints));
  exact = λ xs o f. (let e = share_acted side xs t m (h.sure xs o) in let a = l.reached (value_at xs m.change) (on_change (λ i. IsOpenTo s i (value_at xs i)) m o) (on_change (IsFixedNow s) m f) in omega (arith, ints));
  may = share_may_act s t side m v h.may l;
  near = l.near;
}

differ : true ≡ false → ⊥
differ e = cc

pub share_open : (s : Trail) (t : ℤ) (side : Side) (m : Move) (v : ℤ) → IsSureFixed s t m true → IsSureFixed s t m false → IsLeastToward s side m.change v → v ≤ℤ pos 0 → IsShare s t side m v
share_open s t side m v yes' no' l low = record {
  sound = λ xs o. at_least_share side xs t v m (l.least (value_at xs m.change) (on_change (λ i. IsOpenTo s i (value_at xs i)) m o)) low;
  exact = λ xs o f. absurd (differ (sym (yes'.sure xs o f) ∙ no'.sure xs o f));
  may = share_may_act s t side m v yes'.may l;
  near = l.near;
}

pub share_open_none : (s : Trail) (t : ℤ) (side : Side) (m : Move) (v : ℤ) → IsSureFixed s t m true → IsSureFixed s t m false → IsLeastToward s side m.change v → pos 0 ≤ℤ v → IsShare s t side m (pos 0)
share_open_none s t side m v yes' no' l low = record {
  sound = λ xs o. at_least_share side xs t (pos 0) m (let a = l.least (value_at xs m.change) (on_change (λ i. IsOpenTo s i (value_at xs i)) m o) in omega (arith, ints)) (omega (arith, ints));
  exact = λ xs o f. absurd (differ (sym (yes'.sure xs o f) ∙ no'.sure xs o f));
  may = share_may_rest s t side m no'.may;
  near = omega arith;
}

-- the least that a change counts, by the ends of what it may be
pub least-over : (s : Trail) (side : Side) (i : ℕ) (low v : ℤ) → side ≡ Over → v ≡ toward side low → IsOpenTo s i low → ((x : ℤ) → IsOpenTo s i x → low ≤ℤ x) → FitsSigned w64 low → IsLeastToward s side i v
least-over s side i low v is e open' below fits = subst (λ (d : Side). v ≡ toward d low → IsLeastToward s d i v) (sym is) (λ f. record {
  least = λ x o. (let a = below x o in omega (arith, ints));
  reached = λ x o is-fixed. (let a = is-fixed low x open' o in omega (arith, ints));
  attained = (low, open', f);
  near = subst (λ (z : ℤ). unsigned_abs z ≤ 2 ^ 63) (sym f) (number_size low fits);
}) e

pub least-under : (s : Trail) (side : Side) (i : ℕ) (high v : ℤ) → side ≡ Under → v ≡ toward side high → IsOpenTo s i high → ((x : ℤ) → IsOpenTo s i x → x ≤ℤ high) → FitsSigned w64 high → IsLeastToward s side i v
least-under s side i high v is e open' above fits = subst (λ (d : Side). v ≡ toward d high → IsLeastToward s d i v) (sym is) (λ f. record {
  least = λ x o. (let a = above x o in omega (arith, ints));
  reached = λ x o is-fixed. (let a = is-fixed high x open' o in omega (arith, ints));
  attained = (high, open', f);
  near = subst (λ (z : ℤ). unsigned_abs z ≤ 2 ^ 63) (sym f) (subst (λ (n : ℕ). n ≤ 2 ^ 63) (sym (unsigned_abs-neg high)) (number_size high fits));
}) e

-- what events add
may_add_last : (side : Side) (s : Trail) (u : ℤ) (ms : List Move) (m : Move) (v w x : ℤ) → MayAddUp side s u ms v → IsShareToward side s u m w → x ≡ v +ℤ w → MayAddUp side s u (ms ++ m ∷ []) x
may_add_last side s u [] m v w x h i e = (w, pos 0, i, refl, (let a : v ≡ pos 0 = h in omega (arith, ints)))
may_add_last side s u (n ∷ ms) m v w x h i e =
    (h.0, h.1 +ℤ w, h.2, may_add_last side s u ms m h.1 w (h.1 +ℤ w) h.3 i refl, (let a = h.4 in omega (arith, ints)))

level_last : (s : Trail) (t : ℤ) (side : Side) (ms : List Move) (m : Move) (v w x : ℤ) → IsLevel s t side ms v → IsShare s t side m w → x ≡ v +ℤ w → IsLevel s t side (ms ++ m ∷ []) x
level_last s t side ms m v w x h i e = record {
  sound = λ xs o.
      let a = h.sound xs (All-append_left (λ n. AreOpen s xs (move_subjects n)) ms (m ∷ []) o) in
      let b = i.sound xs (All-head (λ n. AreOpen s xs (move_subjects n)) m [] (All-append_right (λ n. AreOpen s xs (move_subjects n)) ms (m ∷ []) o)) in
      let c = total-last side xs t ms m in
      omega (arith, ints);
  exact = λ xs o f.
      let a = h.exact xs (All-append_left (λ n. AreOpen s xs (move_subjects n)) ms (m ∷ []) o) (All-append_left (λ n. All (IsFixedNow s) (move_subjects n)) ms (m ∷ []) f) in
      let b = i.exact xs (All-head (λ n. AreOpen s xs (move_subjects n)) m [] (All-append_right (λ n. AreOpen s xs (move_subjects n)) ms (m ∷ []) o)) (All-head (λ n. All (IsFixedNow s) (move_subjects n)) m [] (All-append_right (λ n. All (IsFixedNow s) (move_subjects n)) ms (m ∷ []) f)) in
      let c = total-last side xs t ms m in
      omega (arith, ints);
  may = λ u after stays.
      may_add_last side s u ms m v w x (h.may u after (All-append_left (StaysFrom s t u) ms (m ∷ []) stays))
      (i.may u after (All-head (StaysFrom s t u) m [] (All-append_right (StaysFrom s t u) ms (m ∷ []) stays))) e;
}

pub near_step : (k : ℕ) (v w x : ℤ) → x ≡ v +ℤ w → unsigned_abs v ≤ k * 2 ^ 63 → unsigned_abs w ≤ 2 ^ 63 → unsigned_abs x ≤ (k + 1) * 2 ^ 63
near_step k v w x step near small =
    let sums = unsigned_abs-add v w in
    let same = ap unsigned_abs step in
    omega arith

pub level_more : (s : Trail) (t : ℤ) (side : Side) (ms : List Move) (k : ℕ) (m : Move) (v w x : ℤ) → k < length ms → m ≡ get_or ms k m → IsLevel s t side (take k ms) v → IsShare s t side m w → x ≡ v +ℤ w → IsLevel s t side (take (k + 1) ms) x
level_more s t side ms k m v w x l is h i e =
    subst (λ (ns : List Move). IsLevel s t side ns x) (sym (take_more ms k m l))
    (level_last s t side (take k ms) (get_or ms k m) v w x h (subst (λ (n : Move). IsShare s t side n w) is i) e)

-- the level of all
pub level_all : (s : Trail) (t : ℤ) (side : Side) (ms : List Move) (k : ℕ) (v w : ℤ) → length ms ≤ k → w ≡ v → IsLevel s t side (take k ms) v → IsLevel s t side ms w
level_all s t side ms k v w l e h = subst (λ (x : ℤ). IsLevel s t side ms x) (sym e) (subst (λ (ns : List Move). IsLevel s t side ns v) (take_all k ms l) h)

-- the tank's events over the subjects of a store
pub tank_inside : (first : Domains) (k : Tank) → IsFittingRule first (tank_body k) → IsTankOf first k
tank_inside first k h = moves_all (λ i. i < length first) k h.subjects

pub move_inside : (first : Domains) (k : Tank) (j : ℕ) (m : Move) → IsTankOf first k → j < length (moves_of k) → m ≡ get_or (moves_of k) j m → IsMoveOf first m
move_inside first k j m h l is = subst (λ (n : Move). IsMoveOf first n) (sym is) (h j m l)

moves_open : (s : Trail) (k : Tank) (xs : List ℤ) → IsTankOf s.first k → IsAdmitted s.first s.entries xs → AreMovesOpen s xs (moves_of k)
moves_open s k xs inside admitted = λ j d l i e m. admitted (get_or (move_subjects (get_or (moves_of k) j d)) i e) (inside j d l i e m)

-- a level that passes a limit
pub over_limit : (s : Trail) (k : Tank) (side : Side) (t v lim : ℤ) → AllowsZero k → IsTankOf s.first k → lim ≡ limit k side → lim <ℤ v → IsLevel s t side (moves_of k) v → IsImpossible (tank_body k) s
over_limit s k side t v lim zero inside same over level = record {
  at = λ xs admitted holds. (let a = level.sound xs (moves_open s k xs inside admitted) in passed k side xs t (omega (arith, ints)) (inl (zero_limit k side zero)) holds);
}

-- and one that does not
pub room_after : (s : Trail) (k : Tank) (side : Side) (t v lim : ℤ) (m : Move) → lim ≡ limit k side → v ≤ℤ lim → IsLevel s t side (moves_of k) v → IsOpenTo s m.time t → ((x : ℤ) → IsOpenTo s m.time x → x ≤ℤ t) → HasRoomAfter s k side m
room_after s k side t v lim m same under level reached last = record {
  late = t;
  reached = reached;
  last = last;
  room = record { sum = v; level = level; below = omega (arith, ints) };
}

pub room_more : (s : Trail) (k : Tank) (n : ℕ) (m : Move) → n < length (moves_of k) → m ≡ get_or (moves_of k) n m → HasRoomTo s k n → HasRoomAfter s k Over m → HasRoomAfter s k Under m → HasRoomTo s k (n + 1)
room_more s k n m l is h over under = record {
  over = All-more (HasRoomAfter s k Over) (moves_of k) n m l h.over (subst (λ (e : Move). HasRoomAfter s k Over e) is over);
  under = All-more (HasRoomAfter s k Under) (moves_of k) n m l h.under (subst (λ (e : Move). HasRoomAfter s k Under e) is under);
}

-- where all is fixed the level at an event's time is the one that has room
kept_at : (s : Trail) (k : Tank) (side : Side) (m : Move) (xs : List ℤ) → HasRoomAfter s k side m → AreMovesOpen s xs (moves_of k) → AreMovesFixed s (moves_of k) → AreOpen s xs (move_subjects m) → All (IsFixedNow s) (move_subjects m)
    → total side xs (value_at xs m.time) (moves_of k) ≤ℤ limit k side
kept_at s k side m xs h o f own is-fixed =
    let e = on_time (IsFixedNow s) m is-fixed h.late (value_at xs m.time) h.reached (on_time (λ i. IsOpenTo s i (value_at xs i)) m own) in
    let a = h.room.level.exact xs o f in
    let b = h.room.below in
    subst (λ (u : ℤ). total side xs u (moves_of k) ≤ℤ limit k side) e (omega (arith, ints))

pub at_rest_of : (s : Trail) (k : Tank) (n : ℕ) → AllowsZero k → length (moves_of k) ≤ n → HasRoomTo s k n → IsAtRest (tank_body k) s
at_rest_of s k n zero l h = record {
  decided = λ is-fixed xs are-open.
      let f = moves_all (IsFixedNow s) k is-fixed in
      let o = moves_all (λ i. IsOpenTo s i (value_at xs i)) k are-open in
      never_passed k xs (λ side j d m active. kept_at s k side (get_or (moves_of k) j d) xs (all side j d m) o f (o j d m) (f j d m));
  strong = has_levels s k zero all;
}
  where
    all : (side : Side) → All (HasRoomAfter s k side) (moves_of k)
    all Over = subst (λ (ms : List Move). All (HasRoomAfter s k Over) ms) (take_all n (moves_of k) l) h.over
    all Under = subst (λ (ms : List Move). All (HasRoomAfter s k Under) ms) (take_all n (moves_of k) l) h.under

-- what a look at the tank says
pub tank_seen : (s : Trail) (k : Tank) (r : Result Look AllocError) → ((hint : Hint) → r ≡ Ok (Impossible hint) → IsImpossible (tank_body k) s) → (r ≡ Ok Possible → IsAtRest (tank_body k) s) → IfOk r (IsSeen (tank_body k) s)
tank_seen s k (Ok Possible) never rest = λ excluded. excluded (rest refl).strong
tank_seen s k (Ok (Impossible hint)) never rest = never hint refl
tank_seen s k (Err e) never rest = tt

-- an atom about a change
pub toward-over : (side : Side) (i : ℕ) (v w : ℤ) (u : Atom) → side ≡ Over → u ≡ record { subject = i; op = Ge; value = w } → w ≡ v → IsTowardBound side i v u
toward-over side i v w u is-side is e = subst (λ (d : Side). IsTowardBound d i v u) (sym is-side) (record {
  subject = ap (λ (a : Atom). a.subject) is;
  gives = λ xs holds. (let a = true_le w (value_at xs i) (subst (λ (b : Atom). atom_holds xs b ≡ true) is holds) in omega (arith, ints));
})

pub toward-under : (side : Side) (i : ℕ) (v w : ℤ) (u : Atom) → side ≡ Under → u ≡ record { subject = i; op = Le; value = w } → w ≡ neg_ℤ v → IsTowardBound side i v u
toward-under side i v w u is-side is e = subst (λ (d : Side). IsTowardBound d i v u) (sym is-side) (record {
  subject = ap (λ (a : Atom). a.subject) is;
  gives = λ xs holds. (let a = true_le (value_at xs i) w (subst (λ (b : Atom). atom_holds xs b ≡ true) is holds) in omega (arith, ints));
})

-- an atom by which an event has not taken place
pub rest-absent : (first : Domains) (t : ℤ) (m : Move) (u n : Atom) → IsMoveOf first m → m.active ≡ Some u → n.subject ≡ u.subject → ((x : ℤ) → meets n.op n.value x ≡ not (meets u.op u.value x)) → IsRest first t m n
rest-absent first t m u n inside e same denies = record {
  subject = subst (λ (i : ℕ). i < length first) (sym same) (on_atom (λ i. i < length first) m u e inside);
  own = subst (λ (i : ℕ). Contains (move_subjects m) i) (sym same) (on_atom (Contains (move_subjects m)) m u e (All-contains_itself (move_subjects m)));
  gives = λ xs holds.
      let a : not (atom_holds xs u) ≡ true = sym (ap (λ (i : ℕ). meets n.op n.value (value_at xs i)) same ∙ denies (value_at xs u.subject)) ∙ holds in
      no_and (is_active xs m.active) (int_le (value_at xs m.time) t) (ap (is_active xs) e ∙ unnot (atom_holds xs u) a);
}
  where
    unnot : (b : Bool) → not b ≡ true → b ≡ false
    unnot true h = cc
    unnot false h = refl

-- and one by which it comes later
pub rest-later : (first : Domains) (t after : ℤ) (m : Move) (u : Atom) → IsMoveOf first m → u ≡ record { subject = m.time; op = Ge; value = after } → t <ℤ after → IsRest first t m u
rest-later first t after m u inside is l = record {
  subject = subst (λ (a : Atom). a.subject < length first) (sym is) (on_time (λ i. i < length first) m inside);
  own = subst (λ (a : Atom). Contains (move_subjects m) a.subject) (sym is) (on_time (Contains (move_subjects m)) m (All-contains_itself (move_subjects m)));
  gives = λ xs holds.
      let a = true_le after (value_at xs m.time) (subst (λ (v : Atom). atom_holds xs v ≡ true) is holds) in
      and_false (is_active xs m.active) (int_le (value_at xs m.time) t) (le_false (value_at xs m.time) t (omega (arith, ints)));
}

-- that an event has taken place
pub acted-relied : (s : Trail) (a : Atom) (t : ℤ) (m : Move) (u : Atom) (old mid new : List Atom) → u ≡ record { subject = m.time; op = Le; value = t } → Relies s a (active_subjects m.active) (λ xs. is_active xs m.active ≡ true) old mid → Relies s a (u.subject ∷ []) (λ xs. atom_holds xs u ≡ true) mid new
    → Relies s a (move_subjects m) (λ xs. has_acted xs t m ≡ true) old new
acted-relied s a t m u old mid new is h i = Relies-then s a (move_subjects m) (λ xs. is_active xs m.active ≡ true) (λ xs. atom_holds xs u ≡ true) (λ xs. has_acted xs t m ≡ true) old mid new
    (Relies-among s a (active_subjects m.active) (move_subjects m) (λ xs. is_active xs m.active ≡ true) old mid (λ js all. All-tail (Contains js) m.change (active_subjects m.active) (All-tail (Contains js) m.time (m.change ∷ active_subjects m.active) all)) h)
    (Relies-among s a (u.subject ∷ []) (move_subjects m) (λ xs. atom_holds xs u ≡ true) mid new (λ js all. one_of js m.time u.subject (ap (λ (v : Atom). v.subject) is) (on_time (Contains js) m all)) i)
    (λ xs w b c. both (is_active xs m.active) (int_le (value_at xs m.time) t) b (subst (λ (v : Atom). atom_holds xs v ≡ true) is c))

-- the subjects of one event
pub own_move : (k : Tank) (j : ℕ) (m : Move) → j < length (moves_of k) → m ≡ get_or (moves_of k) j m → (is : List ℕ) → All (Contains is) (subjects_of_body (tank_body k)) → All (Contains is) (move_subjects m)
own_move k j m l e is all = subst (λ (n : Move). All (Contains is) (move_subjects n)) (sym e) (moves_all (Contains is) k all j m l)

-- what one event adds
pub added-least : (s : Trail) (a : Atom) (side : Side) (t v had : ℤ) (m : Move) (u : Atom) (old new : List Atom) → had ≡ v → had ≤ℤ pos 0 → IsTowardBound side m.change had u → Relies s a (u.subject ∷ []) (λ xs. atom_holds xs u ≡ true) old new
    → Relies s a (move_subjects m) (IsAdded side t m v) old new
added-least s a side t v had m u old new e low bound h = Relies-so s a (move_subjects m) (λ xs. atom_holds xs u ≡ true) (IsAdded side t m v) old new
    (Relies-among s a (u.subject ∷ []) (move_subjects m) (λ xs. atom_holds xs u ≡ true) old new (λ js all. one_of js m.change u.subject bound.subject (on_change (Contains js) m all)) h)
    (λ xs w b. record { added = subst (λ (x : ℤ). x ≤ℤ share_of side xs t m) e (at_least_share side xs t had m (bound.gives xs b) low) })

-- nothing, where it rests
pub added-rest : (s : Trail) (a : Atom) (side : Side) (t v : ℤ) (m : Move) (u : Atom) (old new : List Atom) → pos 0 ≡ v → IsRest s.first t m u → Relies s a (u.subject ∷ []) (λ xs. atom_holds xs u ≡ true) old new → Relies s a (move_subjects m) (IsAdded side t m v) old new
added-rest s a side t v m u old new e rest h = Relies-so s a (move_subjects m) (λ xs. atom_holds xs u ≡ true) (IsAdded side t m v) old new
    (Relies-among s a (u.subject ∷ []) (move_subjects m) (λ xs. atom_holds xs u ≡ true) old new (λ js all. one_of js u.subject u.subject refl (All-contains (Contains js) (move_subjects m) u.subject all rest.own)) h)
    (λ xs w b. record { added = (let f = share_rests side xs t m (rest.gives xs b) in omega (arith, ints)) })

pub added-acted : (s : Trail) (a : Atom) (side : Side) (t v had : ℤ) (m : Move) (u : Atom) (old mid new : List Atom) → had ≡ v → IsTowardBound side m.change had u → Relies s a (u.subject ∷ []) (λ xs. atom_holds xs u ≡ true) old mid → Relies s a (move_subjects m) (λ xs. has_acted xs t m ≡ true) mid new
    → Relies s a (move_subjects m) (IsAdded side t m v) old new
added-acted s a side t v had m u old mid new e bound h i = Relies-then s a (move_subjects m) (λ xs. atom_holds xs u ≡ true) (λ xs. has_acted xs t m ≡ true) (IsAdded side t m v) old mid new
    (Relies-among s a (u.subject ∷ []) (move_subjects m) (λ xs. atom_holds xs u ≡ true) old mid (λ js all. one_of js m.change u.subject bound.subject (on_change (Contains js) m all)) h) i
    (λ xs w b c. record { added = (let f = share_acted side xs t m c in let l = bound.gives xs b in omega (arith, ints)) })

-- the number of an answer
pub some_number : (x v : ℤ) → ◌≡◌ {A = Result (Option ℤ) AllocError} (Ok (Some x)) (Ok (Some v)) → x ≡ v
some_number x v e = cc

-- what events add
pub added-more : (s : Trail) (a : Atom) (among : List ℕ) (side : Side) (t : ℤ) (ms : List Move) (k : ℕ) (m : Move) (v w x : ℤ) (old mid new : List Atom) → k < length ms → m ≡ get_or ms k m → ((is : List ℕ) → All (Contains is) among → All (Contains is) (move_subjects m))
    → Relies s a among (AreAdded side t (take k ms) v) old mid → Relies s a (move_subjects m) (IsAdded side t m w) mid new → x ≡ v +ℤ w → Relies s a among (AreAdded side t (take (k + 1) ms) x) old new
added-more s a among side t ms k m v w x old mid new l is part h i e = Relies-then s a among (AreAdded side t (take k ms) v) (IsAdded side t m w) (AreAdded side t (take (k + 1) ms) x) old mid new h
    (Relies-among s a (move_subjects m) among (IsAdded side t m w) mid new part i)
    (λ xs u b c. record {
      added =
          let f : total side xs t (take (k + 1) ms) ≡ total side xs t (take k ms) +ℤ share_of side xs t m =
          ap (total side xs t) (take_more ms k m l) ∙ total-last side xs t (take k ms) (get_or ms k m) ∙ ap (λ (n : Move). total side xs t (take k ms) +ℤ share_of side xs t n) (sym is) in
          let p = b.added in
          let q = c.added in
          omega (arith, ints);
    })

pub added-all : (s : Trail) (a : Atom) (among : List ℕ) (side : Side) (t : ℤ) (ms : List Move) (k : ℕ) (x v : ℤ) (old new : List Atom) → length ms ≤ k → Relies s a among (AreAdded side t (take k ms) x) old new → x ≡ v → Relies s a among (AreAdded side t ms v) old new
added-all s a among side t ms k x v old new l h e = subst (λ (y : ℤ). Relies s a among (AreAdded side t ms y) old new) e (subst (λ (ns : List Move). Relies s a among (AreAdded side t ns x) old new) (take_all k ms l) h)

-- what passes a limit
pub passed-room : (s : Trail) (a : Atom) (k : Tank) (side : Side) (t v lim : ℤ) (old new : List Atom) → lim ≡ limit k side → lim <ℤ v → pos 0 ≤ℤ lim → Relies s a (subjects_of_body (tank_body k)) (AreAdded side t (moves_of k) v) old new
    → Relies s a (subjects_of_body (tank_body k)) (λ xs. HoldsBody (tank_body k) xs → ⊥) old new
passed-room s a k side t v lim old new same over room h = Relies-so s a (subjects_of_body (tank_body k)) (AreAdded side t (moves_of k) v) (λ xs. HoldsBody (tank_body k) xs → ⊥) old new h
    (λ xs w b. (let p = b.added in passed k side xs t (omega (arith, ints)) (inl (omega (arith, ints)))))

pub passed-begun : (s : Trail) (a : Atom) (k : Tank) (side : Side) (t v lim : ℤ) (j : ℕ) (m : Move) (old mid new : List Atom) → lim ≡ limit k side → lim <ℤ v → j < length (moves_of k) → m ≡ get_or (moves_of k) j m
    → Relies s a (subjects_of_body (tank_body k)) (AreAdded side t (moves_of k) v) old mid → Relies s a (move_subjects m) (λ xs. has_acted xs t m ≡ true) mid new → Relies s a (subjects_of_body (tank_body k)) (λ xs. HoldsBody (tank_body k) xs → ⊥) old new
passed-begun s a k side t v lim j m old mid new same over l is h i = Relies-then s a (subjects_of_body (tank_body k)) (AreAdded side t (moves_of k) v) (λ xs. has_acted xs t m ≡ true) (λ xs. HoldsBody (tank_body k) xs → ⊥) old mid new h
    (Relies-among s a (move_subjects m) (subjects_of_body (tank_body k)) (λ xs. has_acted xs t m ≡ true) mid new (own_move k j m l is) i)
    (λ xs w b c. (let p = b.added in passed k side xs t (omega (arith, ints)) (inr (record { place = j; event = m; within = l; acted = subst (λ (n : Move). has_acted xs t n ≡ true) is c }))))

pub active_inside : (first : Domains) (m : Move) → IsMoveOf first m → IfSome m.active (λ u. u.subject < length first)
active_inside first m h = by m.active (All-tail (λ i. i < length first) m.change (active_subjects m.active) (All-tail (λ i. i < length first) m.time (m.change ∷ active_subjects m.active) h))
  where
    by : (o : Option Atom) → All (λ i. i < length first) (active_subjects o) → IfSome o (λ u. u.subject < length first)
    by None all = tt
    by (Some u) all = All-head (λ i. i < length first) u.subject [] all

-- that an event takes place
pub active-relied : (s : Trail) (a u : Atom) (o : Option Atom) (old new : List Atom) → o ≡ Some u → Relies s a (u.subject ∷ []) (λ xs. atom_holds xs u ≡ true) old new → Relies s a (active_subjects o) (λ xs. is_active xs o ≡ true) old new
active-relied s a u o old new e h = subst (λ (p : Option Atom). Relies s a (active_subjects p) (λ xs. is_active xs p ≡ true) old new) (sym e) h

pub active-free : (s : Trail) (a : Atom) (o : Option Atom) (us : List Atom) → o ≡ None → AreFacts s us → Relies s a (active_subjects o) (λ xs. is_active xs o ≡ true) us us
active-free s a o us e f = subst (λ (p : Option Atom). Relies s a (active_subjects p) (λ xs. is_active xs p ≡ true) us us) (sym e) (Relies-none s a [] (λ xs. is_active xs None ≡ true) us f (λ xs w b. refl))

pub ok_true : (r : Result Bool AllocError) (b : Bool) → r ≡ Ok b → b ≡ true → r ≡ Ok true
ok_true r b e f = e ∙ ap (λ v. Ok v) f

-- a result by what was taken from it
pub ok_is : {A : Type 0} (r : Result A AllocError) (x y : A) → r ≡ Ok x → x ≡ y → r ≡ Ok y
ok_is r x y e f = e ∙ ap (λ v. Ok v) f

-- a result that is no `Ok true`, and one that is no `Ok (Some _)`
abbrev pub is_yes : Result Bool AllocError → Bool
is_yes (Ok b) = b
is_yes (Err e) = false

pub no_yes : (P : Type 0) (r : Result Bool AllocError) → r ≡ Ok true → is_yes r ≡ false → P
no_yes P r is not = absurd (true≢false (sym (ap is_yes is) ∙ not))

abbrev pub is_number : Result (Option ℤ) AllocError → Bool
is_number (Ok (Some v)) = true
is_number (Ok None) = false
is_number (Err e) = false

pub no_number : (P : Type 0) (r : Result (Option ℤ) AllocError) (v : ℤ) → r ≡ Ok (Some v) → is_number r ≡ false → P
no_number P r v is not = absurd (true≢false (sym (ap is_number is) ∙ not))

-- and one that is no `Ok None`
abbrev pub is_nothing : {A : Type 0} → Result (Option A) AllocError → Bool
is_nothing (Ok None) = true
is_nothing (Ok (Some v)) = false
is_nothing (Err e) = false

pub no_none : {A : Type 0} (P : Type 0) (r : Result (Option A) AllocError) → r ≡ Ok None → is_nothing r ≡ false → P
no_none P r is not = absurd (true≢false (sym (ap is_nothing is) ∙ not))

-- what is found is not none
pub no_some : {A : Type 0} (P : Type 0) (x : A) → ◌≡◌ {A = Option A} (Some x) None → P
no_some P x e = absurd (cc e)

-- and a failure is no success
pub no_err : {T : Type 0} (P : Type 0) (r : Result T AllocError) (v : T) → r ≡ Ok v → IsErr r → P
no_err P r v is err = absurd (true≢false (sym err ∙ ap is_err is))
