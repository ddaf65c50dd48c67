-- Events on the board keep it sound.
use Rattle.std.proofs.Common.{◌≡◌, ◌≢◌, ℕ, zero, suc, ◌+◌, ◌<◌, ◌≤◌, ◌==◌, nat_lt, ◌⊎◌, ⊎_elim, inl, inr, Bool, true, false, if◌then◌else◌, ℤ, ◌≤ℤ◌, ◌<ℤ◌, Option, Some, None, List, [], ◌∷◌, ◌++◌, map, take, length, get_or, set, sym, refl, ap, ◌∙◌, subst, arith, get_or-set_same, get_or-set_other, length-set, length-append}
use Rattle.std.specs.Prelude.{Contains, IsTrue}
use Rattle.std.proofs.lemmas.Int.{ints}
use Rattle.std.proofs.lemmas.Bool.Decides.{nat_tests}
use Rattle.std.proofs.lemmas.List.{take-set-le, take_more, map-append}
use Rattle.std.proofs.lemmas.List.Elements.{Contains-append_cases}
use borrow.Author.Differences.{up, down}
use mathlib.Core.Logic.{dite}
use native.Mathlib.Decide.{dec_le, ℕ_discrete}
use Rattle.cps_model.specs.declared.bound.Bound.{Bound}
use Rattle.cps_model.specs.declared.bound.Bound.TheVariants.{At, Infinite}
use Rattle.cps_model.specs.declared.model.CpModel.{CpModel}
use Rattle.cps_model.specs.Solutions.{objective_value, IsFree, IsSolution}
use Rattle.cps_model.specs.Statuses.{IsAtMost}
use Rattle.cps_literal.specs.Truth.{clause_holds}
use Rattle.cps_port.specs.declared.entry.Entry.{Entry}
use Rattle.cps_port.specs.declared.event.Event.TheVariants.{Draw, Publish, Look}
use Rattle.cps_port.specs.declared.part.BoardPart.{BoardPart}
use Rattle.cps_port.specs.Order.{BoundLe, IsBelow}
use Rattle.cps_port.specs.Incumbents.{HoldsBelow, IsLowerBound}
use Rattle.cps_port.specs.Entries.{entry_clause, IsSoundEntry}
use Rattle.cps_port.specs.Parts.{no_rows, with_row, with_past, with_mine, with_taken, with_misses}
use Rattle.cps_port.specs.Totals.{total, one_if, times}
use Rattle.cps_port.specs.Shared.{BoardState, board_part, row_at, next_row, counted, looked_by, board_after, AreTrueBelow, MayPublish, MayRaise}
use Rattle.cps_port.specs.Sound.{owners, IsSoundBoard}
use Rattle.cps_port.specs.Kept.{IsDrawn, full_count, BoardKept}
use Rattle.cps_port.proofs.Lists.{at_each, total-set, total-none, one_if-same, one_if-other, times-append, times-none}

not_none : {X : Type 0} (x : X) → None ≡ Some x → ⊥
not_none x e = cc

same_some : {X : Type 0} (x y : X) → Some x ≡ Some y → x ≡ y
same_some x y e = cc

-- what holds of each entry of the rows holds of the entries that were taken from their beginning
taken_all : (P : Entry → Type 0) (taken : List Entry) (rows : List (Option Entry)) → map Some taken ≡ take (length taken) rows → ((row : ℕ) (e : Entry) → get_or rows row None ≡ Some e → P e) → (k : ℕ) (d : Entry) → k < length taken → P (get_or taken k d)
taken_all P [] rows e h k d l = absurd (omega arith)
taken_all P (t ∷ ts) [] e h k d l = cc
taken_all P (t ∷ ts) (r ∷ rs) e h zero d l = h 0 t (ap (λ (xs : List (Option Entry)). get_or xs 0 None) (sym e))
taken_all P (t ∷ ts) (r ∷ rs) e h (suc k) d l = taken_all P ts rs (let tails : map Some ts ≡ take (length ts) rs = cc in tails) (λ row f g. h (suc row) f g) k d (omega arith)

-- a row that is closed was not taken
pub taken_before : (taken : List Entry) (rows : List (Option Entry)) (row : ℕ) → map Some taken ≡ take (length taken) rows → get_or rows row None ≡ None → length taken ≤ row
taken_before [] rows row e h = omega arith
taken_before (t ∷ ts) [] row e h = cc
taken_before (t ∷ ts) (r ∷ rs) zero e h = absurd (not_none t (sym h ∙ ap (λ (xs : List (Option Entry)). get_or xs 0 None) (sym e)))
taken_before (t ∷ ts) (r ∷ rs) (suc row) e h = let g = taken_before ts rs row (let tails : map Some ts ≡ take (length ts) rs = cc in tails) h in omega arith

below_more : (v : ℤ) (a b : Bound) → IsBelow v a → BoundLe a b → IsBelow v b
below_more v (At x) (At y) p q = omega (arith, ints)
below_more v (At x) Infinite p q = tt
below_more v Infinite (At y) p q = absurd q
below_more v Infinite Infinite p q = tt

below_or : (v y : ℤ) → (v <ℤ y) ⊎ (y ≤ℤ v)
below_or v y = dite (dec_le (up y + down v) (up v + down y)) (λ h. inr (omega (arith, ints))) (λ h. inl (omega (arith, ints)))

module _ (m : CpModel) (b : BoardState) (s : IsSoundBoard m b) (i : ℕ) where
  -- what an actor took is true where it holds
  taken_true : (z : Bound) (a : List ℤ) → IsFree m a → IsBelow (objective_value m a) z → AreTrueBelow (board_part b i).taken z a
  unfolding HoldsBelow
  taken_true z a free below = taken_all (λ (e : Entry). BoundLe z e.below → IsTrue (clause_holds (entry_clause e) a)) (board_part b i).taken b.rows (s.taken i)
      (λ row e h less. (s.rows row e h).1.holds a free (below_more (objective_value m a) z e.below below less))

  pub published_sound : (e : Entry) → MayPublish m (board_part b i) e → IsSoundEntry m e
  unfolding HoldsBelow
  published_sound e may = record { fits = may.fits; clause = may.clause; holds = λ a free below. may.follows a free below (taken_true e.below a free below); incumbent = may.incumbent }

  raised_floor : (l z : Bound) → BoundLe l z → ((a : List ℤ) → IsSolution m a → IsBelow (objective_value m a) z → IsAtMost l (objective_value m a)) → IsLowerBound m l
  unfolding IsLowerBound
  raised_floor (At x) (At y) less follows a sol = ⊎_elim (λ h. follows a sol h) (λ n. omega (arith, ints)) (below_or (objective_value m a) y)
  raised_floor (At x) Infinite less follows a sol = follows a sol tt
  raised_floor Infinite (At y) less follows a sol = absurd less
  raised_floor Infinite Infinite less follows a sol = follows a sol tt

  pub raise_sound : (l : Bound) → MayRaise m (board_part b i) l → IsLowerBound m l
  raise_sound l may = raised_floor l may.better_than may.within (λ a sol below. may.follows a sol below (taken_true may.better_than a sol.free below))

part_of_row : (r : Option Entry) → ((e : Entry) → r ≡ Some e → ⊥) → r ≡ None
part_of_row None h = refl
part_of_row (Some e) h = absurd (h e refl)

is_below : (n c : ℕ) → n < c → nat_lt n c ≡ true
is_below n c h = grind (arith, nat_tests)

not_below : (n c : ℕ) → c ≤ n → nat_lt n c ≡ false
not_below n c h = grind (arith, nat_tests)

only : (e x : Entry) → Contains (e ∷ []) x → e ≡ x
only e x (zero, h, is) = is
only e x (suc n, h, is) = absurd (omega arith)

module _ (m : CpModel) (b : BoardState) (k : BoardKept m b) (i : ℕ) (h : i < length b.parts) where
  abbrev P : BoardPart
  P = board_part b i

  -- an actor whose row is drawn or whose entries are taken keeps what it published
  same_owners : (p : BoardPart) (row : ℕ) → p.mine ≡ P.mine → owners row (set b.parts i p) ≡ owners row b.parts
  same_owners p row e =
      let f = λ (q : BoardPart). times (λ (x : Entry). x.row) row q.mine in
      let t = total-set f b.parts i p no_rows h in
      let q : f p ≡ f P = ap (λ (l : List Entry). times (λ (x : Entry). x.row) row l) e in
      omega arith

  -- where no row changes and no actor publishes
  unpublished : (p : BoardPart) → p.mine ≡ P.mine → map Some p.taken ≡ take (length p.taken) b.rows → IsSoundBoard m (record b { parts = set b.parts i p })
  unpublished p e t = record {
    rows = k.sound.rows;
    taken = λ j. at_each b.parts i p no_rows j (λ (q : BoardPart). map Some q.taken ≡ take (length q.taken) b.rows) h (λ _. t) (λ _. k.sound.taken j);
    owned = λ row x g. same_owners p row e ∙ k.sound.owned row x g;
    mine = λ j x. at_each b.parts i p no_rows j (λ (q : BoardPart). Contains q.mine x → row_at b x.row ≡ Some x) h (λ _ c. k.sound.mine i x (subst (λ (l : List Entry). Contains l x) e c)) (λ _ c. k.sound.mine j x c);
  }

  full_set : (p : BoardPart) → total full_count (set b.parts i p) + full_count P ≡ total full_count b.parts + full_count p
  full_set p = total-set full_count b.parts i p no_rows h

  draws_row : P.drawn ≡ None → b.next < length b.rows → BoardKept m (record b { parts = set b.parts i (with_row P b.next); next = b.next + 1 })
  draws_row idle room =
      let p : BoardPart = with_row P b.next in
      let fresh : row_at b b.next ≡ None = part_of_row (row_at b b.next) (λ e g. let l = k.claimed b.next e g in absurd (omega arith)) in
      let b' : BoardState = record b { parts = set b.parts i p; next = b.next + 1 } in
      let older : (j row : ℕ) → (board_part b j).drawn ≡ Some row → IsDrawn b' row = λ j row e. let d = k.drawn j row e in let c = d.claimed in record { within = d.within; claimed = omega arith; closed = d.closed } in
      let sound = unpublished p refl (k.sound.taken i) in record {
        sound = record { rows = sound.rows; taken = sound.taken; owned = sound.owned; mine = sound.mine };
        next = omega arith;
        claimed = λ row e g. let l = k.claimed row e g in omega arith;
        drawn = λ j row. at_each b.parts i p no_rows j (λ (q : BoardPart). q.drawn ≡ Some row → IsDrawn b' row) h
            (λ _ e. let same : b.next ≡ row = same_some b.next row e in subst (IsDrawn b') same (record { within = room; claimed = omega arith; closed = fresh })) (λ _ e. older j row e);
        apart = λ j l row. at_each b.parts i p no_rows j (λ (q : BoardPart). q.drawn ≡ Some row → (board_part b' l).drawn ≡ Some row → j ≡ l) h
            (λ first e. at_each b.parts i p no_rows l (λ (q : BoardPart). q.drawn ≡ Some row → j ≡ l) h (λ second _. first ∙ sym second) (λ _ g. let d = (k.drawn l row g).claimed in let same : b.next ≡ row = same_some b.next row e in absurd (omega arith)))
            (λ _ e. at_each b.parts i p no_rows l (λ (q : BoardPart). q.drawn ≡ Some row → j ≡ l) h (λ _ g. let d = (k.drawn j row e).claimed in let same : b.next ≡ row = same_some b.next row g in absurd (omega arith)) (λ _ g. k.apart j l row e g));
      }

  draws_past : P.full ≡ false → BoardKept m (record b { parts = set b.parts i (with_past P); next = b.next + 1 })
  draws_past open_ =
      let p : BoardPart = with_past P in
      let sound = unpublished p refl (k.sound.taken i) in
      let was : full_count P ≡ 0 = ap one_if open_ in record {
        sound = record { rows = sound.rows; taken = sound.taken; owned = sound.owned; mine = sound.mine };
        next = let t = full_set p in let n = k.next in omega arith;
        claimed = λ row e g. let l = k.claimed row e g in omega arith;
        drawn = λ j row. at_each b.parts i p no_rows j (λ (q : BoardPart). q.drawn ≡ Some row → IsDrawn (record b { parts = set b.parts i p; next = b.next + 1 }) row) h
            (λ _ e. let d = k.drawn i row e in let c = d.claimed in record { within = d.within; claimed = omega arith; closed = d.closed }) (λ _ e. let d = k.drawn j row e in let c = d.claimed in record { within = d.within; claimed = omega arith; closed = d.closed });
        apart = λ j l row. at_each b.parts i p no_rows j (λ (q : BoardPart). q.drawn ≡ Some row → (get_or (set b.parts i p) l no_rows).drawn ≡ Some row → j ≡ l) h
            (λ first e. at_each b.parts i p no_rows l (λ (q : BoardPart). q.drawn ≡ Some row → j ≡ l) h (λ second _. first ∙ sym second) (λ _ g. first ∙ k.apart i l row e g))
            (λ _ e. at_each b.parts i p no_rows l (λ (q : BoardPart). q.drawn ≡ Some row → j ≡ l) h (λ second g. k.apart j i row e g ∙ sym second) (λ _ g. k.apart j l row e g));
      }

  pub keeps_draw : P.full ≡ false → P.drawn ≡ None → BoardKept m (board_after b i Draw)
  keeps_draw open_ idle = dite (dec_le (length b.rows) b.next) (λ past. subst (λ (t : Bool). BoardKept m (record b { parts = set b.parts i (if t then with_row P b.next else with_past P); next = b.next + 1 })) (sym (not_below b.next (length b.rows) past)) (draws_past open_))
      (λ room. subst (λ (t : Bool). BoardKept m (record b { parts = set b.parts i (if t then with_row P b.next else with_past P); next = b.next + 1 })) (sym (is_below b.next (length b.rows) (omega arith))) (draws_row idle (omega arith)))

  -- where an actor looks, and nothing but what it took and its misses change
  looked : (p : BoardPart) → p.mine ≡ P.mine → p.drawn ≡ P.drawn → p.full ≡ P.full → map Some p.taken ≡ take (length p.taken) b.rows → BoardKept m (record b { parts = set b.parts i p })
  looked p mine drawn full taken =
      let old : (j row : ℕ) → (board_part b j).drawn ≡ Some row → IsDrawn (record b { parts = set b.parts i p }) row = λ j row e. let d = k.drawn j row e in record { within = d.within; claimed = d.claimed; closed = d.closed } in record {
        sound = unpublished p mine taken;
        next = let t = full_set p in let e : full_count p ≡ full_count P = ap one_if full in let n = k.next in omega arith;
        claimed = k.claimed;
        drawn = λ j row. at_each b.parts i p no_rows j (λ (q : BoardPart). q.drawn ≡ Some row → IsDrawn (record b { parts = set b.parts i p }) row) h (λ _ e. old i row (sym drawn ∙ e)) (λ _ e. old j row e);
        apart = λ j l row. at_each b.parts i p no_rows j (λ (q : BoardPart). q.drawn ≡ Some row → (get_or (set b.parts i p) l no_rows).drawn ≡ Some row → j ≡ l) h
            (λ first e. at_each b.parts i p no_rows l (λ (q : BoardPart). q.drawn ≡ Some row → j ≡ l) h (λ second _. first ∙ sym second) (λ _ g. first ∙ k.apart i l row (sym drawn ∙ e) g))
            (λ _ e. at_each b.parts i p no_rows l (λ (q : BoardPart). q.drawn ≡ Some row → j ≡ l) h (λ second g. k.apart j i row e (sym drawn ∙ g) ∙ sym second) (λ _ g. k.apart j l row e g));
      }

  one_taken : (e : Entry) → length P.taken < length b.rows → row_at b (length P.taken) ≡ Some e → map Some (P.taken ++ e ∷ []) ≡ take (length (P.taken ++ e ∷ [])) b.rows
  one_taken e left g =
      let more : take (length P.taken + 1) b.rows ≡ take (length P.taken) b.rows ++ row_at b (length P.taken) ∷ [] = take_more b.rows (length P.taken) None left in
      map-append Some P.taken (e ∷ []) ∙ (ap (λ (l : List (Option Entry)). l ++ Some e ∷ []) (k.sound.taken i) ∙ (ap (λ (r : Option Entry). take (length P.taken) b.rows ++ r ∷ []) (sym g) ∙ (sym more ∙ ap (λ (n : ℕ). take n b.rows) (sym (length-append P.taken (e ∷ []))))))

  looks_at : (r : Option Entry) → row_at b (length P.taken) ≡ r → length P.taken < length b.rows → BoardKept m (record b { parts = set b.parts i (looked_by P r) })
  looks_at None g left = looked (with_misses P (counted P.misses)) refl refl refl (k.sound.taken i)
  looks_at (Some e) g left = looked (with_taken P e) refl refl refl (one_taken e left g)

  pub keeps_look : length P.taken < length b.rows → BoardKept m (board_after b i Look)
  keeps_look left = looks_at (next_row b i) refl left

  -- a row that is not published is no actor's
  no_owner : (row : ℕ) → row_at b row ≡ None → owners row b.parts ≡ 0
  no_owner row closed = total-none (λ (q : BoardPart). times (λ (x : Entry). x.row) row q.mine) b.parts no_rows
      (λ j. times-none (λ (x : Entry). x.row) row (board_part b j).mine (λ x c e. not_none x (sym closed ∙ (ap (row_at b) (sym e) ∙ k.sound.mine j x c))))

  pub keeps_publish : (e : Entry) → MayPublish m P e → BoardKept m (board_after b i (Publish e))
  keeps_publish e may =
      let row : ℕ = e.row in
      let d = k.drawn i row may.drawn in
      let p : BoardPart = with_mine P e in
      let rows' : List (Option Entry) = set b.rows row (Some e) in
      let same : get_or rows' row None ≡ Some e = get_or-set_same b.rows row (Some e) None d.within in
      let others : (r : ℕ) → r ≢ row → get_or rows' r None ≡ row_at b r = λ r n. get_or-set_other b.rows row r (Some e) None n in
      let apart_from : (r : ℕ) (x : Entry) → row_at b r ≡ Some x → r ≢ row = λ r x g n. not_none x (sym d.closed ∙ (ap (row_at b) (sym n) ∙ g)) in
      let still : (r : ℕ) (x : Entry) → row_at b r ≡ Some x → get_or rows' r None ≡ Some x = λ r x g. others r (apart_from r x g) ∙ g in
      let prefix : (j : ℕ) → map Some (board_part b j).taken ≡ take (length (board_part b j).taken) rows' = λ j. k.sound.taken j ∙ sym (take-set-le (length (board_part b j).taken) b.rows row (Some e) (taken_before (board_part b j).taken b.rows row (k.sound.taken j) d.closed)) in
      let b' : BoardState = record { rows = rows'; next = b.next; parts = set b.parts i p } in
      let drawn_still : (j r : ℕ) → j ≢ i → (board_part b j).drawn ≡ Some r → IsDrawn b' r = λ j r n g. let o = k.drawn j r g in let w = o.within in let long = length-set b.rows row (Some e) in
      record { within = omega arith; claimed = o.claimed; closed = others r (λ q. n (k.apart j i r g (may.drawn ∙ ap Some (sym q)))) ∙ o.closed } in
      let idle : (r : ℕ) → p.drawn ≡ Some r → ⊥ = λ r g. not_none r g in record {
        sound = record {
          rows = λ r x g. dite (ℕ_discrete r row) (λ q. let is : e ≡ x = same_some e x (sym same ∙ (ap (λ (n : ℕ). get_or rows' n None) (sym q) ∙ g)) in (ap (λ (y : Entry). y.row) (sym is) ∙ sym q, subst (IsSoundEntry m) is (published_sound m b k.sound i e may)))
              (λ n. k.sound.rows r x (sym (others r n) ∙ g));
          taken = λ j. at_each b.parts i p no_rows j (λ (q : BoardPart). map Some q.taken ≡ take (length q.taken) rows') h (λ _. prefix i) (λ _. prefix j);
          owned = λ r x g. let f = λ (q : BoardPart). times (λ (y : Entry). y.row) r q.mine in let t = total-set f b.parts i p no_rows h in let a = times-append (λ (y : Entry). y.row) r P.mine (e ∷ []) in
              dite (ℕ_discrete r row) (λ q. let none = no_owner r (ap (row_at b) q ∙ d.closed) in let one : one_if (e.row == r) ≡ 1 = ap (λ (n : ℕ). one_if (n == r)) (sym q) ∙ one_if-same r in omega arith)
              (λ n. let was = k.sound.owned r x (sym (others r n) ∙ g) in let zero_ : one_if (e.row == r) ≡ 0 = one_if-other e.row r (λ q. n (sym q)) in omega arith);
          mine = λ j x. at_each b.parts i p no_rows j (λ (q : BoardPart). Contains q.mine x → get_or rows' x.row None ≡ Some x) h
              (λ _ c. ⊎_elim (λ old. still x.row x (k.sound.mine i x old)) (λ new. let is : e ≡ x = only e x new in subst (λ (y : Entry). get_or rows' y.row None ≡ Some y) is same) (Contains-append_cases P.mine (e ∷ []) x c))
              (λ _ c. still x.row x (k.sound.mine j x c));
        };
        next = let t = full_set p in let n = k.next in let long = length-set b.rows row (Some e) in omega arith;
        claimed = λ r x g. dite (ℕ_discrete r row) (λ q. let c = d.claimed in omega arith) (λ n. k.claimed r x (sym (others r n) ∙ g));
        drawn = λ j r. at_each b.parts i p no_rows j (λ (q : BoardPart). q.drawn ≡ Some r → IsDrawn b' r) h (λ _ g. absurd (idle r g)) (λ n g. drawn_still j r n g);
        apart = λ j l r. at_each b.parts i p no_rows j (λ (q : BoardPart). q.drawn ≡ Some r → (board_part b' l).drawn ≡ Some r → j ≡ l) h (λ _ g. absurd (idle r g))
            (λ _ g. at_each b.parts i p no_rows l (λ (q : BoardPart). q.drawn ≡ Some r → j ≡ l) h (λ _ o. absurd (idle r o)) (λ _ o. k.apart j l r g o));
      }
