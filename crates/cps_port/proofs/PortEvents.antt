-- What an event of an actor means to its port.
use Rattle.std.proofs.Common.{◌≡◌, ℕ, ◌+◌, ◌-◌, ◌<◌, ◌≤◌, ◌^◌, nat_lt, Bool, true, false, if◌then◌else◌, ℤ, Option, Some, None, List, [], ◌∷◌, ◌++◌, take, replicate, length, set, sym, refl, ap, ◌∙◌, subst, arith, get_or-set_same}
use Rattle.std.specs.Prelude.{Contains, IsTrue}
use Rattle.std.proofs.lemmas.Bool.Decides.{nat_tests}
use mathlib.Core.Logic.{dite}
use native.Mathlib.Decide.{dec_le}
use Rattle.cps_model.specs.declared.bound.Bound.{Bound}
use Rattle.cps_model.specs.declared.bound.Bound.TheVariants.{At, Infinite}
use Rattle.cps_model.specs.declared.model.CpModel.{CpModel}
use Rattle.cps_literal.specs.declared.atom.Atom.{Atom}
use Rattle.cps_literal.specs.Truth.{clause_holds}
use Rattle.cps_port.specs.declared.entry.Entry.{Entry}
use Rattle.cps_port.specs.declared.event.Event.TheVariants.{Draw, Look, Offer, Raise, SeeUpper, SeeLower}
use Rattle.cps_port.specs.declared.part.BoardPart.{BoardPart}
use Rattle.cps_port.specs.declared.part.BoundsPart.{BoundsPart}
use Rattle.cps_port.specs.Order.{BoundLe, Rises, lesser, greater}
use Rattle.cps_port.specs.Incumbents.{HoldsBelow, IsIncumbent, IsLowerBound}
use Rattle.cps_port.specs.Entries.{most_atoms, blank, entry_of, entry_clause, IsShareable}
use Rattle.cps_port.specs.Parts.{no_rows, no_bounds, with_row, with_past, with_misses, after_upper, after_lower, after_offer, after_raise}
use Rattle.cps_port.specs.Says.{TookEntry, FoundClosed}
use Rattle.cps_port.specs.Shared.{BoundsState, Shared, board_part, bounds_part, row_at, next_row, row_drawn, counted, drawn_by, looked_by, actor_count, after, MayPublish, MayRaise}
use Rattle.cps_port.specs.Sound.{IsSoundShared}

same_some : {X : Type 0} (x y : X) → Some x ≡ Some y → x ≡ y
same_some x y e = cc

none_some : {X : Type 0} (x : X) → None ≡ Some x → ⊥
none_some x e = cc

counted_by : (n : ℕ) (t : Bool) → (if t then n + 1 else n) ≡ n + 1 → t ≡ true
counted_by n true e = refl
counted_by n false e = absurd (omega arith)

pub counted_rises : (n : ℕ) → Rises n (counted n)
counted_rises n = dite (dec_le (2 ^ 64 - 1) n) (λ h. let e : counted n ≡ n = ap (λ (t : Bool). if t then n + 1 else n) (let q : nat_lt n (2 ^ 64 - 1) ≡ false = not_below n (2 ^ 64 - 1) h in q) in record { rose = λ l. absurd (omega arith); never_falls = omega arith })
    (λ h. let e : counted n ≡ n + 1 = ap (λ (t : Bool). if t then n + 1 else n) (let q : nat_lt n (2 ^ 64 - 1) ≡ true = is_below n (2 ^ 64 - 1) (omega arith) in q) in record { rose = λ _. e; never_falls = omega arith }) where
      is_below : (n c : ℕ) → n < c → nat_lt n c ≡ true
      is_below n c h = grind (arith, nat_tests)

      not_below : (n c : ℕ) → c ≤ n → nat_lt n c ≡ false
      not_below n c h = grind (arith, nat_tests)

below_infinite : (b : Bound) → BoundLe b Infinite
below_infinite (At x) = tt
below_infinite Infinite = tt

-- a lower bound may be raised to, with no incumbent and no entry
pub may_raise : (m : CpModel) (p : BoardPart) (l : Bound) → IsLowerBound m l → MayRaise m p l
unfolding IsIncumbent IsLowerBound
may_raise m p l floor = record { better_than = Infinite; incumbent = tt; within = below_infinite l; follows = λ a s _ _. floor a s }

pub take-front : (c more : List Atom) → take (length c) (c ++ more) ≡ c
take-front [] more = refl
take-front (t ∷ ts) more = ap (λ (l : List Atom). t ∷ l) (take-front ts more)

-- a shared clause may be published in the row that was drawn for it
pub may_publish : (c d : Shared) (i row : ℕ) (below : Bound) (clause : List Atom) (e : Entry) → i < actor_count c → d ≡ after c i Draw → Some row ≡ row_drawn c.board → e ≡ entry_of row below clause
    → IsShareable c.model clause → HoldsBelow c.model below clause → IsIncumbent c.model below → MayPublish d.model (board_part d.board i) e
unfolding HoldsBelow
may_publish c d i row below clause e h is drawn entry fits holds shown =
    let same : entry_clause (entry_of row below clause) ≡ clause = take-front clause (replicate (most_atoms - length clause) blank) in
    let part : board_part (after c i Draw).board i ≡ drawn_by (board_part c.board i) c.board.next (length c.board.rows) = get_or-set_same c.board.parts i (drawn_by (board_part c.board i) c.board.next (length c.board.rows)) no_rows h in
    let made : MayPublish c.model (board_part (after c i Draw).board i) (entry_of row below clause) = record {
      drawn = ap (λ (p : BoardPart). p.drawn) part ∙ sym (drawn ∙ row_of (nat_lt c.board.next (length c.board.rows)) (board_part c.board i) c.board.next row drawn);
      fits = fits.few;
      clause = subst (IsShareable c.model) (sym same) fits;
      incumbent = shown;
      follows = λ a free less _. subst (λ (l : List Atom). IsTrue (clause_holds l a)) (sym same) (holds a free less);
    } in
    subst (λ (x : Shared). MayPublish x.model (board_part x.board i) e) (sym is) (subst (MayPublish c.model (board_part (after c i Draw).board i)) (sym entry) made) where
      row_of : (t : Bool) (p : BoardPart) (next row : ℕ) → Some row ≡ (if t then Some next else None) → (if t then Some next else None) ≡ (if t then with_row p next else with_past p).drawn
      row_of true p next row e = refl
      row_of false p next row e = absurd (none_some row (sym e))

module _ (c d : Shared) (i : ℕ) (sound : IsSoundShared c) (h : i < actor_count c) where
  among : i < length c.bounds.parts
  among = let b = sound.both in omega arith

  -- the part of the actor after its event on the bounds
  bounds_here : (p : BoundsPart) (u l : Bound) → d.bounds ≡ record { upper = u; lower = l; parts = set c.bounds.parts i p } → bounds_part d.bounds i ≡ p
  bounds_here p u l e = ap (λ (s : BoundsState). bounds_part s i) e ∙ get_or-set_same c.bounds.parts i p no_bounds among

  pub upper_part : (b : Bound) → d ≡ after c i SeeUpper → b ≡ c.bounds.upper → (bounds_part d.bounds i ≡ after_upper (bounds_part c.bounds i) b (bounds_part d.bounds i).upper_loads) × Rises (bounds_part c.bounds i).upper_loads (bounds_part d.bounds i).upper_loads
  upper_part b e is =
      let p : BoundsPart = bounds_part c.bounds i in
      let q : BoundsPart = after_upper p c.bounds.upper (counted p.upper_loads) in
      let here : bounds_part d.bounds i ≡ q = bounds_here q c.bounds.upper c.bounds.lower (ap (λ (x : Shared). x.bounds) e) in
      (here ∙ sym (ap (λ (x : BoundsPart). after_upper p b x.upper_loads) here ∙ ap (λ (x : Bound). after_upper p x (counted p.upper_loads)) is), subst (λ (x : BoundsPart). Rises p.upper_loads x.upper_loads) (sym here) (counted_rises p.upper_loads))

  pub lower_part : (b : Bound) → d ≡ after c i SeeLower → b ≡ c.bounds.lower → (bounds_part d.bounds i ≡ after_lower (bounds_part c.bounds i) b (bounds_part d.bounds i).lower_loads) × Rises (bounds_part c.bounds i).lower_loads (bounds_part d.bounds i).lower_loads
  lower_part b e is =
      let p : BoundsPart = bounds_part c.bounds i in
      let q : BoundsPart = after_lower p c.bounds.lower (counted p.lower_loads) in
      let here : bounds_part d.bounds i ≡ q = bounds_here q c.bounds.upper c.bounds.lower (ap (λ (x : Shared). x.bounds) e) in
      (here ∙ sym (ap (λ (x : BoundsPart). after_lower p b x.lower_loads) here ∙ ap (λ (x : Bound). after_lower p x (counted p.lower_loads)) is), subst (λ (x : BoundsPart). Rises p.lower_loads x.lower_loads) (sym here) (counted_rises p.lower_loads))

  pub offer_part : (v : ℤ) (b : Bound) → d ≡ after c i (Offer v) → b ≡ lesser c.bounds.upper (At v) → bounds_part d.bounds i ≡ after_offer (bounds_part c.bounds i) (At v) b
  offer_part v b e is =
      let p : BoundsPart = bounds_part c.bounds i in let u : Bound = lesser c.bounds.upper (At v) in
      bounds_here (after_offer p (At v) u) u c.bounds.lower (ap (λ (x : Shared). x.bounds) e) ∙ ap (after_offer p (At v)) (sym is)

  pub raise_part : (l b : Bound) → d ≡ after c i (Raise l) → b ≡ greater c.bounds.lower l → bounds_part d.bounds i ≡ after_raise (bounds_part c.bounds i) l b
  raise_part l b e is =
      let p : BoundsPart = bounds_part c.bounds i in let g : Bound = greater c.bounds.lower l in
      bounds_here (after_raise p l g) c.bounds.upper g (ap (λ (x : Shared). x.bounds) e) ∙ ap (after_raise p l) (sym is)

  looked : (r : Option Entry) → d ≡ after c i Look → r ≡ next_row c.board i → board_part d.board i ≡ looked_by (board_part c.board i) r
  looked r e is = ap (λ (x : Shared). board_part x.board i) e ∙ (get_or-set_same c.board.parts i (looked_by (board_part c.board i) (next_row c.board i)) no_rows h ∙ ap (looked_by (board_part c.board i)) (sym is))

  -- an entry of the actor's own in this row is the row's
  own_row : (x : Entry) → Contains (board_part c.board i).mine x → x.row ≡ length (board_part c.board i).taken → next_row c.board i ≡ Some x
  own_row x mine row = ap (row_at c.board) (sym row) ∙ sound.board.mine i x mine

  pub took : (e : Entry) → d ≡ after c i Look → Some e ≡ next_row c.board i → length (board_part c.board i).taken < length c.board.rows → TookEntry c.model (length c.board.rows) (board_part c.board i) (board_part d.board i) e
  took e is next left = let r = sound.board.rows (length (board_part c.board i).taken) e (sym next) in record {
    left = left;
    next = r.0;
    sound = r.1;
    own = λ x mine row. same_some x e (sym (own_row x mine row) ∙ sym next);
    takes = looked (Some e) is next;
  }

  pub found_closed : d ≡ after c i Look → None ≡ next_row c.board i → length (board_part c.board i).taken < length c.board.rows → FoundClosed (length c.board.rows) (board_part c.board i) (board_part d.board i)
  found_closed is next left = let p : BoardPart = board_part c.board i in let e = looked None is next in record {
    left = left;
    foreign = λ x mine row. none_some x (next ∙ own_row x mine row);
    misses = subst (λ (q : BoardPart). Rises p.misses q.misses) (sym e) (counted_rises p.misses);
    counts = e ∙ sym (ap (λ (q : BoardPart). with_misses p q.misses) e);
  }
