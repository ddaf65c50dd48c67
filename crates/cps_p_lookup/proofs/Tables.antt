-- What a table says of its rows.
use Rattle.std.specs.Prelude.{not}
use Rattle.std.proofs.Common.{◌≡◌, ◌≢◌, ℕ, zero, suc, ℤ, pos, ◌+◌, ◌*◌, ◌/◌, ◌<◌, ◌≤◌, Bool, true, false, List, [], ◌∷◌, ◌++◌, length, take, get_or, refl, sym, ap, ap₂, subst, ◌∙◌, arith, inl, inr}
use Rattle.std.proofs.Math.Nat.{le-div_iff_mul-le}
use Rattle.std.proofs.lemmas.Int.{ints}
use Rattle.std.proofs.lemmas.Bool.{cases_lt, cases_eq}
use Rattle.std.proofs.lemmas.List.{length-map, length-take, length-drop}
use Rattle.std.specs.List.{All, Contains}
use Rattle.std.proofs.lemmas.List.Elements.{All-nil, All-get_or, All-more, All-weaker, All-contains, Contains-push, Contains-append_left}
use Rattle.cps_domain.specs.Window.{equals}
use Rattle.cps_literal.specs.declared.atom.Atom.{Atom}
use Rattle.cps_literal.specs.declared.atom.Op.TheVariants.{Ne}
use Rattle.cps_literal.specs.Truth.{value_at, atom_holds, meets}
use Rattle.cps_model.specs.Lookups.{row_at, HasRow}
use Rattle.cps_instance.specs.declared.task.Body.TheVariants.{Table}
use Rattle.cps_instance.specs.Tasks.{HoldsBody}
use Rattle.cps_instance.specs.Parts.{values_at}
use Rattle.cps_trail.specs.Trail.{Trail, IsAdmitted, admits}
use Rattle.cps_propagate.specs.Now.{IsOpenTo, IsFixedNow, AreOpen}
use Rattle.cps_propagate.specs.Strength.{IsExcludedBody}
use Rattle.cps_propagate.specs.Lookups.{cell, IsOpenRowAt, IsSureAt, IsRowMissed}
use Rattle.cps_rule.specs.declared.rule.Narrowing.{Narrowing}
use Rattle.cps_rule.specs.Rules.{IsGiven, IsImpossible, IsAtRest}
use Rattle.cps_p_lookup.specs.Resting.{AreTrue, LeavesAtRest}
use Rattle.cps_p_lookup.specs.declared.index.Cell.{Cell}
use Rattle.cps_p_lookup.specs.Cells.{value_in, HasCell}
use Rattle.cps_p_lookup.specs.Tabling.{IsOpenRow, IsDeadRow, IsLive, HasEndRows, AreLive, ListsLive, IsSingle, HasOtherValue, IsBanned, IsMissed}

both_not : (b : Bool) → b ≡ true → b ≡ false → ⊥
both_not b p q = let e : true ≡ false = sym p ∙ q in cc

-- the value at a place of the list of values
pub value_get : (xs : List ℤ) (es : List ℕ) (k : ℕ) → k < length es → get_or (values_at xs es) k (pos 0) ≡ value_at xs (get_or es k 0)
value_get xs [] k l = absurd (omega arith)
value_get xs (e ∷ es) zero l = refl
value_get xs (e ∷ es) (suc k) l = value_get xs es k (omega (arith, l))

pub row_value : (xs : List ℤ) (es : List ℕ) (row : List ℤ) (k : ℕ) → k < length es → values_at xs es ≡ row → value_at xs (get_or es k 0) ≡ get_or row k (pos 0)
row_value xs es row k l e = sym (value_get xs es k l) ∙ ap (λ ns. get_or ns k (pos 0)) e

-- values that are those of a row at each place
pub same_row : (xs : List ℤ) (es : List ℕ) (row : List ℤ) → length row ≡ length es → ((k : ℕ) → k < length es → value_at xs (get_or es k 0) ≡ get_or row k (pos 0)) → values_at xs es ≡ row
same_row xs [] [] e h = refl
same_row xs [] (v ∷ row) e h = absurd (omega (arith, e))
same_row xs (i ∷ es) [] e h = absurd (omega (arith, e))
same_row xs (i ∷ es) (v ∷ row) e h = ap₂ (λ (z : ℤ) (zs : List ℤ). z ∷ zs) (h 0 (omega arith)) (same_row xs es row (omega (arith, e)) (λ k l. h (suc k) (omega (arith, l))))

-- the subjects' values are open where the store admits the list
pub admitted_open : (s : Trail) (es : List ℕ) (xs : List ℤ) → All (λ e. e < length s.first) es → IsAdmitted s.first s.entries xs → AreOpen s xs es
admitted_open s es xs f a = All-weaker (λ e. e < length s.first) (λ e. IsOpenTo s e (value_at xs e)) (λ e l. a e l) es f

pub row_open : (s : Trail) (es : List ℕ) (row : List ℤ) (xs : List ℤ) → AreOpen s xs es → values_at xs es ≡ row → IsOpenRow s es row
row_open s es row xs a e = record { at = λ k l. subst (λ v. IsOpenTo s (get_or es k 0) v) (row_value xs es row k l e) (All-get_or (λ i. IsOpenTo s i (value_at xs i)) es k 0 l a) }

pub row_not_dead : (s : Trail) (es : List ℕ) (row : List ℤ) → IsOpenRow s es row → IsDeadRow s es row → ⊥
row_not_dead s es row o d = both_not (admits s.first s.entries (get_or es d.column 0) (get_or row d.column (pos 0))) (o.at d.column d.within) d.dead

width_of : (xs : List ℤ) (es : List ℕ) → length (values_at xs es) ≡ length es
width_of xs es = length-map es (value_at xs)

has_row : (xs : List ℤ) (es : List ℕ) (values : List ℤ) → HasRow values (values_at xs es) → (r : ℕ) × ((r + 1) * length es ≤ length values) × (values_at xs es ≡ row_at (length es) values r)
has_row xs es values h = (h.row, subst (λ n. (h.row + 1) * n ≤ length values) (width_of xs es) h.within, sym h.same ∙ ap (λ n. row_at n values h.row) (width_of xs es))

row_has : (xs : List ℤ) (es : List ℕ) (values : List ℤ) (r : ℕ) → (r + 1) * length es ≤ length values → values_at xs es ≡ row_at (length es) values r → HasRow values (values_at xs es)
row_has xs es values r l e = record { row = r; within = subst (λ n. (r + 1) * n ≤ length values) (sym (width_of xs es)) l; same = ap (λ n. row_at n values r) (width_of xs es) ∙ sym e }

pub in_table : (xs : List ℤ) (es : List ℕ) (values : List ℤ) → 0 < length es → HoldsBody (Table es values false) xs → (r : ℕ) × ((r + 1) * length es ≤ length values) × (values_at xs es ≡ row_at (length es) values r)
in_table xs [] values p h = absurd (omega arith)
in_table xs (e ∷ es) values p h = has_row xs (e ∷ es) values h

pub table_in : (xs : List ℤ) (es : List ℕ) (values : List ℤ) (r : ℕ) → (r + 1) * length es ≤ length values → values_at xs es ≡ row_at (length es) values r → HoldsBody (Table es values false) xs
table_in xs [] values r l e = tt
table_in xs (i ∷ es) values r l e = row_has xs (i ∷ es) values r l e

pub not_in : (xs : List ℤ) (es : List ℕ) (values : List ℤ) (r : ℕ) → 0 < length es → HoldsBody (Table es values true) xs → (r + 1) * length es ≤ length values → values_at xs es ≡ row_at (length es) values r → ⊥
not_in xs [] values r p h l e = absurd (omega arith)
not_in xs (i ∷ es) values r p h l e = h (row_has xs (i ∷ es) values r l e)

pub none_in : (xs : List ℤ) (es : List ℕ) (values : List ℤ) → ((r : ℕ) → (r + 1) * length es ≤ length values → values_at xs es ≡ row_at (length es) values r → ⊥) → HoldsBody (Table es values true) xs
none_in xs [] values h = tt
none_in xs (i ∷ es) values h = λ has. (let r = has_row xs (i ∷ es) values has in h r.0 r.1 r.2)

-- there is room for a row before the last
pub row_inside : (n w row : ℕ) → 0 < w → row < n / w → (row + 1) * w ≤ n
row_inside n w row p l = (le-div_iff_mul-le p).0 (omega arith)

pub row_before : (n w row : ℕ) → 0 < w → (row + 1) * w ≤ n → row < n / w
row_before n w row p l = let h = (le-div_iff_mul-le {k = w} {x = row + 1} {y = n} p).1 l in omega arith

pub row_short : (n w row : ℕ) → 0 < w → (row + 1) * w ≤ n → row < n
row_short n zero row p l = absurd (omega arith)
row_short n (suc w) row p l = omega arith

-- the cells so far, one row more
pub live_push : (s : Trail) (es : List ℕ) (values : List ℤ) (cells : List Cell) (k : ℕ) (d : Cell) (old new : List ℕ) → k < length cells → new ≡ old ++ (get_or cells k d).row ∷ [] → All (λ (cell : Cell). IsLive s es values cell.row → Contains old cell.row) (take k cells)
    → All (λ (cell : Cell). IsLive s es values cell.row → Contains new cell.row) (take (k + 1) cells)
live_push s es values cells k d old new l is h =
    let n = (get_or cells k d).row in
    All-more (λ (cell : Cell). IsLive s es values cell.row → Contains new cell.row) cells k d l
    (All-weaker (λ (cell : Cell). IsLive s es values cell.row → Contains old cell.row) (λ (cell : Cell). IsLive s es values cell.row → Contains new cell.row)
    (λ cell has live. subst (λ (rs : List ℕ). Contains rs cell.row) (sym is) (Contains-append_left old (n ∷ []) cell.row (has live))) (take k cells) h)
    (λ live. subst (λ (rs : List ℕ). Contains rs n) (sym is) (Contains-push old n))

pub live_skip : (s : Trail) (es : List ℕ) (values : List ℤ) (cells : List Cell) (k : ℕ) (d : Cell) (rows : List ℕ) (row : List ℤ) → k < length cells → row ≡ row_at (length es) values (get_or cells k d).row → IsDeadRow s es row → All (λ (cell : Cell). IsLive s es values cell.row → Contains rows cell.row) (take k cells)
    → All (λ (cell : Cell). IsLive s es values cell.row → Contains rows cell.row) (take (k + 1) cells)
live_skip s es values cells k d rows row l is dead h = All-more (λ (cell : Cell). IsLive s es values cell.row → Contains rows cell.row) cells k d l h (λ live. absurd (row_not_dead s es row (subst (λ (w : List ℤ). IsOpenRow s es w) (sym is) live.open_row) dead))

pub live_one : (s : Trail) (es : List ℕ) (values : List ℤ) (n : ℕ) (row : List ℤ) → row ≡ row_at (length es) values n → (n + 1) * length es ≤ length values → IsOpenRow s es row → IsLive s es values n
live_one s es values n row is l o = record { within = l; open_row = subst (λ (w : List ℤ). IsOpenRow s es w) is o }

pub live_all : (s : Trail) (es : List ℕ) (values : List ℤ) (c : ℕ) (cells : List Cell) (rows : List ℕ) → ((r : ℕ) → IsLive s es values r → HasCell (length es) values c r cells) → ListsLive s es values cells rows → AreLive s es values rows
live_all s es values c cells rows listed h = record { each = h.each; every = λ r live. All-contains (λ (cell : Cell). IsLive s es values cell.row → Contains rows cell.row) cells (record { column = c; value = value_in (length es) values c r; row = r }) h.every (listed r live) live }

pub live_long : (s : Trail) (es : List ℕ) (values : List ℤ) (rows : List ℕ) → AreLive s es values rows → All (λ r. (r + 1) * length es ≤ length values) rows
live_long s es values rows h = All-weaker (IsLive s es values) (λ r. (r + 1) * length es ≤ length values) (λ r l. l.within) rows h.each

-- an atom that each live row meets at a column
pub column_given : (s : Trail) (es : List ℕ) (values : List ℤ) (rows : List ℕ) (c : ℕ) (u : Atom) → c < length es → All (λ e. e < length s.first) es → AreLive s es values rows → u.subject ≡ get_or es c 0
    → All (λ r. meets u.op u.value (get_or (row_at (length es) values r) c (pos 0)) ≡ true) rows → IsGiven (Table es values false) s u
column_given s es values rows c u l f live at met = record {
  subject = subst (λ n. n < length s.first) (sym at) (All-get_or (λ e. e < length s.first) es c 0 l f);
  at = λ xs a holds.
      let r = in_table xs es values (omega arith) holds in
      let row = row_at (length es) values r.0 in
      let is : IsLive s es values r.0 = record { within = r.1; open_row = row_open s es row xs (admitted_open s es xs f a) r.2 } in
      let m = All-contains (λ n. meets u.op u.value (get_or (row_at (length es) values n) c (pos 0)) ≡ true) rows r.0 met (live.every r.0 is) in
      ap (λ j. meets u.op u.value (value_at xs j)) at ∙ ap (λ v. meets u.op u.value v) (row_value xs es row c l r.2) ∙ m;
}

pub none_live : (s : Trail) (es : List ℕ) (values : List ℤ) (rows : List ℕ) → 0 < length es → All (λ e. e < length s.first) es → AreLive s es values rows → length rows ≡ 0 → IsImpossible (Table es values false) s
none_live s es values [] p f live none = record {
  at = λ xs a holds.
      let r = in_table xs es values p holds in
      let is : IsLive s es values r.0 = record { within = r.1; open_row = row_open s es (row_at (length es) values r.0) xs (admitted_open s es xs f a) r.2 } in
      All-contains (λ n. ⊥) [] r.0 (All-nil (λ n. ⊥)) (live.every r.0 is);
}
none_live s es values (r ∷ rows) p f live none = absurd (omega (arith, none))

row_long : (w : ℕ) (values : List ℤ) (r : ℕ) → (r + 1) * w ≤ length values → length (row_at w values r) ≡ w
row_long w values r l = let e : (r + 1) * w ≡ r * w + w = omega arith in simp (length-take, length-drop) (omega arith)

-- a row that is left may be had
open_at : (s : Trail) (es : List ℕ) (values : List ℤ) (r : ℕ) → IsLive s es values r → IsOpenRowAt s es values r
open_at s es values r is = record { within = is.within; possible = is.open_row.at }

pub ends_seen : (s : Trail) (es : List ℕ) (values : List ℤ) → 0 < length es → HasEndRows s es values (length es) → IsExcludedBody (Table es values false) s → ⊥
ends_seen s es values p h excluded = let one = (h 0 p).some in excluded one.0 (open_at s es values one.0 one.1)

pub live_seen : (s : Trail) (es : List ℕ) (values : List ℤ) (rows : List ℕ) → AreLive s es values rows → 0 < length rows → IsExcludedBody (Table es values false) s → ⊥
live_seen s es values rows live some excluded = let r = get_or rows 0 0 in excluded r (open_at s es values r (All-get_or (IsLive s es values) rows 0 0 some live.each))

-- a row that is left is that of all values where they are fixed
pub ends_rest : (s : Trail) (es : List ℕ) (values : List ℤ) → 0 < length es → HasEndRows s es values (length es) → IsAtRest (Table es values false) s
ends_rest s es values p h =
    let one = (h 0 p).some in
    let r = one.0 in
    let is = one.1 in
    record {
      decided = λ fixed xs left.
          (let row = row_at (length es) values r in
          table_in xs es values r is.within (same_row xs es row (row_long (length es) values r is.within) (λ k l.
          All-get_or (IsFixedNow s) es k 0 l fixed (value_at xs (get_or es k 0)) (get_or row k (pos 0)) (All-get_or (λ i. IsOpenTo s i (value_at xs i)) es k 0 l left) (is.open_row.at k l))));
      strong = record {
        some = (r, open_at s es values r is);
        ends = λ k v l e. (let at = (h k l).at v e in (at.0, open_at s es values at.0 at.1, at.2));
      };
    }

-- negated: a row whose columns are all single, and one of whose columns is not
pub banned_by : (s : Trail) (es : List ℕ) (row : List ℤ) → length row ≡ length es → ((k : ℕ) → k < length es → IsSingle s (get_or es k 0) (get_or row k (pos 0))) → IsBanned s es row
banned_by s es row e h = record { at = λ xs left. same_row xs es row e (λ k l. (h k l).at (value_at xs (get_or es k 0)) (All-get_or (λ i. IsOpenTo s i (value_at xs i)) es k 0 l left)) }

pub missed_by : (s : Trail) (es : List ℕ) (row : List ℤ) (c : ℕ) → c < length es → HasOtherValue s (get_or es c 0) (get_or row c (pos 0)) → IsMissed s es row
missed_by s es row c l off = record { column = c; within = l; other = off }

-- where all is fixed, the values are not a row that is missed
missed_fixed : (s : Trail) (es : List ℕ) (row : List ℤ) → IsMissed s es row → All (IsFixedNow s) es → (xs : List ℤ) → AreOpen s xs es → values_at xs es ≢ row
missed_fixed s es row m fixed xs left e =
    let c = m.column in
    let i = get_or es c 0 in
    let off = m.other in
    off.other (All-get_or (IsFixedNow s) es c 0 m.within fixed off.value (value_at xs i) off.reached (All-get_or (λ j. IsOpenTo s j (value_at xs j)) es c 0 m.within left) ∙ row_value xs es row c m.within e)

-- a row has no column whose value is to be taken away: one has another value, and lacks the row's or is not alone
other_not_sure : (s : Trail) (es : List ℕ) (values : List ℤ) (r c : ℕ) → HasOtherValue s (get_or es c 0) (cell es values r c) → IsSureAt s es values r c → ⊥
other_not_sure s es values r c off sure = off.other (sure off.value off.reached)

pub row_off : (s : Trail) (es : List ℕ) (values : List ℤ) (r c : ℕ) (row : List ℤ) → row ≡ row_at (length es) values r → c < length es → HasOtherValue s (get_or es c 0) (get_or row c (pos 0)) → (IsOpenTo s (get_or es c 0) (get_or row c (pos 0)) → ⊥) → IsRowMissed s es values r
row_off s es values r c row is l off gone k m others o = elim (cases_eq c k) [
  | inl same ↦ gone (subst (λ (w : List ℤ). IsOpenTo s (get_or es c 0) (get_or w c (pos 0))) (sym is) (subst (λ j. IsOpenTo s (get_or es j 0) (cell es values r j)) (sym same) o))
  | inr ne ↦ other_not_sure s es values r c (subst (λ (w : List ℤ). HasOtherValue s (get_or es c 0) (get_or w c (pos 0))) is off) (others c l ne)
]

pub row_free : (s : Trail) (es : List ℕ) (values : List ℤ) (r c d : ℕ) (row : List ℤ) → row ≡ row_at (length es) values r → c < d → d < length es → HasOtherValue s (get_or es c 0) (get_or row c (pos 0)) → HasOtherValue s (get_or es d 0) (get_or row d (pos 0)) → IsRowMissed s es values r
row_free s es values r c d row is l m offc offd k w others o = elim (cases_eq c k) [
  | inl same ↦ (let ne : d ≢ k = λ e. omega (arith, l, e, same) in other_not_sure s es values r d (subst (λ (v : List ℤ). HasOtherValue s (get_or es d 0) (get_or v d (pos 0))) is offd) (others d m ne))
  | inr ne ↦ other_not_sure s es values r c (subst (λ (v : List ℤ). HasOtherValue s (get_or es c 0) (get_or v c (pos 0))) is offc) (others c (omega (arith, l, m)) ne)
]

-- a look at one row more
pub missing_more : (s : Trail) (es : List ℕ) (values : List ℤ) (n : ℕ) (old new : List Narrowing) → (AreTrue s old → (r : ℕ) → r < n → IsRowMissed s es values r) → LeavesAtRest s (IsRowMissed s es values n) old new → AreTrue s new → (r : ℕ) → r < n + 1 → IsRowMissed s es values r
missing_more s es values n old new h v trues r l = elim (cases_lt r n) [
  | inl before ↦ h (v.before trues) r before
  | inr after ↦ (let e : r ≡ n = omega arith in subst (λ j. IsRowMissed s es values j) (sym e) (v.left trues))
]

-- no row is surely listed where each has a column with another value
pub missed_seen : (s : Trail) (es : List ℕ) (values : List ℤ) (n : ℕ) → 0 < length es → length values / length es ≤ n → ((r : ℕ) → r < n → IsMissed s es (row_at (length es) values r)) → IsExcludedBody (Table es values true) s → ⊥
missed_seen s es values n p past h listed =
    let b = row_before (length values) (length es) listed.row p listed.within in
    let m = h listed.row (omega arith) in
    other_not_sure s es values listed.row m.column m.other (listed.sure m.column m.within)

equals_is : (a b : ℤ) → equals a b ≡ true → a ≡ b
equals_is a b e = grind (arith, ints)

not_off : (b : Bool) → (b ≡ true → ⊥) → not b ≡ true
not_off true h = absurd (h refl)
not_off false h = refl

-- the one column that is open is off the row's value
pub ban_given : (s : Trail) (es : List ℕ) (values : List ℤ) (r c : ℕ) (row : List ℤ) (u : Atom) → c < length es → All (λ e. e < length s.first) es → (r + 1) * length es ≤ length values → row ≡ row_at (length es) values r
    → u ≡ record { subject = get_or es c 0; op = Ne; value = get_or row c (pos 0) } → ((k : ℕ) → k < c → IsSingle s (get_or es k 0) (get_or row k (pos 0))) → ((k : ℕ) → c + 1 ≤ k → k < length es → IsSingle s (get_or es k 0) (get_or row k (pos 0)))
    → IsGiven (Table es values true) s u
ban_given s es values r c row u l f within is at before after = record {
  subject = subst (λ (w : Atom). w.subject < length s.first) (sym at) (All-get_or (λ e. e < length s.first) es c 0 l f);
  at = λ xs a holds. subst (λ (w : Atom). atom_holds xs w ≡ true) (sym at) (not_off (equals (value_at xs (get_or es c 0)) (get_or row c (pos 0))) (λ e.
      not_in xs es values r (omega arith) holds within (same_row xs es row (ap length is ∙ row_long (length es) values r within) (each xs a (equals_is (value_at xs (get_or es c 0)) (get_or row c (pos 0)) e)) ∙ is)));
}
  where
    each : (xs : List ℤ) → IsAdmitted s.first s.entries xs → value_at xs (get_or es c 0) ≡ get_or row c (pos 0) → (k : ℕ) → k < length es → value_at xs (get_or es k 0) ≡ get_or row k (pos 0)
    each xs a here k m =
        let o = a (get_or es k 0) (All-get_or (λ e. e < length s.first) es k 0 m f) in
        elim (cases_lt k c) [
          | inl less ↦ (before k less).at (value_at xs (get_or es k 0)) o
          | inr more ↦ elim (cases_lt c k) [
            | inl past ↦ (after k (omega arith) m).at (value_at xs (get_or es k 0)) o
            | inr same ↦ (let e : k ≡ c = omega arith in subst (λ j. value_at xs (get_or es j 0) ≡ get_or row j (pos 0)) (sym e) here)
          ]
        ]

pub banned_none : (s : Trail) (es : List ℕ) (values : List ℤ) (r : ℕ) → 0 < length es → All (λ e. e < length s.first) es → (r + 1) * length es ≤ length values → IsBanned s es (row_at (length es) values r) → IsImpossible (Table es values true) s
banned_none s es values r p f within b = record { at = λ xs a holds. not_in xs es values r p holds within (b.at xs (admitted_open s es xs f a)) }

pub missed_rest : (s : Trail) (es : List ℕ) (values : List ℤ) (n : ℕ) → 0 < length es → length values / length es ≤ n → ((r : ℕ) → r < n → IsMissed s es (row_at (length es) values r)) → ((r : ℕ) → r < n → IsRowMissed s es values r) → IsAtRest (Table es values true) s
missed_rest s es values n p past h rest = record {
  decided = λ fixed xs left. none_in xs es values (λ r l e. missed_fixed s es (row_at (length es) values r) (h r (let b = row_before (length values) (length es) r p l in omega arith)) fixed xs left e);
  strong = record { missed = λ r l. rest r (let b = row_before (length values) (length es) r p l in omega arith) };
}

pub missed_more : (s : Trail) (es : List ℕ) (values : List ℤ) (n : ℕ) → ((r : ℕ) → r < n → IsMissed s es (row_at (length es) values r)) → IsMissed s es (row_at (length es) values n) → (r : ℕ) → r < n + 1 → IsMissed s es (row_at (length es) values r)
missed_more s es values n h m r l = elim (cases_lt r n) [
  | inl before ↦ h r before
  | inr after ↦ (let e : r ≡ n = omega arith in subst (λ j. IsMissed s es (row_at (length es) values j)) (sym e) m)
]
