-- Cells by column and value, and the rows of a column's values.
use Rattle.std.specs.Prelude.{Contains, IsPermutation, int_le, int_lt, nat_lt, nat_eq, ◌&&◌, ◌||◌, FitsSigned}
use Rattle.std.specs.List.{All}
use Rattle.std.specs.List.Sorted.{IsSortedBy, IsPartitionedBy}
use Rattle.std.specs.Ordering.{int_cmp, nat_cmp, is_lt, ordering_then}
use Rattle.std.specs.Cmp.{nat_cmp_is}
use Rattle.std.proofs.Common.{◌≡◌, ◌⊎◌, inl, inr, ℕ, zero, suc, ◌+◌, ◌-◌, ◌*◌, ◌/◌, ◌<◌, ◌≤◌, ℤ, pos, ◌<ℤ◌, ◌≤ℤ◌, Bool, true, false, List, [], ◌∷◌, ◌++◌, length, drop, get_or, refl, sym, ◌∙◌, ap, subst, arith, Less, Equal, get_or-take, get_or-drop, length-drop, w64}
use Rattle.std.proofs.lemmas.Int.{ints, by_lt_z}
use Rattle.std.proofs.lemmas.Bool.{cases_lt}
use Rattle.std.proofs.lemmas.List.{get_or_default, length-take-le}
use Rattle.std.proofs.lemmas.List.Elements.{All-nil, All-push, All-take, All-drop, All-contains, Contains-push, Contains-append_left}
use Rattle.std.proofs.lemmas.List.Sorted.{All-permutation, Contains-permutation}
use Rattle.std.proofs.Math.Nat.{le-div_iff_mul-le}
use Rattle.cps_model.proofs.Tests.{and_true, or_true}
use Rattle.cps_p_lookup.specs.declared.index.Cell.{Cell}
use Rattle.cps_p_lookup.specs.Cells.{Tuples, comes_before, comes_up_to, AreGrouped, BeginAt, EndBefore, part, value_in, IsWord, IsCellIn, HasCell, AreListedTo, AreCells, AddsRows, AddsColumn}

abbrev pub no_cell : Cell
no_cell = record { column = 0; value = pos 0; row = 0 }

-- the order by column and value
abbrev up_to : ℕ → ℤ → ℕ → ℤ → Bool
up_to c v k b = nat_lt c k || (nat_eq c k && int_le v b)

abbrev before : ℕ → ℤ → ℕ → ℤ → Bool
before c v k b = nat_lt c k || (nat_eq c k && int_lt v b)

below : (c k : ℕ) → nat_lt c k ≡ true → c < k
below c k e = grind arith

below_from : (c k : ℕ) → c < k → nat_lt c k ≡ true
below_from c k l = grind arith

same : (c k : ℕ) → nat_eq c k ≡ true → c ≡ k
same c k e = grind arith

same_from : (c k : ℕ) → c ≡ k → nat_eq c k ≡ true
same_from c k e = grind arith

less : (x y : ℤ) → int_lt x y ≡ true → x <ℤ y
less x y e = grind (arith, ints)

less_from : (x y : ℤ) → x <ℤ y → int_lt x y ≡ true
less_from x y h = grind (arith, ints)

at_most : (x y : ℤ) → int_le x y ≡ true → x ≤ℤ y
at_most x y e = grind (arith, ints)

at_most_from : (x y : ℤ) → x ≤ℤ y → int_le x y ≡ true
at_most_from x y h = grind (arith, ints)

or_last : (b : Bool) → (b || true) ≡ true
or_last true = refl
or_last false = refl

false_true : (b : Bool) → b ≡ true → b ≡ false → ⊥
false_true b p q = cc

IsUpTo : ℕ → ℤ → ℕ → ℤ → Type 0
IsUpTo c v k b = (c < k) ⊎ ((c ≡ k) × (v ≤ℤ b))

IsBefore : ℕ → ℤ → ℕ → ℤ → Type 0
IsBefore c v k b = (c < k) ⊎ ((c ≡ k) × (v <ℤ b))

up_to_is : (c : ℕ) (v : ℤ) (k : ℕ) (b : ℤ) → up_to c v k b ≡ true → IsUpTo c v k b
unfolding IsUpTo
up_to_is c v k b e = elim (or_true (nat_lt c k) (nat_eq c k && int_le v b) e) [
  | inl p ↦ inl (below c k p)
  | inr p ↦ (let both = and_true (nat_eq c k) (int_le v b) p in inr (same c k both.0, at_most v b both.1))
]

up_to_from : (c : ℕ) (v : ℤ) (k : ℕ) (b : ℤ) → IsUpTo c v k b → up_to c v k b ≡ true
unfolding IsUpTo
up_to_from c v k b (inl p) = let e : nat_lt c k ≡ true = below_from c k p in rw e refl
up_to_from c v k b (inr (p, q)) = let e : nat_eq c k ≡ true = same_from c k p in let f : int_le v b ≡ true = at_most_from v b q in rw (e, f) (or_last (nat_lt c k))

before_is : (c : ℕ) (v : ℤ) (k : ℕ) (b : ℤ) → before c v k b ≡ true → IsBefore c v k b
unfolding IsBefore
before_is c v k b e = elim (or_true (nat_lt c k) (nat_eq c k && int_lt v b) e) [
  | inl p ↦ inl (below c k p)
  | inr p ↦ (let both = and_true (nat_eq c k) (int_lt v b) p in inr (same c k both.0, less v b both.1))
]

before_from : (c : ℕ) (v : ℤ) (k : ℕ) (b : ℤ) → IsBefore c v k b → before c v k b ≡ true
unfolding IsBefore
before_from c v k b (inl p) = let e : nat_lt c k ≡ true = below_from c k p in rw e refl
before_from c v k b (inr (p, q)) = let e : nat_eq c k ≡ true = same_from c k p in let f : int_lt v b ≡ true = less_from v b q in rw (e, f) (or_last (nat_lt c k))

up_to_up_to : (c : ℕ) (v : ℤ) (d : ℕ) (m : ℤ) (k : ℕ) (b : ℤ) → IsUpTo c v d m → IsUpTo d m k b → IsUpTo c v k b
unfolding IsUpTo
up_to_up_to c v d m k b (inl p) (inl q) = inl (omega (arith, p, q))
up_to_up_to c v d m k b (inl p) (inr (q, r)) = inl (omega (arith, p, q))
up_to_up_to c v d m k b (inr (p, q)) (inl r) = inl (omega (arith, p, r))
up_to_up_to c v d m k b (inr (p, q)) (inr (r, w)) = inr (p ∙ r, omega (arith, ints))

up_to_before : (c : ℕ) (v : ℤ) (d : ℕ) (m : ℤ) (k : ℕ) (b : ℤ) → IsUpTo c v d m → IsBefore d m k b → IsBefore c v k b
unfolding IsUpTo IsBefore
up_to_before c v d m k b (inl p) (inl q) = inl (omega (arith, p, q))
up_to_before c v d m k b (inl p) (inr (q, r)) = inl (omega (arith, p, q))
up_to_before c v d m k b (inr (p, q)) (inl r) = inl (omega (arith, p, r))
up_to_before c v d m k b (inr (p, q)) (inr (r, w)) = inr (p ∙ r, omega (arith, ints))

-- what a sort by column and value ensures
abbrev SortedCells : List Cell → Type 0
SortedCells cells = IsSortedBy (λ x y. is_lt (ordering_then (nat_cmp x.column y.column) (int_cmp x.value y.value))) cells

three : (m n : ℕ) → (m < n) ⊎ ((m ≡ n) ⊎ (n < m))
three m n = grind arith

neighbours : (c : ℕ) (v : ℤ) (d : ℕ) (m : ℤ) → is_lt (ordering_then (nat_cmp d c) (int_cmp m v)) ≡ false → IsUpTo c v d m
unfolding IsUpTo
neighbours c v d m e = elim (three c d) [
  | inl p ↦ inl p
  | inr (inl p) ↦ inr (p, by_lt_z m v (λ r. absurd (beside (sym p) r)) (λ r. r))
  | inr (inr p) ↦ absurd (later p)
]
  where
    later : d < c → ⊥
    later l = let f : nat_cmp d c ≡ Less = sym (nat_cmp_is d c Less l) in let g : is_lt (ordering_then (nat_cmp d c) (int_cmp m v)) ≡ true = rw f refl in cc

    beside : d ≡ c → m <ℤ v → ⊥
    beside k r = let f : nat_cmp d c ≡ Equal = sym (nat_cmp_is d c Equal k) in let g : int_cmp m v ≡ Less = grind (arith, ints) in let h : is_lt (ordering_then (nat_cmp d c) (int_cmp m v)) ≡ true = rw (f, g) refl in cc

abbrev column_at : List Cell → ℕ → ℕ
column_at cells k = (get_or cells k no_cell).column

abbrev value_at : List Cell → ℕ → ℤ
value_at cells k = (get_or cells k no_cell).value

grouped_far : (cells : List Cell) (i n : ℕ) → SortedCells cells → i + n < length cells → IsUpTo (column_at cells i) (value_at cells i) (column_at cells (i + n)) (value_at cells (i + n))
unfolding IsUpTo
grouped_far cells i zero h l = subst (λ (k : ℕ). IsUpTo (column_at cells i) (value_at cells i) (column_at cells k) (value_at cells k)) (plus_zero i) (inr (refl, omega (arith, ints)))
  where
    plus_zero : (i : ℕ) → i ≡ i + 0
    plus_zero i = omega arith
grouped_far cells i (suc n) h l =
    let nearer = grouped_far cells i n h (omega arith) in
    let next : IsUpTo (column_at cells (i + n)) (value_at cells (i + n)) (column_at cells (i + n + 1)) (value_at cells (i + n + 1)) = neighbours _ _ _ _ (h (i + n) no_cell (omega arith) (omega arith)) in
    let e : i + n + 1 ≡ i + suc n = omega arith in
    subst (λ (k : ℕ). IsUpTo (column_at cells i) (value_at cells i) (column_at cells k) (value_at cells k)) e (up_to_up_to _ _ _ _ _ _ nearer next)

pub grouped_from_sort : (cells : List Cell) → SortedCells cells → AreGrouped cells
grouped_from_sort cells h i j d l m =
    let far = grouped_far cells i (j - i) h (omega arith) in
    let e : i + (j - i) ≡ j = omega arith in
    let here = subst (λ (k : ℕ). IsUpTo (column_at cells i) (value_at cells i) (column_at cells k) (value_at cells k)) e far in
    let test = up_to_from _ _ _ _ here in
    subst (λ (y : Cell). comes_up_to y.column y.value (get_or cells i d) ≡ true) (get_or_default cells j no_cell d m)
    (subst (λ (x : Cell). comes_up_to (column_at cells j) (value_at cells j) x ≡ true) (get_or_default cells i no_cell d (omega arith)) test)

-- a column and a value divide such a list
pub divided_before : (cells : List Cell) (k : ℕ) (b : ℤ) → AreGrouped cells → IsPartitionedBy (comes_before k b) cells
divided_before cells k b h i j d l m e =
    let x = get_or cells i d in
    let y = get_or cells j d in
    before_from _ _ _ _ (up_to_before _ _ _ _ _ _ (up_to_is x.column x.value y.column y.value (h i j d l m)) (before_is y.column y.value k b e))

pub divided_up_to : (cells : List Cell) (k : ℕ) (b : ℤ) → AreGrouped cells → IsPartitionedBy (comes_up_to k b) cells
divided_up_to cells k b h i j d l m e =
    let x = get_or cells i d in
    let y = get_or cells j d in
    up_to_from _ _ _ _ (up_to_up_to _ _ _ _ _ _ (up_to_is x.column x.value y.column y.value (h i j d l m)) (up_to_is y.column y.value k b e))

part_item : (cells : List Cell) (first end k : ℕ) (d : Cell) → first + k < end → get_or (part cells first end) k d ≡ get_or cells (first + k) d
part_item cells first end k d l = get_or-take (end - first) (drop first cells) k d (omega arith) ∙ get_or-drop first cells k d

part_length : (cells : List Cell) (first end : ℕ) → first ≤ end → end ≤ length cells → length (part cells first end) ≡ end - first
part_length cells first end p q = let room = length-drop first cells in length-take-le (end - first) (drop first cells) (omega arith)

-- a cell of the column whose value lies between the two stands between the two places
pub in_part : (cells : List Cell) (k : ℕ) (low high : ℤ) (first end : ℕ) → BeginAt cells k low first → EndBefore cells k high end → end ≤ length cells → (cell : Cell) → cell.column ≡ k → low ≤ℤ cell.value → cell.value ≤ℤ high → Contains cells cell → Contains (part cells first end) cell
unfolding IsBefore IsUpTo
in_part cells k low high first end begin stop inside cell is above under (i, l, e) =
    let late : i < end = elim (cases_lt i end) [
      | inl fine ↦ fine
      | inr over ↦ absurd (false_true _ (up_to_from cell.column cell.value k high (inr (is, under))) (subst (λ (t : Cell). comes_up_to k high t ≡ false) e (stop.1 i cell over l)))
    ] in
    let early : first ≤ i = elim (cases_lt i first) [
      | inl less ↦ absurd (not_before (before_is cell.column cell.value k low (subst (λ (t : Cell). comes_before k low t ≡ true) e (begin.0 i cell (omega arith) less))))
      | inr fine ↦ fine
    ] in
    let size = part_length cells first end (omega arith) inside in
    let at : first + (i - first) ≡ i = omega arith in
    (i - first, omega arith, part_item cells first end (i - first) cell (omega arith) ∙ ap (λ (j : ℕ). get_or cells j cell) at ∙ e)
  where
    not_before : IsBefore cell.column cell.value k low → ⊥
    not_before (inl p) = omega (arith, p, is)
    not_before (inr (p, q)) = omega (arith, ints)

pub part_all : (P : Cell → Type 0) (cells : List Cell) (first end : ℕ) → All P cells → All P (part cells first end)
part_all P cells first end h = All-take P (end - first) (drop first cells) (All-drop P first cells h)

-- a row's value is a word
pub in_word : (w : ℕ) (values : List ℤ) (n : ℕ) (cells : List Cell) → AreListedTo w values n cells → (c : ℕ) → c < n → (r : ℕ) → (r + 1) * w ≤ length values → IsWord (value_in w values c r)
in_word w values n cells h c l r inside = let is : IsCellIn w values (record { column = c; value = value_in w values c r; row = r }) = All-contains (IsCellIn w values) cells (record { column = c; value = value_in w values c r; row = r }) h.each (h.every c l r inside) in is.word

pub word_fits : (v : ℤ) → FitsSigned w64 v → IsWord v
word_fits v f = record { low = grind (arith, ints); high = grind (arith, ints) }

-- a column's cells, one row more
pub rows_none : (w : ℕ) (values : List ℤ) (c : ℕ) (cells : List Cell) → AddsRows w values c 0 cells cells
rows_none w values c cells = record { each = λ h. h; kept = λ cell h. h; here = λ r l. absurd (omega arith) }

pub rows_more : (w : ℕ) (values : List ℤ) (c n : ℕ) (old mid new : List Cell) (v : ℤ) → (n + 1) * w ≤ length values → IsWord v → v ≡ value_in w values c n → new ≡ mid ++ (record { column = c; value = v; row = n }) ∷ [] → AddsRows w values c n old mid → AddsRows w values c (n + 1) old new
rows_more w values c n old mid new v inside word at is h =
    let this : Cell = record { column = c; value = v; row = n } in
    record {
      each = λ all. subst (λ (cs : List Cell). All (IsCellIn w values) cs) (sym is) (All-push (IsCellIn w values) mid this (h.each all) (record { within = inside; word = word }));
      kept = λ cell has. subst (λ (cs : List Cell). Contains cs cell) (sym is) (Contains-append_left mid (this ∷ []) cell (h.kept cell has));
      here = λ r l. elim (cases_lt r n) [
        | inl less ↦ subst (λ (cs : List Cell). HasCell w values c r cs) (sym is) (Contains-append_left mid (this ∷ []) (record { column = c; value = value_in w values c r; row = r }) (h.here r less))
        | inr more ↦ (let e : r ≡ n = omega arith in subst (λ (j : ℕ). HasCell w values c j new) (sym e) (subst (λ (x : ℤ). Contains new (record { column = c; value = x; row = n })) at (subst (λ (cs : List Cell). Contains cs this) (sym is) (Contains-push mid this))))
      ];
    }

row_before : (n w row : ℕ) → 0 < w → (row + 1) * w ≤ n → row < n / w
row_before n w row p l = let h = (le-div_iff_mul-le {k = w} {x = row + 1} {y = n} p).1 l in omega arith

pub rows_all : (w : ℕ) (values : List ℤ) (c n : ℕ) (old new : List Cell) → 0 < w → length values / w ≤ n → AddsRows w values c n old new → AddsColumn w values c old new
rows_all w values c n old new p past h = record { each = h.each; kept = h.kept; here = λ r inside. let b = row_before (length values) w r p inside in h.here r (omega arith) }

-- one column more
pub columns_none : (w : ℕ) (values : List ℤ) (cells : List Cell) → cells ≡ [] → AreListedTo w values 0 cells
columns_none w values cells e = record { each = subst (λ (cs : List Cell). All (IsCellIn w values) cs) (sym e) (All-nil (IsCellIn w values)); every = λ c l r inside. absurd (omega arith) }

pub columns_more : (w : ℕ) (values : List ℤ) (n : ℕ) (old new : List Cell) → AddsColumn w values n old new → AreListedTo w values n old → AreListedTo w values (n + 1) new
columns_more w values n old new a h = record {
  each = a.each h.each;
  every = λ c l r inside. elim (cases_lt c n) [
    | inl less ↦ a.kept (record { column = c; value = value_in w values c r; row = r }) (h.every c less r inside)
    | inr more ↦ (let e : c ≡ n = omega arith in subst (λ (k : ℕ). HasCell w values k r new) (sym e) (a.here r inside))
  ];
}

pub columns_past : (w : ℕ) (values : List ℤ) (n : ℕ) (cells : List Cell) → w ≤ n → AreListedTo w values n cells → AreListedTo w values w cells
columns_past w values n cells l h = record { each = h.each; every = λ c m r inside. h.every c (omega arith) r inside }

-- in another order
pub columns_moved : (w : ℕ) (values : List ℤ) (n : ℕ) (old new : List Cell) → IsPermutation old new → AreListedTo w values n old → AreListedTo w values n new
columns_moved w values n old new m h = record {
  each = All-permutation (IsCellIn w values) old new m h.each;
  every = λ c l r inside. Contains-permutation old new (record { column = c; value = value_in w values c r; row = r }) m (h.every c l r inside);
}

-- the same, as contracts see a table
pub cells_now : (t : Tuples) (es : List ℕ) (values : List ℤ) (cells : List Cell) → (record { exprs = es; values = values }) ≡ t → AreCells es values cells → AreCells t.exprs t.values cells
cells_now t es values cells e h = subst (λ (x : Tuples). AreCells x.exprs x.values cells) e h
