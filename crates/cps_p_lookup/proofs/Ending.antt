-- The ends of a column, one row after another.
use Rattle.std.proofs.Common.{◌≡◌, ◌⊎◌, ap, ℕ, true, false, ℤ, pos, ◌+◌, ◌<◌, ◌≤◌, ◌≤ℤ◌, List, [], take, length, get_or, refl, sym, subst, ◌∙◌, arith, inl, inr}
use Rattle.std.proofs.lemmas.Int.{ints}
use Rattle.std.proofs.lemmas.Bool.{cases_lt}
use Rattle.std.specs.List.{All, Contains}
use Rattle.std.specs.Int.{int_min, int_max}
use Rattle.std.proofs.lemmas.List.Elements.{All-nil, All-more, All-weaker, All-contains, Contains-get_or}
use Rattle.cps_domain.proofs.Tests.{either, le_true}
use Rattle.cps_literal.specs.declared.atom.Atom.{Atom}
use Rattle.cps_literal.specs.declared.atom.Op.TheVariants.{Le, Ge}
use Rattle.cps_literal.specs.Truth.{meets}
use Rattle.cps_instance.specs.declared.task.Body.TheVariants.{Table}
use Rattle.cps_trail.specs.Trail.{Trail}
use Rattle.cps_propagate.specs.Now.{IsOpenTo, IsEndNow}
use Rattle.cps_propagate.specs.Lookups.{cell}
use Rattle.cps_rule.specs.Rules.{IsGiven}
use Rattle.cps_p_lookup.specs.declared.rows.Column.{Column}
use Rattle.cps_p_lookup.specs.Elements.{IsBetween}
use Rattle.cps_rule.specs.declared.rule.Narrowing.{Narrowing}
use Rattle.cps_p_lookup.specs.Resting.{AreTrue, LeavesAtRest}
use Rattle.cps_p_lookup.specs.Tabling.{IsLive, AreEndsLive, HasEndRows}
use Rattle.cps_p_lookup.specs.Columns.{IsColumnIn, value_of, AreEndsOf}
use Rattle.cps_p_lookup.proofs.Tables.{column_given}

pub ends_first : (c : Column) (rows : List ℕ) (low high : ℤ) → 0 < length rows → low ≡ value_of c (get_or rows 0 0) → high ≡ value_of c (get_or rows 0 0) → AreEndsOf c [] rows low high
ends_first c rows low high some a b = record {
  each = All-nil (λ r. (low ≤ℤ value_of c r) × (value_of c r ≤ℤ high));
  least = (get_or rows 0 0, Contains-get_or rows 0 0 some, sym a);
  greatest = (get_or rows 0 0, Contains-get_or rows 0 0 some, sym b);
}

over : (a b x : ℤ) → a ≤ℤ b → b ≤ℤ x → a ≤ℤ x
over a b x p q = omega (arith, ints)

min_below : (a b : ℤ) → (int_min a b ≤ℤ a) × (int_min a b ≤ℤ b)
min_below a b = (grind (arith, ints), grind (arith, ints))

max_above : (a b : ℤ) → (a ≤ℤ int_max a b) × (b ≤ℤ int_max a b)
max_above a b = (grind (arith, ints), grind (arith, ints))

min_is : (a b : ℤ) → (int_min a b ≡ a) ⊎ (int_min a b ≡ b)
min_is a b = elim (either a b) [ inl le ↦ inl (grind (arith, ints)) | inr ge ↦ inr (grind (arith, ints)) ]

max_is : (a b : ℤ) → (int_max a b ≡ a) ⊎ (int_max a b ≡ b)
max_is a b = elim (either a b) [ inl le ↦ inr (grind (arith, ints)) | inr ge ↦ inl (grind (arith, ints)) ]

pub ends_more : (c : Column) (rows : List ℕ) (n : ℕ) (low high v p q : ℤ) → n < length rows → v ≡ value_of c (get_or rows n 0) → p ≡ int_min low v → q ≡ int_max high v → AreEndsOf c (take n rows) rows low high → AreEndsOf c (take (n + 1) rows) rows p q
ends_more c rows n low high v p q l is isp isq h =
    let here : (p ≤ℤ value_of c (get_or rows n 0)) × (value_of c (get_or rows n 0) ≤ℤ q) = (
      subst (λ (x : ℤ). x ≤ℤ value_of c (get_or rows n 0)) (sym isp) (subst (λ (x : ℤ). int_min low v ≤ℤ x) is (min_below low v).1),
      subst (λ (x : ℤ). value_of c (get_or rows n 0) ≤ℤ x) (sym isq) (subst (λ (x : ℤ). x ≤ℤ int_max high v) is (max_above high v).1),
    ) in
    let lower : p ≤ℤ low = subst (λ (x : ℤ). x ≤ℤ low) (sym isp) (min_below low v).0 in
    let upper : high ≤ℤ q = subst (λ (x : ℤ). high ≤ℤ x) (sym isq) (max_above high v).0 in
    record {
      each = All-more (λ r. (p ≤ℤ value_of c r) × (value_of c r ≤ℤ q)) rows n 0 l
          (All-weaker (λ r. (low ≤ℤ value_of c r) × (value_of c r ≤ℤ high)) (λ r. (p ≤ℤ value_of c r) × (value_of c r ≤ℤ q)) (λ r w. (over p low (value_of c r) lower w.0, over (value_of c r) high q w.1 upper)) (take n rows) h.each) here;
      least = elim (min_is low v) [
        | inl old ↦ (h.least.0, h.least.1, h.least.2 ∙ sym (isp ∙ old))
        | inr new ↦ (get_or rows n 0, Contains-get_or rows n 0 l, sym is ∙ sym (isp ∙ new))
      ];
      greatest = elim (max_is high v) [
        | inl old ↦ (h.greatest.0, h.greatest.1, h.greatest.2 ∙ sym (isq ∙ old))
        | inr new ↦ (get_or rows n 0, Contains-get_or rows n 0 l, sym is ∙ sym (isq ∙ new))
      ];
    }

-- a column is given the ends of its rows
pub low_given : (s : Trail) (c : Column) (low high : ℤ) → IsColumnIn s c → AreEndsOf c c.rows.now c.rows.now low high → (u : Atom) → u ≡ record { subject = get_or c.grid.exprs.now c.place 0; op = Ge; value = low } → IsGiven (Table c.grid.exprs.now c.grid.values.now false) s u
low_given s c low high l h u is =
    column_given s c.grid.exprs.now c.grid.values.now c.rows.now c.place u l.place l.fits l.rows (ap (λ (w : Atom). w.subject) is)
    (subst (λ (w : Atom). All (λ r. meets w.op w.value (value_of c r) ≡ true) c.rows.now) (sym is) (All-weaker (λ r. (low ≤ℤ value_of c r) × (value_of c r ≤ℤ high)) (λ r. meets Ge low (value_of c r) ≡ true) (λ r w. le_true low (value_of c r) w.0) c.rows.now h.each))

pub high_given : (s : Trail) (c : Column) (low high : ℤ) → IsColumnIn s c → AreEndsOf c c.rows.now c.rows.now low high → (u : Atom) → u ≡ record { subject = get_or c.grid.exprs.now c.place 0; op = Le; value = high } → IsGiven (Table c.grid.exprs.now c.grid.values.now false) s u
high_given s c low high l h u is =
    column_given s c.grid.exprs.now c.grid.values.now c.rows.now c.place u l.place l.fits l.rows (ap (λ (w : Atom). w.subject) is)
    (subst (λ (w : Atom). All (λ r. meets w.op w.value (value_of c r) ≡ true) c.rows.now) (sym is) (All-weaker (λ r. (low ≤ℤ value_of c r) × (value_of c r ≤ℤ high)) (λ r. meets Le high (value_of c r) ≡ true) (λ r w. le_true (value_of c r) high w.1) c.rows.now h.each))

meet : (a b : ℤ) → a ≤ℤ b → b ≤ℤ a → a ≡ b
meet a b p q = omega (arith, ints)

-- where the column lies between them, each of its ends stands in a row
pub ends_live : (s : Trail) (c : Column) (low high : ℤ) → IsColumnIn s c → AreEndsOf c c.rows.now c.rows.now low high → IsBetween s (get_or c.grid.exprs.now c.place 0) low high → AreEndsLive s c.grid.exprs.now c.grid.values.now c.place
ends_live s c low high l h between = record {
  some = (h.least.0, is h.least.0 h.least.1);
  at = λ v e. elim e.last [
    | inl least ↦ (h.least.0, is h.least.0 h.least.1, h.least.2 ∙ meet low v (between.at v e.reached).0 (least low (reached h.least.0 low h.least.1 h.least.2)))
    | inr greatest ↦ (h.greatest.0, is h.greatest.0 h.greatest.1, h.greatest.2 ∙ meet high v (greatest high (reached h.greatest.0 high h.greatest.1 h.greatest.2)) (between.at v e.reached).1)
  ];
}
  where
    is : (r : ℕ) → Contains c.rows.now r → IsLive s c.grid.exprs.now c.grid.values.now r
    is r m = All-contains (IsLive s c.grid.exprs.now c.grid.values.now) c.rows.now r l.rows.each m

    reached : (r : ℕ) (x : ℤ) → Contains c.rows.now r → value_of c r ≡ x → IsOpenTo s (get_or c.grid.exprs.now c.place 0) x
    reached r x m e = subst (λ (y : ℤ). IsOpenTo s (get_or c.grid.exprs.now c.place 0) y) e ((is r m).open_row.at c.place l.place)

-- rows that have the ends of a column's subject
pub end_rows : (s : Trail) (es : List ℕ) (values : List ℤ) (k a b : ℕ) (low high : ℤ) → IsLive s es values a → IsLive s es values b → cell es values a k ≡ low → cell es values b k ≡ high
    → IsOpenTo s (get_or es k 0) low → IsOpenTo s (get_or es k 0) high → ((x : ℤ) → IsOpenTo s (get_or es k 0) x → low ≤ℤ x) → ((x : ℤ) → IsOpenTo s (get_or es k 0) x → x ≤ℤ high) → AreEndsLive s es values k
end_rows s es values k a b low high p q ca cb ol oh least greatest = record {
  some = (a, p);
  at = λ v e. elim e.last [
    | inl first ↦ (a, p, ca ∙ meet low v (least v e.reached) (first low ol))
    | inr last ↦ (b, q, cb ∙ meet high v (last high oh) (greatest v e.reached))
  ];
}

-- one column more
pub ends_next : (s : Trail) (es : List ℕ) (values : List ℤ) (n : ℕ) → HasEndRows s es values n → AreEndsLive s es values n → HasEndRows s es values (n + 1)
ends_next s es values n h here k l = elim (cases_lt k n) [
  | inl less ↦ h k less
  | inr more ↦ (let e : n ≡ k = omega arith in subst (AreEndsLive s es values) e here)
]

pub ends_narrowed : (s : Trail) (es : List ℕ) (values : List ℤ) (n : ℕ) (old middle new : List Narrowing) → (AreTrue s old → HasEndRows s es values n) → LeavesAtRest s (AreEndsLive s es values n) old middle → (AreTrue s new → AreTrue s middle) → AreTrue s new → HasEndRows s es values (n + 1)
ends_narrowed s es values n old middle new h column before trues = ends_next s es values n (h (column.before (before trues))) (column.left (before trues))

pub no_ends : (s : Trail) (es : List ℕ) (values : List ℤ) → HasEndRows s es values 0
no_ends s es values k l = absurd (omega arith)

pub ends_upto : (s : Trail) (es : List ℕ) (values : List ℤ) (n : ℕ) → length es ≤ n → HasEndRows s es values n → HasEndRows s es values (length es)
ends_upto s es values n past h k l = h k (omega arith)
