-- The rows that do not give an atom, and facts that rule them out.
use Rattle.std.proofs.Common.{◌≡◌, ℕ, ℤ, pos, negsuc, ◌+◌, ◌-◌, ◌*◌, ◌^◌, ◌<◌, ◌≤◌, ◌≤ℤ◌, false, List, [], length, take, get_or, sym, ap, subst, ◌∙◌, Option, Some}
use Rattle.std.specs.List.{All}
use Rattle.std.proofs.lemmas.List.Elements.{All-more, All-weaker, All-contains, All-contains_itself}
use Rattle.cps_literal.specs.declared.atom.Atom.{Atom}
use Rattle.cps_literal.specs.Truth.{value_at, meets}
use Rattle.cps_model.specs.Lookups.{row_at}
use Rattle.cps_instance.specs.declared.task.Body.TheVariants.{Table}
use Rattle.cps_trail.specs.Trail.{Trail}
use Rattle.cps_rule.specs.Facts.{Grows, GivesGoal}
use Rattle.cps_p_lookup.specs.declared.index.Cell.{Cell}
use Rattle.cps_p_lookup.specs.Cells.{value_in, IsWord, IsCellIn, HasCell, IsColumnOf, CoversUnmet}
use Rattle.cps_p_lookup.specs.Tabling.{ClosesRow, IsClosedRow, AreSought}
use Rattle.cps_p_lookup.proofs.Growing.{no_facts, none_speaks}
use Rattle.cps_p_lookup.proofs.Tables.{row_value, in_table}

-- cells of all rows
pub all_sought : (es : List ℕ) (values : List ℤ) (goal : Option Atom) (cells : List Cell) (low high : ℤ) → low ≡ negsuc (2 ^ 63 - 1) → high ≡ pos (2 ^ 63 - 1) → All (IsCellIn (length es) values) cells
    → ((r : ℕ) → (r + 1) * length es ≤ length values → low ≤ℤ value_in (length es) values 0 r → value_in (length es) values 0 r ≤ℤ high → HasCell (length es) values 0 r cells)
    → ((r : ℕ) → (r + 1) * length es ≤ length values → IsWord (value_in (length es) values 0 r)) → AreSought es values goal cells
all_sought es values goal cells low high il ih each every range = record {
  each = each;
  every = λ xs deny r inside e. record {
    column = 0;
    value = value_in (length es) values 0 r;
    has = every r inside (subst (λ (x : ℤ). x ≤ℤ value_in (length es) values 0 r) (sym il) (range r inside).low) (subst (λ (x : ℤ). value_in (length es) values 0 r ≤ℤ x) (sym ih) (range r inside).high);
  };
}

-- cells of the rows whose value in a column does not meet the atom
pub unmet_sought : (es : List ℕ) (values : List ℤ) (u : Atom) (c : ℕ) (low high : ℤ) (cells : List Cell) → IsColumnOf es c u → CoversUnmet u (low, high) → All (IsCellIn (length es) values) cells
    → ((r : ℕ) → (r + 1) * length es ≤ length values → low ≤ℤ value_in (length es) values c r → value_in (length es) values c r ≤ℤ high → HasCell (length es) values c r cells)
    → ((r : ℕ) → (r + 1) * length es ≤ length values → IsWord (value_in (length es) values c r)) → AreSought es values (Some u) cells
unmet_sought es values u c low high cells column covers each every range = record {
  each = each;
  every = λ xs deny r inside e.
      let v = value_in (length es) values c r in
      let unmet : meets u.op u.value v ≡ false = sym (ap (λ (x : ℤ). meets u.op u.value x) (row_value xs es (row_at (length es) values r) c column.within e)) ∙ ap (λ (j : ℕ). meets u.op u.value (value_at xs j)) column.subject ∙ deny in
      record { column = c; value = v; has = every r inside (covers.low v (range r inside) unmet) (covers.high v (range r inside) unmet) };
}

-- one row more
pub closed_more : (s : Trail) (es : List ℕ) (values : List ℤ) (goal : Option Atom) (old new : List Atom) (cells : List Cell) (k : ℕ) (d : Cell) (row : List ℤ) → k < length cells → row ≡ row_at (length es) values (get_or cells k d).row → ClosesRow s es row goal old new
    → All (λ (cell : Cell). IsClosedRow es values goal old cell.row) (take k cells) → All (λ (cell : Cell). IsClosedRow es values goal new cell.row) (take (k + 1) cells)
closed_more s es values goal old new cells k d row l is closes h =
    All-more (λ (cell : Cell). IsClosedRow es values goal new cell.row) cells k d l
    (All-weaker (λ (cell : Cell). IsClosedRow es values goal old cell.row) (λ (cell : Cell). IsClosedRow es values goal new cell.row) (λ cell closed xs all e deny. closed xs (closes.grows.kept xs all) e deny) (take k cells) h)
    (λ xs all e deny. closes.closed xs all (e ∙ sym is) deny)

-- all of them
pub closed_gives : (s : Trail) (es : List ℕ) (values : List ℤ) (goal : Option Atom) (none new : List Atom) (cells : List Cell) → 0 < length es → none ≡ [] → Grows s es none new → AreSought es values goal cells → All (λ (cell : Cell). IsClosedRow es values goal new cell.row) cells → GivesGoal (Table es values false) s goal new
closed_gives s es values goal none new cells p empty grows sought h = record {
  facts = grows.facts (no_facts s none empty);
  speaks = grows.about es (All-contains_itself es) (none_speaks es none empty);
  excludes = λ xs within all holds deny.
      let r = in_table xs es values p holds in
      let listed = sought.every xs deny r.0 r.1 r.2 in
      All-contains (λ (cell : Cell). IsClosedRow es values goal new cell.row) cells (record { column = listed.column; value = listed.value; row = r.0 }) h listed.has xs all r.2 deny;
}
