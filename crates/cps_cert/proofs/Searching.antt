-- One variable more that is given its values, one after another.
use Rattle.std.specs.Prelude.{Contains}
use Rattle.std.proofs.Common.{◌≡◌, ℕ, zero, suc, ◌<◌, List, [], ◌∷◌, length, get_or, set, Bool, true, false, refl, sym, ◌∙◌, ap, subst, arith, ℤ, pos}
use Rattle.std.proofs.lemmas.List.{get_or-set_same, get_or-set_other, length-set}
use Rattle.std.proofs.lemmas.List.Elements.{Contains-append_right}
use Rattle.std.specs.Prelude.{◌==◌}
use Rattle.cps_model.specs.Values.{variable_value}
use Rattle.cps_unit.specs.Boxes.{Box}
use Rattle.cps_cert.specs.Counting.{is_listed}
use Rattle.cps_cert.specs.Trying.{IsReached, CanReach}
use Rattle.cps_cert.proofs.Counted.{same_number, differs, listed_of, contains_of}

-- ---- no variable is left

same_values : (a b : List ℤ) → length b ≡ length a → ((v : ℕ) → variable_value b v ≡ variable_value a v) → b ≡ a
same_values [] [] l h = refl
same_values [] (y ∷ ys) l h = absurd (omega arith)
same_values (x ∷ xs) [] l h = absurd (omega arith)
same_values (x ∷ xs) (y ∷ ys) l h =
    let first : y ≡ x = h 0 in
    let rest : ys ≡ xs = same_values xs ys (omega arith) (λ v. h (suc v)) in
    ap (λ z. z ∷ ys) first ∙ ap (λ zs. x ∷ zs) rest

none_contained : (v : ℕ) → Contains [] v → ⊥
none_contained v c = let l = c.1 in omega arith

pub reach_here : (box : Box) (Good : List ℤ → Type 0) (a : List ℤ) → Good a → CanReach box [] Good a
reach_here box Good a g = record {
  assignment = a;
  reached = record { long = refl; same = λ v k. refl; inside = λ v c. absurd (none_contained v c) };
  good = g;
}

pub here_reached : (box : Box) (Good : List ℤ → Type 0) (a : List ℤ) → CanReach box [] Good a → Good a
here_reached box Good a r =
    subst Good (same_values a r.assignment r.reached.long (λ v. r.reached.same v (none_contained v))) r.good

-- ---- one variable, and others

unlisted : (others : List ℕ) (v u : ℕ) → v ≡ u → is_listed others u ≡ false → Contains others v → ⊥
unlisted others v u is e k =
    let l : is_listed others v ≡ true = listed_of others v k in
    let n : is_listed others v ≡ false = subst (λ (w : ℕ). is_listed others w ≡ false) (sym is) e in
    cc

module _ (box : Box) (Good : List ℤ → Type 0) (v : ℕ) (others : List ℕ) (old current : List ℤ) (long : length current ≡ length old) (within : v < length current) (same : (u : ℕ) → (Contains (v ∷ others) u → ⊥) → variable_value current u ≡ variable_value old u) where
  behind : (u : ℕ) → Contains others u → Contains (v ∷ others) u
  behind u c = Contains-append_right (v ∷ []) others u c

  first : Contains (v ∷ others) v
  first = (0, omega arith, refl)

  inside_by : (x : ℤ) (b : List ℤ) (u : ℕ) (t : Bool) → is_listed others u ≡ t → box v x ≡ true → IsReached box others (set current v x) b → Contains (v ∷ others) u → (s : Bool) → (v == u) ≡ s → box u (variable_value b u) ≡ true
  inside_by x b u true e in_box r c s f = r.inside u (contains_of others u e)
  inside_by x b u false e in_box r c true f =
      let is = same_number v u f in
      let value : variable_value b v ≡ x = r.same v (unlisted others v u is e) ∙ get_or-set_same current v x (pos 0) within in
      subst (λ (w : ℕ). box w (variable_value b w) ≡ true) is (rw value in_box)
  inside_by x b u false e in_box r c false f = (
      let l : is_listed (v ∷ others) u ≡ true = listed_of (v ∷ others) u c in
      let none : is_listed (v ∷ others) u ≡ false = rw (f, e) refl in
      cc)

  -- what is reached with one of its values is reached
  pub reach_more : (x : ℤ) → box v x ≡ true → CanReach box others Good (set current v x) → CanReach box (v ∷ others) Good old
  reach_more x in_box r = record {
    assignment = r.assignment;
    reached = record {
      long = r.reached.long ∙ length-set current v x ∙ long;
      same = λ u none. r.reached.same u (λ c. none (behind u c)) ∙ get_or-set_other current v u x (pos 0) (λ e. none (subst (λ (w : ℕ). Contains (v ∷ others) w) (sym e) first)) ∙ same u none;
      inside = λ u c. inside_by x r.assignment u (is_listed others u) refl in_box r.reached c (v == u) refl;
    };
    good = r.good;
  }

  neither_at : (u : ℕ) → (v ≡ u → ⊥) → (Contains others u → ⊥) → (k : ℕ) → k < length (v ∷ others) → get_or (v ∷ others) k u ≡ u → ⊥
  neither_at u d none zero l e = d e
  neither_at u d none (suc k) l e = none (k, omega arith, e)

  neither : (u : ℕ) → (v ≡ u → ⊥) → (Contains others u → ⊥) → Contains (v ∷ others) u → ⊥
  neither u d none c = neither_at u d none c.0 c.1 c.2

  same_by : (b : List ℤ) (u : ℕ) (t : Bool) → (v == u) ≡ t → IsReached box (v ∷ others) old b → (Contains others u → ⊥) → variable_value b u ≡ variable_value (set current v (variable_value b v)) u
  same_by b u true e r none =
      let is = same_number v u e in
      subst (λ (w : ℕ). variable_value b w ≡ variable_value (set current v (variable_value b v)) w) is (sym (get_or-set_same current v (variable_value b v) (pos 0) within))
  same_by b u false e r none =
      let d = differs v u e in
      let out = neither u d none in
      r.same u out ∙ sym (same u out) ∙ sym (get_or-set_other current v u (variable_value b v) (pos 0) (λ f. d (sym f)))

  -- what is reached is reached with the value that the variable has there
  pub reach_at : (r : CanReach box (v ∷ others) Good old) → CanReach box others Good (set current v (variable_value r.assignment v))
  reach_at r = record {
    assignment = r.assignment;
    reached = record {
      long = r.reached.long ∙ sym long ∙ sym (length-set current v (variable_value r.assignment v));
      same = λ u none. same_by r.assignment u (v == u) refl r.reached none;
      inside = λ u c. r.reached.inside u (behind u c);
    };
    good = r.good;
  }
