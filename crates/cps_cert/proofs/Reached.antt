-- The assignments that are tried stand for all that agree with them on what is read.
use Rattle.std.specs.Prelude.{Contains, ◌||◌, ◌==◌, not}
use Rattle.std.proofs.Common.{◌≡◌, ℕ, zero, suc, ◌+◌, ◌<◌, ◌≤◌, List, [], ◌∷◌, ◌++◌, length, get_or, set, map, Bool, true, false, ◌⊎◌, inl, inr, refl, sym, ◌∙◌, ap, subst, arith, ℤ, pos}
use Rattle.std.proofs.lemmas.Bool.{cases_lt}
use Rattle.std.proofs.lemmas.List.{get_or_append_left, length-map, get_or-set_same, get_or-set_other, length-set}
use Rattle.std.proofs.lemmas.List.Elements.{Contains-append_right}
use Rattle.std.proofs.Math.ListN.{get_or-eq_default}
use Rattle.cps_model.specs.declared.model.CpModel.{CpModel}
use Rattle.cps_model.specs.declared.model.LinearExpr.{LinearExpr}
use Rattle.cps_model.specs.declared.model.Variable.{Variable}
use Rattle.cps_model.specs.declared.constraint.Constraint.{Constraint}
use Rattle.cps_model.specs.Values.{variable_value}
use Rattle.cps_model.specs.Within.{is_within}
use Rattle.cps_model.specs.Solutions.{are_within}
use Rattle.cps_model.proofs.Tests.{and_true}
use Rattle.cps_domain.specs.Window.{Window}
use Rattle.cps_literal.specs.declared.atom.Atom.{Atom}
use Rattle.cps_log.specs.Subjects.{subject_domains, variable_domain, sum_domain}
use Rattle.cps_unit.specs.Boxes.{Box, is_made_true}
use Rattle.cps_log.specs.Boxes.{box_of}
use Rattle.cps_cert.specs.Counting.{is_listed, most_assignments, HasAssignments, HaveSame, read_variables, sum_variables}
use Rattle.cps_cert.specs.Refuting.{IsRefutedByAll}
use Rattle.cps_cert.specs.Trying.{IsBoxOf, IsInDomains, IsOnly, IsRead, IsReached}
use Rattle.cps_cert.proofs.Counted.{same_number, differs, listed_of, contains_of}

-- ---- too many

pub too_much_to_try : (m : CpModel) (sums : List LinearExpr) (clause : List Atom) (c : Constraint) (box : Box) → ((k : ℕ) → HasAssignments (box_of (subject_domains m.variables sums) clause) (read_variables m.constraints c ++ sum_variables m.variables sums clause) 0 (length m.variables) k → most_assignments < k) → IsRefutedByAll m sums clause c → ⊥
too_much_to_try m sums clause c box many r =
    let over = many r.count r.counted in
    let few = r.few in
    omega arith

-- ---- a list by a function of the place

fill : (ℕ → ℤ) → ℕ → ℕ → List ℤ
fill f i zero = []
fill f i (suc more) = f i ∷ fill f (i + 1) more

length-fill : (f : ℕ → ℤ) (i more : ℕ) → length (fill f i more) ≡ more
unfolding fill
length-fill f i zero = refl
length-fill f i (suc more) = let e = length-fill f (i + 1) more in omega arith

fill_from : (f : ℕ → ℤ) (i more k : ℕ) → k < more → get_or (fill f i more) k (pos 0) ≡ f (i + k)
unfolding fill
fill_from f i zero k l = absurd (omega arith)
fill_from f i (suc more) zero l = let e : i ≡ i + 0 = omega arith in ap f e
fill_from f i (suc more) (suc k) l =
    let e : (i + 1) + k ≡ i + suc k = omega arith in
    fill_from f (i + 1) more k (omega arith) ∙ ap f e

fill_at : (f : ℕ → ℤ) (n k : ℕ) → k < n → variable_value (fill f 0 n) k ≡ f k
fill_at f n k l = let e : 0 + k ≡ k = omega arith in fill_from f 0 n k l ∙ ap f e

-- beyond its end a list has the value 0
pub beyond_end : (a b : List ℤ) (n v : ℕ) → length a ≡ n → length b ≡ n → n ≤ v → variable_value a v ≡ variable_value b v
beyond_end a b n v la lb l = get_or-eq_default a (pos 0) {n = v} (omega arith) ∙ sym (get_or-eq_default b (pos 0) {n = v} (omega arith))

-- values that each lie in their variable's domain
pub within_from : (vs : List Variable) (a : List ℤ) → length a ≡ length vs → ((v : ℕ) → v < length vs → is_within (get_or (map variable_domain vs) v []) (get_or a v (pos 0)) ≡ true) → are_within vs a ≡ true
within_from [] [] l h = refl
within_from [] (x ∷ a) l h = absurd (omega arith)
within_from (v ∷ vs) [] l h = absurd (omega arith)
within_from (v ∷ vs) (x ∷ a) l h = rw (h 0 (omega arith), within_from vs a (omega arith) (λ k d. h (suc k) (omega arith))) refl

-- ---- what the box leaves lies in the domains

pub in_domains_of : (m : CpModel) (sums : List LinearExpr) (clause : List Atom) (domains : List Window) → IsBoxOf m sums clause domains → IsInDomains domains m.variables
in_domains_of m sums clause domains is =
    let many = is.many in
    record {
      many = omega arith;
      values = record { some = λ v l. is.values.some v (omega arith) };
      at = λ v x l h. (
          let whole = sym (is.same v x) ∙ h in
          let both = and_true (is_within (get_or (subject_domains m.variables sums) v []) x) (not (is_made_true clause v x)) whole in
          let there : v < length (map variable_domain m.variables) = simp length-map l in
          subst (λ (bounds : List ℤ). is_within bounds x ≡ true) (get_or_append_left (map variable_domain m.variables) (map (sum_domain m.variables) sums) [] v there) both.0);
    }

-- ---- a reached assignment, with the others as the box has them

module _ (box : Box) (n : ℕ) (read : List ℕ) (some : (v : ℕ) → v < n → (x : ℤ) × (box v x ≡ true)) (b : List ℤ) where
  chosen_by : (v : ℕ) → Bool → (v < n) ⊎ (n ≤ v) → ℤ
  chosen_by v true c = variable_value b v
  chosen_by v false (inl l) = (some v l).0
  chosen_by v false (inr l) = pos 0

  chosen : ℕ → ℤ
  chosen v = chosen_by v (is_listed read v) (cases_lt v n)

  chosen_read : (v : ℕ) → is_listed read v ≡ true → chosen v ≡ variable_value b v
  unfolding chosen chosen_by
  chosen_read v e = rw e refl

  chosen_in_by : (v : ℕ) (t : Bool) (c : (v < n) ⊎ (n ≤ v)) → is_listed read v ≡ t → v < n → (Contains read v → box v (variable_value b v) ≡ true) → box v (chosen_by v t c) ≡ true
  unfolding chosen_by
  chosen_in_by v true c e l in_box = in_box (contains_of read v e)
  chosen_in_by v false (inl k) e l in_box = (some v k).1
  chosen_in_by v false (inr k) e l in_box = absurd (omega arith)

  chosen_in : (v : ℕ) → v < n → (Contains read v → box v (variable_value b v) ≡ true) → box v (chosen v) ≡ true
  unfolding chosen
  chosen_in v l in_box = chosen_in_by v (is_listed read v) (cases_lt v n) refl l in_box

  pub completed : List ℤ
  completed = fill chosen 0 n

  pub length-completed : length completed ≡ n
  unfolding completed
  length-completed = length-fill chosen 0 n

  pub completed_in : (v : ℕ) → v < n → (Contains read v → box v (variable_value b v) ≡ true) → box v (variable_value completed v) ≡ true
  unfolding completed
  completed_in v l in_box = rw (fill_at chosen n v l) (chosen_in v l in_box)

  completed_by : (v : ℕ) → length b ≡ n → Contains read v → (v < n) ⊎ (n ≤ v) → variable_value b v ≡ variable_value completed v
  unfolding completed
  completed_by v long c (inl l) = sym (fill_at chosen n v l ∙ chosen_read v (listed_of read v c))
  completed_by v long c (inr l) = beyond_end b (fill chosen 0 n) n v long (length-fill chosen 0 n) l

  pub completed_same : length b ≡ n → HaveSame b completed read
  completed_same long v c = completed_by v long c (cases_lt v n)

-- what was read lies in the box at an assignment that was reached
read_in_by : (box : Box) (unfixed : List ℕ) (a b : List ℤ) (v : ℕ) (t : Bool) → is_listed unfixed v ≡ t → IsReached box unfixed a b → Contains unfixed v ⊎ IsOnly (box v) (variable_value a v) → box v (variable_value b v) ≡ true
read_in_by box unfixed a b v true e r s = r.inside v (contains_of unfixed v e)
read_in_by box unfixed a b v false e r (inl c) = r.inside v c
read_in_by box unfixed a b v false e r (inr o) = rw (r.same v (λ c. (let l = listed_of unfixed v c in cc))) o.admitted

pub read_in : (box : Box) (n : ℕ) (read : List ℕ) (values : List ℤ) (unfixed : List ℕ) (count : ℕ) (b : List ℤ) (v : ℕ) → IsRead box n read values unfixed count → IsReached box unfixed values b → v < n → Contains read v → box v (variable_value b v) ≡ true
read_in box n read values unfixed count b v h r l c = read_in_by box unfixed values b v (is_listed unfixed v) refl r (h.settled v l c)

-- ---- an assignment of the box, as it is reached

-- with the unfixed variables' values
pub with_values : List ℤ → List ℕ → List ℤ → List ℤ
with_values a [] values = values
with_values a (v ∷ vs) values = set (with_values a vs values) v (variable_value a v)

pub length-with_values : (a : List ℤ) (vs : List ℕ) (values : List ℤ) → length (with_values a vs values) ≡ length values
unfolding with_values
length-with_values a [] values = refl
length-with_values a (v ∷ vs) values = length-set (with_values a vs values) v (variable_value a v) ∙ length-with_values a vs values

taken_by : (a : List ℤ) (x : ℕ) (vs : List ℕ) (values : List ℤ) (v : ℕ) (t : Bool) → (x == v) ≡ t → x < length values → (Contains vs v → variable_value (with_values a vs values) v ≡ variable_value a v) → (t || is_listed vs v) ≡ true → variable_value (set (with_values a vs values) x (variable_value a x)) v ≡ variable_value a v
taken_by a x vs values v true e l next h =
    let is = same_number x v e in
    subst (λ (u : ℕ). variable_value (set (with_values a vs values) x (variable_value a x)) u ≡ variable_value a u) is (get_or-set_same (with_values a vs values) x (variable_value a x) (pos 0) (rw (length-with_values a vs values) l))
taken_by a x vs values v false e l next h =
    get_or-set_other (with_values a vs values) x v (variable_value a x) (pos 0) (λ s. differs x v e (sym s)) ∙ next (contains_of vs v h)

pub taken : (a : List ℤ) (vs : List ℕ) (values : List ℤ) (v : ℕ) → ((u : ℕ) → Contains vs u → u < length values) → Contains vs v → variable_value (with_values a vs values) v ≡ variable_value a v
unfolding with_values
taken a [] values v w c = absurd (let l = c.1 in omega arith)
taken a (x ∷ vs) values v w c =
    taken_by a x vs values v (x == v) refl (w x (0, omega arith, refl)) (taken a vs values v (λ u d. w u (Contains-append_right (x ∷ []) vs u d))) (listed_of (x ∷ vs) v c)

left_by : (a : List ℤ) (x : ℕ) (vs : List ℕ) (values : List ℤ) (v : ℕ) → (Contains (x ∷ vs) v → ⊥) → v ≡ x → ⊥
left_by a x vs values v none e = none (0, omega arith, sym e)

pub left : (a : List ℤ) (vs : List ℕ) (values : List ℤ) (v : ℕ) → (Contains vs v → ⊥) → variable_value (with_values a vs values) v ≡ variable_value values v
unfolding with_values
left a [] values v none = refl
left a (x ∷ vs) values v none =
    get_or-set_other (with_values a vs values) x v (variable_value a x) (pos 0) (left_by a x vs values v none)
    ∙ left a vs values v (λ c. none (Contains-append_right (x ∷ []) vs v c))
