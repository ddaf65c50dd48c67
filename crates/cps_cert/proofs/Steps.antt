-- What one variable more that is read does to what was read.
use Rattle.std.specs.Prelude.{Contains, Result, Ok, Err, OnOk, min, ◌==◌, ◌^◌, ◌-◌}
use Rattle.std.specs.List.{flat_map}
use Rattle.std.proofs.Common.{drop, ◌≡◌, ℕ, zero, suc, ◌+◌, ◌*◌, ◌<◌, ◌≤◌, List, [], ◌∷◌, ◌++◌, length, get_or, set, map, Bool, true, false, ◌⊎◌, inl, inr, refl, sym, ◌∙◌, ap, subst, arith, ℤ, pos}
use Rattle.std.proofs.lemmas.Bool.{cases_lt}
use Rattle.std.proofs.lemmas.List.{drop_more, drop_all, append_assoc, append-nil, get_or-set_same, get_or-set_other}
use Rattle.std.proofs.lemmas.List.Elements.{Contains-append_left, Contains-append_right, Contains-append_cases}
use Rattle.cps_model.specs.declared.model.Variable.{Variable}
use Rattle.std.proofs.lemmas.List.Concat.{flat_map-append}
use Rattle.cps_model.specs.declared.model.LinearExpr.{LinearExpr}
use Rattle.cps_model.specs.Values.{variable_of, variable_value, reference_expression}
use Rattle.cps_model.specs.Rising.{IsRising}
use Rattle.cps_model.specs.Within.{is_within}
use Rattle.cps_model.specs.Solutions.{are_within}
use Rattle.cps_model.proofs.Tests.{and_true}
use Rattle.cps_log.specs.Subjects.{variable_domain}
use Rattle.cps_unit.specs.Boxes.{Box}
use Rattle.cps_cert.specs.Counting.{variables_of, variables_of_sum, most_assignments, is_listed, HasCount, HasAssignments}
use Rattle.cps_domain.specs.Window.{Window}
use Rattle.cps_cert.specs.declared.assignments.Assignments.{Assignments}
use Rattle.cps_rup.specs.Domains.{box_in}
use Rattle.cps_cert.specs.Trying.{IsOnly, IsRead, IsTooMuch, HasRead, ReadsOn}
use Rattle.cps_cert.proofs.Counted.{same_number, differs, listed_of, contains_of, listed_append, added, again, beyond, no_fewer}

-- a value that lies in its variable's domain may be written
pub within_set : (vs : List Variable) (a : List ℤ) (i : ℕ) (x : ℤ) → are_within vs a ≡ true → i < length vs → is_within (get_or (map variable_domain vs) i []) x ≡ true → are_within vs (set a i x) ≡ true
within_set [] [] i x w l h = absurd (omega arith)
within_set [] (y ∷ ys) i x w l h = cc
within_set (v ∷ vs) [] i x w l h = cc
within_set (v ∷ vs) (y ∷ ys) zero x w l h = let both = and_true (is_within v.domain y) (are_within vs ys) w in rw (h, both.1) refl
within_set (v ∷ vs) (y ∷ ys) (suc i) x w l h =
    let both = and_true (is_within v.domain y) (are_within vs ys) w in
    let rest = within_set vs ys i x both.1 (omega arith) h in
    rw (both.0, rest) refl

one_at : (x v k : ℕ) → k < length (x ∷ []) → get_or (x ∷ []) k v ≡ v → x ≡ v
one_at x v zero l e = e
one_at x v (suc k) l e = absurd (omega arith)

contains_one : (x v : ℕ) → Contains (x ∷ []) v → x ≡ v
contains_one x v c = one_at x v c.0 c.1 c.2

last_contained : (xs : List ℕ) (x : ℕ) → Contains (xs ++ x ∷ []) x
last_contained xs x = Contains-append_right xs (x ∷ []) x (0, omega arith, refl)

-- ---- one number alone

alone_rises : (x : ℤ) → IsRising (x ∷ [])
alone_rises x i j l m = absurd (omega arith)

alone_at : (x y : ℤ) (k : ℕ) → k < length (x ∷ []) → get_or (x ∷ []) k y ≡ y → x ≡ y
alone_at x y zero l e = e
alone_at x y (suc k) l e = absurd (omega arith)

one_number : (admits : ℤ → Bool) (x : ℤ) → IsOnly admits x → HasCount admits 1
one_number admits x o = record {
  values = x ∷ [];
  rising = alone_rises x;
  all = λ y. ((λ e. (0, omega arith, sym (o.alone y e))), λ c. rw (← alone_at x y c.0 c.1 c.2) o.admitted);
  count = refl;
}

module _ (box : Box) (n : ℕ) where
  abbrev pub State : List ℕ → List ℤ → List ℕ → ℕ → Type 0
  State read values unfixed count = IsRead box n read values unfixed count ⊎ ((most_assignments < count) × IsTooMuch box n read)

  abbrev Settled : List ℕ → List ℤ → List ℕ → Type 0
  Settled read values unfixed = (v : ℕ) → v < n → Contains read v → Contains unfixed v ⊎ IsOnly (box v) (variable_value values v)

  settle_old : (unfixed unfixed' : List ℕ) (values values' : List ℤ) (v : ℕ) → ((u : ℕ) → Contains unfixed u → Contains unfixed' u) → variable_value values' v ≡ variable_value values v → Contains unfixed v ⊎ IsOnly (box v) (variable_value values v) → Contains unfixed' v ⊎ IsOnly (box v) (variable_value values' v)
  settle_old unfixed unfixed' values values' v sub same (inl c) = inl (sub v c)
  settle_old unfixed unfixed' values values' v sub same (inr o) = inr (rw same o)

  settle_by : (read unfixed unfixed' : List ℕ) (values values' : List ℤ) (x v : ℕ) → ((u : ℕ) → Contains unfixed u → Contains unfixed' u) → ((u : ℕ) → (x ≡ u → ⊥) → variable_value values' u ≡ variable_value values u) → Settled read values unfixed → v < n → (x ≡ v → ⊥) → Contains read v ⊎ Contains (x ∷ []) v → Contains unfixed' v ⊎ IsOnly (box v) (variable_value values' v)
  settle_by read unfixed unfixed' values values' x v sub same settled l d (inl c) = settle_old unfixed unfixed' values values' v sub (same v d) (settled v l c)
  settle_by read unfixed unfixed' values values' x v sub same settled l d (inr c) = absurd (d (contains_one x v c))

  settle_at : (read unfixed unfixed' : List ℕ) (values values' : List ℤ) (x v : ℕ) (b : Bool) → (x == v) ≡ b → ((u : ℕ) → Contains unfixed u → Contains unfixed' u) → ((u : ℕ) → (x ≡ u → ⊥) → variable_value values' u ≡ variable_value values u) → (x < n → Contains unfixed' x ⊎ IsOnly (box x) (variable_value values' x)) → Settled read values unfixed → v < n → Contains (read ++ x ∷ []) v → Contains unfixed' v ⊎ IsOnly (box v) (variable_value values' v)
  settle_at read unfixed unfixed' values values' x v true e sub same here settled l c =
      let is = same_number x v e in
      subst (λ (u : ℕ). Contains unfixed' u ⊎ IsOnly (box u) (variable_value values' u)) is (here (omega arith))
  settle_at read unfixed unfixed' values values' x v false e sub same here settled l c =
      settle_by read unfixed unfixed' values values' x v sub same settled l (differs x v e) (Contains-append_cases read (x ∷ []) v c)

  settle : (read unfixed unfixed' : List ℕ) (values values' : List ℤ) (x : ℕ) → ((u : ℕ) → Contains unfixed u → Contains unfixed' u) → ((u : ℕ) → (x ≡ u → ⊥) → variable_value values' u ≡ variable_value values u) → (x < n → Contains unfixed' x ⊎ IsOnly (box x) (variable_value values' x)) → Settled read values unfixed → Settled (read ++ x ∷ []) values' unfixed'
  settle read unfixed unfixed' values values' x sub same here settled v l c = settle_at read unfixed unfixed' values values' x v (x == v) refl sub same here settled l c

  -- ---- too much

  too_much_more : (read more : List ℕ) → IsTooMuch box n read → IsTooMuch box n (read ++ more)
  too_much_more read more t = record { many = λ others k h. t.many (more ++ others) k (subst (λ (xs : List ℕ). HasAssignments box xs 0 n k) (append_assoc read more others) h) }

  pub state_full : (read : List ℕ) (values : List ℤ) (unfixed : List ℕ) (count x : ℕ) → most_assignments < count → State read values unfixed count → State (read ++ x ∷ []) values unfixed count
  state_full read values unfixed count x l (inl r) = absurd (let f = r.few in omega arith)
  state_full read values unfixed count x l (inr t) = inr (l, too_much_more read (x ∷ []) t.1)

  -- ---- a variable that the model does not have

  pub state_beyond : (read : List ℕ) (values : List ℤ) (unfixed : List ℕ) (count x : ℕ) → n ≤ x → State read values unfixed count → State (read ++ x ∷ []) values unfixed count
  state_beyond read values unfixed count x l (inl r) = inl (record {
    few = r.few;
    counted = beyond box read x n count l r.counted;
    within = r.within;
    before = λ v c. Contains-append_left read (x ∷ []) v (r.before v c);
    settled = settle read unfixed unfixed values values x (λ u c. c) (λ u d. refl) (λ m. absurd (omega arith)) r.settled;
  })
  state_beyond read values unfixed count x l (inr t) = inr (t.0, too_much_more read (x ∷ []) t.1)

  -- ---- a variable that is left one value

  fixed_count : (read : List ℕ) (count x : ℕ) (y : ℤ) (b : Bool) → is_listed read x ≡ b → x < n → IsOnly (box x) y → HasAssignments box read 0 n count → HasAssignments box (read ++ x ∷ []) 0 n count
  fixed_count read count x y true e l o h = again box read x n count e h
  fixed_count read count x y false e l o h =
      let more = added box read x 0 n count 1 e (omega arith) (omega arith) (one_number (box x) y o) h in
      let same : count * 1 ≡ count = omega arith in
      subst (λ (k : ℕ). HasAssignments box (read ++ x ∷ []) 0 n k) same more

  pub state_fixed : (read : List ℕ) (values : List ℤ) (unfixed : List ℕ) (count x : ℕ) (y : ℤ) → count ≤ most_assignments → x < n → length values ≡ n → IsOnly (box x) y → State read values unfixed count → State (read ++ x ∷ []) (set values x y) unfixed count
  state_fixed read values unfixed count x y few l long o (inl r) = inl (record {
    few = r.few;
    counted = fixed_count read count x y (is_listed read x) refl l o r.counted;
    within = r.within;
    before = λ v c. Contains-append_left read (x ∷ []) v (r.before v c);
    settled = settle read unfixed unfixed values (set values x y) x (λ u c. c) (λ u d. get_or-set_other values x u y (pos 0) (λ e. d (sym e)))
        (λ m. inr (rw (get_or-set_same values x y (pos 0) (omega arith)) o)) r.settled;
  })
  state_fixed read values unfixed count x y few l long o (inr t) = absurd (let m = t.0 in omega arith)

  -- ---- a variable that is unfixed already

  pub state_again : (read : List ℕ) (values : List ℤ) (unfixed : List ℕ) (count x : ℕ) → count ≤ most_assignments → Contains unfixed x → State read values unfixed count → State (read ++ x ∷ []) values unfixed count
  state_again read values unfixed count x few c (inl r) = inl (record {
    few = r.few;
    counted = again box read x n count (listed_of read x (r.before x c)) r.counted;
    within = r.within;
    before = λ v o. Contains-append_left read (x ∷ []) v (r.before v o);
    settled = settle read unfixed unfixed values values x (λ u o. o) (λ u d. refl) (λ m. inl c) r.settled;
  })
  state_again read values unfixed count x few c (inr t) = absurd (let m = t.0 in omega arith)

  -- ---- a variable that is opened

  not_read_by : (values : List ℤ) (unfixed : List ℕ) (x : ℕ) → (Contains unfixed x → ⊥) → ((y : ℤ) → IsOnly (box x) y → ⊥) → Contains unfixed x ⊎ IsOnly (box x) (variable_value values x) → ⊥
  not_read_by values unfixed x new several (inl c) = new c
  not_read_by values unfixed x new several (inr o) = several (variable_value values x) o

  not_read : (read : List ℕ) (values : List ℤ) (unfixed : List ℕ) (x : ℕ) (b : Bool) → is_listed read x ≡ b → x < n → (Contains unfixed x → ⊥) → ((y : ℤ) → IsOnly (box x) y → ⊥) → Settled read values unfixed → is_listed read x ≡ false
  not_read read values unfixed x true e l new several settled = absurd (not_read_by values unfixed x new several (settled x l (contains_of read x e)))
  not_read read values unfixed x false e l new several settled = e

  opened_within : (unfixed : List ℕ) (x v : ℕ) → x < n → ((u : ℕ) → Contains unfixed u → u < n) → Contains unfixed v ⊎ Contains (x ∷ []) v → v < n
  opened_within unfixed x v l within (inl c) = within v c
  opened_within unfixed x v l within (inr c) = let e = contains_one x v c in omega arith

  opened_before : (read unfixed : List ℕ) (x v : ℕ) → ((u : ℕ) → Contains unfixed u → Contains read u) → Contains unfixed v ⊎ Contains (x ∷ []) v → Contains (read ++ x ∷ []) v
  opened_before read unfixed x v before (inl c) = Contains-append_left read (x ∷ []) v (before v c)
  opened_before read unfixed x v before (inr c) = Contains-append_right read (x ∷ []) v c

  opened_by : (read : List ℕ) (values : List ℤ) (unfixed : List ℕ) (count x s : ℕ) → x < n → HasAssignments box (read ++ x ∷ []) 0 n (count * s) → ((v : ℕ) → v < n → (y : ℤ) × (box v y ≡ true)) → IsRead box n read values unfixed count → (most_assignments < count * s) ⊎ (count * s ≤ most_assignments) → State (read ++ x ∷ []) values (unfixed ++ x ∷ []) (min (count * s) (2 ^ 64 - 1))
  opened_by read values unfixed count x s l counted some r (inl m) = inr (
    omega arith,
    record {
      many = λ more k h. (
          let below = no_fewer box (read ++ x ∷ []) ((read ++ x ∷ []) ++ more) 0 n (count * s) k (λ v e. rw (listed_append (read ++ x ∷ []) more v, e) refl) (λ v u. some v (omega arith)) counted h in
          omega arith);
    },
  )
  opened_by read values unfixed count x s l counted some r (inr m) =
      let exact : min (count * s) (2 ^ 64 - 1) ≡ count * s = omega arith in
      inl (record {
        few = omega arith;
        counted = subst (λ (k : ℕ). HasAssignments box (read ++ x ∷ []) 0 n k) (sym exact) counted;
        within = λ v c. opened_within unfixed x v l r.within (Contains-append_cases unfixed (x ∷ []) v c);
        before = λ v c. opened_before read unfixed x v r.before (Contains-append_cases unfixed (x ∷ []) v c);
        settled = settle read unfixed (unfixed ++ x ∷ []) values values x (λ u c. Contains-append_left unfixed (x ∷ []) u c) (λ u d. refl) (λ k. inl (last_contained unfixed x)) r.settled;
      })

  pub state_opened : (read : List ℕ) (values : List ℤ) (unfixed : List ℕ) (count x s : ℕ) → count ≤ most_assignments → x < n → (Contains unfixed x → ⊥) → ((y : ℤ) → IsOnly (box x) y → ⊥) → HasCount (box x) s → ((v : ℕ) → v < n → (y : ℤ) × (box v y ≡ true)) → State read values unfixed count → State (read ++ x ∷ []) values (unfixed ++ x ∷ []) (min (count * s) (2 ^ 64 - 1))
  state_opened read values unfixed count x s few l new several count_here some (inl r) =
      let none = not_read read values unfixed x (is_listed read x) refl l new several r.settled in
      opened_by read values unfixed count x s l (added box read x 0 n count s none (omega arith) (omega arith) count_here r.counted) some r (cases_lt most_assignments (count * s))
  state_opened read values unfixed count x s few l new several count_here some (inr t) = absurd (let m = t.0 in omega arith)

-- ---- from what the domains say

pub only_of : (admits left : ℤ → Bool) (y : ℤ) → admits ≡ left → admits y ≡ true → ((u w : ℤ) → admits u ≡ true → admits w ≡ true → u ≡ w) → IsOnly left y
only_of admits left y e in_it one = subst (λ (test : ℤ → Bool). IsOnly test y) e (record { admitted = in_it; alone = λ w h. one w y h in_it })

pub several_of : (admits left : ℤ → Bool) → admits ≡ left → (((u w : ℤ) → admits u ≡ true → admits w ≡ true → u ≡ w) → ⊥) → (y : ℤ) → IsOnly left y → ⊥
several_of admits left e varied y o = varied (λ u w h g. o.alone u (subst (λ (test : ℤ → Bool). test u ≡ true) e h) ∙ sym (o.alone w (subst (λ (test : ℤ → Bool). test w ≡ true) e g)))

-- ---- one after another

pub reads_nothing : (domains : List Window) (s : Assignments) → ReadsOn domains s [] s
reads_nothing domains s vs read i h = subst (λ (xs : List ℕ). HasRead (box_in domains) vs xs s) (sym (append-nil read)) h

pub reads_then : (domains : List Window) (s t u : Assignments) (xs ys : List ℕ) → ReadsOn domains s xs t → ReadsOn domains t ys u → ReadsOn domains s (xs ++ ys) u
reads_then domains s t u xs ys f g vs read i h =
    subst (λ (zs : List ℕ). HasRead (box_in domains) vs zs u) (append_assoc read xs ys) (g vs (read ++ xs) i (f vs read i h))

-- the same where what was read is named otherwise
pub reads_same : (domains : List Window) (s t : Assignments) (xs ys : List ℕ) → xs ≡ ys → ReadsOn domains s xs t → ReadsOn domains s ys t
reads_same domains s t xs ys e f vs read i h = subst (λ (zs : List ℕ). HasRead (box_in domains) vs (read ++ zs) t) e (f vs read i h)

pub on_ok : {X E P Q : Type 0} (r : Result X E) → (P → Q) → OnOk r P → OnOk r Q
on_ok (Ok x) f p = f p
on_ok (Err e) f p = p

-- one reference more
pub reference_step : (domains : List Window) (s t new : Assignments) (references : List ℤ) (k v : ℕ) → k < length references → v ≡ variable_of (get_or references k (pos 0)) → ReadsOn domains s (v ∷ []) t → ReadsOn domains t (variables_of (drop (k + 1) references)) new → ReadsOn domains s (variables_of (drop k references)) new
reference_step domains s t new references k v l e f g =
    let same : v ∷ variables_of (drop (k + 1) references) ≡ variables_of (drop k references) = ap (λ (u : ℕ). u ∷ variables_of (drop (k + 1) references)) e ∙ ap variables_of (sym (drop_more references k (pos 0) l)) in
    reads_same domains s new (v ∷ variables_of (drop (k + 1) references)) (variables_of (drop k references)) same (reads_then domains s t new (v ∷ []) (variables_of (drop (k + 1) references)) f g)

-- one item more of a list
pub item_step : {X : Type 0} (F : X → List ℕ) (domains : List Window) (s t new : Assignments) (xs : List X) (k : ℕ) (x : X) → k < length xs → x ≡ get_or xs k x → ReadsOn domains s (F x) t → ReadsOn domains t (flat_map F (drop (k + 1) xs)) new → ReadsOn domains s (flat_map F (drop k xs)) new
item_step F domains s t new xs k x l e f g =
    let same : F x ++ flat_map F (drop (k + 1) xs) ≡ flat_map F (drop k xs) = ap (λ y. F y ++ flat_map F (drop (k + 1) xs)) e ∙ ap (flat_map F) (sym (drop_more xs k x l)) in
    reads_same domains s new (F x ++ flat_map F (drop (k + 1) xs)) (flat_map F (drop k xs)) same (reads_then domains s t new (F x) (flat_map F (drop (k + 1) xs)) f g)

pub read_out : {X : Type 0} (G : List X → List ℕ) (domains : List Window) (s : Assignments) (xs : List X) (k : ℕ) → length xs ≤ k → G [] ≡ [] → ReadsOn domains s (G (drop k xs)) s
read_out G domains s xs k l none = reads_same domains s s [] (G (drop k xs)) (sym (ap G (drop_all k xs l) ∙ none)) (reads_nothing domains s)

-- the variables of expressions, of which some are plain references
references_flat : (rs : List ℤ) → flat_map variables_of_sum (map reference_expression rs) ≡ variables_of rs
references_flat [] = refl
references_flat (r ∷ rs) = ap (λ xs. variable_of r ∷ xs) (references_flat rs)

pub exprs_variables : (written : List LinearExpr) (references : List ℤ) (exprs : List LinearExpr) → exprs ≡ written ++ map reference_expression references → flat_map variables_of_sum written ++ variables_of references ≡ flat_map variables_of_sum exprs
exprs_variables written references exprs e =
    ap (λ xs. flat_map variables_of_sum written ++ xs) (sym (references_flat references))
    ∙ sym (flat_map-append variables_of_sum written (map reference_expression references)) ∙ ap (flat_map variables_of_sum) (sym e)
