-- A box is refuted where no assignment that is tried is good, and else it is not.
use Rattle.std.specs.Prelude.{Contains, All, None, Some, Option, IfSome, ◌==◌, nat_lt, slice_get, if◌then◌else◌, MatchBool}
use Rattle.std.proofs.Common.{◌≡◌, ℕ, zero, suc, ◌+◌, ◌-◌, ◌*◌, ◌<◌, ◌≤◌, List, [], ◌∷◌, ◌++◌, length, get_or, map, Bool, true, false, ◌⊎◌, inl, inr, refl, sym, ◌∙◌, ap, subst, arith, ℤ, pos}
use Rattle.std.proofs.lemmas.Bool.{cases_lt}
use Rattle.std.proofs.lemmas.Bool.Decides.{nat_tests}
use Rattle.std.proofs.lemmas.List.{get_or-append_right}
use Rattle.std.proofs.lemmas.List.Elements.{Contains-get_or, Contains-append_left, Contains-append_right}
use Rattle.cps_model.specs.declared.model.CpModel.{CpModel}
use Rattle.cps_model.specs.declared.model.LinearExpr.{LinearExpr}
use Rattle.cps_model.specs.declared.model.Variable.{Variable}
use Rattle.cps_model.specs.declared.constraint.Constraint.{Constraint}
use Rattle.cps_model.specs.Values.{variable_value, expression_value}
use Rattle.cps_model.specs.Solutions.{are_within}
use Rattle.cps_model.specs.Meaning.{IsSatisfied}
use Rattle.cps_model.specs.Validity.{variable_fault}
use Rattle.cps_domain.specs.Window.{Window}
use Rattle.cps_literal.specs.declared.atom.Atom.{Atom}
use Rattle.cps_literal.specs.Truth.{value_at}
use Rattle.cps_log.specs.Subjects.{extended, subject_domains, subject_count, sum_at, IsClauseOver}
use Rattle.cps_unit.specs.Boxes.{Box, is_made_true}
use Rattle.cps_log.specs.Boxes.{box_of}
use Rattle.cps_cert.specs.Counting.{is_listed, HasCount, HasAssignments, HaveSame, read_variables, sum_variables}
use Rattle.cps_rup.specs.Domains.{box_in}
use Rattle.cps_cert.specs.Refuting.{LiesInBox, IsRefutedByAll}
use Rattle.cps_cert.specs.Trying.{IsBoxOf, IsOnly, IsRead, LiesIn, IsGood, CanReach}
use Rattle.cps_cert.proofs.SubjectDomains.{extended_within, variable_at}
use Rattle.cps_cert.proofs.Depending.{same_satisfied, clause_sum_same}
use Rattle.cps_cert.proofs.Counted.{same_number, listed_of, contains_of}
use Rattle.cps_cert.proofs.Reached.{in_domains_of, within_from, completed, length-completed, completed_in, completed_same, read_in, with_values, length-with_values, taken, left, beyond_end}

-- ---- the sum of a subject

record IsSumAt (sums : List LinearExpr) (k : ℕ) : Type 0 where
  sum : LinearExpr
  is : slice_get sums k ≡ Some sum
  value : (a : List ℤ) → get_or (map (expression_value a) sums) k (pos 0) ≡ expression_value a sum

sum_in : (sums : List LinearExpr) (k : ℕ) → k < length sums → IsSumAt sums k
sum_in [] k l = absurd (omega arith)
sum_in (e ∷ es) zero l = record { sum = e; is = refl; value = λ a. refl }
sum_in (e ∷ es) (suc k) l =
    let rest = sum_in es k (omega arith) in
    record { sum = rest.sum; is = rest.is; value = rest.value }

record IsSubjectSum (vs : List Variable) (sums : List LinearExpr) (s : ℕ) : Type 0 where
  sum : LinearExpr
  is : sum_at vs sums s ≡ Some sum
  value : (a : List ℤ) → length a ≡ length vs → value_at (extended sums a) s ≡ expression_value a sum

no_variable : (s n : ℕ) → n ≤ s → nat_lt s n ≡ false
no_variable s n l = grind (arith, nat_tests)

subject_sum : (vs : List Variable) (sums : List LinearExpr) (s : ℕ) → length vs ≤ s → s < subject_count vs sums → IsSubjectSum vs sums s
subject_sum vs sums s l u =
    let at = sum_in sums (s - length vs) (omega arith) in
    record {
      sum = at.sum;
      is = rw (no_variable s (length vs) l) at.is;
      value = λ a long. get_or-append_right a (map (expression_value a) sums) (length vs) s (pos 0) long l ∙ at.value a;
    }

-- ---- whether a clause is about a subject

record IsAbout (clause : List Atom) (s : ℕ) : Type 0 where
  atom : Atom
  within : Contains clause atom
  same : atom.subject ≡ s

about_by : (t : Atom) (clause : List Atom) (s : ℕ) (b : Bool) → (t.subject == s) ≡ b → IsAbout clause s ⊎ ((x : ℤ) → is_made_true clause s x ≡ false) → IsAbout (t ∷ clause) s ⊎ ((x : ℤ) → is_made_true (t ∷ clause) s x ≡ false)
about_by t clause s true e rest = inl (record { atom = t; within = (0, omega arith, refl); same = same_number t.subject s e })
about_by t clause s false e (inl r) = inl (record { atom = r.atom; within = Contains-append_right (t ∷ []) clause r.atom r.within; same = r.same })
about_by t clause s false e (inr none) = inr (λ x. rw (e, none x) refl)

about : (clause : List Atom) (s : ℕ) → IsAbout clause s ⊎ ((x : ℤ) → is_made_true clause s x ≡ false)
about [] s = inr (λ x. refl)
about (t ∷ clause) s = about_by t clause s (t.subject == s) refl (about clause s)

-- a variable stands for no sum
no_sum_by : (vs : List Variable) (sums : List LinearExpr) (s : ℕ) (e : LinearExpr) (b : Bool) → nat_lt s (length vs) ≡ b → s < length vs → (if b then None else slice_get sums (s - length vs)) ≡ Some e → ⊥
no_sum_by vs sums s e true is l h = cc
no_sum_by vs sums s e false is l h = absurd (grind (arith, nat_tests))

some_same : (d e : LinearExpr) → Some d ≡ Some e → d ≡ e
some_same d e h = cc

-- boxes that leave the same have as many assignments
number_same : (admits other : ℤ → Bool) (k : ℕ) → ((x : ℤ) → admits x ≡ other x) → HasCount admits k → HasCount other k
number_same admits other k same h = record {
  values = h.values;
  rising = h.rising;
  all = λ x. ((λ e. (h.all x).0 (same x ∙ e)), λ m. sym (same x) ∙ (h.all x).1 m);
  count = h.count;
}

counted_by : (box other : Box) (xs : List ℕ) (i more k : ℕ) (b : Bool) → ((x : ℤ) → box i x ≡ other i x) → ((j : ℕ) → HasAssignments box xs (i + 1) more j → HasAssignments other xs (i + 1) more j) → MatchBool b ((c : ℕ) × (d : ℕ) × HasCount (box i) c × HasAssignments box xs (i + 1) more d × (k ≡ c * d)) (HasAssignments box xs (i + 1) more k) → MatchBool b ((c : ℕ) × (d : ℕ) × HasCount (other i) c × HasAssignments other xs (i + 1) more d × (k ≡ c * d)) (HasAssignments other xs (i + 1) more k)
counted_by box other xs i more k true same next h = (h.0, h.1, number_same (box i) (other i) h.0 same h.2, next h.1 h.3, h.4)
counted_by box other xs i more k false same next h = next k h

pub counted_same : (box other : Box) (xs : List ℕ) (i more k : ℕ) → ((s : ℕ) (x : ℤ) → box s x ≡ other s x) → HasAssignments box xs i more k → HasAssignments other xs i more k
counted_same box other xs i zero k same h = h
counted_same box other xs i (suc more) k same h = counted_by box other xs i more k (is_listed xs i) (λ x. same i x) (λ j. counted_same box other xs (i + 1) more j same) h

-- ---- both directions

module _ (m : CpModel) (sums : List LinearExpr) (clause : List Atom) (c : Constraint) (domains : List Window) (is : IsBoxOf m sums clause domains) (valid : All (λ v. variable_fault v ≡ None) m.variables) where
  abbrev n : ℕ
  n = length m.variables

  abbrev box : Box
  box = box_in domains

  abbrev read : List ℕ
  read = read_variables m.constraints c ++ sum_variables m.variables sums clause

  abbrev Good : List ℤ → Type 0
  Good a = IsGood m sums clause box c a

  own_part : (a b : List ℤ) → HaveSame a b read → HaveSame a b (read_variables m.constraints c)
  own_part a b h v k = h v (Contains-append_left (read_variables m.constraints c) (sum_variables m.variables sums clause) v k)

  sums_part : (a b : List ℤ) → HaveSame a b read → HaveSame a b (sum_variables m.variables sums clause)
  sums_part a b h v k = h v (Contains-append_right (read_variables m.constraints c) (sum_variables m.variables sums clause) v k)

  -- ---- one that is reached and good shows an assignment in the box

  lies_of : (b : List ℤ) (t : Atom) (e : LinearExpr) → All (LiesIn m.variables sums box b) clause → Contains clause t → sum_at m.variables sums t.subject ≡ Some e → box t.subject (expression_value b e) ≡ true
  lies_of b t e all k at =
      let here = subst (λ (u : Atom). LiesIn m.variables sums box b u) k.2 (all k.0 t k.1) in
      subst (λ (o : Option LinearExpr). IfSome o (λ d. box t.subject (expression_value b d) ≡ true)) at here

  sum_lies_by : (a b : List ℤ) (s : ℕ) → length a ≡ n → are_within m.variables a ≡ true → HaveSame b a read → Good b → s < subject_count m.variables sums → (at : IsSubjectSum m.variables sums s) → IsAbout clause s ⊎ ((x : ℤ) → is_made_true clause s x ≡ false) → box_of (subject_domains m.variables sums) clause s (value_at (extended sums a) s) ≡ true
  sum_lies_by a b s long within same good l at (inl r) =
      let there : sum_at m.variables sums r.atom.subject ≡ Some at.sum = subst (λ (k : ℕ). sum_at m.variables sums k ≡ Some at.sum) (sym r.same) at.is in
      let value = clause_sum_same b a m.variables sums clause r.atom at.sum (sums_part b a same) r.within there in
      let inside : box s (expression_value b at.sum) ≡ true = subst (λ (k : ℕ). box k (expression_value b at.sum) ≡ true) r.same (lies_of b r.atom at.sum good.inside r.within there) in
      rw (at.value a long, ← value, ← is.same s (expression_value b at.sum)) inside
  sum_lies_by a b s long within same good l at (inr none) =
      rw (extended_within m.variables sums a s valid within l, none (value_at (extended sums a) s)) refl

  lies_by : (a b : List ℤ) (s : ℕ) → length a ≡ n → are_within m.variables a ≡ true → HaveSame b a read → Good b → ((v : ℕ) → v < n → box v (variable_value a v) ≡ true) → s < subject_count m.variables sums → (s < n) ⊎ (n ≤ s) → box_of (subject_domains m.variables sums) clause s (value_at (extended sums a) s) ≡ true
  lies_by a b s long within same good left l (inl d) =
      rw (variable_at sums a s (omega arith), ← is.same s (variable_value a s)) (left s d)
  lies_by a b s long within same good left l (inr d) =
      sum_lies_by a b s long within same good l (subject_sum m.variables sums s d l) (about clause s)

  in_box_satisfied : (a b : List ℤ) → length a ≡ n → HaveSame b a read → Good b → ((v : ℕ) → v < n → box v (variable_value a v) ≡ true) → IsRefutedByAll m sums clause c → ⊥
  in_box_satisfied a b long same good left_in r =
      let domained = in_domains_of m sums clause domains is in
      let within = within_from m.variables a long (λ v l. domained.at v (variable_value a v) l (left_in v l)) in
      let lies = λ (s : ℕ) (l : s < subject_count m.variables sums). lies_by a b s long within same good left_in l (cases_lt s n) in
      r.none a (record { long = long; inside = lies }) (same_satisfied b a m.constraints c (own_part b a same) good.satisfied)

  pub reached_not_refuted : (values : List ℤ) (unfixed : List ℕ) (count : ℕ) → length values ≡ n → IsRead box n read values unfixed count → CanReach box unfixed Good values → IsRefutedByAll m sums clause c → ⊥
  reached_not_refuted values unfixed count long h can r =
      let some = (in_domains_of m sums clause domains is).values.some in
      let b = can.assignment in
      let long_b = can.reached.long ∙ long in
      in_box_satisfied (completed box n read some b) b (length-completed box n read some b) (completed_same box n read some b long_b) can.good
      (λ v l. completed_in box n read some b v l (read_in box n read values unfixed count b v h can.reached l)) r

  -- ---- an assignment in the box is reached

  same_by : (a values : List ℤ) (unfixed : List ℕ) (v : ℕ) (t : Bool) → is_listed unfixed v ≡ t → ((u : ℕ) → Contains unfixed u → u < length values) → box v (variable_value a v) ≡ true → Contains unfixed v ⊎ IsOnly (box v) (variable_value values v) → variable_value a v ≡ variable_value (with_values a unfixed values) v
  same_by a values unfixed v true e w in_box s = sym (taken a unfixed values v w (contains_of unfixed v e))
  same_by a values unfixed v false e w in_box (inl k) = sym (taken a unfixed values v w k)
  same_by a values unfixed v false e w in_box (inr o) =
      o.alone (variable_value a v) in_box ∙ sym (left a unfixed values v (λ k. (let l = listed_of unfixed v k in cc)))

  variable_in : (a : List ℤ) (v : ℕ) → LiesInBox m sums clause a → v < n → box v (variable_value a v) ≡ true
  variable_in a v lies l =
      let long = lies.long in
      let here = lies.inside v (omega arith) in
      is.same v (variable_value a v) ∙ subst (λ (x : ℤ). box_of (subject_domains m.variables sums) clause v x ≡ true) (variable_at sums a v (omega arith)) here

  read_same : (a values : List ℤ) (unfixed : List ℕ) (count v : ℕ) → length values ≡ n → IsRead box n read values unfixed count → LiesInBox m sums clause a → Contains read v → (v < n) ⊎ (n ≤ v) → variable_value a v ≡ variable_value (with_values a unfixed values) v
  read_same a values unfixed count v long h lies k (inl l) =
      same_by a values unfixed v (is_listed unfixed v) refl (λ u d. (let w = h.within u d in omega arith)) (variable_in a v lies l) (h.settled v l k)
  read_same a values unfixed count v long h lies k (inr l) =
      beyond_end a (with_values a unfixed values) n v lies.long (length-with_values a unfixed values ∙ long) l

  lies_in_at : (a b : List ℤ) (t : Atom) (o : Option LinearExpr) → sum_at m.variables sums t.subject ≡ o → ((e : LinearExpr) → sum_at m.variables sums t.subject ≡ Some e → box t.subject (expression_value b e) ≡ true) → IfSome o (λ e. box t.subject (expression_value b e) ≡ true)
  lies_in_at a b t None is' h = tt
  lies_in_at a b t (Some e) is' h = h e is'

  sum_inside : (a b : List ℤ) (t : Atom) (e : LinearExpr) → HaveSame a b read → LiesInBox m sums clause a → Contains clause t → t.subject + 1 ≤ subject_count m.variables sums → (t.subject < n) ⊎ (n ≤ t.subject) → sum_at m.variables sums t.subject ≡ Some e → box t.subject (expression_value b e) ≡ true
  sum_inside a b t e same lies k below (inl l) at = absurd (no_sum_by m.variables sums t.subject e (nat_lt t.subject n) refl l at)
  sum_inside a b t e same lies k below (inr l) at =
      let here = lies.inside t.subject (omega arith) in
      let sum = subject_sum m.variables sums t.subject l (omega arith) in
      let one : sum.sum ≡ e = some_same sum.sum e (sym sum.is ∙ at) in
      let value : value_at (extended sums a) t.subject ≡ expression_value b e = sum.value a lies.long ∙ ap (expression_value a) one ∙ clause_sum_same a b m.variables sums clause t e (sums_part a b same) k at in
      is.same t.subject (expression_value b e) ∙ subst (λ (x : ℤ). box_of (subject_domains m.variables sums) clause t.subject x ≡ true) value here

  good_at : (a b : List ℤ) (t : Atom) → HaveSame a b read → LiesInBox m sums clause a → Contains clause t → t.subject + 1 ≤ subject_count m.variables sums → LiesIn m.variables sums box b t
  good_at a b t same lies k below = lies_in_at a b t (sum_at m.variables sums t.subject) refl (λ e at. sum_inside a b t e same lies k below (cases_lt t.subject n) at)

  not_reached_none : (values : List ℤ) (unfixed : List ℕ) (count : ℕ) → length values ≡ n → IsRead box n read values unfixed count → IsClauseOver (subject_count m.variables sums) clause → (CanReach box unfixed Good values → ⊥) → (a : List ℤ) → LiesInBox m sums clause a → IsSatisfied m.constraints a c → ⊥
  not_reached_none values unfixed count long h over none a lies held =
      let b = with_values a unfixed values in
      let same = λ (v : ℕ) (k : Contains read v). read_same a values unfixed count v long h lies k (cases_lt v n) in
      none (record {
        assignment = b;
        reached = record {
          long = length-with_values a unfixed values;
          same = left a unfixed values;
          inside = λ v k. rw (taken a unfixed values v (λ u d. (let w = h.within u d in omega arith)) k) (variable_in a v lies (h.within v k));
        };
        good = record {
          inside = λ k d l. good_at a b (get_or clause k d) (same) lies (Contains-get_or clause k d l) (over k d l).subject;
          satisfied = same_satisfied a b m.constraints c (own_part a b same) held;
        };
      })

  pub not_reached_refuted : (values : List ℤ) (unfixed : List ℕ) (count : ℕ) → length values ≡ n → IsRead box n read values unfixed count → IsClauseOver (subject_count m.variables sums) clause → (CanReach box unfixed Good values → ⊥) → IsRefutedByAll m sums clause c
  not_reached_refuted values unfixed count long h over none = record {
    count = count;
    counted = counted_same box (box_of (subject_domains m.variables sums) clause) read 0 n count is.same h.counted;
    few = h.few;
    none = not_reached_none values unfixed count long h over none;
  }
