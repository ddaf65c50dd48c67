-- What a box says of literals is so at assignments that lie in it.
use Rattle.std.specs.Prelude.{All, Any, ◌&&◌}
use Rattle.std.specs.List.{list_all, list_any}
use Rattle.std.proofs.Common.{◌≡◌, ℕ, zero, suc, ◌+◌, ◌<◌, ◌≤◌, List, [], ◌∷◌, length, get_or, Bool, true, false, cond, inl, inr, refl, sym, arith, ℤ, pos, negsuc}
use Rattle.std.proofs.lemmas.List.Elements.{All-head, All-tail}
use Rattle.std.proofs.lemmas.List.Sums.{sum_by-cons}
use borrow.Author.Tests.{ltb-true}
use Rattle.cps_model.specs.declared.model.LinearExpr.{LinearExpr}
use Rattle.cps_model.specs.Values.{variable_of, variable_value, literal_holds, literals_hold}
use Rattle.cps_model.specs.Rules.{names}
use Rattle.cps_model.specs.Booleans.{true_count}
use Rattle.cps_model.proofs.Tests.{and_true, both_true}
use Rattle.cps_log.specs.Subjects.{extended}
use Rattle.cps_unit.specs.Boxes.{Box, LieIn}
use Rattle.cps_log.specs.Boxes.{literal_at, IsFixedTrue, IsFixedFalse}
use Rattle.cps_cert.specs.Refuting.{AtTwo, HasTrueCount}
use Rattle.cps_cert.proofs.SubjectDomains.{variable_at}

pub and_false : (a b : Bool) → b ≡ false → (a && b) ≡ false
and_false true b e = e
and_false false b e = refl

-- what one literal more adds to the count of true ones
count_true : (a : List ℤ) (r : ℤ) (rs : List ℤ) → literal_holds a r ≡ true → true_count a (r ∷ rs) ≡ 1 + true_count a rs
count_true a r rs h = rw (sum_by-cons (λ x. cond (literal_holds a x) 1 0) r rs, h) refl

count_false : (a : List ℤ) (r : ℤ) (rs : List ℤ) → literal_holds a r ≡ false → true_count a (r ∷ rs) ≡ true_count a rs
count_false a r rs h = rw (sum_by-cons (λ x. cond (literal_holds a x) 1 0) r rs, h) (omega arith)

count_more : (a : List ℤ) (r : ℤ) (rs : List ℤ) → true_count a rs ≤ true_count a (r ∷ rs)
count_more a r rs = rw (sum_by-cons (λ x. cond (literal_holds a x) 1 0) r rs) (omega arith)

literal_is : (a : List ℤ) (r : ℤ) → literal_holds a r ≡ literal_at r (variable_value a (variable_of r))
literal_is a (pos i) = refl
literal_is a (negsuc i) = refl

-- an assignment that lies in a box over variables and sums, with at least its variables
pub record Lies (box : Box) (sums : List LinearExpr) (a : List ℤ) (count : ℕ) : Type 0 where
  pub room : length a ≤ count
  pub inside : LieIn count box (extended sums a)

-- the value of a variable is left to it
pub variable_left : (box : Box) (sums : List LinearExpr) (a : List ℤ) (count : ℕ) (r : ℤ) → Lies box sums a count → names (length a) r ≡ true → box (variable_of r) (variable_value a (variable_of r)) ≡ true
variable_left box sums a count r lies named =
    let below : variable_of r < length a = ltb-true _ _ named in
    let room = lies.room in
    let there : variable_of r < count = omega arith in
    rw (← variable_at sums a (variable_of r) below) (lies.inside (variable_of r) there)

pub fixed_true : (box : Box) (sums : List LinearExpr) (a : List ℤ) (count : ℕ) (r : ℤ) → Lies box sums a count → names (length a) r ≡ true → IsFixedTrue box r → literal_holds a r ≡ true
fixed_true box sums a count r lies named f = rw (literal_is a r) (f _ (variable_left box sums a count r lies named))

pub fixed_false : (box : Box) (sums : List LinearExpr) (a : List ℤ) (count : ℕ) (r : ℤ) → Lies box sums a count → names (length a) r ≡ true → IsFixedFalse box r → literal_holds a r ≡ false
fixed_false box sums a count r lies named f = rw (literal_is a r) (f _ (variable_left box sums a count r lies named))

module _ (box : Box) (sums : List LinearExpr) (a : List ℤ) (count : ℕ) (lies : Lies box sums a count) where
  pub all_true : (rs : List ℤ) → list_all (names (length a)) rs ≡ true → All (IsFixedTrue box) rs → literals_hold a rs ≡ true
  all_true [] n f = refl
  all_true (r ∷ rs) n f =
      let both = and_true (names (length a) r) (list_all (names (length a)) rs) n in
      both_true _ _ (fixed_true box sums a count r lies both.0 (All-head (IsFixedTrue box) r rs f)) (all_true rs both.1 (All-tail (IsFixedTrue box) r rs f))

  pub none_true : (rs : List ℤ) → list_all (names (length a)) rs ≡ true → All (IsFixedFalse box) rs → list_any (literal_holds a) rs ≡ false
  none_true [] n f = refl
  none_true (r ∷ rs) n f =
      let both = and_true (names (length a) r) (list_all (names (length a)) rs) n in
      rw (fixed_false box sums a count r lies both.0 (All-head (IsFixedFalse box) r rs f)) (none_true rs both.1 (All-tail (IsFixedFalse box) r rs f))

  not_all_true_at : (rs : List ℤ) (k : ℕ) (x : ℤ) → list_all (names (length a)) rs ≡ true → k < length rs → get_or rs k x ≡ x → IsFixedFalse box x → literals_hold a rs ≡ false
  not_all_true_at [] k x n l e f = absurd (omega arith)
  not_all_true_at (r ∷ rs) zero x n l e f =
      let both = and_true (names (length a) r) (list_all (names (length a)) rs) n in
      let here : IsFixedFalse box r = rw e f in
      rw (fixed_false box sums a count r lies both.0 here) refl
  not_all_true_at (r ∷ rs) (suc k) x n l e f =
      let both = and_true (names (length a) r) (list_all (names (length a)) rs) n in
      and_false _ _ (not_all_true_at rs k x both.1 (omega arith) e f)

  pub not_all_true : (rs : List ℤ) → list_all (names (length a)) rs ≡ true → Any (IsFixedFalse box) rs → literals_hold a rs ≡ false
  not_all_true rs n f = not_all_true_at rs f.0 f.1 n f.2 f.3 f.4

  -- ---- how many are true

  pub none_counted : (rs : List ℤ) → list_all (names (length a)) rs ≡ true → All (IsFixedFalse box) rs → true_count a rs ≡ 0
  none_counted [] n f = refl
  none_counted (r ∷ rs) n f =
      let both = and_true (names (length a) r) (list_all (names (length a)) rs) n in
      let is = count_false a r rs (fixed_false box sums a count r lies both.0 (All-head (IsFixedFalse box) r rs f)) in
      let rest = none_counted rs both.1 (All-tail (IsFixedFalse box) r rs f) in
      omega arith

  counted_at : (rs : List ℤ) (k : ℕ) (x : ℤ) → list_all (names (length a)) rs ≡ true → k < length rs → get_or rs k x ≡ x → IsFixedTrue box x → 1 ≤ true_count a rs
  counted_at [] k x n l e f = absurd (omega arith)
  counted_at (r ∷ rs) zero x n l e f =
      let both = and_true (names (length a) r) (list_all (names (length a)) rs) n in
      let here : IsFixedTrue box r = rw e f in
      let is = count_true a r rs (fixed_true box sums a count r lies both.0 here) in
      omega arith
  counted_at (r ∷ rs) (suc k) x n l e f =
      let both = and_true (names (length a) r) (list_all (names (length a)) rs) n in
      let rest = counted_at rs k x both.1 (omega arith) e f in
      let more = count_more a r rs in
      omega arith

  pub two_true : (rs : List ℤ) → list_all (names (length a)) rs ≡ true → AtTwo (IsFixedTrue box) rs → 2 ≤ true_count a rs
  two_true [] n f = absurd f
  two_true (r ∷ rs) n (inl both_true_here) =
      let both = and_true (names (length a) r) (list_all (names (length a)) rs) n in
      let is = count_true a r rs (fixed_true box sums a count r lies both.0 both_true_here.0) in
      let other = both_true_here.1 in
      let rest = counted_at rs other.0 other.1 both.1 other.2 other.3 other.4 in
      omega arith
  two_true (r ∷ rs) n (inr later) =
      let both = and_true (names (length a) r) (list_all (names (length a)) rs) n in
      let rest = two_true rs both.1 later in
      let more = count_more a r rs in
      omega arith

  pub true_count_is : (rs : List ℤ) (n : ℕ) → list_all (names (length a)) rs ≡ true → HasTrueCount box rs n → true_count a rs ≡ n
  true_count_is [] n named h = sym h
  true_count_is (r ∷ rs) n named (inl here) =
      let both = and_true (names (length a) r) (list_all (names (length a)) rs) named in
      let is = count_true a r rs (fixed_true box sums a count r lies both.0 here.0) in
      let rest = true_count_is rs here.1.0 both.1 here.1.1 in
      let more = here.1.2 in
      omega arith
  true_count_is (r ∷ rs) n named (inr here) =
      let both = and_true (names (length a) r) (list_all (names (length a)) rs) named in
      let is = count_false a r rs (fixed_false box sums a count r lies both.0 here.0) in
      let rest = true_count_is rs n both.1 here.1 in
      omega arith
