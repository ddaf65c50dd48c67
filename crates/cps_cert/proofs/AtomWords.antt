-- The word of an atom, cut into its subject, its operator and its number.
use Rattle.std.specs.Prelude.{not, ◌^◌}
use Rattle.std.specs.List.{list_all}
use Rattle.std.specs.Char.{is_ascii_digit}
use Rattle.std.specs.Fmt.{decimal, signed_decimal}
use Rattle.std.specs.Str.Parse.{AllDigits}
use Rattle.std.proofs.Common.{◌≡◌, ℕ, zero, suc, ◌<◌, List, [], ◌∷◌, ◌++◌, length, get_or, take, drop, Bool, true, false, refl, sym, ◌∙◌, ap, subst, arith}
use Rattle.std.proofs.lemmas.List.{take_at, drop_at}
use Rattle.std.proofs.lemmas.Bool.Decides.{nat_tests}
use Rattle.std.proofs.lemmas.Fmt.{decimal_is_IsNumeral}
use Rattle.std.proofs.lemmas.Str.Parse.{digit_from_value}
use Rattle.cps_model.proofs.Tests.{and_true, both_true}
use Rattle.cps_literal.specs.declared.atom.Atom.{Atom}
use Rattle.cps_literal.specs.declared.atom.Op.{Op}
use Rattle.cps_literal.specs.declared.atom.Op.TheVariants.{Le, Ge, Eq, Ne}
use Rattle.cps_log.specs.Writing.{op_text, atom_word}
use Rattle.cps_log.specs.Fitting.{FitsAtom}
use Rattle.cps_cert.specs.Words.{IsRun}

-- how long a run is
pub run_is : (p : ℕ → Bool) (ds : List ℕ) (b : ℕ) (more : List ℕ) (count : ℕ) → list_all p ds ≡ true → p b ≡ false → IsRun p (ds ++ b ∷ more) count → count ≡ length ds
run_is p [] b more zero h f r = refl
run_is p [] b more (suc count) h f r = let here = (and_true (p b) (list_all p (take count more)) r.run).0 in cc
run_is p (d ∷ ds) b more zero h f r =
    let here = (and_true (p d) (list_all p ds) h).0 in
    let ends : not (p d) ≡ true = r.ends d refl in
    let fails : not (p d) ≡ false = rw here refl in
    cc
run_is p (d ∷ ds) b more (suc count) h f r =
    let rest : IsRun p (ds ++ b ∷ more) count = record {
      within = (let w = r.within in omega arith);
      run = (and_true (p d) (list_all p (take count (ds ++ b ∷ more))) r.run).1;
      ends = r.ends;
    } in
    ap suc (run_is p ds b more count (and_true (p d) (list_all p ds) h).1 f rest)

digits_pass : (ds : List ℕ) → AllDigits 10 ds → list_all is_ascii_digit ds ≡ true
digits_pass [] h = refl
digits_pass (d ∷ ds) h =
    let range = digit_from_value d h.0 in
    both_true _ _ (grind (arith, nat_tests)) (digits_pass ds h.1)

pub decimal_digits : (n : ℕ) → n < 2 ^ 64 → list_all is_ascii_digit (decimal n) ≡ true
decimal_digits n h = digits_pass (decimal n) (decimal_is_IsNumeral n h).0.1

-- an operator is written by bytes that are no digits
pub record BeginsOp (op : Op) (after : List ℕ) : Type 0 where
  pub first : ℕ
  pub more : List ℕ
  pub is : op_text op ++ after ≡ first ∷ more
  pub no_digit : is_ascii_digit first ≡ false

pub begins_op : (op : Op) (after : List ℕ) → BeginsOp op after
begins_op Le after = record { first = 60; more = 61 ∷ after; is = refl; no_digit = refl }
begins_op Ge after = record { first = 62; more = 61 ∷ after; is = refl; no_digit = refl }
begins_op Eq after = record { first = 61; more = after; is = refl; no_digit = refl }
begins_op Ne after = record { first = 33; more = 61 ∷ after; is = refl; no_digit = refl }

-- the number of digits at the front of an atom's word
pub digits_of_atom : (word : List ℕ) (t : Atom) (count : ℕ) → FitsAtom t → word ≡ atom_word t → IsRun is_ascii_digit word count → count ≡ length (decimal t.subject)
digits_of_atom word t count f e r =
    let small = f.subject in
    let b = begins_op t.op (signed_decimal t.value) in
    run_is is_ascii_digit (decimal t.subject) b.first b.more count (decimal_digits t.subject (omega arith)) b.no_digit (subst (λ (bs : List ℕ). IsRun is_ascii_digit bs count) (e ∙ ap (λ (bs : List ℕ). decimal t.subject ++ bs) b.is) r)

pub front_of_atom : (word : List ℕ) (t : Atom) (count : ℕ) → FitsAtom t → word ≡ atom_word t → IsRun is_ascii_digit word count → take count word ≡ decimal t.subject
front_of_atom word t count f e r = rw e (take_at (decimal t.subject) (op_text t.op ++ signed_decimal t.value) count (sym (digits_of_atom word t count f e r)))

pub back_of_atom : (word : List ℕ) (t : Atom) (count : ℕ) → FitsAtom t → word ≡ atom_word t → IsRun is_ascii_digit word count → drop count word ≡ op_text t.op ++ signed_decimal t.value
back_of_atom word t count f e r = rw e (drop_at (decimal t.subject) (op_text t.op ++ signed_decimal t.value) count (sym (digits_of_atom word t count f e r)))

-- what stands behind an operator is told by the whole
pub first_of : (xs ys : List ℕ) → xs ≡ ys → get_or xs 0 0 ≡ get_or ys 0 0
first_of xs ys e = ap (λ (bs : List ℕ). get_or bs 0 0) e

pub behind_op : (p q : Op) (x y : List ℕ) → op_text p ++ x ≡ op_text q ++ y → x ≡ y
behind_op Le Le x y e = cc
behind_op Le Ge x y e = let f = first_of (60 ∷ 61 ∷ x) (62 ∷ 61 ∷ y) e in absurd (omega arith)
behind_op Le Eq x y e = let f = first_of (60 ∷ 61 ∷ x) (61 ∷ y) e in absurd (omega arith)
behind_op Le Ne x y e = let f = first_of (60 ∷ 61 ∷ x) (33 ∷ 61 ∷ y) e in absurd (omega arith)
behind_op Ge Le x y e = let f = first_of (62 ∷ 61 ∷ x) (60 ∷ 61 ∷ y) e in absurd (omega arith)
behind_op Ge Ge x y e = cc
behind_op Ge Eq x y e = let f = first_of (62 ∷ 61 ∷ x) (61 ∷ y) e in absurd (omega arith)
behind_op Ge Ne x y e = let f = first_of (62 ∷ 61 ∷ x) (33 ∷ 61 ∷ y) e in absurd (omega arith)
behind_op Eq Le x y e = let f = first_of (61 ∷ x) (60 ∷ 61 ∷ y) e in absurd (omega arith)
behind_op Eq Ge x y e = let f = first_of (61 ∷ x) (62 ∷ 61 ∷ y) e in absurd (omega arith)
behind_op Eq Eq x y e = cc
behind_op Eq Ne x y e = let f = first_of (61 ∷ x) (33 ∷ 61 ∷ y) e in absurd (omega arith)
behind_op Ne Le x y e = let f = first_of (33 ∷ 61 ∷ x) (60 ∷ 61 ∷ y) e in absurd (omega arith)
behind_op Ne Ge x y e = let f = first_of (33 ∷ 61 ∷ x) (62 ∷ 61 ∷ y) e in absurd (omega arith)
behind_op Ne Eq x y e = let f = first_of (33 ∷ 61 ∷ x) (61 ∷ y) e in absurd (omega arith)
behind_op Ne Ne x y e = cc
