-- A line is one item's at most.
use Rattle.std.specs.Prelude.{◌^◌}
use Rattle.std.specs.List.{list_all}
use Rattle.std.specs.Char.{is_ascii_digit}
use Rattle.std.specs.Fmt.{decimal, signed_decimal}
use Rattle.std.proofs.Common.{◌≡◌, ℕ, ◌<◌, List, [], ◌∷◌, ◌++◌, Bool, true, false, refl, sym, ◌∙◌, ap, subst, arith, ℤ}
use Rattle.std.proofs.lemmas.Fmt.{decimal_injective, signed_decimal_injective}
use Rattle.std.proofs.lemmas.List.Elements.{All-head, All-tail}
use Rattle.cps_model.specs.declared.model.LinearExpr.{LinearExpr}
use Rattle.cps_model.proofs.Tests.{and_true}
use Rattle.cps_literal.specs.declared.atom.Atom.{Atom}
use Rattle.cps_literal.specs.declared.atom.Op.{Op}
use Rattle.cps_literal.specs.declared.atom.Op.TheVariants.{Le, Ge, Eq, Ne}
use Rattle.cps_log.specs.declared.item.LogItem.{LogItem}
use Rattle.cps_log.specs.declared.item.LogItem.TheVariants as items
use Rattle.cps_log.specs.Subjects.{IsNear}
use Rattle.cps_log.specs.Writing.{behind_blank, op_text, atom_word, clause_text, terms_text, sum_text, item_line}
use Rattle.cps_log.specs.Fitting.{FitsVariable, FitsAtom, FitsClause, FitTerms, FitsSum, FitsItem}
use Rattle.cps_cert.specs.Words.{BeginsWith}
use Rattle.cps_subjects.proofs.Near.{near_mag}
use Rattle.cps_cert.proofs.Numbers.{variable_near}
use Rattle.cps_cert.proofs.AtomWords.{first_of, decimal_digits, begins_op, behind_op}
use Rattle.cps_cert.proofs.Clauses.{atom_no_blank, signed_no_blank, decimal_no_blank, clause_begins}
use Rattle.cps_cert.proofs.Terms.{both_begin, begins_alone, no_blank_variable, terms_end}

-- ---- an atom

pub record SameRun (u v xs ys : List ℕ) : Type 0 where
  pub runs : u ≡ v
  pub rests : xs ≡ ys

-- one way to cut behind a run
pub same_run : (p : ℕ → Bool) (u : List ℕ) (b : ℕ) (x v : List ℕ) (c : ℕ) (y : List ℕ) → list_all p u ≡ true → p b ≡ false → list_all p v ≡ true → p c ≡ false → u ++ b ∷ x ≡ v ++ c ∷ y → SameRun u v (b ∷ x) (c ∷ y)
same_run p [] b x [] c y hu hb hv hc e = record { runs = refl; rests = e }
same_run p [] b x (d ∷ ds) c y hu hb hv hc e =
    let same : b ≡ d = cc in
    let holds = (and_true (p d) (list_all p ds) hv).0 in
    let fails : p d ≡ false = subst (λ (n : ℕ). p n ≡ false) same hb in
    cc
same_run p (d ∷ ds) b x [] c y hu hb hv hc e =
    let same : c ≡ d = cc in
    let holds = (and_true (p d) (list_all p ds) hu).0 in
    let fails : p d ≡ false = subst (λ (n : ℕ). p n ≡ false) same hc in
    cc
same_run p (d ∷ ds) b x (k ∷ ks) c y hu hb hv hc e =
    let first : d ≡ k = cc in
    let others : ds ++ b ∷ x ≡ ks ++ c ∷ y = cc in
    let rest = same_run p ds b x ks c y (and_true (p d) (list_all p ds) hu).1 hb (and_true (p k) (list_all p ks) hv).1 hc others in
    record { runs = rw (first, rest.runs) refl; rests = rest.rests }

op_same : (p q : Op) (x y : List ℕ) → op_text p ++ x ≡ op_text q ++ y → p ≡ q
op_same Le Le x y e = refl
op_same Le Ge x y e = let f = first_of (60 ∷ 61 ∷ x) (62 ∷ 61 ∷ y) e in absurd (omega arith)
op_same Le Eq x y e = let f = first_of (60 ∷ 61 ∷ x) (61 ∷ y) e in absurd (omega arith)
op_same Le Ne x y e = let f = first_of (60 ∷ 61 ∷ x) (33 ∷ 61 ∷ y) e in absurd (omega arith)
op_same Ge Le x y e = let f = first_of (62 ∷ 61 ∷ x) (60 ∷ 61 ∷ y) e in absurd (omega arith)
op_same Ge Ge x y e = refl
op_same Ge Eq x y e = let f = first_of (62 ∷ 61 ∷ x) (61 ∷ y) e in absurd (omega arith)
op_same Ge Ne x y e = let f = first_of (62 ∷ 61 ∷ x) (33 ∷ 61 ∷ y) e in absurd (omega arith)
op_same Eq Le x y e = let f = first_of (61 ∷ x) (60 ∷ 61 ∷ y) e in absurd (omega arith)
op_same Eq Ge x y e = let f = first_of (61 ∷ x) (62 ∷ 61 ∷ y) e in absurd (omega arith)
op_same Eq Eq x y e = refl
op_same Eq Ne x y e = let f = first_of (61 ∷ x) (33 ∷ 61 ∷ y) e in absurd (omega arith)
op_same Ne Le x y e = let f = first_of (33 ∷ 61 ∷ x) (60 ∷ 61 ∷ y) e in absurd (omega arith)
op_same Ne Ge x y e = let f = first_of (33 ∷ 61 ∷ x) (62 ∷ 61 ∷ y) e in absurd (omega arith)
op_same Ne Eq x y e = let f = first_of (33 ∷ 61 ∷ x) (61 ∷ y) e in absurd (omega arith)
op_same Ne Ne x y e = refl

record SameParts (t u : Atom) : Type 0 where
  pub subjects : t.subject ≡ u.subject
  pub ops : t.op ≡ u.op
  pub values : t.value ≡ u.value

same_parts : (t u : Atom) → FitsAtom t → FitsAtom u → atom_word t ≡ atom_word u → SameParts t u
same_parts t u f g e =
    let small = f.subject in
    let small' = g.subject in
    let b = begins_op t.op (signed_decimal t.value) in
    let d = begins_op u.op (signed_decimal u.value) in
    let whole = sym (ap (λ (bs : List ℕ). decimal t.subject ++ bs) b.is) ∙ e ∙ ap (λ (bs : List ℕ). decimal u.subject ++ bs) d.is in
    let cut = same_run is_ascii_digit (decimal t.subject) b.first b.more (decimal u.subject) d.first d.more (decimal_digits t.subject (omega arith)) b.no_digit (decimal_digits u.subject (omega arith)) d.no_digit whole in
    let back = b.is ∙ cut.rests ∙ sym d.is in
    record {
      subjects = decimal_injective t.subject u.subject (omega arith) (omega arith) cut.runs;
      ops = op_same t.op u.op (signed_decimal t.value) (signed_decimal u.value) back;
      values = signed_decimal_injective t.value u.value (near_mag t.value f.near) (near_mag u.value g.near) (behind_op t.op u.op (signed_decimal t.value) (signed_decimal u.value) back);
    }

atom_one : (t u : Atom) → FitsAtom t → FitsAtom u → atom_word t ≡ atom_word u → t ≡ u
atom_one t u f g e = let s = same_parts t u f g e in rw (s.subjects, s.ops, s.values) refl

-- ---- a clause

clause_one : (c d : List Atom) → FitsClause c → FitsClause d → clause_text c ≡ clause_text d → c ≡ d
clause_one [] [] f g e = refl
clause_one [] (u ∷ us) f g e = cc
clause_one (t ∷ ts) [] f g e = cc
clause_one (t ∷ ts) (u ∷ us) f g e =
    let ft = All-head FitsAtom t ts f in
    let fu = All-head FitsAtom u us g in
    let cut = both_begin (clause_text (t ∷ ts)) (atom_word t) (clause_text ts) (atom_word u) (clause_text us) (atom_no_blank t ft) (atom_no_blank u fu) (record { is = refl; ends = clause_begins ts }) (record { is = e; ends = clause_begins us }) in
    rw (atom_one t u ft fu cut.words, clause_one ts us (All-tail FitsAtom t ts f) (All-tail FitsAtom u us g) cut.rests) refl

-- ---- a number, and what stands behind it

record SameNumbers (n m : ℕ) (xs ys : List ℕ) : Type 0 where
  pub numbers : n ≡ m
  pub rests : xs ≡ ys

numbers_one : (bytes : List ℕ) (n m : ℕ) (xs ys : List ℕ) → n < 2 ^ 32 → m < 2 ^ 32 → BeginsWith bytes (decimal n) xs → BeginsWith bytes (decimal m) ys → SameNumbers n m xs ys
numbers_one bytes n m xs ys hn hm b d =
    let cut = both_begin bytes (decimal n) xs (decimal m) ys (decimal_no_blank n (omega arith)) (decimal_no_blank m (omega arith)) b d in
    record { numbers = decimal_injective n m (omega arith) (omega arith) cut.words; rests = cut.rests }

-- ---- a sum

record SameTerms (rs cs ss ds : List ℤ) : Type 0 where
  pub variables : rs ≡ ss
  pub coefficients : cs ≡ ds

terms_one : (rs cs ss ds : List ℤ) → FitTerms rs cs → FitTerms ss ds → terms_text rs cs ≡ terms_text ss ds → SameTerms rs cs ss ds
terms_one [] [] [] [] f g e = record { variables = refl; coefficients = refl }
terms_one [] [] [] (d ∷ ds) f g e = absurd (let p = g.paired in cc)
terms_one [] [] (s ∷ ss) [] f g e = absurd (let p = g.paired in cc)
terms_one [] [] (s ∷ ss) (d ∷ ds) f g e = absurd (cc)
terms_one [] (c ∷ cs) ss ds f g e = absurd (let p = f.paired in cc)
terms_one (r ∷ rs) [] ss ds f g e = absurd (let p = f.paired in cc)
terms_one (r ∷ rs) (c ∷ cs) [] [] f g e = absurd (cc)
terms_one (r ∷ rs) (c ∷ cs) [] (d ∷ ds) f g e = absurd (let p = g.paired in cc)
terms_one (r ∷ rs) (c ∷ cs) (s ∷ ss) [] f g e = absurd (let p = g.paired in cc)
terms_one (r ∷ rs) (c ∷ cs) (s ∷ ss) (d ∷ ds) f g e =
    let fr = All-head FitsVariable r rs f.variables in
    let fs = All-head FitsVariable s ss g.variables in
    let nc = All-head IsNear c cs f.coefficients in
    let nd = All-head IsNear d ds g.coefficients in
    let behind = behind_blank (signed_decimal c) ++ terms_text rs cs in
    let behind' = behind_blank (signed_decimal d) ++ terms_text ss ds in
    let one = both_begin (behind_blank (signed_decimal r) ++ behind) (signed_decimal r) behind (signed_decimal s) behind' (no_blank_variable r fr) (no_blank_variable s fs) (record { is = refl; ends = λ b h. (cc) }) (record { is = e; ends = λ b h. (cc) }) in
    let two = both_begin behind (signed_decimal c) (terms_text rs cs) (signed_decimal d) (terms_text ss ds) (signed_no_blank c nc) (signed_no_blank d nd) (record { is = refl; ends = terms_end rs cs }) (record { is = one.rests; ends = terms_end ss ds }) in
    let box_in : FitTerms rs cs = record { variables = All-tail FitsVariable r rs f.variables; coefficients = All-tail IsNear c cs f.coefficients; paired = (let p = f.paired in cc) } in
    let box_in' : FitTerms ss ds = record { variables = All-tail FitsVariable s ss g.variables; coefficients = All-tail IsNear d ds g.coefficients; paired = (let p = g.paired in cc) } in
    let rest = terms_one rs cs ss ds box_in box_in' two.rests in
    record {
      variables = rw (signed_decimal_injective r s (near_mag r (variable_near r fr)) (near_mag s (variable_near s fs)) one.words, rest.variables) refl;
      coefficients = rw (signed_decimal_injective c d (near_mag c nc) (near_mag d nd) two.words, rest.coefficients) refl;
    }

sum_one : (e d : LinearExpr) → FitsSum e → FitsSum d → sum_text e ≡ sum_text d → e ≡ d
sum_one e d f g same =
    let cut = both_begin (sum_text e) (signed_decimal e.offset) (terms_text e.vars e.coeffs) (signed_decimal d.offset) (terms_text d.vars d.coeffs) (signed_no_blank e.offset f.offset) (signed_no_blank d.offset g.offset) (record { is = refl; ends = terms_end e.vars e.coeffs }) (record { is = same; ends = terms_end d.vars d.coeffs }) in
    let offsets = signed_decimal_injective e.offset d.offset (near_mag e.offset f.offset) (near_mag d.offset g.offset) cut.words in
    let terms = terms_one e.vars e.coeffs d.vars d.coeffs f.terms g.terms cut.rests in
    rw (terms.variables, terms.coefficients, offsets) refl

-- ---- an item

behind_letter : (b c : ℕ) (xs ys : List ℕ) → b ∷ xs ≡ c ∷ ys → xs ≡ ys
behind_letter b c xs ys e = cc

numbered_one : (n m : ℕ) (c d : List Atom) → n < 2 ^ 32 → m < 2 ^ 32 → behind_blank (decimal n) ++ clause_text c ≡ behind_blank (decimal m) ++ clause_text d → SameNumbers n m (clause_text c) (clause_text d)
numbered_one n m c d hn hm e = numbers_one (behind_blank (decimal n) ++ clause_text c) n m (clause_text c) (clause_text d) hn hm (record { is = refl; ends = clause_begins c }) (record { is = e; ends = clause_begins d })

pub one_item : (i j : LogItem) → FitsItem i → FitsItem j → item_line i ≡ item_line j → i ≡ j
one_item (items.Sum x) (items.Sum d) f g e = rw (sum_one x d f g (behind_letter 115 115 (sum_text x) (sum_text d) e)) refl
one_item (items.Sum x) (items.Reason m d) f g e = let h = first_of (115 ∷ (sum_text x)) (101 ∷ (behind_blank (decimal m) ++ clause_text d)) e in absurd (omega arith)
one_item (items.Sum x) (items.Objective d) f g e = let h = first_of (115 ∷ (sum_text x)) (111 ∷ (clause_text d)) e in absurd (omega arith)
one_item (items.Sum x) (items.Ends m d) f g e = let h = first_of (115 ∷ (sum_text x)) (116 ∷ (behind_blank (decimal m) ++ clause_text d)) e in absurd (omega arith)
one_item (items.Sum x) (items.Assumed m) f g e = let h = first_of (115 ∷ (sum_text x)) (97 ∷ (behind_blank (decimal m))) e in absurd (omega arith)
one_item (items.Sum x) (items.Learnt d) f g e = let h = first_of (115 ∷ (sum_text x)) (108 ∷ (clause_text d)) e in absurd (omega arith)
one_item (items.Reason n c) (items.Sum d) f g e = let h = first_of (101 ∷ (behind_blank (decimal n) ++ clause_text c)) (115 ∷ (sum_text d)) e in absurd (omega arith)
one_item (items.Reason n c) (items.Reason m d) f g e = let s = numbered_one n m c d f.0 g.0 (behind_letter 101 101 (behind_blank (decimal n) ++ clause_text c) (behind_blank (decimal m) ++ clause_text d) e) in rw (s.numbers, clause_one c d f.1 g.1 s.rests) refl
one_item (items.Reason n c) (items.Objective d) f g e = let h = first_of (101 ∷ (behind_blank (decimal n) ++ clause_text c)) (111 ∷ (clause_text d)) e in absurd (omega arith)
one_item (items.Reason n c) (items.Ends m d) f g e = let h = first_of (101 ∷ (behind_blank (decimal n) ++ clause_text c)) (116 ∷ (behind_blank (decimal m) ++ clause_text d)) e in absurd (omega arith)
one_item (items.Reason n c) (items.Assumed m) f g e = let h = first_of (101 ∷ (behind_blank (decimal n) ++ clause_text c)) (97 ∷ (behind_blank (decimal m))) e in absurd (omega arith)
one_item (items.Reason n c) (items.Learnt d) f g e = let h = first_of (101 ∷ (behind_blank (decimal n) ++ clause_text c)) (108 ∷ (clause_text d)) e in absurd (omega arith)
one_item (items.Objective c) (items.Sum d) f g e = let h = first_of (111 ∷ (clause_text c)) (115 ∷ (sum_text d)) e in absurd (omega arith)
one_item (items.Objective c) (items.Reason m d) f g e = let h = first_of (111 ∷ (clause_text c)) (101 ∷ (behind_blank (decimal m) ++ clause_text d)) e in absurd (omega arith)
one_item (items.Objective c) (items.Objective d) f g e = rw (clause_one c d f g (behind_letter 111 111 (clause_text c) (clause_text d) e)) refl
one_item (items.Objective c) (items.Ends m d) f g e = let h = first_of (111 ∷ (clause_text c)) (116 ∷ (behind_blank (decimal m) ++ clause_text d)) e in absurd (omega arith)
one_item (items.Objective c) (items.Assumed m) f g e = let h = first_of (111 ∷ (clause_text c)) (97 ∷ (behind_blank (decimal m))) e in absurd (omega arith)
one_item (items.Objective c) (items.Learnt d) f g e = let h = first_of (111 ∷ (clause_text c)) (108 ∷ (clause_text d)) e in absurd (omega arith)
one_item (items.Ends n c) (items.Sum d) f g e = let h = first_of (116 ∷ (behind_blank (decimal n) ++ clause_text c)) (115 ∷ (sum_text d)) e in absurd (omega arith)
one_item (items.Ends n c) (items.Reason m d) f g e = let h = first_of (116 ∷ (behind_blank (decimal n) ++ clause_text c)) (101 ∷ (behind_blank (decimal m) ++ clause_text d)) e in absurd (omega arith)
one_item (items.Ends n c) (items.Objective d) f g e = let h = first_of (116 ∷ (behind_blank (decimal n) ++ clause_text c)) (111 ∷ (clause_text d)) e in absurd (omega arith)
one_item (items.Ends n c) (items.Ends m d) f g e = let s = numbered_one n m c d f.0 g.0 (behind_letter 116 116 (behind_blank (decimal n) ++ clause_text c) (behind_blank (decimal m) ++ clause_text d) e) in rw (s.numbers, clause_one c d f.1 g.1 s.rests) refl
one_item (items.Ends n c) (items.Assumed m) f g e = let h = first_of (116 ∷ (behind_blank (decimal n) ++ clause_text c)) (97 ∷ (behind_blank (decimal m))) e in absurd (omega arith)
one_item (items.Ends n c) (items.Learnt d) f g e = let h = first_of (116 ∷ (behind_blank (decimal n) ++ clause_text c)) (108 ∷ (clause_text d)) e in absurd (omega arith)
one_item (items.Assumed n) (items.Sum d) f g e = let h = first_of (97 ∷ (behind_blank (decimal n))) (115 ∷ (sum_text d)) e in absurd (omega arith)
one_item (items.Assumed n) (items.Reason m d) f g e = let h = first_of (97 ∷ (behind_blank (decimal n))) (101 ∷ (behind_blank (decimal m) ++ clause_text d)) e in absurd (omega arith)
one_item (items.Assumed n) (items.Objective d) f g e = let h = first_of (97 ∷ (behind_blank (decimal n))) (111 ∷ (clause_text d)) e in absurd (omega arith)
one_item (items.Assumed n) (items.Ends m d) f g e = let h = first_of (97 ∷ (behind_blank (decimal n))) (116 ∷ (behind_blank (decimal m) ++ clause_text d)) e in absurd (omega arith)
one_item (items.Assumed n) (items.Assumed m) f g e = rw ((numbers_one (32 ∷ decimal n) n m [] [] f g (begins_alone (32 ∷ decimal n) (decimal n) refl) (begins_alone (32 ∷ decimal n) (decimal m) (behind_letter 97 97 (behind_blank (decimal n)) (behind_blank (decimal m)) e))).numbers) refl
one_item (items.Assumed n) (items.Learnt d) f g e = let h = first_of (97 ∷ (behind_blank (decimal n))) (108 ∷ (clause_text d)) e in absurd (omega arith)
one_item (items.Learnt c) (items.Sum d) f g e = let h = first_of (108 ∷ (clause_text c)) (115 ∷ (sum_text d)) e in absurd (omega arith)
one_item (items.Learnt c) (items.Reason m d) f g e = let h = first_of (108 ∷ (clause_text c)) (101 ∷ (behind_blank (decimal m) ++ clause_text d)) e in absurd (omega arith)
one_item (items.Learnt c) (items.Objective d) f g e = let h = first_of (108 ∷ (clause_text c)) (111 ∷ (clause_text d)) e in absurd (omega arith)
one_item (items.Learnt c) (items.Ends m d) f g e = let h = first_of (108 ∷ (clause_text c)) (116 ∷ (behind_blank (decimal m) ++ clause_text d)) e in absurd (omega arith)
one_item (items.Learnt c) (items.Assumed m) f g e = let h = first_of (108 ∷ (clause_text c)) (97 ∷ (behind_blank (decimal m))) e in absurd (omega arith)
one_item (items.Learnt c) (items.Learnt d) f g e = rw (clause_one c d f g (behind_letter 108 108 (clause_text c) (clause_text d) e)) refl
