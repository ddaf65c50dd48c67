-- The derived order and equality of atoms.
use Rattle.std.proofs.Common.{◌≡◌, Bool, true, false, ◌&&◌, ◌||◌, cond, Ordering, Less, Equal, Greater, is_lt, nat_cmp, int_cmp, refl, sym, ◌∙◌, ap, List, get_or, ◌+◌}
use Rattle.std.specs.Prelude.{◌==◌, nat_lt, int_lt}
use Rattle.std.specs.Bool.{Decides}
use Rattle.std.specs.Ordering.{ordering_then, int_eq}
use Rattle.std.specs.List.Sorted.{IsSortedBy}
use Rattle.std.proofs.lemmas.Bool.Decides.{Decides-like, Decides-at, Decides-and, Decides-int_eq, Decides-eqb}
use Rattle.cps_literal.specs.declared.atom.Op.{Op}
use Rattle.cps_literal.specs.declared.atom.Op.TheVariants.{Le, Ge, Eq, Ne}
use Rattle.cps_literal.specs.declared.atom.Atom.{Atom}
use Rattle.cps_literal.specs.contracts.atom.AtomOrd.TheImpl as atom_ord
use Rattle.cps_literal.specs.contracts.atom.OpOrd.TheImpl as op_ord
use Rattle.cps_literal.specs.contracts.atom.AtomPartialEq.TheImpl as atom_eq
use Rattle.cps_literal.specs.contracts.atom.OpPartialEq.TheImpl as op_eq
use Rattle.cps_literal.specs.Normal.{comes_before, rank}
use Rattle.cps_literal.specs.Index.{same_atom}
use Rattle.cps_literal.proofs.Normalizing.{atom_same}

op_cmp : (o p : Op) → (op_ord.ghosts).cmp o p ≡ nat_cmp (rank o) (rank p)
op_cmp Le Le = refl
op_cmp Le Ge = refl
op_cmp Le Eq = refl
op_cmp Le Ne = refl
op_cmp Ge Le = refl
op_cmp Ge Ge = refl
op_cmp Ge Eq = refl
op_cmp Ge Ne = refl
op_cmp Eq Le = refl
op_cmp Eq Ge = refl
op_cmp Eq Eq = refl
op_cmp Eq Ne = refl
op_cmp Ne Le = refl
op_cmp Ne Ge = refl
op_cmp Ne Eq = refl
op_cmp Ne Ne = refl

then_lt : (a b : Bool) (o : Ordering) → is_lt (ordering_then (cond a Less (cond b Equal Greater)) o) ≡ (a || (b && is_lt o))
then_lt true b o = refl
then_lt false true o = refl
then_lt false false o = refl

cond_lt : (a b : Bool) → is_lt (cond a Less (cond b Greater Equal)) ≡ a
cond_lt true b = refl
cond_lt false true = refl
cond_lt false false = refl

-- `<` of two atoms is that the one comes before the other
pub lt_is : (t u : Atom) → is_lt ((atom_ord.ghosts).cmp t u) ≡ comes_before t u
lt_is t u =
    ap (λ o. is_lt (ordering_then (nat_cmp t.subject u.subject) (ordering_then o (int_cmp t.value u.value)))) (op_cmp t.op u.op)
    ∙ then_lt (nat_lt t.subject u.subject) (t.subject == u.subject) (ordering_then (nat_cmp (rank t.op) (rank u.op)) (int_cmp t.value u.value))
    ∙ ap (λ b. nat_lt t.subject u.subject || (t.subject == u.subject && b)) (
    then_lt (nat_lt (rank t.op) (rank u.op)) (rank t.op == rank u.op) (int_cmp t.value u.value)
    ∙ ap (λ b. nat_lt (rank t.op) (rank u.op) || (rank t.op == rank u.op && b)) (cond_lt (int_lt t.value u.value) _))

-- what a sort of atoms ensures
pub sorted_is : (xs : List Atom) → IsSortedBy (λ t u. is_lt ((atom_ord.ghosts).cmp t u)) xs → IsSortedBy comes_before xs
sorted_is xs h = λ k d a b. sym (lt_is (get_or xs (k + 1) d) (get_or xs k d)) ∙ h k d a b

op_eq_is : (o p : Op) → (op_eq.ghosts).eq o p ≡ (rank o == rank p)
op_eq_is Le Le = refl
op_eq_is Le Ge = refl
op_eq_is Le Eq = refl
op_eq_is Le Ne = refl
op_eq_is Ge Le = refl
op_eq_is Ge Ge = refl
op_eq_is Ge Eq = refl
op_eq_is Ge Ne = refl
op_eq_is Eq Le = refl
op_eq_is Eq Ge = refl
op_eq_is Eq Eq = refl
op_eq_is Eq Ne = refl
op_eq_is Ne Le = refl
op_eq_is Ne Ge = refl
op_eq_is Ne Eq = refl
op_eq_is Ne Ne = refl

-- `==` of two atoms decides whether they are the same
pub eq_Decides : (t u : Atom) → Decides ((atom_eq.ghosts).eq t u) (t ≡ u)
eq_Decides t u =
    let d = Decides-and (t.subject == u.subject) _ (Decides-eqb t.subject u.subject)
    (Decides-and ((op_eq.ghosts).eq t.op u.op) (int_eq t.value u.value)
    (Decides-at ((op_eq.ghosts).eq t.op u.op) (rank t.op == rank u.op) (op_eq_is t.op u.op) (Decides-eqb (rank t.op) (rank u.op)))
    (Decides-int_eq t.value u.value)) in
    Decides-like _ (λ e. atom_same t u e.0 e.1.0 e.1.1) (λ e. (ap (λ (a : Atom). a.subject) e, (ap (λ (a : Atom). rank a.op) e, ap (λ (a : Atom). a.value) e))) d

-- `==` of two atoms, as a test
pub eq_same : (atom_eq.ghosts).eq ≡ same_atom
eq_same = λ i t u. (ap (λ b. t.subject == u.subject && (b && int_eq t.value u.value)) (op_eq_is t.op u.op)) i

pub same_Decides : (t u : Atom) → Decides (same_atom t u) (t ≡ u)
same_Decides t u = Decides-at (same_atom t u) ((atom_eq.ghosts).eq t u) (sym (ap (λ b. t.subject == u.subject && (b && int_eq t.value u.value)) (op_eq_is t.op u.op))) (eq_Decides t u)
