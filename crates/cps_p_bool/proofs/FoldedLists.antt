-- A list of atoms folded into literals about different subjects.
use Rattle.std.proofs.Common.{◌≡◌, ◌≢◌, ◌⊎◌, ℕ, ◌+◌, ◌<◌, ◌≤◌, Bool, true, false, not, cond, ◌&&◌, ℤ, pos, List, [], ◌∷◌, ◌++◌, length, take, get_or, append-nil, refl, sym, ◌∙◌, ap, subst, inl, inr, arith}
use Rattle.std.specs.Prelude.{min}
use Rattle.std.specs.List.{list_all, count_by, All, Contains}
use Rattle.std.proofs.lemmas.Int.{ints}
use Rattle.std.proofs.lemmas.List.Sums.{sum_by-append, count_by_more_yes, count_by_more_no}
use Rattle.std.proofs.lemmas.List.Folds.{list_all-append}
use Rattle.std.proofs.lemmas.List.{take_all, length-map, get_or-map, get_or_default}
use Rattle.std.proofs.lemmas.List.Elements.{All-nil, All-cons, All-head, All-tail, All-append, All-map, All-contains, Contains-get_or}
use Rattle.cps_domain.specs.Window.{equals}
use Rattle.cps_literal.specs.declared.atom.Atom.{Atom}
use Rattle.cps_literal.specs.declared.atom.Op.TheVariants.{Le, Ge}
use Rattle.cps_literal.specs.Truth.{meets, value_at, atom_holds}
use Rattle.cps_instance.specs.Tasks.{true_atoms, atom_subjects}
use Rattle.cps_instance.proofs.Agreeing.{count_by-cons}
use Rattle.cps_p_bool.specs.declared.boolean.Kind.{Kind}
use Rattle.cps_p_bool.specs.declared.normal.Group.{Group}
use Rattle.cps_p_bool.specs.declared.normal.Form.{Form}
use Rattle.cps_p_bool.specs.declared.normal.Piece.{Piece}
use Rattle.cps_p_bool.specs.declared.normal.Piece.TheVariants.{Constant, Live, Sure}
use Rattle.cps_p_bool.specs.Taking.{AreApart}
use Rattle.cps_p_bool.specs.Normal.{AreBits, IsBitValue, IsAbout}
use Rattle.cps_p_bool.specs.Tallying.{counts, tally, AreAlike, more, greatest, IsCountedIf}
use Rattle.cps_p_bool.specs.Folding.{literal_of, IsBitLiteral, weight, grown, joined, IsPieceOf, live_of, sure_of, AddsGroup, none_at, Enters, IsTold, IsFormShaped, IsFolding, IsFormOf}
use Rattle.cps_p_bool.proofs.AtomCounts.{bit}
use Rattle.cps_p_bool.proofs.LiteralValues.{truth_of}
use Rattle.cps_p_bool.proofs.Tallies.{AreAlike-same, AreAlike-more, more_small, IsCountedIf-plus}

pub count_append : (p : Atom → Bool) (us vs : List Atom) → count_by p (us ++ vs) ≡ count_by p us + count_by p vs
count_append p us vs = sum_by-append (λ u. cond (p u) 1 0) us vs

pub one_literal : (p : Atom → Bool) (u : Atom) → count_by p (u ∷ []) ≡ bit (p u)
one_literal p u = let e = count_by-cons p u [] in let z : count_by p [] ≡ 0 = refl in omega (arith, e, z)

all_literal : (p : Atom → Bool) (u : Atom) → list_all p (u ∷ []) ≡ p u
all_literal p u = and_true (p u)
  where
    and_true : (b : Bool) → (b && true) ≡ b
    and_true true = refl
    and_true false = refl

at_none : (i : ℕ) (v : Bool) (xs : List ℤ) → value_at xs i ≡ pos 0 → atom_holds xs (literal_of i v) ≡ not v
at_none i true xs e = ap (λ (x : ℤ). meets Ge (pos 1) x) e
at_none i false xs e = ap (λ (x : ℤ). meets Le (pos 0) x) e

at_one : (i : ℕ) (v : Bool) (xs : List ℤ) → value_at xs i ≡ pos 1 → atom_holds xs (literal_of i v) ≡ v
at_one i true xs e = ap (λ (x : ℤ). meets Ge (pos 1) x) e
at_one i false xs e = ap (λ (x : ℤ). meets Le (pos 0) x) e

weight_none : (g : Group) (x : ℤ) → x ≡ pos 0 → weight g x ≡ g.at_zero
weight_none g x e = ap (λ (y : ℤ). cond (equals y (pos 0)) g.at_zero g.at_one) e

weight_one : (g : Group) (x : ℤ) → x ≡ pos 1 → weight g x ≡ g.at_one
weight_one g x e = ap (λ (y : ℤ). cond (equals y (pos 0)) g.at_zero g.at_one) e

either : (b : Bool) (n m : ℕ) → n ≡ m → cond b n m ≡ n
either true n m e = refl
either false n m e = sym e

-- what a group tells at a value of its subject
module _ (g : Group) (xs : List ℤ) where
  abbrev x : ℤ
  x = value_at xs g.subject

  abbrev Tells : Piece → Type 0
  Tells p = IsCountedIf (weight g x) (list_all (atom_holds xs) (sure_of g.subject p)) (min g.at_zero g.at_one + true_atoms xs (live_of g.subject p))

  live_tells : (v : Bool) (w : ℕ) → weight g x ≡ w → w ≡ min g.at_zero g.at_one + bit (atom_holds xs (literal_of g.subject v)) → Tells (Live v)
  live_tells v w is e = record {
    counted = λ _. let one = one_literal (atom_holds xs) (literal_of g.subject v) in omega (arith, is, e, one);
    many = λ f. absurd (let f : true ≡ false = f in cc);
  }

  sure_tells : (v t : Bool) (w : ℕ) → weight g x ≡ w → atom_holds xs (literal_of g.subject v) ≡ t → (t ≡ true → w ≡ min g.at_zero g.at_one) → (t ≡ false → 2 ≤ w) → Tells (Sure v)
  sure_tells v t w is holds low high =
      let all = all_literal (atom_holds xs) (literal_of g.subject v) ∙ holds in
      record {
        counted = λ f. let e = low (sym all ∙ f) in let z : true_atoms xs [] ≡ 0 = refl in omega (arith, is, e, z);
        many = λ f. let l = high (sym all ∙ f) in omega (arith, is, l);
      }

  pub piece_tells : (p : Piece) → IsPieceOf g.at_zero g.at_one p → (g.at_zero ≡ g.at_one) ⊎ IsBitValue x → Tells p
  piece_tells Constant is c = record {
    counted = λ _. let e = either (equals x (pos 0)) g.at_zero g.at_one is in let z : true_atoms xs [] ≡ 0 = refl in omega (arith, e, is, z);
    many = λ f. absurd (let f : true ≡ false = f in cc);
  }
  piece_tells (Live true) is (inl same) = absurd (omega (arith, is, same))
  piece_tells (Live false) is (inl same) = absurd (omega (arith, is, same))
  piece_tells (Sure true) is (inl same) = absurd (omega (arith, is, same))
  piece_tells (Sure false) is (inl same) = absurd (omega (arith, is, same))
  piece_tells (Live true) is (inr (inl e)) = let b = ap (λ (t : Bool). bit t) (at_none g.subject true xs e) in live_tells true g.at_zero (weight_none g x e) (omega (arith, is, b))
  piece_tells (Live true) is (inr (inr e)) = let b = ap (λ (t : Bool). bit t) (at_one g.subject true xs e) in live_tells true g.at_one (weight_one g x e) (omega (arith, is, b))
  piece_tells (Live false) is (inr (inl e)) = let b = ap (λ (t : Bool). bit t) (at_none g.subject false xs e) in live_tells false g.at_zero (weight_none g x e) (omega (arith, is, b))
  piece_tells (Live false) is (inr (inr e)) = let b = ap (λ (t : Bool). bit t) (at_one g.subject false xs e) in live_tells false g.at_one (weight_one g x e) (omega (arith, is, b))
  piece_tells (Sure true) is (inr (inl e)) = sure_tells true false g.at_zero (weight_none g x e) (at_none g.subject true xs e) (λ f. absurd (let f : false ≡ true = f in cc)) (λ _. omega (arith, is))
  piece_tells (Sure true) is (inr (inr e)) = sure_tells true true g.at_one (weight_one g x e) (at_one g.subject true xs e) (λ _. omega (arith, is)) (λ f. absurd (let f : true ≡ false = f in cc))
  piece_tells (Sure false) is (inr (inl e)) = sure_tells false true g.at_zero (weight_none g x e) (at_none g.subject false xs e) (λ _. omega (arith, is)) (λ f. absurd (let f : true ≡ false = f in cc))
  piece_tells (Sure false) is (inr (inr e)) = sure_tells false false g.at_one (weight_one g x e) (at_one g.subject false xs e) (λ f. absurd (let f : false ≡ true = f in cc)) (λ _. omega (arith, is))

-- a form with what a group tells
counted_same : (w : ℕ) (s t : Bool) (n m : ℕ) → s ≡ t → n ≡ m → IsCountedIf w s n → IsCountedIf w t m
counted_same w s t n m e f h = record { counted = λ y. h.counted (e ∙ y) ∙ f; many = λ y. h.many (e ∙ y) }

pub IsTold-add : (k : Kind) (us : List Atom) (f h : Form) (g : Group) (xs : List ℤ) → AddsGroup g f h → (g.at_zero ≡ g.at_one) ⊎ IsBitValue (value_at xs g.subject) → IsTold k us f (weight g (value_at xs g.subject)) xs → IsTold k us h 0 xs
IsTold-add k us f h g xs a c t =
    let w = weight g (value_at xs g.subject) in
    let p : Atom → Bool = atom_holds xs in
    let whole : t.number + w ≡ (t.number + w) + 0 = omega arith in
    let sure = ap (λ (l : List Atom). list_all p l) a.sure ∙ list_all-append p f.sure.items (sure_of g.subject a.piece) in
    let live = ap (λ (l : List Atom). count_by p l) a.live ∙ count_append p f.live.items (live_of g.subject a.piece) in
    let constant = a.constant in
    record {
      number = t.number + w;
      alike = subst (λ (n : ℕ). AreAlike k (tally k xs us) n) whole t.alike;
      counted = counted_same (t.number + w) (list_all p f.sure.items && list_all p (sure_of g.subject a.piece)) (list_all p h.sure.items)
          ((f.constant + true_atoms xs f.live.items) + (min g.at_zero g.at_one + true_atoms xs (live_of g.subject a.piece))) (h.constant + true_atoms xs h.live.items)
          (sym sure) (omega (arith, live, constant))
          (IsCountedIf-plus t.number w (list_all p f.sure.items) (list_all p (sure_of g.subject a.piece)) (f.constant + true_atoms xs f.live.items) (min g.at_zero g.at_one + true_atoms xs (live_of g.subject a.piece))
          t.counted (piece_tells g xs a.piece a.is c));
    }

-- one more atom of the group
module _ (k : Kind) (us : List Atom) (i : ℕ) (d : Atom) (l : i < length us) (f : Form) (g : Group) (xs : List ℤ) where
  abbrev u : Atom
  u = get_or us i d

  more_at : (y : ℤ) (n : ℕ) → atom_holds xs u ≡ meets u.op u.value y → n ≤ greatest k → (m : ℕ) → AreAlike k (tally k xs (take i us)) (m + n) → AreAlike k (tally k xs (take (i + 1) us)) (m + grown k u y n)
  more_at y n holds small m h = elim (truth_of (counts k (meets u.op u.value y))) [
    | inl y1 ↦ (let e = ap (λ (b : Bool). counts k b) holds ∙ y1 in
        let c = count_by_more_yes (λ v. counts k (atom_holds xs v)) us i d l e in
        let w = ap (λ (b : Bool). cond b (more k n) n) y1 in
        subst (λ (t : ℕ). AreAlike k t (m + grown k u y n)) (sym c) (subst (λ (v : ℕ). AreAlike k (tally k xs (take i us) + 1) (m + v)) (sym w) (AreAlike-more k (tally k xs (take i us)) m n h small)))
    | inr n0 ↦ (let e = ap (λ (b : Bool). counts k b) holds ∙ n0 in
        let c = count_by_more_no (λ v. counts k (atom_holds xs v)) us i d l e in
        let w = ap (λ (b : Bool). cond b (more k n) n) n0 in
        subst (λ (t : ℕ). AreAlike k t (m + grown k u y n)) (sym c) (subst (λ (v : ℕ). AreAlike k (tally k xs (take i us)) (m + v)) (sym w) h))
  ]

  pub IsTold-more : u.subject ≡ g.subject → IsBitValue (value_at xs g.subject) → g.at_zero ≤ greatest k → g.at_one ≤ greatest k → IsTold k (take i us) f (weight g (value_at xs g.subject)) xs
      → IsTold k (take (i + 1) us) f (weight (joined g k u) (value_at xs g.subject)) xs
  IsTold-more same (inl e) small_none small_one t = record {
    number = t.number;
    alike = subst (λ (w : ℕ). AreAlike k (tally k xs (take (i + 1) us)) (t.number + w)) (sym (weight_none (joined g k u) (value_at xs g.subject) e))
        (more_at (pos 0) g.at_zero (ap (λ (y : ℤ). meets u.op u.value y) (ap (λ (j : ℕ). value_at xs j) same ∙ e)) small_none t.number
        (subst (λ (w : ℕ). AreAlike k (tally k xs (take i us)) (t.number + w)) (weight_none g (value_at xs g.subject) e) t.alike));
    counted = t.counted;
  }
  IsTold-more same (inr e) small_none small_one t = record {
    number = t.number;
    alike = subst (λ (w : ℕ). AreAlike k (tally k xs (take (i + 1) us)) (t.number + w)) (sym (weight_one (joined g k u) (value_at xs g.subject) e))
        (more_at (pos 1) g.at_one (ap (λ (y : ℤ). meets u.op u.value y) (ap (λ (j : ℕ). value_at xs j) same ∙ e)) small_one t.number
        (subst (λ (w : ℕ). AreAlike k (tally k xs (take i us)) (t.number + w)) (weight_one g (value_at xs g.subject) e) t.alike));
    counted = t.counted;
  }

-- literals added at the end
pub apart_push : (us : List Atom) (u : Atom) → AreApart us → All (λ v. u.subject ≢ v.subject) us → AreApart (us ++ u ∷ [])
apart_push [] u a h = (All-nil (λ v. v.subject ≢ u.subject), tt)
apart_push (v ∷ us) u a h = (
  All-append (λ w. w.subject ≢ v.subject) us (u ∷ []) a.0 (All-cons (λ w. w.subject ≢ v.subject) u [] (All-head (λ w. u.subject ≢ w.subject) v us h) (All-nil (λ w. w.subject ≢ v.subject))),
  apart_push us u a.1 (All-tail (λ w. u.subject ≢ w.subject) v us h),
)

above : (us : List Atom) (n : ℕ) → All (λ u. u.subject < n) us → All (λ v. n ≢ v.subject) us
above us n h k d l e = let b = h k d l in omega (arith, b, e)

beneath : (us : List Atom) (n : ℕ) → All (λ u. u.subject < n) us → All (λ v. v.subject ≢ n) us
beneath us n h k d l e = let b = h k d l in omega (arith, b, e)

pub literal_subject : (n : ℕ) (v : Bool) → (literal_of n v).subject ≡ n
literal_subject n true = refl
literal_subject n false = refl

literal_is : (n : ℕ) (v : Bool) → IsBitLiteral (literal_of n v)
literal_is n true = record { value = true; is = refl }
literal_is n false = record { value = false; is = refl }

pub literal_about : (us : List Atom) (n : ℕ) (v : Bool) → Contains (atom_subjects us) n → IsAbout us (literal_of n v)
literal_about us n true h = record { low = grind (arith, ints); high = grind (arith, ints); subject = h }
literal_about us n false h = record { low = grind (arith, ints); high = grind (arith, ints); subject = h }

pushed : (P : Atom → Type 0) (us vs : List Atom) (u : Atom) → vs ≡ us ++ u ∷ [] → All P us → P u → All P vs
pushed P us vs u e h p = subst (λ (l : List Atom). All P l) (sym e) (All-append P us (u ∷ []) h (All-cons P u [] p (All-nil P)))

kept : (P : Atom → Type 0) (us vs : List Atom) → vs ≡ us ++ [] → All P us → All P vs
kept P us vs e h = subst (λ (l : List Atom). All P l) (sym e) (All-append P us [] h (All-nil P))

wider : (us : List Atom) (n : ℕ) → All (λ u. u.subject < n) us → All (λ u. u.subject < n + 1) us
wider us n h k d l = let b = h k d l in omega (arith, b)

-- the shape with what a group tells
module _ (k : Kind) (us : List Atom) (f h : Form) (g : Group) (s : IsFormShaped k us g.subject f) where
  abbrev n : ℕ
  n = g.subject

  add_live : (v : Bool) → Contains (atom_subjects us) n → h.live.items ≡ f.live.items ++ literal_of n v ∷ [] → h.sure.items ≡ f.sure.items → IsFormShaped k us (n + 1) h
  add_live v about live sure =
      let t = literal_of n v in
      let is : t.subject ≡ n = literal_subject n v in
      record {
        sure_apart = subst (λ (l : List Atom). AreApart l) (sym sure) s.sure_apart;
        live_apart = subst (λ (l : List Atom). AreApart l) (sym live) (apart_push f.live.items t s.live_apart (subst (λ (m : ℕ). All (λ w. m ≢ w.subject) f.live.items) (sym is) (above f.live.items n s.live_below)));
        disjoint = subst (λ (l : List Atom). All (λ w. All (λ z. z.subject ≢ w.subject) l) h.live.items) (sym sure)
            (pushed (λ w. All (λ z. z.subject ≢ w.subject) f.sure.items) f.live.items h.live.items t live s.disjoint
            (subst (λ (m : ℕ). All (λ z. z.subject ≢ m) f.sure.items) (sym is) (beneath f.sure.items n s.sure_below)));
        sure_below = subst (λ (l : List Atom). All (λ w. w.subject < n + 1) l) (sym sure) (wider f.sure.items n s.sure_below);
        live_below = pushed (λ w. w.subject < n + 1) f.live.items h.live.items t live (wider f.live.items n s.live_below) (omega (arith, is));
        sure_about = subst (λ (l : List Atom). All (IsAbout us) l) (sym sure) s.sure_about;
        live_about = pushed (IsAbout us) f.live.items h.live.items t live s.live_about (literal_about us n v about);
        literals = pushed IsBitLiteral f.live.items h.live.items t live s.literals (literal_is n v);
        narrow = λ small. sure ∙ s.narrow small;
      }

  add_sure : (v : Bool) → Contains (atom_subjects us) n → h.live.items ≡ f.live.items → h.sure.items ≡ f.sure.items ++ literal_of n v ∷ [] → (greatest k ≤ 1 → ⊥) → IsFormShaped k us (n + 1) h
  add_sure v about live sure wide =
      let t = literal_of n v in
      let is : t.subject ≡ n = literal_subject n v in
      record {
        sure_apart = subst (λ (l : List Atom). AreApart l) (sym sure) (apart_push f.sure.items t s.sure_apart (subst (λ (m : ℕ). All (λ w. m ≢ w.subject) f.sure.items) (sym is) (above f.sure.items n s.sure_below)));
        live_apart = subst (λ (l : List Atom). AreApart l) (sym live) s.live_apart;
        disjoint = subst (λ (l : List Atom). All (λ w. All (λ z. z.subject ≢ w.subject) h.sure.items) l) (sym live)
            (λ j d b. pushed (λ z. z.subject ≢ (get_or f.live.items j d).subject) f.sure.items h.sure.items t sure (s.disjoint j d b)
            (subst (λ (m : ℕ). m ≢ (get_or f.live.items j d).subject) (sym is) (above f.live.items n s.live_below j d b)));
        sure_below = pushed (λ w. w.subject < n + 1) f.sure.items h.sure.items t sure (wider f.sure.items n s.sure_below) (omega (arith, is));
        live_below = subst (λ (l : List Atom). All (λ w. w.subject < n + 1) l) (sym live) (wider f.live.items n s.live_below);
        sure_about = pushed (IsAbout us) f.sure.items h.sure.items t sure s.sure_about (literal_about us n v about);
        live_about = subst (λ (l : List Atom). All (IsAbout us) l) (sym live) s.live_about;
        literals = subst (λ (l : List Atom). All IsBitLiteral l) (sym live) s.literals;
        narrow = λ small. absurd (wide small);
      }

  add_none : h.live.items ≡ f.live.items → h.sure.items ≡ f.sure.items → IsFormShaped k us (n + 1) h
  add_none live sure = record {
    sure_apart = subst (λ (l : List Atom). AreApart l) (sym sure) s.sure_apart;
    live_apart = subst (λ (l : List Atom). AreApart l) (sym live) s.live_apart;
    disjoint = subst (λ (l : List Atom). All (λ w. All (λ z. z.subject ≢ w.subject) h.sure.items) l) (sym live) (subst (λ (m : List Atom). All (λ w. All (λ z. z.subject ≢ w.subject) m) f.live.items) (sym sure) s.disjoint);
    sure_below = subst (λ (l : List Atom). All (λ w. w.subject < n + 1) l) (sym sure) (wider f.sure.items n s.sure_below);
    live_below = subst (λ (l : List Atom). All (λ w. w.subject < n + 1) l) (sym live) (wider f.live.items n s.live_below);
    sure_about = subst (λ (l : List Atom). All (IsAbout us) l) (sym sure) s.sure_about;
    live_about = subst (λ (l : List Atom). All (IsAbout us) l) (sym live) s.live_about;
    literals = subst (λ (l : List Atom). All IsBitLiteral l) (sym live) s.literals;
    narrow = λ small. sure ∙ s.narrow small;
  }

  shaped_by : (p : Piece) → IsPieceOf g.at_zero g.at_one p → h.live.items ≡ f.live.items ++ live_of n p → h.sure.items ≡ f.sure.items ++ sure_of n p
      → (g.at_zero ≡ g.at_one) ⊎ Contains (atom_subjects us) n → g.at_zero ≤ greatest k → g.at_one ≤ greatest k → IsFormShaped k us (n + 1) h
  shaped_by Constant is live sure about small_none small_one = add_none (live ∙ append-nil f.live.items) (sure ∙ append-nil f.sure.items)
  shaped_by (Live true) is live sure (inl same) small_none small_one = absurd (omega (arith, is, same))
  shaped_by (Live false) is live sure (inl same) small_none small_one = absurd (omega (arith, is, same))
  shaped_by (Sure true) is live sure (inl same) small_none small_one = absurd (omega (arith, is, same))
  shaped_by (Sure false) is live sure (inl same) small_none small_one = absurd (omega (arith, is, same))
  shaped_by (Live v) is live sure (inr about) small_none small_one = add_live v about live (sure ∙ append-nil f.sure.items)
  shaped_by (Sure true) is live sure (inr about) small_none small_one = add_sure true about (live ∙ append-nil f.live.items) sure (λ b. omega (arith, b, is, small_none))
  shaped_by (Sure false) is live sure (inr about) small_none small_one = add_sure false about (live ∙ append-nil f.live.items) sure (λ b. omega (arith, b, is, small_one))

pub IsFormShaped-wider : (k : Kind) (us : List Atom) (a b : ℕ) (f : Form) → a ≤ b → IsFormShaped k us a f → IsFormShaped k us b f
IsFormShaped-wider k us a b f l s = record {
  sure_apart = s.sure_apart;
  live_apart = s.live_apart;
  disjoint = s.disjoint;
  sure_below = λ j d m. let x = s.sure_below j d m in omega (arith, x, l);
  live_below = λ j d m. let x = s.live_below j d m in omega (arith, x, l);
  sure_about = s.sure_about;
  live_about = s.live_about;
  literals = s.literals;
  narrow = s.narrow;
}

pub IsFormShaped-add : (k : Kind) (us : List Atom) (f h : Form) (g : Group) → AddsGroup g f h → (g.at_zero ≡ g.at_one) ⊎ Contains (atom_subjects us) g.subject → g.at_zero ≤ greatest k → g.at_one ≤ greatest k → IsFormShaped k us g.subject f → IsFormShaped k us (g.subject + 1) h
IsFormShaped-add k us f h g a about small_none small_one s = shaped_by k us f h g s a.piece a.is a.live a.sure about small_none small_one

about_bits : (us : List Atom) (g : Group) (xs : List ℤ) → (g.at_zero ≡ g.at_one) ⊎ Contains (atom_subjects us) g.subject → AreBits xs us → (g.at_zero ≡ g.at_one) ⊎ IsBitValue (value_at xs g.subject)
about_bits us g xs (inl e) bits = inl e
about_bits us g xs (inr c) bits = inr (All-contains (λ i. IsBitValue (value_at xs i)) (atom_subjects us) g.subject (All-map (λ i. IsBitValue (value_at xs i)) (λ (u : Atom). u.subject) us bits) c)

-- the fold begins, goes on with one more atom, and ends
module _ (k : Kind) (us : List Atom) (sorted : (i j : ℕ) (d : Atom) → i ≤ j → j < length us → (get_or us i d).subject ≤ (get_or us j d).subject) where
  alike_none : (xs : List ℤ) → AreAlike k (tally k xs (take 0 us)) 0
  alike_none xs = AreAlike-same k 0

  sum_none : (w : ℕ) → w ≡ 0 → 0 ≡ 0 + w
  sum_none w e = omega (arith, e)

  pub IsFolding-none : (f : Form) → f.constant ≡ 0 → f.sure.items ≡ [] → f.live.items ≡ [] → IsFolding k us 0 f (none_at 0)
  IsFolding-none f constant sure live = record {
    told = λ xs bits. record {
      number = 0;
      alike = subst (λ (w : ℕ). AreAlike k (tally k xs (take 0 us)) w) (sum_none (weight (none_at 0) (value_at xs 0)) (either (equals (value_at xs 0) (pos 0)) 0 0 refl)) (alike_none xs);
      counted = record {
        counted = λ _. let e = ap (λ (l : List Atom). true_atoms xs l) live in let z : true_atoms xs [] ≡ 0 = refl in omega (arith, constant, e, z);
        many = λ f0. absurd (let e : true ≡ false = sym (ap (λ (l : List Atom). list_all (atom_holds xs) l) sure) ∙ f0 in cc);
      };
    };
    shaped = record {
      sure_apart = subst (λ (l : List Atom). AreApart l) (sym sure) tt;
      live_apart = subst (λ (l : List Atom). AreApart l) (sym live) tt;
      disjoint = subst (λ (l : List Atom). All (λ w. All (λ z. z.subject ≢ w.subject) f.sure.items) l) (sym live) (All-nil (λ w. All (λ z. z.subject ≢ w.subject) f.sure.items));
      sure_below = subst (λ (l : List Atom). All (λ w. w.subject < 0) l) (sym sure) (All-nil (λ w. w.subject < 0));
      live_below = subst (λ (l : List Atom). All (λ w. w.subject < 0) l) (sym live) (All-nil (λ w. w.subject < 0));
      sure_about = subst (λ (l : List Atom). All (IsAbout us) l) (sym sure) (All-nil (IsAbout us));
      live_about = subst (λ (l : List Atom). All (IsAbout us) l) (sym live) (All-nil (IsAbout us));
      literals = subst (λ (l : List Atom). All IsBitLiteral l) (sym live) (All-nil IsBitLiteral);
      narrow = λ _. sure;
    };
    about = inl refl;
    zero_small = omega arith;
    one_small = omega arith;
    small = omega (arith, constant);
    ahead = λ j d _ l. omega arith;
  }

  module _ (i : ℕ) (d : Atom) (l : i < length us) (f : Form) (g : Group) (s : IsFolding k us i f g) where
    abbrev now : Atom
    now = get_or us i d

    has : Contains (atom_subjects us) now.subject
    has = subst (λ (n : ℕ). Contains (atom_subjects us) n) (get_or-map (λ (u : Atom). u.subject) us i d now.subject l)
        (Contains-get_or (atom_subjects us) i now.subject (let m = length-map us (λ (u : Atom). u.subject) in omega (arith, l, m)))

    now_bits : (xs : List ℤ) → AreBits xs us → IsBitValue (value_at xs now.subject)
    now_bits xs bits = bits i d l

    grown_small : (y : ℤ) (n : ℕ) → n ≤ greatest k → grown k now y n ≤ greatest k
    grown_small y n b = elim (truth_of (counts k (meets now.op now.value y))) [
      | inl y1 ↦ (let e = ap (λ (c : Bool). cond c (more k n) n) y1 in let m = more_small k n in omega (arith, e, m))
      | inr n0 ↦ (let e = ap (λ (c : Bool). cond c (more k n) n) n0 in omega (arith, e, b))
    ]

    -- with a group about the atom's subject that tells the atoms before
    step : (h : Form) (e : Group) → e.subject ≡ now.subject → ((xs : List ℤ) → AreBits xs us → IsTold k (take i us) h (weight e (value_at xs e.subject)) xs) → IsFormShaped k us e.subject h
        → e.at_zero ≤ greatest k → e.at_one ≤ greatest k → h.constant ≤ i + i + 2 → IsFolding k us (i + 1) h (joined e k now)
    step h e same told shaped small_none small_one small = record {
      told = λ xs bits. IsTold-more k us i d l h e xs (sym same) (subst (λ (n : ℕ). IsBitValue (value_at xs n)) (sym same) (now_bits xs bits)) small_none small_one (told xs bits);
      shaped = shaped;
      about = inr (subst (λ (n : ℕ). Contains (atom_subjects us) n) (sym same) has);
      zero_small = grown_small (pos 0) e.at_zero small_none;
      one_small = grown_small (pos 1) e.at_one small_one;
      small = omega (arith, small);
      ahead = λ j z a b. let x = sorted i j z (omega (arith, a)) b in let q = ap (λ (u : Atom). u.subject) (get_or_default us i d z l) in omega (arith, x, same, q);
    }

    pub IsFolding-more : (h : Form) (e : Group) → Enters now.subject g f e h → g.at_zero ≤ 2 → IsFolding k us (i + 1) h (joined e k now)
    IsFolding-more h e (inl same) two =
        subst (λ (q : Group). IsFolding k us (i + 1) h (joined q k now)) (sym same.1) (subst (λ (q : Form). IsFolding k us (i + 1) q (joined g k now)) (sym same.2)
        (step f g same.0 s.told s.shaped s.zero_small s.one_small (let b = s.small in omega (arith, b))))
    IsFolding-more h e (inr other) two =
        subst (λ (q : Group). IsFolding k us (i + 1) h (joined q k now)) (sym other.2)
        (step h (none_at now.subject) refl
        (λ xs bits. subst (λ (w : ℕ). IsTold k (take i us) h w xs) (sym (either (equals (value_at xs now.subject) (pos 0)) 0 0 refl))
        (IsTold-add k (take i us) f h g xs other.1 (about_bits us g xs s.about bits) (s.told xs bits)))
        (IsFormShaped-wider k us (g.subject + 1) now.subject h (let x = s.ahead i d (omega arith) l in let ne = other.0 in omega (arith, x, ne)) (IsFormShaped-add k us f h g other.1 s.about s.zero_small s.one_small s.shaped))
        (omega arith) (omega arith)
        (let c = other.1.constant in let b = s.small in omega (arith, c, b, two)))

  pub IsFormOf-folded : (i : ℕ) (f h : Form) (g : Group) → length us ≤ i → IsFolding k us i f g → AddsGroup g f h → IsFormOf k us h
  IsFormOf-folded i f h g l s a = record {
    told = λ xs bits. IsTold-add k us f h g xs a (about_bits us g xs s.about bits) (subst (λ (vs : List Atom). IsTold k vs f (weight g (value_at xs g.subject)) xs) (take_all i us l) (s.told xs bits));
    bound = g.subject + 1;
    shaped = IsFormShaped-add k us f h g a s.about s.zero_small s.one_small s.shaped;
  }
