-- What an element says of its places.
use Rattle.std.specs.Prelude.{slice_get}
use Rattle.std.proofs.Common.{◌≡◌, ℕ, zero, suc, ℤ, pos, negsuc, ◌<◌, ◌≤ℤ◌, true, List, [], ◌∷◌, length, get_or, refl, sym, ap, subst, ◌∙◌, Option, Some, arith, inl}
use Rattle.std.specs.List.{All}
use Rattle.std.proofs.lemmas.List.Elements.{All-head, All-tail, All-get_or}
use Rattle.cps_domain.proofs.Tests.{le_true}
use Rattle.cps_model.specs.Lookups.{item_at}
use Rattle.cps_literal.specs.declared.atom.Atom.{Atom}
use Rattle.cps_literal.specs.declared.atom.Op.TheVariants.{Le, Ge}
use Rattle.cps_literal.specs.Truth.{value_at, atom_holds}
use Rattle.cps_instance.specs.declared.task.Body.TheVariants.{Element}
use Rattle.cps_instance.specs.Tasks.{HoldsBody}
use Rattle.cps_instance.specs.Parts.{values_at}
use Rattle.cps_trail.specs.Trail.{Trail, Domains, IsAdmitted}
use Rattle.cps_propagate.specs.Now.{IsOpenTo, IsFixedNow, AreOpen}
use Rattle.cps_propagate.specs.Lookups.{IsStrongElement, MayBeElement}
use Rattle.cps_rule.specs.Rules.{IsFittingRule, IsGiven, IsImpossible, IsAtRest, AllTrueAt, AreFacts}
use Rattle.cps_p_lookup.specs.declared.places.Scan.{Scan}
use Rattle.cps_propagate.specs.Reasons.{SpeaksOf}
use Rattle.cps_rule.specs.Facts.{GivesGoal, Denied}
use Rattle.cps_p_lookup.specs.Elements.{IsFitElement, IsChosen, IsScanned}

item_place : (v x : ℤ) (ns : List ℤ) → item_at ns v ≡ Some x → (k : ℕ) × (v ≡ pos k) × (slice_get ns k ≡ Some x)
item_place (pos k) x ns e = (k, refl, e)
item_place (negsuc k) x ns e = cc

got : (xs : List ℤ) (es : List ℕ) (k : ℕ) (x : ℤ) → slice_get (values_at xs es) k ≡ Some x → (k < length es) × (value_at xs (get_or es k 0) ≡ x)
got xs [] k x e = cc
got xs (i ∷ es) zero x e = (omega arith, cc)
got xs (i ∷ es) (suc k) x e = let h = got xs es k x e in (omega (arith, h.0), h.1)

gets : (xs : List ℤ) (es : List ℕ) (k : ℕ) (x : ℤ) → k < length es → value_at xs (get_or es k 0) ≡ x → slice_get (values_at xs es) k ≡ Some x
gets xs [] k x l e = absurd (omega arith)
gets xs (i ∷ es) zero x l e = ap Some e
gets xs (i ∷ es) (suc k) x l e = gets xs es k x (omega (arith, l)) e

pub chosen : (i t : ℕ) (es : List ℕ) (xs : List ℤ) → HoldsBody (Element i t es) xs → (k : ℕ) × (k < length es) × IsChosen i t (get_or es k 0) k xs
chosen i t es xs holds =
    let p = item_place (value_at xs i) (value_at xs t) (values_at xs es) holds in
    let g = got xs es p.0 (value_at xs t) p.2 in
    (p.0, g.0, record { index = p.1; same = g.1 })

pub chosen_holds : (i t : ℕ) (es : List ℕ) (xs : List ℤ) (k : ℕ) → k < length es → IsChosen i t (get_or es k 0) k xs → HoldsBody (Element i t es) xs
chosen_holds i t es xs k l c = subst (λ (v : ℤ). item_at (values_at xs es) v ≡ Some (value_at xs t)) (sym c.index) (gets xs es k (value_at xs t) l c.same)

pub fit_of : (first : Domains) (i t : ℕ) (es : List ℕ) → IsFittingRule first (Element i t es) → IsFitElement first i t es
fit_of first i t es f =
    let P : ℕ → Type 0 = λ e. e < length first in
    record {
      index = All-head (λ e. e < length first) i (t ∷ es) f.subjects;
      target = All-head (λ e. e < length first) t es (All-tail (λ e. e < length first) i (t ∷ es) f.subjects);
      exprs = All-tail (λ e. e < length first) t es (All-tail (λ e. e < length first) i (t ∷ es) f.subjects);
    }

-- an atom that each chosen place gives
pub given_by : (s : Trail) (i t : ℕ) (es : List ℕ) (u : Atom) → u.subject < length s.first
    → ((xs : List ℤ) (k : ℕ) → IsAdmitted s.first s.entries xs → k < length es → IsChosen i t (get_or es k 0) k xs → atom_holds xs u ≡ true) → IsGiven (Element i t es) s u
given_by s i t es u inside h = record { subject = inside; at = λ xs a holds. (let c = chosen i t es xs holds in h xs c.0 a c.1 c.2) }

pub impossible_by : (s : Trail) (i t : ℕ) (es : List ℕ) (scan : Scan) → IsScanned s i t es scan → scan.open ≡ 0 → IsImpossible (Element i t es) s
impossible_by s i t es scan h none = record { at = λ xs a holds. (let c = chosen i t es xs holds in let v = ((h.seen c.0 c.1).at xs a c.2).some in let z = none in omega arith) }

pub ge_holds : (xs : List ℤ) (u : Atom) (t : ℕ) (low : ℤ) → u ≡ record { subject = t; op = Ge; value = low } → low ≤ℤ value_at xs t → atom_holds xs u ≡ true
ge_holds xs u t low e l = subst (λ (w : Atom). atom_holds xs w ≡ true) (sym e) (le_true low (value_at xs t) l)

pub le_holds : (xs : List ℤ) (u : Atom) (t : ℕ) (high : ℤ) → u ≡ record { subject = t; op = Le; value = high } → value_at xs t ≤ℤ high → atom_holds xs u ≡ true
le_holds xs u t high e l = subst (λ (w : Atom). atom_holds xs w ≡ true) (sym e) (le_true (value_at xs t) high l)

pub scan_seen : (s : Trail) (i t : ℕ) (es : List ℕ) (scan : Scan) → IsScanned s i t es scan → 0 < scan.open → (MayBeElement s i t es → ⊥) → ⊥
scan_seen s i t es scan h some closed = closed (scan.last, h.last.last some)

-- the target lies between the ends of what was counted
pub target_low : (s : Trail) (i t : ℕ) (es : List ℕ) (scan : Scan) → IsFitElement s.first i t es → IsScanned s i t es scan → (low : ℤ) → low ≡ scan.least → (u : Atom) → u ≡ record { subject = t; op = Ge; value = low } → IsGiven (Element i t es) s u
target_low s i t es scan f h low is u e = given_by s i t es u (subst (λ n. n < length s.first) (ap (λ (w : Atom). w.subject) (sym e)) f.target) (λ xs k a l c. ge_holds xs u t low e (subst (λ (v : ℤ). v ≤ℤ value_at xs t) (sym is) ((h.seen k l).at xs a c).least))

pub target_high : (s : Trail) (i t : ℕ) (es : List ℕ) (scan : Scan) → IsFitElement s.first i t es → IsScanned s i t es scan → (high : ℤ) → high ≡ scan.greatest → (u : Atom) → u ≡ record { subject = t; op = Le; value = high } → IsGiven (Element i t es) s u
target_high s i t es scan f h high is u e = given_by s i t es u (subst (λ n. n < length s.first) (ap (λ (w : Atom). w.subject) (sym e)) f.target) (λ xs k a l c. le_holds xs u t high e (subst (λ (v : ℤ). value_at xs t ≤ℤ v) (sym is) ((h.seen k l).at xs a c).greatest))

-- the expression at the one place that is open has the target's value
pub same_value : (s : Trail) (i t : ℕ) (es : List ℕ) (scan : Scan) → IsScanned s i t es scan → scan.open ≡ 1 → (xs : List ℤ) (k : ℕ) → IsAdmitted s.first s.entries xs → k < length es → IsChosen i t (get_or es k 0) k xs → value_at xs (get_or es scan.last 0) ≡ value_at xs t
same_value s i t es scan h one xs k a l c = ap (λ n. value_at xs (get_or es n 0)) (((h.seen k l).at xs a c).alone one) ∙ c.same

pub expr_low : (s : Trail) (i t : ℕ) (es : List ℕ) (scan : Scan) (low : ℤ) → IsFitElement s.first i t es → IsScanned s i t es scan → scan.open ≡ 1 → scan.last < length es → ((x : ℤ) → IsOpenTo s t x → low ≤ℤ x)
    → (u : Atom) → u ≡ record { subject = get_or es scan.last 0; op = Ge; value = low } → IsGiven (Element i t es) s u
expr_low s i t es scan low f h one inside least u e = given_by s i t es u (subst (λ n. n < length s.first) (ap (λ (w : Atom). w.subject) (sym e)) (All-get_or (λ n. n < length s.first) es scan.last 0 inside f.exprs))
    (λ xs k a l c. ge_holds xs u (get_or es scan.last 0) low e (subst (λ (v : ℤ). low ≤ℤ v) (sym (same_value s i t es scan h one xs k a l c)) (least (value_at xs t) (a t f.target))))

pub expr_high : (s : Trail) (i t : ℕ) (es : List ℕ) (scan : Scan) (high : ℤ) → IsFitElement s.first i t es → IsScanned s i t es scan → scan.open ≡ 1 → scan.last < length es → ((x : ℤ) → IsOpenTo s t x → x ≤ℤ high)
    → (u : Atom) → u ≡ record { subject = get_or es scan.last 0; op = Le; value = high } → IsGiven (Element i t es) s u
expr_high s i t es scan high f h one inside most u e = given_by s i t es u (subst (λ n. n < length s.first) (ap (λ (w : Atom). w.subject) (sym e)) (All-get_or (λ n. n < length s.first) es scan.last 0 inside f.exprs))
    (λ xs k a l c. le_holds xs u (get_or es scan.last 0) high e (subst (λ (v : ℤ). v ≤ℤ high) (sym (same_value s i t es scan h one xs k a l c)) (most (value_at xs t) (a t f.target))))

-- where all is fixed, the last place that was counted is chosen
pub at_rest : (s : Trail) (i t : ℕ) (es : List ℕ) (scan : Scan) → IsScanned s i t es scan → 0 < scan.open → IsStrongElement s i t es → IsAtRest (Element i t es) s
at_rest s i t es scan h some strong = record { decided = fixed_holds; strong = strong }
  where
    fixed_holds : All (IsFixedNow s) (i ∷ t ∷ es) → (xs : List ℤ) → AreOpen s xs (i ∷ t ∷ es) → HoldsBody (Element i t es) xs
    fixed_holds fixed xs left =
        let k = scan.last in
        let e = get_or es k 0 in
        let l : k < length es = (h.last.last some).within in
        let oi = All-head (λ j. IsOpenTo s j (value_at xs j)) i (t ∷ es) left in
        let ot = All-head (λ j. IsOpenTo s j (value_at xs j)) t es (All-tail (λ j. IsOpenTo s j (value_at xs j)) i (t ∷ es) left) in
        let oe = All-get_or (λ j. IsOpenTo s j (value_at xs j)) es k 0 l (All-tail (λ j. IsOpenTo s j (value_at xs j)) t es (All-tail (λ j. IsOpenTo s j (value_at xs j)) i (t ∷ es) left)) in
        let fi = All-head (IsFixedNow s) i (t ∷ es) fixed in
        let ft = All-head (IsFixedNow s) t es (All-tail (IsFixedNow s) i (t ∷ es) fixed) in
        let fe = All-get_or (IsFixedNow s) es k 0 l (All-tail (IsFixedNow s) t es (All-tail (IsFixedNow s) i (t ∷ es) fixed)) in
        let common = (h.last.last some).same.single (inl fe) in
        chosen_holds i t es xs k l (record {
          index = fi (value_at xs i) (pos k) oi (h.last.last some).place;
          same = fe (value_at xs e) common.0 oe common.1 ∙ ft common.0 (value_at xs t) common.2 ot;
        })

-- facts that close each place
pub gives_by : (s : Trail) (i t : ℕ) (es : List ℕ) (goal : Option Atom) (facts : List Atom) → AreFacts s facts → SpeaksOf (i ∷ t ∷ es) facts
    → ((k : ℕ) → k < length es → (xs : List ℤ) → AllTrueAt xs facts → IsChosen i t (get_or es k 0) k xs → Denied goal xs → ⊥) → GivesGoal (Element i t es) s goal facts
gives_by s i t es goal facts are speaks h = record { facts = are; speaks = speaks; excludes = λ xs within all holds deny. (let c = chosen i t es xs holds in h c.0 c.1 xs all c.2 deny) }
