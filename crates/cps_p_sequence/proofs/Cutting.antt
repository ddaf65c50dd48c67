-- Where labels lead beside facts, and what a cut gives.
use Rattle.std.specs.Prelude.{not, Contains}
use Rattle.std.proofs.Common.{◌≡◌, inl, inr, ℕ, zero, suc, ◌+◌, ◌<◌, ◌≤◌, ℤ, Bool, true, false, Option, List, [], ◌∷◌, length, drop, get_or, set, refl, sym, ◌∙◌, ap, subst, arith}
use Rattle.std.proofs.lemmas.Int.{ints}
use Rattle.std.proofs.lemmas.Bool.{cases_lt}
use Rattle.std.proofs.lemmas.List.{drop_all, length-set}
use Rattle.std.proofs.lemmas.List.Elements.{All-nil, All-cons, Contains-get_or}
use Rattle.cps_domain.specs.Window.{equals}
use Rattle.cps_model.specs.declared.parts.Transition.{Transition}
use Rattle.cps_model.specs.Sequences.{transitions, Accepts}
use Rattle.cps_literal.specs.declared.atom.Atom.{Atom}
use Rattle.cps_literal.specs.declared.atom.Op.{Op}
use Rattle.cps_literal.specs.declared.atom.Op.TheVariants.{Ge, Le, Ne}
use Rattle.cps_literal.specs.Truth.{value_at, atom_holds, meets}
use Rattle.cps_instance.specs.declared.task.Body.TheVariants.{Automaton}
use Rattle.cps_instance.specs.Parts.{values_at}
use Rattle.cps_trail.specs.Trail.{Trail}
use Rattle.cps_rule.specs.Rules.{AllTrueAt}
use Rattle.cps_p_sequence.specs.declared.states.Step.{Step}
use Rattle.cps_p_sequence.specs.declared.cuts.Limits.{Limits}
use Rattle.cps_p_sequence.specs.Networks.{IsNetwork, IsMarked, state_at}
use Rattle.cps_p_sequence.specs.Facts.{MeetsBound}
use Rattle.cps_rule.specs.Facts.{Grows, Denied, GivesGoal}
use Rattle.cps_p_sequence.specs.Cuts.{IsOut, IsLimited, LeadsToState, Comes, AreCome, IsCut}
use Rattle.cps_p_sequence.proofs.Numbering.{marked_here, marked_still, marked_within}
use Rattle.cps_p_sequence.proofs.Growing.{grows_trans, no_facts, none_speaks}
use Rattle.cps_p_sequence.proofs.Layering.{last_or, item_at}
use Rattle.cps_p_sequence.proofs.Running.{step_at, within_of}

not_both : (b : Bool) → b ≡ true → b ≡ false → ⊥
not_both b p q = let e : true ≡ false = sym p ∙ q in cc

-- a label that would make the atom true
pub denied_out : (u : Atom) (i : ℕ) (v : ℤ) → u.subject ≡ i → meets u.op u.value v ≡ true → (xs : List ℤ) → atom_holds xs u ≡ false → value_at xs i ≡ v → ⊥
denied_out u i v same met xs off at = not_both (meets u.op u.value v) met (ap (λ (x : ℤ). meets u.op u.value x) (sym (ap (λ (j : ℕ). value_at xs j) same ∙ at)) ∙ off)

-- a number that does not meet a bound
pub beyond_out : (op : Op) (v number : ℤ) → meets op v number ≡ false → (x : ℤ) → meets op v x ≡ true → x ≡ number → ⊥
beyond_out op v number off x on e = not_both (meets op v number) (ap (λ (y : ℤ). meets op v y) (sym e) ∙ on) off

off_it : (v x : ℤ) → not (equals x v) ≡ true → x ≡ v → ⊥
off_it v x h e = grind (arith, ints)

-- a label that is ruled out by the ends, or by a fact
pub low_out : (goal : Option Atom) (us : List Atom) (i : ℕ) (limits : Limits) (v : ℤ) → ((x : ℤ) → MeetsBound Ge limits.low x → x ≡ v → ⊥) → IsLimited us i limits → IsOut goal us i v
low_out goal us i limits v off h = record { at = λ xs all deny e. off (value_at xs i) (h.low xs all) e }

pub high_out : (goal : Option Atom) (us : List Atom) (i : ℕ) (limits : Limits) (v : ℤ) → ((x : ℤ) → MeetsBound Le limits.high x → x ≡ v → ⊥) → IsLimited us i limits → IsOut goal us i v
high_out goal us i limits v off h = record { at = λ xs all deny e. off (value_at xs i) (h.high xs all) e }

pub hole_out : (goal : Option Atom) (us : List Atom) (i : ℕ) (v : ℤ) (u : Atom) → u ≡ record { subject = i; op = Ne; value = v } → ((xs : List ℤ) → AllTrueAt xs us → atom_holds xs u ≡ true) → IsOut goal us i v
hole_out goal us i v u same h = record { at = λ xs all deny e. off_it v (value_at xs i) (ap (λ (w : Atom). atom_holds xs w) (sym same) ∙ h xs all) e }

pub limited_still : (s : Trail) (old new : List Atom) (i : ℕ) (limits : Limits) → Grows s (i ∷ []) old new → IsLimited old i limits → IsLimited new i limits
limited_still s old new i limits g h = record { low = λ xs all. h.low xs (g.kept xs all); high = λ xs all. h.high xs (g.kept xs all) }

-- layer by layer
module _ (s : Trail) (goal : Option Atom) (i : ℕ) (steps : List Step) (tails : List Bool) (start : List Atom) where
  pub comes_begun : (row : List Bool) (new : List Atom) → length row ≡ length tails → Grows s (i ∷ []) start new → Comes s goal i steps 0 tails row start new
  comes_begun row new size g = record { size = size; grows = g; all = λ xs all deny k d l m e h. absurd (omega arith) }

  pub comes_passed : (n : ℕ) (row : List Bool) (old new : List Atom) (t : Step) → n < length steps → t ≡ get_or steps n t → Grows s (i ∷ []) old new → (IsMarked tails t.tail → IsOut goal new i t.label)
      → Comes s goal i steps n tails row start old → Comes s goal i steps (n + 1) tails row start new
  comes_passed n row old new t l is g none p = record {
    size = p.size;
    grows = grows_trans s (i ∷ []) start old new p.grows g;
    all = λ xs all deny k d m o. elim (last_or k n m) [
      | inl q ↦ p.all xs (g.kept xs all) deny k d q o
      | inr q ↦ subst (λ (x : Step). x.label ≡ value_at xs i → IsMarked tails x.tail → IsMarked row x.head) (item_at steps k n d t l is q) (λ e h. absurd ((none h).at xs all deny (sym e)))
    ];
  }

  pub comes_marked : (n : ℕ) (old-row new-row : List Bool) (old new : List Atom) (t : Step) → n < length steps → t ≡ get_or steps n t → Grows s (i ∷ []) old new → t.head < length old-row → new-row ≡ set old-row t.head true
      → Comes s goal i steps n tails old-row start old → Comes s goal i steps (n + 1) tails new-row start new
  comes_marked n old-row new-row old new t l is g room e p = record {
    size = ap (λ (r : List Bool). length r) e ∙ length-set old-row t.head true ∙ p.size;
    grows = grows_trans s (i ∷ []) start old new p.grows g;
    all = λ xs all deny k d m o. elim (last_or k n m) [
      | inl q ↦ (λ f h. subst (λ (row : List Bool). IsMarked row (get_or steps k d).head) (sym e) (marked_still old-row t.head (get_or steps k d).head room (p.all xs (g.kept xs all) deny k d q o f h)))
      | inr q ↦ subst (λ (x : Step). x.label ≡ value_at xs i → IsMarked tails x.tail → IsMarked new-row x.head) (item_at steps k n d t l is q) (λ f h. subst (λ (row : List Bool). IsMarked row t.head) (sym e) (marked_here old-row t.head room))
    ];
  }

  pub comes_whole : (n : ℕ) (row : List Bool) (new : List Atom) → length steps ≤ n → Comes s goal i steps n tails row start new → Comes s goal i steps (length steps) tails row start new
  comes_whole n row new l p = record { size = p.size; grows = p.grows; all = λ xs all deny k d m o. p.all xs all deny k d (omega arith) o }

module _ (s : Trail) (goal : Option Atom) (steps : List Step) (first count : ℕ) (is : List ℕ) where
  pub come_begun : (us : List Atom) (row : List Bool) → us ≡ [] → length row ≡ count → ((q : ℕ) → (IsMarked row q → q ≡ first) × (q ≡ first → IsMarked row q)) → AreCome s goal steps first count is 0 us row
  come_begun us row e size marked = record { size = size; facts = no_facts s us e; speaks = none_speaks is us e; all = λ xs all deny q h. (marked q).1 h }

  pub come_more : (n i : ℕ) (tails heads : List Bool) (old new : List Atom) → n < length is → i ≡ get_or is n 0 → Comes s goal i steps (length steps) tails heads old new → AreCome s goal steps first count is n old tails → AreCome s goal steps first count is (n + 1) new heads
  come_more n i tails heads old new within is-i c p =
      let e : suc n ≡ n + 1 = omega arith in
      subst (λ (m : ℕ). AreCome s goal steps first count is m new heads) e (record {
        size = c.size ∙ p.size;
        facts = c.grows.facts p.facts;
        speaks = c.grows.about is (All-cons (Contains is) i [] (subst (λ (j : ℕ). Contains is j) (sym is-i) (Contains-get_or is n 0 within)) (All-nil (Contains is))) p.speaks;
        all = λ xs all deny q h.
            let at : get_or steps h.1.0 h.0 ≡ h.0 = h.1.2 in
            let label : h.0.label ≡ value_at xs i = h.3 ∙ ap (λ (j : ℕ). value_at xs j) (sym is-i) in
            let mark : IsMarked heads h.0.head = subst (λ (x : Step). x.label ≡ value_at xs i → IsMarked tails x.tail → IsMarked heads x.head) at (c.all xs all deny h.1.0 h.0 h.1.1 h.1.1) label (p.all xs (c.grows.kept xs all) deny h.0.tail h.4) in
            subst (λ (p : ℕ). IsMarked heads p) h.2 mark;
      })

  pub come_cut : (n : ℕ) (us : List Atom) (row last : List Bool) → n ≡ length is → ((q : ℕ) → IsMarked row q → IsMarked last q → ⊥) → AreCome s goal steps first count is n us row → IsCut s goal steps first last is us
  come_cut n us row last e off p = record {
    facts = p.facts;
    speaks = p.speaks;
    none = λ xs all deny q h m. off q (p.all xs all deny q (subst (λ (k : ℕ). LeadsToState xs steps first is k q) (sym e) h)) m;
  }

-- what a cut gives
module _ (raw : List Transition) (finals : List ℤ) (start : ℤ) (states : List ℤ) (first : ℕ) (last : List Bool) (steps : List Step) (net : IsNetwork raw finals start states first last steps) (s : Trail) where
  lead_at : (xs : List ℤ) (is : List ℕ) (k : ℕ) → k ≤ length is → Accepts raw finals start (values_at xs is)
      → (q : ℕ) × (q < length last) × LeadsToState xs steps first is k q × Accepts raw finals (state_at states q) (values_at xs (drop k is))
  lead_at xs is zero l acc = (first, net.begin, refl, subst (λ (x : ℤ). Accepts raw finals x (values_at xs is)) (sym net.start_is) acc)
  lead_at xs is (suc k) l acc =
      let before = lead_at xs is k (omega arith) acc in
      let m : k < length is = omega arith in
      let f = step_at raw finals start states first last steps net s xs is k m before.0 before.1 before.3 in
      let w = within_of raw finals start states first last steps net s f.0 f.1 in
      let from : LeadsToState xs steps first is k f.0.tail = subst (λ (q : ℕ). LeadsToState xs steps first is k q) (sym f.2) before.2 in
      let e : k + 1 ≡ suc k = omega arith in
      (f.0.head, w.head, (f.0, f.1, refl, f.3, from), subst (λ (n : ℕ). Accepts raw finals (state_at states f.0.head) (values_at xs (drop n is))) e f.4)

  pub cut_excludes : (goal : Option Atom) (is : List ℕ) (us : List Atom) → IsCut s goal steps first last is us → (xs : List ℤ) → AllTrueAt xs us → Accepts raw finals start (values_at xs is) → Denied goal xs → ⊥
  cut_excludes goal is us c xs all acc deny =
      let r = lead_at xs is (length is) (omega arith) acc in
      let none : drop (length is) is ≡ [] = drop_all (length is) is (omega arith) in
      let end : Accepts raw finals (state_at states r.0) (values_at xs []) = subst (λ (js : List ℕ). Accepts raw finals (state_at states r.0) (values_at xs js)) none r.3 in
      c.none xs all deny r.0 r.2 (net.marked r.0 r.1 end)

pub cut_gives : (start : ℤ) (finals tails heads labels : List ℤ) (states : List ℤ) (first : ℕ) (last : List Bool) (steps : List Step) → IsNetwork (transitions tails heads labels) finals start states first last steps
    → (s : Trail) (goal : Option Atom) (is : List ℕ) (us : List Atom) → IsCut s goal steps first last is us → GivesGoal (Automaton start finals tails heads labels is) s goal us
cut_gives start finals tails heads labels states first last steps net s goal is us c = record {
  facts = c.facts;
  speaks = c.speaks;
  excludes = λ xs within all holds deny. cut_excludes (transitions tails heads labels) finals start states first last steps net s goal is us c xs all holds deny;
}

pub not_true : (b : Bool) → not b ≡ true → b ≡ false
not_true true e = sym e
not_true false e = refl

-- no state is marked in both rows
pub off_more : (row last : List Bool) (n : ℕ) → ((q : ℕ) → q < n → IsMarked row q → IsMarked last q → ⊥) → (IsMarked row n → IsMarked last n → ⊥) → (q : ℕ) → q < n + 1 → IsMarked row q → IsMarked last q → ⊥
off_more row last n before here q l a b = elim (last_or q n l) [
  | inl m ↦ before q m a b
  | inr e ↦ here (subst (λ (k : ℕ). IsMarked row k) e a) (subst (λ (k : ℕ). IsMarked last k) e b)
]

pub off_whole : (row last : List Bool) (n : ℕ) → length row ≤ n → ((q : ℕ) → q < n → IsMarked row q → IsMarked last q → ⊥) → (q : ℕ) → IsMarked row q → IsMarked last q → ⊥
off_whole row last n l before q a b = elim (cases_lt q (length row)) [
  | inl m ↦ before q (omega arith) a b
  | inr m ↦ (let e = marked_within row q a in omega arith)
]
