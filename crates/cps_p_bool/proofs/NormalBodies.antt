-- What holds of a body by its normal form.
use Rattle.std.proofs.Common.{◌≡◌, ℕ, ℤ, true, List, length, get_or, sym, ◌∙◌, subst, arith}
use Rattle.std.specs.List.{All, Contains}
use Rattle.std.proofs.lemmas.List.Elements.{All-map}
use Rattle.std.proofs.lemmas.List.Sums.{list_all-from_AllPass}
use Rattle.cps_literal.specs.declared.atom.Atom.{Atom}
use Rattle.cps_literal.specs.Truth.{value_at, atom_holds}
use Rattle.cps_instance.specs.declared.task.Body.{Body}
use Rattle.cps_instance.specs.declared.task.Body.TheVariants.{BoolAnd}
use Rattle.cps_instance.specs.Tasks.{HoldsBody, HoldsTask, atom_subjects, subjects_of_body}
use Rattle.cps_instance.proofs.Agreeing.{AgreeAt, HoldsBody-agree}
use Rattle.cps_trail.specs.Trail.{Domains, Entry, Reason, Decision, Because, Trail, IsTrueNow, IsFalseNow, IsWithin, Later}
use Rattle.cps_trail.proofs.Inferring.{Infers-weaker}
use Rattle.cps_trail.specs.Adds.{Infers}
use Rattle.cps_trail.specs.Notes.{ByTask}
use Rattle.cps_trail.specs.declared.note.Note.TheVariants as notes
use Rattle.cps_trail.proofs.Laws.{IsAdmitted-within}
use Rattle.cps_trail.specs.declared.step.Step.{Step}
use Rattle.cps_trail.specs.declared.step.Step.TheVariants.{Settled, Conflict}
use Rattle.cps_propagate.specs.Now.{IsOpenTo}
use Rattle.cps_propagate.specs.Conflicts.{AnswersBy}
use Rattle.cps_p_bool.specs.Denying.{AreLiterals, task_of}
use Rattle.cps_p_bool.specs.Taking.{AreAllOpen, CanHold, IsConsistent}
use Rattle.cps_p_bool.specs.Normal.{AreBits, IsNormalForm}
use Rattle.cps_p_bool.proofs.ReadSubjects.{speaks_within}
use Rattle.cps_p_bool.proofs.LiteralValues.{zero_or_one, bits, Pick, listed, listed_at, listed_holds, steer, can_be}

-- what a constraint gives within the first domains, one that implies it there gives
ByTask-within : (n : ℕ) (C D : List ℤ → Type 0) (first : Domains) → ((a : List ℤ) → IsWithin first a → D a → C a) → (before : List Entry) (t : Atom) (r : Reason) → ByTask n C first before t r → ByTask n D first before t r
ByTask-within n C D first w before t Decision g = g
ByTask-within n C D first w before t (Because c) g = g
ByTask-within n C D first w before t (Later (notes.Task k x y)) g = (g.0, record { at = λ a i d. g.1.at a i (w a (IsAdmitted-within first before a i) d) })
ByTask-within n C D first w before t (Later (notes.InForce c)) g = g

pub Infers-within : (n : ℕ) (C D : List ℤ → Type 0) (s u : Trail) → ((a : List ℤ) → IsWithin s.first a → D a → C a) → Infers (ByTask n C) s u → Infers (ByTask n D) s u
Infers-within n C D s u w h = Infers-weaker (ByTask n C) (ByTask n D) s u (ByTask-within n C D s.first w) h

-- so does one whose body reads more
pub AnswersBy-within : (e : List Atom) (a b : Body) (u : Trail) → ((xs : List ℤ) → IsWithin u.first xs → HoldsTask (task_of e b) xs → HoldsTask (task_of e a) xs) → All (Contains (subjects_of_body b)) (subjects_of_body a) → (step : Step)
    → AnswersBy (task_of e a) u step → AnswersBy (task_of e b) u step
AnswersBy-within e a b u w read Settled h = tt
AnswersBy-within e a b u w read (Conflict clause) h = record {
  given = record { follows = record { at = λ xs i d. h.given.follows.at xs i (w xs i d) }; false_now = h.given.false_now; subjects = h.given.subjects };
  speaks = speaks_within e a b read clause h.speaks;
}

-- literals have the values 0 and 1 within the first domains, and at open values
pub within_bits : (first : Domains) (us : List Atom) → AreLiterals first us → (xs : List ℤ) → IsWithin first xs → AreBits xs us
within_bits first us fits xs within k d l =
    let u = get_or us k d in
    let among = within u.subject (fits k d l).subject in
    zero_or_one (value_at xs u.subject) ((fits k d l).literal.least (value_at xs u.subject) among) ((fits k d l).literal.greatest (value_at xs u.subject) among)

pub open_bits : (s : Trail) (us : List Atom) → AreLiterals s.first us → (xs : List ℤ) → AreAllOpen s xs → AreBits xs us
open_bits s us fits xs opens k d l = bits s (get_or us k d) (fits k d l) (value_at xs (get_or us k d).subject) (opens (get_or us k d).subject (fits k d l).subject)

module _ (s : Trail) (us : List Atom) (b : Body) (sure : List Atom) (rest : Body) (live : List Atom) (n : IsNormalForm us b sure rest live)
    (fits : AreLiterals s.first us) (sure_fits : AreLiterals s.first sure) where
  -- where the sure atoms are true, the body is as consistent as the rest
  sure_hold : All (IsTrueNow s) sure → (xs : List ℤ) → AreAllOpen s xs → HoldsBody (BoolAnd sure) xs
  sure_hold trues xs opens = list_all-from_AllPass (atom_holds xs) sure (λ k d l. trues k d l (value_at xs (get_or sure k d).subject) (opens (get_or sure k d).subject (sure_fits k d l).subject))

  pub IsConsistent-normal : All (IsTrueNow s) sure → IsConsistent s rest → IsConsistent s b
  IsConsistent-normal trues h i x l o =
      let c = h i x l o in
      record { values = c.values; opens = c.opens; holds = (n.holds c.values (open_bits s us fits c.values c.opens)).1 (sure_hold trues c.values c.opens, c.holds); here = c.here }

  pub CanHold-sure : All (IsTrueNow s) sure → CanHold s rest → CanHold s b
  CanHold-sure trues c = record { values = c.values; opens = c.opens; holds = (n.holds c.values (open_bits s us fits c.values c.opens)).1 (sure_hold trues c.values c.opens, c.holds) }

  -- where no sure atom is false, the body can hold as the rest can
  pub CanHold-normal : subjects_of_body rest ≡ atom_subjects live → AreLiterals s.first live → All (λ u. IsFalseNow s u → ⊥) sure → CanHold s rest → CanHold s b
  CanHold-normal reads live_fits none c =
      let p : Pick s = record { at = λ i. value_at c.values i; opens = c.opens } in
      let st = steer s true (length s.first) sure n.sure_apart (λ k d l _. can_be s (get_or sure k d) true (sure_fits k d l) (none k d l)) p in
      let xs = listed st.pick.at (length s.first) in
      let opens : AreAllOpen s xs = λ i l. subst (λ (x : ℤ). IsOpenTo s i x) (sym (listed_at st.pick.at (length s.first) i l)) (st.pick.opens i l) in
      record {
        values = xs;
        opens = opens;
        holds = (n.holds xs (open_bits s us fits xs opens)).1 (
          list_all-from_AllPass (atom_holds xs) sure (λ k d l. listed_holds st.pick.at (length s.first) (get_or sure k d) (sure_fits k d l).subject ∙ st.granted k d l (λ e. let m = (sure_fits k d l).subject in omega (arith, m, e))),
          HoldsBody-agree c.values xs rest
              (subst (λ (is : List ℕ). All (AgreeAt c.values xs) is) (sym reads) (All-map (AgreeAt c.values xs) (λ (u : Atom). u.subject) live
              (λ k d l. sym (listed_at st.pick.at (length s.first) (get_or live k d).subject (live_fits k d l).subject ∙ st.others (get_or live k d).subject (n.disjoint k d l)))))
              c.holds,
        );
      }
