-- Reasons that are made when they are asked for.
use Rattle.std.proofs.Common.{◌≡◌, ℕ, zero, suc, ◌+◌, ◌<◌, ℤ, Bool, true, false, ◌||◌, List, [], ◌∷◌, ◌++◌, length, take, drop, get_or, refl, sym, subst, arith}
use Rattle.std.specs.List.{list_any, All, Contains}
use Rattle.std.proofs.lemmas.List.{take_more}
use Rattle.std.proofs.lemmas.List.Elements.{All-nil, All-push, All-take, All-drop}
use Rattle.std.proofs.lemmas.List.Folds.{list_any_none}
use Rattle.cps_literal.specs.declared.atom.Atom.{Atom}
use Rattle.cps_literal.specs.Truth.{atom_holds}
use Rattle.cps_instance.specs.declared.task.Task.{Task}
use Rattle.cps_instance.specs.declared.task.Body.{Body}
use Rattle.cps_instance.specs.declared.task.Body.TheVariants.{BoolOr, BoolAnd, ExactlyOne}
use Rattle.cps_instance.specs.Tasks.{subjects_of, subjects_of_body}
use Rattle.cps_instance.proofs.Agreeing.{All-append_left, All-append_right}
use Rattle.cps_trail.specs.Trail.{Entry, Trail, IsTrueNow, IsFalseNow, Explains, first_entries}
use Rattle.cps_propagate.specs.Notes.{IsReasonBy}
use Rattle.cps_propagate.proofs.Speaking.{speaks_among, speaks_right, speaks_append}
use Rattle.cps_p_bool.specs.declared.boolean.Kind.{Kind}
use Rattle.cps_p_bool.specs.Bodies.{body_of}
use Rattle.cps_p_bool.specs.Seeking.{IsInForce}
use Rattle.cps_p_bool.specs.Denying.{Agrees, Denies, IsDenyingReason, GivesAtom, Excludes, AreLiterals, task_of}
use Rattle.cps_p_bool.specs.Explaining.{IsExplanation, IsRuledOut, AsksForOne}
use Rattle.cps_p_bool.specs.Normal.{IsNormalForm}
use Rattle.cps_p_bool.proofs.NormalBodies.{within_bits}
use Rattle.cps_p_bool.proofs.AtomCounts.{any_of_count}
use Rattle.cps_p_bool.proofs.ReadSubjects.{list_read, atoms_read, speaks_within}
use Rattle.cps_p_bool.proofs.Denials.{IsOpposite, or_left, or_right, Denies-none, Denies-more}
use Rattle.cps_p_bool.proofs.ReasonConsequences.{explains, follows, speaks, by_bool, not_both, IsDenyingReason-made, GivesAtom-last}
use Rattle.cps_p_bool.proofs.AtMostOne.{enforced_all}
use Rattle.cps_p_bool.proofs.Passes.{gives_rest, gives_sure}

-- a list of atoms that were all false, and that a clause gained
pub record IsDeniedSoFar (s : Trail) (old new us : List Atom) : Type 0 where
  pub denies : Denies s old new us
  pub all_false : All (IsFalseNow s) us

pub denied_none : (s : Trail) (c : List Atom) → IsDeniedSoFar s c c []
denied_none s c = record { denies = Denies-none s c; all_false = All-nil (IsFalseNow s) }

pub denied_more : (s : Trail) (a b c us : List Atom) (i : ℕ) (z : Atom) → i < length us → IsDeniedSoFar s a b (take i us) → Denies s b c (get_or us i z ∷ []) → IsFalseNow s (get_or us i z) → IsDeniedSoFar s a c (take (i + 1) us)
denied_more s a b c us i z l h d f = record {
  denies = Denies-more s a b c us i z l h.denies d;
  all_false = subst (λ (vs : List Atom). All (IsFalseNow s) vs) (sym (take_more us i z l)) (All-push (IsFalseNow s) (take i us) (get_or us i z) h.all_false f);
}

-- the atom that the used literals give is explained by what is denied of them
pub IsExplanation-given : (s : Trail) (e used : List Atom) (b : Body) (given t : Atom) (clause : List Atom) → given ≡ t → given.subject < length s.first → IsDenyingReason s (e ++ used) t clause → GivesAtom s (task_of e b) used given → IsExplanation s (task_of e b) t clause
IsExplanation-given s e used b given t clause same l r g =
    let gives : GivesAtom s (task_of e b) used t = subst (λ (u : Atom). GivesAtom s (task_of e b) used u) same g in
    record {
      explained = explains s e used t clause r (subst (λ (u : Atom). u.subject < length s.first) same l);
      follows = follows s e used t clause r b gives;
      speaks = speaks s e used t clause r b gives;
    }

-- where the body is ruled out and all enforcement atoms but one are true, that one's opposite is explained
pub IsExplanation-off : (s : Trail) (e : List Atom) (last : ℕ) (b : Body) (z o t : Atom) (c clause : List Atom) → IsInForce s e last → last < length e → AreLiterals s.first e → IsOpposite (get_or e last z) o → o ≡ t → IsRuledOut s e b c → clause ≡ c ++ o ∷ []
    → IsExplanation s (task_of e b) t clause
IsExplanation-off s e last b z o t c clause force l fits opposite same x made =
    IsExplanation-given s e x.used b o t clause same (subst (λ (i : ℕ). i < length s.first) (sym opposite.subject) (fits last z l).subject)
    (subst (λ (u : Atom). IsDenyingReason s (e ++ x.used) u clause) same (IsDenyingReason-made s c clause (e ++ x.used) o x.denies made))
    (GivesAtom-last s e last x.used b z o force l opposite x.excludes)

-- the reason of an entry is an explanation from the domains as they stood before it
pub IsReasonBy-explained : (s : Trail) (k : ℕ) (t : Task) (u : Atom) (clause : List Atom) → ((d : Entry) → (get_or s.entries k d).atom ≡ u) → IsExplanation (first_entries s k) t u clause → IsReasonBy t s k clause
IsReasonBy-explained s k t u clause is h = record {
  given = record { explains = λ d. subst (λ (v : Atom). Explains s.first (take k s.entries) clause v) (sym (is d)) h.explained; follows = h.follows };
  speaks = λ d. speaks_right ((get_or s.entries k d).atom.subject ∷ []) (subjects_of t) clause h.speaks;
}

-- what holds of the parts of a normal form holds of the body
module _ (s : Trail) (e us : List Atom) (b : Body) (sure : List Atom) (rest : Body) (live : List Atom) (fits : AreLiterals s.first us) (n : IsNormalForm us b sure rest live) where
  pub IsExplanation-sure : (t : Atom) (clause : List Atom) → IsExplanation s (task_of e (BoolAnd sure)) t clause → IsExplanation s (task_of e b) t clause
  IsExplanation-sure t clause h = record {
    explained = h.explained;
    follows = record { at = λ xs within on. h.follows.at xs within (gives_sure s e us b sure rest live n fits xs within on) };
    speaks = speaks_within e (BoolAnd sure) b n.sure_read clause h.speaks;
  }

  pub IsExplanation-rest : (t : Atom) (clause : List Atom) → IsExplanation s (task_of e rest) t clause → IsExplanation s (task_of e b) t clause
  IsExplanation-rest t clause h = record {
    explained = h.explained;
    follows = record { at = λ xs within on. h.follows.at xs within (gives_rest s e us b sure rest live n fits xs within on) };
    speaks = speaks_within e rest b n.rest_read clause h.speaks;
  }

  pub IsRuledOut-sure : (clause : List Atom) → IsRuledOut s e (BoolAnd sure) clause → IsRuledOut s e b clause
  IsRuledOut-sure clause h = record {
    used = h.used;
    excludes = record {
      at = λ xs within holds agrees. h.excludes.at xs within ((n.holds xs (within_bits s.first us fits xs within)).0 holds).0 agrees;
      used_read = speaks_among (subjects_of_body (BoolAnd sure)) (subjects_of_body b) h.used n.sure_read h.excludes.used_read;
    };
    denies = h.denies;
  }

  pub IsRuledOut-rest : (clause : List Atom) → IsRuledOut s e rest clause → IsRuledOut s e b clause
  IsRuledOut-rest clause h = record {
    used = h.used;
    excludes = record {
      at = λ xs within holds agrees. h.excludes.at xs within ((n.holds xs (within_bits s.first us fits xs within)).0 holds).1 agrees;
      used_read = speaks_among (subjects_of_body rest) (subjects_of_body b) h.used n.rest_read h.excludes.used_read;
    };
    denies = h.denies;
  }

-- the kind that it is
pub IsExplanation-kind : (s : Trail) (e us : List Atom) (k j : Kind) (t : Atom) (clause : List Atom) → k ≡ j → IsExplanation s (task_of e (body_of j us)) t clause → IsExplanation s (task_of e (body_of k us)) t clause
IsExplanation-kind s e us k j t clause same h = subst (λ (i : Kind). IsExplanation s (task_of e (body_of i us)) t clause) (sym same) h

pub IsRuledOut-kind : (s : Trail) (e us : List Atom) (k j : Kind) (clause : List Atom) → k ≡ j → IsRuledOut s e (body_of j us) clause → IsRuledOut s e (body_of k us) clause
IsRuledOut-kind s e us k j clause same h = subst (λ (i : Kind). IsRuledOut s e (body_of i us) clause) (sym same) h

pub AsksForOne-or : (us : List Atom) → AsksForOne (BoolOr us) us
AsksForOne-or us = record { reads = refl; some = λ xs h. h }

pub AsksForOne-exactly : (us : List Atom) → AsksForOne (ExactlyOne us) us
AsksForOne-exactly us = record { reads = refl; some = λ xs h. any_of_count (atom_holds xs) us h }

or_both : (a b : Bool) → a ≡ false → b ≡ false → (a || b) ≡ false
or_both true b e f = cc
or_both false b e f = f

any_split : (f : Atom → Bool) (us : List Atom) (p : ℕ) (z : Atom) → p < length us → list_any f (take p us) ≡ false → f (get_or us p z) ≡ false → list_any f (drop (suc p) us) ≡ false → list_any f us ≡ false
any_split f [] p z l a b c = refl
any_split f (u ∷ us) zero z l a b c = or_both (f u) (list_any f us) b c
any_split f (u ∷ us) (suc p) z l a b c = or_both (f u) (list_any f us) (or_left (f u) (list_any f (take p us)) a) (any_split f us p z (omega (arith, l)) (or_right (f u) (list_any f (take p us)) a) b c)

module _ (s : Trail) (b : Body) (us : List Atom) (n : AsksForOne b us) where
  pub Excludes-none : All (IsFalseNow s) us → Excludes s b us
  Excludes-none h = record {
    at = λ xs within holds agrees.
        not_both (list_any (atom_holds xs) us) (n.some xs holds) (list_any_none (atom_holds xs) us (λ k d l. (agrees k d l).if_false (h k d l)));
    used_read = list_read b us n.reads;
  }

  abbrev Reads : List Atom → Atom → Type 0
  Reads e u = Contains (subjects_of (task_of e b)) u.subject

  -- all but one were false, which stand before it and after it
  pub Gives-but : (p : ℕ) (z : Atom) → p < length us → All (IsFalseNow s) (take p us) → All (IsFalseNow s) (drop (p + 1) us) → (e : List Atom) → All (IsTrueNow s) e → GivesAtom s (task_of e b) (take p us ++ drop (p + 1) us) (get_or us p z)
  Gives-but p z l before after e trues = record {
    at = λ xs within holds agrees-e agrees. by_bool (atom_holds xs (get_or us p z)) (λ no.
        let first : list_any (atom_holds xs) (take p us) ≡ false = none_holds xs (take p us) (All-append_left (Agrees s xs) (take p us) (drop (p + 1) us) agrees) before in
        let rest : list_any (atom_holds xs) (drop (p + 1) us) ≡ false = none_holds xs (drop (p + 1) us) (All-append_right (Agrees s xs) (take p us) (drop (p + 1) us) agrees) after in
        not_both (list_any (atom_holds xs) us) (n.some xs (holds (enforced_all s e xs trues agrees-e))) (any_split (atom_holds xs) us p z l first no (subst (λ (k : ℕ). list_any (atom_holds xs) (drop k us) ≡ false) (let e : p + 1 ≡ suc p = omega arith in e) rest)));
    used_read = speaks_append (subjects_of (task_of e b)) (take p us) (drop (p + 1) us) (All-take (Reads e) p us (atoms_read e b us n.reads)) (All-drop (Reads e) (p + 1) us (atoms_read e b us n.reads));
    target_read = atoms_read e b us n.reads p z l;
  }
    where
      none_holds : (xs : List ℤ) (vs : List Atom) → All (Agrees s xs) vs → All (IsFalseNow s) vs → list_any (atom_holds xs) vs ≡ false
      none_holds xs vs agrees h = list_any_none (atom_holds xs) vs (λ k d m. (agrees k d m).if_false (h k d m))
