-- An accepted item keeps all clauses of the log true at each assignment that would show the claim wrong.
use Rattle.std.specs.Prelude.{All, None, Some, Option, IsSomeAnd, slice_get, slice_index_or, int_le, nat_lt, ◌&&◌}
use Rattle.std.specs.List.{list_all}
use Rattle.std.proofs.Common.{◌≡◌, ℕ, zero, suc, ◌+◌, ◌-◌, ◌<◌, ◌≤◌, List, [], ◌∷◌, ◌++◌, length, get_or, map, Bool, true, false, ◌⊎◌, inl, inr, refl, sym, ◌∙◌, arith, ℤ, pos, negsuc}
use Rattle.std.proofs.lemmas.Int.{ints}
use Rattle.std.proofs.lemmas.Option.{slice_get_within, get_or_from_slice_get}
use Rattle.std.proofs.lemmas.List.{get_or-append_right, length-append}
use Rattle.std.proofs.lemmas.List.Elements.{All-push, All-nil, All-weaker, All-head, All-tail}
use Rattle.std.proofs.lemmas.Bool.Decides.{nat_tests}
use borrow.Author.Tests.{ltb-true}
use Rattle.cps_model.specs.declared.model.CpModel.{CpModel}
use Rattle.cps_model.specs.declared.model.LinearExpr.{LinearExpr}
use Rattle.cps_model.specs.declared.model.Objective.{Objective}
use Rattle.cps_model.specs.declared.constraint.Constraint.{Constraint}
use Rattle.cps_model.specs.Values.{variable_value, literal_holds, sum_of, expression_value}
use Rattle.cps_model.specs.Within.{is_allowed}
use Rattle.cps_model.specs.Meaning.{IsSatisfied}
use Rattle.cps_model.specs.Rules.{names}
use Rattle.cps_model.specs.Ready.{is_ready_constraint, is_ready_objective, IsReady}
use Rattle.cps_model.specs.Solutions.{objective_sum, objective_value, meets_objective, IsFree}
use Rattle.cps_model.specs.Validity.{IsValid}
use Rattle.cps_model.proofs.Tests.{and_true, list_all-slice_get}
use Rattle.cps_model.proofs.Faults.{parts_of}
use Rattle.cps_model.proofs.Inside.{model_ready, length-are_within}
use Rattle.cps_literal.specs.declared.atom.Atom.{Atom}
use Rattle.cps_literal.specs.Truth.{value_at, clause_holds}
use Rattle.cps_log.specs.declared.item.LogItem.{LogItem}
use Rattle.cps_log.specs.declared.item.LogItem.TheVariants as items
use Rattle.cps_log.specs.Subjects.{extended, subject_domains, subject_count, sum_at, IsDefinable, IsAtomOver, IsClauseOver}
use Rattle.cps_unit.specs.Boxes.{Box, LieIn}
use Rattle.cps_unit.specs.Propagation.{LeadsToConflict}
use Rattle.cps_cert.specs.declared.claim.Claim.{Claim}
use Rattle.cps_cert.specs.declared.claim.Claim.TheVariants as claims
use Rattle.cps_cert.specs.Claims.{Contradicts}
use Rattle.cps_log.specs.Deriving.{Derivation, literal_clause, with_sum, with_clause, after_item}
use Rattle.cps_log.specs.Rows.{clause_box, IsJustified}
use Rattle.cps_cert.specs.Accepting.{is_at_issue, IsObjectiveRefuted, AreEndsApart, MayAssume, IsReasonOf, IsEndsOf, IsAccepted}
use Rattle.cps_cert.proofs.Boxes.{lie_in_box, none_in_empty}
use Rattle.cps_cert.proofs.SubjectDomains.{extended_within, variable_at, value_kept, sum_value_at}
use Rattle.cps_cert.proofs.Literals.{Lies}
use Rattle.cps_cert.proofs.Ends.{sum_between, sum_outside}
use Rattle.cps_cert.proofs.Forced.{IsTrueOver, no_values_left}
use Rattle.cps_cert.proofs.Refuted.{named_of, refuted}

true_or_false : (b : Bool) → (b ≡ true) ⊎ (b ≡ false)
true_or_false true = inl refl
true_or_false false = inr refl

-- ---- what contradicts a claim

free_of : (m : CpModel) (claim : Claim) (a : List ℤ) → Contradicts m claim a → IsFree m a
free_of m (claims.Optimal v) a c = c.0.free
free_of m (claims.Infeasible literals) a c = c.0

at_issue : (m : CpModel) (claim : Claim) (a : List ℤ) → Contradicts m claim a → is_at_issue claim (objective_value m a) ≡ true
at_issue m (claims.Optimal v) a c = let below = c.1 in grind (arith, ints)
at_issue m (claims.Infeasible literals) a c = refl

-- an item of a list passes what all pass
passes : (p : ℤ → Bool) (xs : List ℤ) (k : ℕ) (x : ℤ) → list_all p xs ≡ true → k < length xs → get_or xs k x ≡ x → p x ≡ true
passes p [] k x h l e = absurd (omega arith)
passes p (y ∷ ys) zero x h l e = rw (← e) (and_true (p y) (list_all p ys) h).0
passes p (y ∷ ys) (suc k) x h l e = passes p ys k x (and_true (p y) (list_all p ys) h).1 (omega arith) e

assumed_holds : (m : CpModel) (claim : Claim) (a : List ℤ) (i : ℕ) (r : ℤ) → Contradicts m claim a → slice_get m.assumptions i ≡ Some r → MayAssume claim r → literal_holds a r ≡ true
assumed_holds m (claims.Optimal v) a i r c e h = list_all-slice_get (literal_holds a) m.assumptions i r c.0.assumptions e
assumed_holds m (claims.Infeasible literals) a i r c e h = passes (literal_holds a) literals h.0 r c.1 h.1 h.2

-- ---- the clauses of a log so far, at an assignment

pub record IsKept (m : CpModel) (g : Derivation) (a : List ℤ) : Type 0 where
  pub sums : All (IsDefinable m.variables) g.sums
  pub clauses : All (IsTrueOver (subject_count m.variables g.sums) (extended g.sums a)) g.clauses

-- a clause over earlier subjects keeps its truth when a sum is added
kept_over : (count : ℕ) (clause : List Atom) → IsClauseOver count clause → IsClauseOver (count + 1) clause
kept_over count clause over k d l = let t = over k d l in let s = t.subject in record { subject = omega arith; near = t.near }

clause_kept : (sums : List LinearExpr) (e : LinearExpr) (a : List ℤ) (clause : List Atom) → IsClauseOver (length a + length sums) clause → clause_holds clause (extended (sums ++ e ∷ []) a) ≡ clause_holds clause (extended sums a)
clause_kept sums e a [] over = refl
clause_kept sums e a (t ∷ ts) over =
    let here = All-head (IsAtomOver (length a + length sums)) t ts over in
    let below = here.subject in
    let value = value_kept sums e a t.subject (omega arith) in
    rw (value, clause_kept sums e a ts (All-tail (IsAtomOver (length a + length sums)) t ts over)) refl

module _ (m : CpModel) (valid : IsValid m) (claim : Claim) (a : List ℤ) (against : Contradicts m claim a) where
  free : IsFree m a
  free = free_of m claim a against

  ready : IsReady m a
  ready = model_ready m a valid free.domains

  long : length a ≡ length m.variables
  long = length-are_within m.variables a free.domains

  lies_of : (g : Derivation) (box : Box) → LieIn (subject_count m.variables g.sums) box (extended g.sums a) → Lies box g.sums a (subject_count m.variables g.sums)
  lies_of g box lie = let e = long in record { room = omega arith; inside = lie }

  -- a clause is true whose box is empty, or refuted for a cause that the assignment rules out
  justified_true : {Cause : Type 0} (g : Derivation) (clause : List Atom) → IsJustified m g clause Cause → (LieIn (subject_count m.variables g.sums) (clause_box m g clause) (extended g.sums a) → Cause → ⊥) → IsTrueOver (subject_count m.variables g.sums) (extended g.sums a) clause
  justified_true g clause j denies =
      let count = subject_count m.variables g.sums in
      let xs = extended g.sums a in
      let within = extended_within m.variables g.sums a in
      elim (true_or_false (clause_holds clause xs)) [
        | inl so ↦ record { over = j.over; holds = so }
        | inr not_so ↦ (
            let lie : LieIn count (clause_box m g clause) xs = lie_in_box (subject_domains m.variables g.sums) clause xs count (λ s l. within s (parts_of m valid).variables free.domains l) not_so in
            elim j.shown [
              | inl empty ↦ absurd (none_in_empty count (clause_box m g clause) xs empty lie)
              | inr cause ↦ absurd (denies lie cause)
            ])
      ]

  reason_true : (g : Derivation) (clause : List Atom) (k : ℕ) (c : Constraint) → slice_get m.constraints k ≡ Some c → IsReasonOf m g clause c → IsTrueOver (subject_count m.variables g.sums) (extended g.sums a) clause
  reason_true g clause k c e r =
      let box = clause_box m g clause in
      let held : IsSatisfied m.constraints a c = rw (get_or_from_slice_get m.constraints k c c e) at (free.constraints k c (slice_get_within m.constraints k c e)) in
      let is_ready = list_all-slice_get (is_ready_constraint a) m.constraints k c ready.constraints e in
      justified_true g clause r.justified (λ lie cause. refuted m g.sums clause c a box (lies_of g box lie) held (record { long = long; inside = lie }) (named_of a c is_ready) cause)

  objective_refuted : (g : Derivation) (box : Box) (o : Option Objective) → Lies box g.sums a (subject_count m.variables g.sums) → is_ready_objective a o ≡ true → meets_objective o a ≡ true → is_at_issue claim (objective_sum o a) ≡ true → IsObjectiveRefuted o claim box → ⊥
  objective_refuted g box None lies r h issue r' = cc
  objective_refuted g box (Some o) lies r h issue r' =
      let paired = (and_true _ _ r).0 in
      let named = (and_true _ _ paired).0 in
      let outside = sum_outside box g.sums a (subject_count m.variables g.sums) o.vars o.coeffs (λ x. is_allowed o.domain x && is_at_issue claim x) lies named r' in
      let inside : (is_allowed o.domain (sum_of a o.vars o.coeffs) && is_at_issue claim (sum_of a o.vars o.coeffs)) ≡ true = rw (h, issue) refl in
      cc

  objective_true : (g : Derivation) (clause : List Atom) → IsJustified m g clause (IsObjectiveRefuted m.objective claim (clause_box m g clause)) → IsTrueOver (subject_count m.variables g.sums) (extended g.sums a) clause
  objective_true g clause j =
      let box = clause_box m g clause in
      justified_true g clause j (λ lie cause. objective_refuted g box m.objective (lies_of g box lie) ready.objective free.objective (at_issue m claim a against) cause)

  -- ---- by the ends of a sum

  sum_value : (g : Derivation) (subject : ℕ) (e : LinearExpr) (sum : Bool) → nat_lt subject (length m.variables) ≡ sum → sum_at m.variables g.sums subject ≡ Some e → (k : ℕ) × (k < length g.sums) × (subject ≡ length m.variables + k) × (get_or g.sums k e ≡ e)
  sum_value g subject e true t h = let none : sum_at m.variables g.sums subject ≡ None = rw t refl in cc
  sum_value g subject e false t h =
      let k = subject - length m.variables in
      let there : slice_get g.sums k ≡ Some e = (let is : sum_at m.variables g.sums subject ≡ slice_get g.sums k = rw t refl in sym is ∙ h) in
      let below : length m.variables ≤ subject = grind (arith, nat_tests) in
      (k, slice_get_within g.sums k e there, omega arith, get_or_from_slice_get g.sums k e e there)

  ends_apart : (g : Derivation) (box : Box) (subject : ℕ) (e : LinearExpr) → Lies box g.sums a (subject_count m.variables g.sums) → IsDefinable m.variables e → subject < subject_count m.variables g.sums → value_at (extended g.sums a) subject ≡ expression_value a e → AreEndsApart box subject e → ⊥
  ends_apart g box subject e lies d l is apart =
      let named : list_all (names (length a)) e.vars ≡ true = rw long d.named in
      let between = sum_between box g.sums a (subject_count m.variables g.sums) lies e.vars e.coeffs apart.low apart.high named apart.ends in
      let here = lies.inside subject l in
      let box_in : box subject (expression_value a e) ≡ true = rw is at here in
      let least = apart.domain.above (expression_value a e) box_in in
      let greatest = apart.domain.below (expression_value a e) box_in in
      let low = between.low_is in
      let high = between.high_is in
      elim apart.apart [
        | inl p ↦ omega (arith, ints)
        | inr p ↦ omega (arith, ints)
      ]

  ends_true : (g : Derivation) (subject : ℕ) (clause : List Atom) (e : LinearExpr) → IsKept m g a → sum_at m.variables g.sums subject ≡ Some e → IsEndsOf m g subject clause e → IsTrueOver (subject_count m.variables g.sums) (extended g.sums a) clause
  ends_true g subject clause e kept h ends =
      let box = clause_box m g clause in
      let found = sum_value g subject e (nat_lt subject (length m.variables)) refl h in
      let k = found.0 in
      let l : k < length g.sums = found.1 in
      let place : subject ≡ length m.variables + k = found.2 in
      let size = long in
      let there : subject < subject_count m.variables g.sums = omega arith in
      let right : value_at (extended g.sums a) subject ≡ get_or (map (expression_value a) g.sums) (subject - length a) (pos 0) = get_or-append_right a (map (expression_value a) g.sums) (length a) subject (pos 0) refl (omega arith) in
      let number : subject - length a ≡ k = omega arith in
      let value : value_at (extended g.sums a) subject ≡ expression_value a e = rw (right, number, sum_value_at a g.sums k e l, found.3) refl in
      let definable : IsDefinable m.variables e = rw found.3 at (kept.sums k e l) in
      justified_true g clause ends.justified (λ lie cause. ends_apart g box subject e (lies_of g box lie) definable there value cause)

  -- ---- by an assumption

  literal_over : (g : Derivation) (r : ℤ) → names (length a) r ≡ true → literal_holds a r ≡ true → IsTrueOver (subject_count m.variables g.sums) (extended g.sums a) (literal_clause r)
  literal_over g (pos i) named h =
      let below : i < length a = ltb-true _ _ named in
      let size = long in
      let value = variable_at g.sums a i below in
      let holds : int_le (pos 1) (value_at (extended g.sums a) i) ≡ true = rw value h in
      record {
        over = All-push (IsAtomOver (subject_count m.variables g.sums)) [] _ (All-nil (IsAtomOver (subject_count m.variables g.sums))) (record { subject = omega arith; near = omega arith });
        holds = rw holds refl;
      }
  literal_over g (negsuc i) named h =
      let below : i < length a = ltb-true _ _ named in
      let size = long in
      let value = variable_at g.sums a i below in
      let least : int_le (variable_value a i) (pos 0) ≡ true = grind (arith, ints) in
      let holds : int_le (value_at (extended g.sums a) i) (pos 0) ≡ true = rw value least in
      record {
        over = All-push (IsAtomOver (subject_count m.variables g.sums)) [] _ (All-nil (IsAtomOver (subject_count m.variables g.sums))) (record { subject = omega arith; near = omega arith });
        holds = rw holds refl;
      }

  assumed_true : (g : Derivation) (i : ℕ) (r : ℤ) → slice_get m.assumptions i ≡ Some r → MayAssume claim r → IsTrueOver (subject_count m.variables g.sums) (extended g.sums a) (literal_clause r)
  assumed_true g i r e h =
      let named = list_all-slice_get (names (length a)) m.assumptions i r ready.assumptions e in
      literal_over g r named (assumed_holds m claim a i r against e h)

  -- ---- what is kept

  with_clause_kept : (g : Derivation) (clause : List Atom) → IsKept m g a → IsTrueOver (subject_count m.variables g.sums) (extended g.sums a) clause → IsKept m (with_clause g clause) a
  with_clause_kept g clause kept t = record { sums = kept.sums; clauses = All-push (IsTrueOver (subject_count m.variables g.sums) (extended g.sums a)) g.clauses clause kept.clauses t }

  over_more : (g : Derivation) (e : LinearExpr) (clause : List Atom) → IsTrueOver (subject_count m.variables g.sums) (extended g.sums a) clause → IsTrueOver (subject_count m.variables (g.sums ++ e ∷ [])) (extended (g.sums ++ e ∷ []) a) clause
  over_more g e clause t =
      let size = long in
      let count : subject_count m.variables (g.sums ++ e ∷ []) ≡ subject_count m.variables g.sums + 1 = simp length-append (omega arith) in
      let over : IsClauseOver (length a + length g.sums) clause = rw size t.over in
      record { over = rw count (kept_over (subject_count m.variables g.sums) clause t.over); holds = rw (clause_kept g.sums e a clause over) t.holds }

  with_sum_kept : (g : Derivation) (e : LinearExpr) → IsKept m g a → IsDefinable m.variables e → IsKept m (with_sum g e) a
  with_sum_kept g e kept d = record {
    sums = All-push (IsDefinable m.variables) g.sums e kept.sums d;
    clauses = All-weaker (IsTrueOver (subject_count m.variables g.sums) (extended g.sums a)) (IsTrueOver (subject_count m.variables (g.sums ++ e ∷ [])) (extended (g.sums ++ e ∷ []) a)) (over_more g e) g.clauses kept.clauses;
  }

  -- what is accepted of a thing that a number names, it is accepted of that thing
  reason_kept : (g : Derivation) (k : ℕ) (clause : List Atom) (o : Option Constraint) → slice_get m.constraints k ≡ o → IsKept m g a → IsSomeAnd o (IsReasonOf m g clause) → IsKept m (with_clause g clause) a
  reason_kept g k clause None e kept h = absurd h
  reason_kept g k clause (Some c) e kept h = with_clause_kept g clause kept (reason_true g clause k c e h)

  ends_kept : (g : Derivation) (subject : ℕ) (clause : List Atom) (o : Option LinearExpr) → sum_at m.variables g.sums subject ≡ o → IsKept m g a → IsSomeAnd o (IsEndsOf m g subject clause) → IsKept m (with_clause g clause) a
  ends_kept g subject clause None e kept h = absurd h
  ends_kept g subject clause (Some s) e kept h = with_clause_kept g clause kept (ends_true g subject clause s kept e h)

  assumed_kept : (g : Derivation) (i : ℕ) (o : Option ℤ) → slice_get m.assumptions i ≡ o → IsKept m g a → IsSomeAnd o (MayAssume claim) → IsKept m (with_clause g (literal_clause (slice_index_or m.assumptions i (pos 0)))) a
  assumed_kept g i None e kept h = absurd h
  assumed_kept g i (Some r) e kept h =
      rw (get_or_from_slice_get m.assumptions i r (pos 0) e) (with_clause_kept g (literal_clause r) kept (assumed_true g i r e h))

  learnt_true : (g : Derivation) (clause : List Atom) → IsKept m g a → IsJustified m g clause (LeadsToConflict g.clauses (clause_box m g clause)) → IsTrueOver (subject_count m.variables g.sums) (extended g.sums a) clause
  learnt_true g clause kept j =
      justified_true g clause j (λ lie cause. no_values_left (subject_count m.variables g.sums) g.clauses (clause_box m g clause) (extended g.sums a) cause.forced cause.forces kept.clauses lie)

  -- an accepted item keeps the clauses true
  pub item_kept : (g : Derivation) (item : LogItem) → IsKept m g a → IsAccepted m claim g item → IsKept m (after_item m g item) a
  item_kept g (items.Sum e) kept h = with_sum_kept g e kept h
  item_kept g (items.Reason k clause) kept h = reason_kept g k clause (slice_get m.constraints k) refl kept h
  item_kept g (items.Objective clause) kept h = with_clause_kept g clause kept (objective_true g clause h)
  item_kept g (items.Ends subject clause) kept h = ends_kept g subject clause (sum_at m.variables g.sums subject) refl kept h
  item_kept g (items.Assumed i) kept h = assumed_kept g i (slice_get m.assumptions i) refl kept h
  item_kept g (items.Learnt clause) kept h = with_clause_kept g clause kept (learnt_true g clause kept h)

  -- the empty clause is never accepted
  pub empty_refused : (g : Derivation) → IsKept m g a → IsAccepted m claim g (items.Learnt []) → ⊥
  empty_refused g kept h = let t = learnt_true g [] kept h in let holds = t.holds in cc
