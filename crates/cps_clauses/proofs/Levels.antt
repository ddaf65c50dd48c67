-- The level at which a clause becomes false or unit.
use Rattle.std.proofs.Common.{ℕ, ◌≤◌, ◌<◌, ◌-◌, ℤ, ◌≡◌, Bool, true, false, not, List, length, take, get_or, refl, sym, ◌∙◌, ap, subst, inl, inr, arith, ◌⊎◌}
use Rattle.std.proofs.lemmas.List.{take_all}
use Rattle.cps_literal.specs.declared.atom.Atom.{Atom}
use Rattle.cps_literal.specs.Truth.{meets}
use Rattle.cps_trail.specs.Trail.{Entry, Trail, admits, IsFalseAfter, IsTrueAfter, IsFalseFrom, IsSoundTrail, EndsAt, IsLevelOf, up_to}
use Rattle.cps_trail.proofs.Falls.{EndsAt-same, not_both}
use Rattle.cps_trail.proofs.Marks.{up_to-up_to}
use Rattle.cps_trail.proofs.Times.{IsFalseAfter-take, IsFalseAfter-all, IsTrueAfter-all, IsFalseAfter-up_to, IsTrueAfter-up_to}
use Rattle.cps_clauses.specs.declared.falls.LastTwo.{LastTwo}
use Rattle.cps_clauses.specs.Quiet.{AreFalseBut, IsQuietAfter, IsLevelFor, Fits}
use Rattle.cps_clauses.specs.Falls.{AreLastTwo}
use Rattle.cps_clauses.proofs.QuietClauses.{none, at_any, all_false, quiet_by_two, quiet_by_true, IsFalseAfter-later}

below_or : (m n : ℕ) → (m < n) ⊎ (n ≤ m)
below_or m n = grind arith

-- each end of the level of so many entries reaches them
reached_by : (s : Trail) (count level : ℕ) → IsLevelOf s count level → (n : ℕ) → EndsAt s level n → count ≤ n
reached_by s count level is n ends = omega (arith, is.reached.2, EndsAt-same s level is.reached.0 n is.reached.1 ends)

-- below the level of the last but one two atoms are not false
quiet_below : (s : Trail) (atoms : List Atom) (two : LastTwo) (level : ℕ) → AreLastTwo s atoms (length atoms) two → IsLevelOf s two.other_fell level → (l : ℕ) → l < level → IsQuietAfter s.first (up_to l s.entries) atoms
quiet_below s atoms two level last is l less =
    let before = is.below (omega (arith, less)) in
    quiet_by_two s.first (up_to l s.entries) atoms (λ k others. last.least before.0 k before.2 (λ j d b ne.
    subst (λ (es : List Entry). IsFalseAfter s.first es (get_or atoms j d)) (sym before.1.front) (IsFalseAfter-later s.first s.entries l (level - 1) (get_or atoms j d) (omega (arith, less)) (others j d b ne))))

-- at it the clause is false or unit, unless its last atom is true there
pub level_at : (s : Trail) (atoms : List Atom) (two : LastTwo) (level n : ℕ) → IsSoundTrail s → Fits s.first atoms → AreLastTwo s atoms (length atoms) two → two.other_fell ≤ length s.entries → IsLevelOf s two.other_fell level → EndsAt s level n
    → (two.fell ≤ length s.entries) ⊎ (IsTrueAfter s.first (take n s.entries) (get_or atoms two.place none) → ⊥) → IsLevelFor s atoms level
level_at s atoms two level n sound fits last within is ends open_last = record {
  within = is.within;
  below = quiet_below s atoms two level last is;
  here = λ less quiet. not_quiet (subst (λ (es : List Entry). IsQuietAfter s.first es atoms) (sym ends.front) quiet);
}
  where
    others : AreFalseBut s.first (take n s.entries) atoms two.place
    others j d b ne = IsFalseAfter-take s.first s.entries two.other_fell n (get_or atoms j d) (reached_by s two.other_fell level is n ends) (last.others within j d b ne)

    not_true : (two.fell ≤ length s.entries) ⊎ (IsTrueAfter s.first (take n s.entries) (get_or atoms two.place none) → ⊥) → (d : Atom) → IsTrueAfter s.first (take n s.entries) (get_or atoms two.place d) → ⊥
    not_true (inl fell) d on =
        not_both s (get_or atoms two.place d) (fits.subjects two.place d last.within) sound (IsTrueAfter-all s.first s.entries n (get_or atoms two.place d) on)
        (IsFalseAfter-all s.first s.entries two.fell (get_or atoms two.place d) ((last.last d).after fell))
    not_true (inr left) d on = left (at_any (IsTrueAfter s.first (take n s.entries)) atoms two.place d none last.within on)

    not_quiet : IsQuietAfter s.first (take n s.entries) atoms → ⊥
    not_quiet quiet = elim (below_or n two.fell) [
      | inl before ↦ quiet.not_unit (
        two.place,
        record {
          within = last.within;
          others = others;
          not_true = not_true open_last;
          not_false = λ d f. (last.last d).not_before n before f;
        },
      )
      | inr after ↦ quiet.not_false (all_false s.first (take n s.entries) atoms two.place none last.within others
          (IsFalseAfter-take s.first s.entries two.fell n (get_or atoms two.place none) after ((last.last none).after (omega (arith, after, ends.within)))))
    ]

-- two atoms are not false now
pub present_by_two : (s : Trail) (atoms : List Atom) (two : LastTwo) → AreLastTwo s atoms (length atoms) two → length s.entries < two.other_fell → IsLevelFor s atoms s.level
present_by_two s atoms two last h = record {
  within = omega arith;
  below = λ l less. quiet_by_two s.first (up_to l s.entries) atoms (λ k others. last.least (length s.entries) k h (λ j d b ne.
      subst (λ (es : List Entry). IsFalseAfter s.first es (get_or atoms j d)) (sym (take_all (length s.entries) s.entries (omega arith))) (IsFalseAfter-up_to s.first s.entries l (get_or atoms j d) (others j d b ne))));
  here = λ less. absurd (omega (arith, less));
}

-- the last atom is true when all others are false
pub present_by_true : (s : Trail) (atoms : List Atom) (two : LastTwo) (level n : ℕ) → AreLastTwo s atoms (length atoms) two → IsLevelOf s two.other_fell level → EndsAt s level n → length s.entries < two.fell
    → IsTrueAfter s.first (take n s.entries) (get_or atoms two.place none) → IsLevelFor s atoms s.level
present_by_true s atoms two level n last is ends h on = record {
  within = omega arith;
  below = λ l less. elim (below_or l level) [
    | inl below ↦ quiet_below s atoms two level last is l below
    | inr above ↦ quiet_by_true s.first (up_to l s.entries) atoms two.place none last.within
        (IsTrueAfter-up_to s.first (up_to l s.entries) level t (subst (λ (es : List Entry). IsTrueAfter s.first es t) (ends.front ∙ sym (up_to-up_to level l s.entries above)) on))
        (λ f. (last.last none).not_before (length s.entries) h (subst (λ (es : List Entry). IsFalseAfter s.first es t) (sym (take_all (length s.entries) s.entries (omega arith))) (IsFalseAfter-up_to s.first s.entries l t f)))
  ];
  here = λ less. absurd (omega (arith, less));
}
  where
    t : Atom
    t = get_or atoms two.place none

-- a clause with no atom is false at once
pub level_of_none : (s : Trail) (atoms : List Atom) → length atoms ≡ 0 → IsLevelFor s atoms 0
level_of_none s atoms e = record {
  within = omega arith;
  below = λ l less. absurd (omega (arith, less));
  here = λ less quiet. quiet.not_false (λ j d b. absurd (omega (arith, e, b)));
}

not_back : (b : Bool) → not b ≡ false → b ≡ true
not_back true h = refl
not_back false h = absurd (cc)

-- an atom is true where its opposite is false
pub true_of_opposite : (s : Trail) (t u : Atom) (es : List Entry) → u.subject ≡ t.subject → ((x : ℤ) → meets u.op u.value x ≡ not (meets t.op t.value x)) → IsFalseAfter s.first es u → IsTrueAfter s.first es t
true_of_opposite s t u es subject negated f x a = not_back (meets t.op t.value x) (sym (negated x) ∙ f x (ap (λ i. admits s.first es i x) subject ∙ a))

pub false_of_opposite : (s : Trail) (t u : Atom) (es : List Entry) → u.subject ≡ t.subject → ((x : ℤ) → meets u.op u.value x ≡ not (meets t.op t.value x)) → IsTrueAfter s.first es t → IsFalseAfter s.first es u
false_of_opposite s t u es subject negated on x a = negated x ∙ ap not (on x (ap (λ i. admits s.first es i x) (sym subject) ∙ a))

pub was_true_yes : (s : Trail) (t u : Atom) (n m : ℕ) → u.subject ≡ t.subject → ((x : ℤ) → meets u.op u.value x ≡ not (meets t.op t.value x)) → IsFalseFrom s u n → n ≤ m → IsTrueAfter s.first (take m s.entries) t
was_true_yes s t u n m subject negated falls h = true_of_opposite s t u (take m s.entries) subject negated (IsFalseAfter-take s.first s.entries n m u h falls.after)

pub was_true_no : (s : Trail) (t u : Atom) (n m : ℕ) → u.subject ≡ t.subject → ((x : ℤ) → meets u.op u.value x ≡ not (meets t.op t.value x)) → IsFalseFrom s u n → m < n → IsTrueAfter s.first (take m s.entries) t → ⊥
was_true_no s t u n m subject negated falls h on = falls.not_before m h (false_of_opposite s t u (take m s.entries) subject negated on)
