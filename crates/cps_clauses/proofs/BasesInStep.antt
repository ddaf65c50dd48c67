-- What keeps a base in step with a store.
use Rattle.std.proofs.Common.{ℕ, ◌≤◌, ◌<◌, ◌≡◌, true, false, List, [], ◌∷◌, ◌++◌, length, take, sym, ◌∙◌, ap, subst, inl, inr, ◌⊎◌, arith, length-append, map}
use Rattle.std.specs.Prelude.{nat_le}
use Rattle.std.specs.List.{All}
use Rattle.std.proofs.lemmas.List.{get_or_append_left, take-append-le, take_all}
use Rattle.std.proofs.lemmas.List.Elements.{All-weaker, filter_passes}
use Rattle.cps_model.specs.declared.bound.Bound.{Bound}
use Rattle.cps_literal.specs.declared.atom.Atom.{Atom}
use Rattle.cps_trail.specs.Trail.{Domains, Entry, Trail, up_to}
use Rattle.cps_trail.specs.Adds.{Grounds, Infers}
use Rattle.cps_trail.proofs.Marks.{up_to-up_to, up_to-all}
use Rattle.cps_clauses.specs.declared.origin.Origin.{Origin}
use Rattle.cps_clauses.specs.declared.watch.Watch.{Watch}
use Rattle.cps_clauses.specs.Watches.{first_two, clause_of, watch_of, IsGuarded}
use Rattle.cps_clauses.specs.InForce.{IsNumberInForce, marked, emptied}
use Rattle.cps_clauses.specs.Bases.{Base, IsBaseInStep, IsSoundBase, number_at, with_clause}
use Rattle.cps_clauses.specs.Forgets.{without}
use Rattle.cps_clauses.proofs.DroppedClauses.{length-blanked, blanked_kept, marked_below}
use Rattle.cps_clauses.proofs.LearntNumbers.{emptied_is}

above_or : (m n : ℕ) → (m ≤ n) ⊎ (n < m)
above_or m n = grind arith

-- a base of no clause is in step with each store
pub IsBaseInStep-none : (b : Base) (first : Domains) (es : List Entry) → b.clauses ≡ [] → b.watched.watches ≡ [] → b.watched.settled ≡ 0 → IsBaseInStep b first es
IsBaseInStep-none b first es clauses watches settled = record {
  sizes = ap (λ (ws : List Watch). length ws) watches ∙ sym (ap (λ (cs : List (List Atom)). length cs) clauses);
  within = omega (arith, settled);
  at = λ level i l held. absurd (omega (arith, l, settled));
}

-- at the end of an earlier level too
pub IsBaseInStep-back : (b : Base) (first : Domains) (es : List Entry) (level : ℕ) → IsBaseInStep b first es → IsBaseInStep b first (up_to level es)
IsBaseInStep-back b first es level h = record {
  sizes = h.sizes;
  within = h.within;
  at = λ l i less held. elim (above_or l level) [
    | inl lower ↦ subst (λ (fs : List Entry). IsGuarded first fs (clause_of b.clauses i) (watch_of b.watched.watches i)) (sym (up_to-up_to l level es lower)) (h.at l i less held)
    | inr higher ↦ subst (λ (fs : List Entry). IsGuarded first fs (clause_of b.clauses i) (watch_of b.watched.watches i)) (sym (up_to-all l (up_to level es) (low_levels l level es higher))) (h.at level i less held)
  ];
}
  where
    low_levels : (l m : ℕ) (fs : List Entry) → m < l → All (λ e. e.level ≤ l) (up_to m fs)
    low_levels l m fs b = All-weaker (λ e. nat_le e.level m ≡ true) (λ e. e.level ≤ l) (λ e h. under e.level m l h b) (up_to m fs) (filter_passes (λ e. nat_le e.level m) fs)
      where
        under : (k j n : ℕ) → nat_le k j ≡ true → j < n → k ≤ n
        under k j n h b = grind arith

held_old : (b : Base) (clause : List Atom) (i : ℕ) → i < length b.clauses → length b.dropped ≡ length b.clauses → IsNumberInForce (b.clauses ++ clause ∷ []) (b.dropped ++ false ∷ []) i → IsNumberInForce b.clauses b.dropped i
held_old b clause i l sizes held = record { within = l; stays = sym (get_or_append_left b.dropped (false ∷ []) false i (omega (arith, l, sizes))) ∙ held.stays }

-- with one more clause
pub IsBaseInStep-added : (b : Base) (first : Domains) (es : List Entry) (clause : List Atom) (below : Bound) (origin : Origin) → length b.dropped ≡ length b.clauses → IsBaseInStep b first es → IsBaseInStep (with_clause b clause below origin) first es
IsBaseInStep-added b first es clause below origin sizes h = record {
  sizes = omega (arith, h.sizes, length-append b.clauses (clause ∷ []), length-append b.watched.watches (first_two ∷ []));
  within = omega (arith, h.within, length-append b.clauses (clause ∷ []));
  at = λ level i l held.
      subst (λ (w : Watch). IsGuarded first (up_to level es) (clause_of (b.clauses ++ clause ∷ []) i) w) (sym (get_or_append_left b.watched.watches (first_two ∷ []) first_two i (omega (arith, l, h.within, h.sizes))))
      (subst (λ (c : List Atom). IsGuarded first (up_to level es) c (watch_of b.watched.watches i)) (sym (get_or_append_left b.clauses (clause ∷ []) [] i (omega (arith, l, h.within)))) (h.at level i l (held_old b clause i (omega (arith, l, h.within)) sizes held)));
}

-- inference adds entries after those that it speaks of
pub IsBaseInStep-infers : (C : Grounds) (b : Base) (s t : Trail) (from : ℕ) → Infers C s t → from ≤ length s.entries → IsBaseInStep b s.first (take from s.entries) → IsBaseInStep b t.first (take from t.entries)
IsBaseInStep-infers C b s t from h l step =
    subst (λ (f : Domains). IsBaseInStep b f (take from t.entries)) (sym h.first)
    (subst (λ (es : List Entry). IsBaseInStep b s.first es) (sym (ap (λ (es : List Entry). take from es) h.entries ∙ take-append-le from s.entries h.added l)) step)

-- entries at the end leave those that it speaks of
pub IsBaseInStep-front : (b : Base) (first : Domains) (es added : List Entry) → IsBaseInStep b first es → IsBaseInStep b first (take (length es) (es ++ added))
IsBaseInStep-front b first es added h = subst (λ (fs : List Entry). IsBaseInStep b first fs) (sym (take-append-le (length es) es added (omega arith) ∙ take_all (length es) es (omega arith))) h

-- without learnt clauses that were dropped
pub IsBaseInStep-dropped : (b : Base) (first : Domains) (es : List Entry) (which : List ℕ) → IsSoundBase b → All (λ n. n < length b.learnt) which → IsBaseInStep b first es → IsBaseInStep (without b which) first es
IsBaseInStep-dropped b first es which sound places h =
    let cs = emptied_is b.clauses b.dropped b.learnt b.journal which sound.sizes sound.blank sound.numbered places in
    let long : length (emptied b.clauses (map (number_at b.learnt) which)) ≡ length b.clauses =
    ap (λ (ks : List (List Atom)). length ks) cs ∙ length-blanked b.clauses (marked b.dropped (map (number_at b.learnt) which)) in
    record {
      sizes = omega (arith, h.sizes, long);
      within = omega (arith, h.within, long);
      at = λ level i l held.
          subst (λ (c : List Atom). IsGuarded first (up_to level es) c (watch_of b.watched.watches i))
          (sym (ap (λ (ks : List (List Atom)). clause_of ks i) cs ∙ blanked_kept b.clauses (marked b.dropped (map (number_at b.learnt) which)) i held.stays))
          (h.at level i l (record { within = omega (arith, l, h.within); stays = marked_below b.dropped (map (number_at b.learnt) which) i held.stays }));
    }
