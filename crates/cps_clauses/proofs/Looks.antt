-- Looks at one clause after another.
use Rattle.std.proofs.Common.{Result, Ok, Err, OnOk, IfOk, Option, None, Some, ℕ, ◌+◌, ◌≤◌, ◌<◌, ◌≡◌, List, length, take, get_or, refl, sym, ◌∙◌, ap, subst, inl, inr, arith, length-append}
use Rattle.cps_literal.specs.declared.atom.Atom.{Atom}
use Rattle.cps_trail.specs.Trail.{Domains, Entry, Trail, IsSoundTrail}
use Rattle.cps_trail.specs.Adds.{Grounds, Infers}
use Rattle.cps_trail.proofs.Inferring.{Infers-refl, Infers-trans}
use Rattle.cps_trail.proofs.Times.{IsFalseAfter-all}
use Rattle.cps_clauses.specs.declared.watch.Watch.{Watch}
use Rattle.cps_clauses.specs.Quiet.{IsQuietAfter}
use Rattle.cps_clauses.specs.Watches.{clause_of, watch_of, IsWatched, IsGuarded, IsSafe}
use Rattle.cps_clauses.specs.Visits.{IsOutcome, IsWoken}
use Rattle.cps_clauses.specs.Looks.{IsRewatched, IsLookedQuiet}
use Rattle.cps_clauses.specs.Settles.{AreGuarded, IsLookedOver, IsLookedNow, AreSettled}
use Rattle.cps_clauses.proofs.QuietClauses.{seam}
use Rattle.cps_clauses.proofs.Guards.{infers_one, safe_infers, take_infers}
use Rattle.cps_trail.specs.Notes.{ByClauses}
use Rattle.cps_clauses.specs.Notes.{ByClause}

guard_to : (C : Grounds) (s t : Trail) (m : ℕ) (c : List Atom) (w : Watch) → Infers C s t → m ≤ length s.entries → IsGuarded s.first (take m s.entries) c w → IsGuarded t.first (take m t.entries) c w
guard_to C s t m c w h l g = subst (λ (f : Domains). IsGuarded f (take m t.entries) c w) (sym h.first) (subst (λ (es : List Entry). IsGuarded s.first es c w) (sym (take_infers C s t m h l)) g)

guard_from : (C : Grounds) (s t : Trail) (m : ℕ) (c : List Atom) (w : Watch) → Infers C s t → m ≤ length s.entries → IsGuarded t.first (take m t.entries) c w → IsGuarded s.first (take m s.entries) c w
guard_from C s t m c w h l g = subst (λ (es : List Entry). IsGuarded s.first es c w) (take_infers C s t m h l) (subst (λ (f : Domains). IsGuarded f (take m t.entries) c w) h.first g)

quiet_to : (C : Grounds) (s t : Trail) (m : ℕ) (c : List Atom) → Infers C s t → m ≤ length s.entries → IsQuietAfter s.first (take m s.entries) c → IsQuietAfter t.first (take m t.entries) c
quiet_to C s t m c h l g = subst (λ (f : Domains). IsQuietAfter f (take m t.entries) c) (sym h.first) (subst (λ (es : List Entry). IsQuietAfter s.first es c) (sym (take_infers C s t m h l)) g)

pub looked_none : (clauses : List (List Atom)) (s : Trail) (ws : List Watch) (from : ℕ) → IsLookedOver clauses s ws s ws from from
looked_none clauses s ws from = record {
  infers = Infers-refl (ByClauses clauses) s;
  before = λ i l. refl;
  after = λ i l. refl;
  guarded = λ i m a b. absurd (omega (arith, a, b));
  quiet = λ i m a b. absurd (omega (arith, a, b));
}

pub looked_more : (clauses : List (List Atom)) (s u t : Trail) (w0 w1 w2 : List Watch) (from i : ℕ) → from ≤ i → i < length clauses → IsLookedOver clauses s w0 u w1 from i → Infers (ByClause i (clause_of clauses i)) u t → IsRewatched u w1 w2 clauses i
    → IsLookedOver clauses s w0 t w2 from (i + 1)
looked_more clauses s u t w0 w1 w2 from i low b over infers r =
    let one = infers_one clauses i (clause_of clauses i) u t refl b infers in
    let old : watch_of w1 i ≡ watch_of w0 i = over.after i (omega arith) in
    let longer : length s.entries ≤ length u.entries = omega (arith, ap (λ (es : List Entry). length es) over.infers.entries, length-append s.entries over.infers.added) in
    record {
      infers = Infers-trans (ByClauses clauses) s u t over.infers one;
      before = λ j l. r.others j (λ e. (let bad : ⊥ = omega (arith, e, l, low) in bad)) ∙ over.before j l;
      after = λ j l. r.others j (λ e. (let bad : ⊥ = omega (arith, e, l) in bad)) ∙ over.after j (omega (arith, l));
      guarded = λ j m a l short g. elim (seam i j l) [
        | inl less ↦ subst (λ (w : Watch). IsGuarded s.first (take m s.entries) (clause_of clauses j) w) (sym (r.others j (λ e. (let bad : ⊥ = omega (arith, e, less) in bad)))) (over.guarded j m a less short g)
        | inr e ↦ subst (λ (k : ℕ). IsGuarded s.first (take m s.entries) (clause_of clauses k) (watch_of w2 k)) (sym e)
            (guard_from (ByClauses clauses) s u m (clause_of clauses i) (watch_of w2 i) over.infers short
            (r.chosen.guarded m (subst (λ (w : Watch). IsGuarded u.first (take m u.entries) (clause_of clauses i) w) (sym old)
            (guard_to (ByClauses clauses) s u m (clause_of clauses i) (watch_of w0 i) over.infers short (subst (λ (k : ℕ). IsGuarded s.first (take m s.entries) (clause_of clauses k) (watch_of w0 k)) e g)))))
      ];
      quiet = λ j m a l short q. elim (seam i j l) [
        | inl less ↦ subst (λ (w : Watch). IsGuarded s.first (take m s.entries) (clause_of clauses j) w) (sym (r.others j (λ e. (let bad : ⊥ = omega (arith, e, less) in bad)))) (over.quiet j m a less short q)
        | inr e ↦ subst (λ (k : ℕ). IsGuarded s.first (take m s.entries) (clause_of clauses k) (watch_of w2 k)) (sym e)
            (guard_from (ByClauses clauses) s u m (clause_of clauses i) (watch_of w2 i) over.infers short
            (r.chosen.quiet m (quiet_to (ByClauses clauses) s u m (clause_of clauses i) over.infers short (subst (λ (k : ℕ). IsQuietAfter s.first (take m s.entries) (clause_of clauses k)) e q))))
      ];
    }

pub looked_now : (clauses : List (List Atom)) (s u t : Trail) (w0 w1 w2 : List Watch) (from i : ℕ) → i < length clauses → IsLookedOver clauses s w0 u w1 from i → Infers (ByClause i (clause_of clauses i)) u t → IsLookedNow clauses s u w1 from i → IsLookedQuiet u w1 t w2 clauses i
    → IsLookedNow clauses s t w2 from (i + 1)
looked_now clauses s u t w0 w1 w2 from i b over infers so_far h =
    let one = infers_one clauses i (clause_of clauses i) u t refl b infers in
    let longer : length s.entries ≤ length u.entries = omega (arith, ap (λ (es : List Entry). length es) over.infers.entries, length-append s.entries over.infers.added) in
    record {
      now = λ j p a l some watched. elim (seam i j l) [
        | inl less ↦ safe_infers (ByClauses clauses) u t (length s.entries) (clause_of clauses j) p one longer
            (so_far.now j p a less some (subst (λ (w : Watch). IsWatched w p) (h.rewatched.others j (λ e. (let bad : ⊥ = omega (arith, e, less) in bad))) watched))
        | inr e ↦ subst (λ (k : ℕ). IsSafe t.first (take (length s.entries) t.entries) t.entries (clause_of clauses k) p) (sym e) (record {
          holds = λ gone. ((h.guarded (subst (λ (k : ℕ). 1 ≤ length (clause_of clauses k)) e some)).each p (subst (λ (k : ℕ). IsWatched (watch_of w2 k) p) e watched)).holds (λ d q. IsFalseAfter-all t.first t.entries (length s.entries) (get_or (clause_of clauses i) p d) (gone d q));
        })
      ];
    }

-- what is found in the end
pub settled_by : {E : Type 0} (r : Result (Option ℕ) E) (clauses : List (List Atom)) (s t1 t : Trail) (w1 w2 : List Watch) (settled from : ℕ) → Infers (ByClauses clauses) s t1 → OnOk r (IsOutcome clauses t1 w1 t w2) → IfOk r (IsWoken clauses w2 (length t.entries) t) → (r ≡ Ok None → IsSoundTrail t)
    → (IsOutcome clauses t1 w1 t w2 → IsSoundTrail t → IsWoken clauses w2 (length t.entries) t None → AreGuarded t.first t.entries clauses w2 (length clauses))
    → (IsOutcome clauses t1 w1 t w2 → AreGuarded t.first (take from t.entries) clauses w2 settled) → IfOk r (AreSettled clauses s t w2 settled from)
settled_by (Ok None) clauses s t1 t w1 w2 settled from infers outcome woken sound whole stopped = record { infers = Infers-trans (ByClauses clauses) s t1 t infers outcome.infers; guarded = whole outcome (sound refl) woken }
settled_by (Ok (Some i)) clauses s t1 t w1 w2 settled from infers outcome woken sound whole stopped = record { infers = Infers-trans (ByClauses clauses) s t1 t infers outcome.infers; guarded = stopped outcome; failed = woken }
settled_by (Err e) clauses s t1 t w1 w2 settled from infers outcome woken sound whole stopped = tt
