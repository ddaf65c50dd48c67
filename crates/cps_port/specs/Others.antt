-- What a plain port makes of the shared state: events of its actor, one after another, each lawful where it comes. So
-- it leaves all that the other actors know.
-- Some of its terms are proofs: an `impl` names them as ghost items (`unmoved`, `moved_on`).
use Rattle.std.specs.Prelude.{◌≡◌, ◌≢◌, ℕ, List, [], ◌∷◌, ◌++◌, refl}
use Rattle.std.proofs.Common.{◌∙◌, sym, ap, subst}
use Rattle.cps_port.specs.declared.event.Event.{Event}
use Rattle.cps_port.specs.Shared.{Shared, part_at, actor_count, after}
use Rattle.cps_port.specs.Sound.{run, AreLawful}

-- events of one actor
abbrev pub by : ℕ → List Event → List (ℕ × Event)
by actor [] = []
by actor (e ∷ es) = (actor, e) ∷ by actor es

-- the state came to this by lawful events of one actor alone
pub record ActsAlone (actor actor' : ℕ) (old new : Shared) : Type 0 where
  pub same : actor' ≡ actor
  pub events : List Event
  pub lawful : AreLawful old (by actor events)
  pub reaches : new ≡ run old (by actor events)

-- what the other actors know stays
pub record OthersStay (actor actor' : ℕ) (old new : Shared) : Type 0 where
  pub same : actor' ≡ actor
  pub count : actor_count new ≡ actor_count old
  pub parts : (i : ℕ) → i ≢ actor → part_at new i ≡ part_at old i

lawful-append : (actor : ℕ) (c : Shared) (es fs : List Event) → AreLawful c (by actor es)
    → AreLawful (run c (by actor es)) (by actor fs) → AreLawful c (by actor (es ++ fs))
lawful-append actor c [] fs l m = m
lawful-append actor c (e ∷ es) fs l m = (l.0, l.1, lawful-append actor (after c actor e) es fs l.2 m)

run-append : (actor : ℕ) (c : Shared) (es fs : List Event)
    → run c (by actor (es ++ fs)) ≡ run (run c (by actor es)) (by actor fs)
run-append actor c [] fs = refl
run-append actor c (e ∷ es) fs = run-append actor (after c actor e) es fs

pub unmoved : (actor : ℕ) (c : Shared) → ActsAlone actor actor c c
unmoved actor c = record { same = refl; events = []; lawful = tt; reaches = refl }

pub moved_on : (a b d : ℕ) (x y z : Shared) → ActsAlone a b x y → ActsAlone b d y z → ActsAlone a d x z
moved_on a b d x y z p q = record {
  same = q.same ∙ p.same;
  events = p.events ++ q.events;
  lawful = lawful-append a x p.events q.events p.lawful
      (subst (λ (c : Shared). AreLawful c (by a q.events)) p.reaches
      (subst (λ (i : ℕ). AreLawful y (by i q.events)) p.same q.lawful));
  reaches = q.reaches ∙ ap (λ (i : ℕ). run y (by i q.events)) p.same ∙ ap
      (λ (c : Shared). run c (by a q.events)) p.reaches
      ∙ sym (run-append a x p.events q.events);
}
