-- The state is sound from its beginning on, after every list of lawful events.
use Rattle.std.proofs.Common.{◌≡◌, ℕ, zero, suc, ◌<◌, ◌≤◌, Option, Some, None, List, [], ◌∷◌, map, take, length, get_or, replicate, sym, refl, ap, ◌∙◌, subst, arith, length-set}
use Rattle.std.specs.Prelude.{Contains}
use Rattle.std.proofs.lemmas.List.{length-replicate}
use Rattle.cps_model.specs.declared.bound.Bound.{Bound}
use Rattle.cps_model.specs.declared.bound.Bound.TheVariants.{At, Infinite}
use Rattle.cps_model.specs.declared.model.CpModel.{CpModel}
use Rattle.cps_model.specs.Start.{objective_start}
use Rattle.cps_model.specs.Validity.{IsValid}
use Rattle.cps_model.proofs.Start.{objective_start-least}
use Rattle.cps_port.specs.declared.entry.Entry.{Entry}
use Rattle.cps_port.specs.declared.event.Event.{Event}
use Rattle.cps_port.specs.declared.event.Event.TheVariants.{Draw, Publish, Look, Offer, Raise, SeeUpper, SeeLower}
use Rattle.cps_port.specs.declared.part.BoardPart.{BoardPart}
use Rattle.cps_port.specs.declared.part.BoundsPart.{BoundsPart}
use Rattle.cps_port.specs.Order.{BoundLe, IsNoLower, lesser, raised_above}
use Rattle.cps_port.specs.Incumbents.{IsIncumbent, IsLowerBound}
use Rattle.cps_port.specs.Parts.{no_rows, no_bounds}
use Rattle.cps_port.specs.Shared.{BoardState, BoundsState, Shared, first_shared, board_part, bounds_part, row_at, actor_count, board_after, bounds_after, after, IsLawful}
use Rattle.cps_port.specs.Sound.{least_offer, greatest_raise, IsSoundBounds, IsSoundShared, run, AreLawful, StaysSound}
use Rattle.cps_port.specs.Kept.{BoardKept, IsStateKept}
use Rattle.cps_port.proofs.BoundLaws.{keeps_offer, keeps_raise, keeps_upper, keeps_lower}
use Rattle.cps_port.proofs.BoardEvents.{raise_sound, keeps_draw, keeps_publish, keeps_look}

not_none : {X : Type 0} (x : X) → None ≡ Some x → ⊥
not_none x e = cc

-- each element of equal ones, and each place past the end
pub get_or-replicate : {A : Type 0} (n i : ℕ) (x : A) → get_or (replicate n x) i x ≡ x
get_or-replicate zero i x = refl
get_or-replicate (suc n) zero x = refl
get_or-replicate (suc n) (suc i) x = get_or-replicate n i x

least_offer-replicate : (n : ℕ) → least_offer (replicate n no_bounds) ≡ Infinite
least_offer-replicate zero = refl
least_offer-replicate (suc n) = ap (lesser Infinite) (least_offer-replicate n)

greatest_raise-replicate : (start : Bound) (n : ℕ) → greatest_raise start (replicate n no_bounds) ≡ start
greatest_raise-replicate start zero = refl
greatest_raise-replicate start (suc n) = ap (raised_above None) (greatest_raise-replicate start n)

shown_infinite : (m : CpModel) → IsIncumbent m Infinite
unfolding IsIncumbent
shown_infinite m = tt

pub start_floor : (m : CpModel) → IsValid m → IsLowerBound m (At (objective_start m))
unfolding IsLowerBound
start_floor m valid a s = objective_start-least m a valid s

first_board : (m : CpModel) (actors rows : ℕ) → BoardKept m (first_shared m actors rows).board
first_board m actors rows =
    let b : BoardState = (first_shared m actors rows).board in
    let closed : (row : ℕ) (e : Entry) → row_at b row ≡ Some e → ⊥ = λ row e g. not_none e (sym (get_or-replicate {A = Option Entry} rows row None) ∙ g) in
    let idle : (i : ℕ) → board_part b i ≡ no_rows = λ i. get_or-replicate actors i no_rows in record {
      sound = record {
        rows = λ row e g. absurd (closed row e g);
        taken = λ i. subst (λ (p : BoardPart). map Some p.taken ≡ take (length p.taken) b.rows) (sym (idle i)) refl;
        owned = λ row e g. absurd (closed row e g);
        mine = λ i e c. let d = subst (λ (p : BoardPart). Contains p.mine e) (idle i) c in let h = d.1 in absurd (omega arith);
      };
      next = omega arith;
      claimed = λ row e g. absurd (closed row e g);
      drawn = λ i row g. absurd (not_none row (sym (ap (λ (p : BoardPart). p.drawn) (idle i)) ∙ g));
      apart = λ i j row g _. absurd (not_none row (sym (ap (λ (p : BoardPart). p.drawn) (idle i)) ∙ g));
    }

first_bounds : (m : CpModel) (actors rows : ℕ) → IsValid m → IsSoundBounds m (first_shared m actors rows).bounds
first_bounds m actors rows valid =
    let s : BoundsState = (first_shared m actors rows).bounds in
    let idle : (i : ℕ) → bounds_part s i ≡ no_bounds = λ i. get_or-replicate actors i no_bounds in record {
      upper = sym (least_offer-replicate actors);
      shown = shown_infinite m;
      lower = sym (greatest_raise-replicate (At (objective_start m)) actors);
      floor = start_floor m valid;
      saw_upper = λ i. subst (λ (p : BoundsPart). BoundLe Infinite p.saw_upper) (sym (idle i)) tt;
      saw_lower = λ i. subst (λ (p : BoundsPart). IsNoLower p.saw_lower s.lower) (sym (idle i)) tt;
    }

pub starts : (m : CpModel) (actors rows : ℕ) → IsValid m → rows ≤ 4096 → IsStateKept (first_shared m actors rows)
starts m actors rows valid few = let long = length-replicate {A = Option Entry} rows None in record {
  valid = valid;
  few = omega arith;
  both = length-replicate actors no_bounds ∙ sym (length-replicate actors no_rows);
  board = first_board m actors rows;
  bounds = first_bounds m actors rows valid;
}

pub keeps_board : (c : Shared) (i : ℕ) (event : Event) → IsStateKept c → i < actor_count c → IsLawful c i event → BoardKept c.model (board_after c.board i event)
keeps_board c i Draw k h l = keeps_draw c.model c.board k.board i h l.0 l.1
keeps_board c i (Publish e) k h l = keeps_publish c.model c.board k.board i h e l
keeps_board c i Look k h l = keeps_look c.model c.board k.board i h l
keeps_board c i (Offer v) k h l = k.board
keeps_board c i (Raise b) k h l = k.board
keeps_board c i SeeUpper k h l = k.board
keeps_board c i SeeLower k h l = k.board

among : (c : Shared) (i : ℕ) → IsStateKept c → i < actor_count c → i < length c.bounds.parts
among c i k h = let b = k.both in omega arith

pub keeps_bounds : (c : Shared) (i : ℕ) (event : Event) → IsStateKept c → i < actor_count c → IsLawful c i event → IsSoundBounds c.model (bounds_after c.bounds i event)
keeps_bounds c i Draw k h l = k.bounds
keeps_bounds c i (Publish e) k h l = k.bounds
keeps_bounds c i Look k h l = k.bounds
keeps_bounds c i (Offer v) k h l = keeps_offer c.model c.bounds i k.bounds (among c i k h) v l
keeps_bounds c i (Raise b) k h l = keeps_raise c.model c.bounds i k.bounds (among c i k h) b (raise_sound c.model c.board k.board.sound i b l)
keeps_bounds c i SeeUpper k h l = keeps_upper c.model c.bounds i k.bounds (among c i k h)
keeps_bounds c i SeeLower k h l = keeps_lower c.model c.bounds i k.bounds (among c i k h)

pub same_rows : (b : BoardState) (i : ℕ) (event : Event) → length (board_after b i event).rows ≡ length b.rows
same_rows b i Draw = refl
same_rows b i (Publish e) = length-set b.rows e.row (Some e)
same_rows b i Look = refl
same_rows b i (Offer v) = refl
same_rows b i (Raise l) = refl
same_rows b i SeeUpper = refl
same_rows b i SeeLower = refl

same_actors : (b : BoardState) (i : ℕ) (event : Event) → length (board_after b i event).parts ≡ length b.parts
same_actors b i Draw = length-set b.parts i _
same_actors b i (Publish e) = length-set b.parts i _
same_actors b i Look = length-set b.parts i _
same_actors b i (Offer v) = refl
same_actors b i (Raise l) = refl
same_actors b i SeeUpper = refl
same_actors b i SeeLower = refl

pub same_parts : (s : BoundsState) (i : ℕ) (event : Event) → length (bounds_after s i event).parts ≡ length s.parts
same_parts s i Draw = refl
same_parts s i (Publish e) = refl
same_parts s i Look = refl
same_parts s i (Offer v) = length-set s.parts i _
same_parts s i (Raise l) = length-set s.parts i _
same_parts s i SeeUpper = length-set s.parts i _
same_parts s i SeeLower = length-set s.parts i _

pub keeps : (c : Shared) (i : ℕ) (event : Event) → IsStateKept c → i < actor_count c → IsLawful c i event → IsStateKept (after c i event)
keeps c i event k h l = let few = k.few in let long = same_rows c.board i event in record {
  valid = k.valid;
  few = omega arith;
  both = same_parts c.bounds i event ∙ (k.both ∙ sym (same_actors c.board i event));
  board = keeps_board c i event k h l;
  bounds = keeps_bounds c i event k h l;
}

pub sound_of : (c : Shared) → IsStateKept c → IsSoundShared c
sound_of c k = record { few = k.few; both = k.both; board = k.board.sound; bounds = k.bounds }

run_kept : (c : Shared) (events : List (ℕ × Event)) → IsStateKept c → AreLawful c events → IsStateKept (run c events)
run_kept c [] k l = k
run_kept c (e ∷ es) k l = run_kept (after c e.0 e.1) es (keeps c e.0 e.1 k l.0 l.1) l.2

-- After every list of events, each lawful where it comes: each row's entry is sound and names its row; the upper bound is
-- the least offer; the lower bound is the greatest raise, and no solution's objective is below it; what each actor took
-- are the first rows in order; and each row is one actor's.
pub stays_sound : (c : Shared) → IsStateKept c → StaysSound c
stays_sound c k events lawful = sound_of (run c events) (run_kept c events k lawful)
