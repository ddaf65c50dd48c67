-- An entry by = or != wakes who stands on either side.
use Rattle.std.proofs.Common.{◌≡◌, ◌⊎◌, ℕ, ◌<◌, true, Result, Ok, Err, List, ◌++◌, length, sym, ap, subst, inl, inr, arith}
use Rattle.std.specs.Prelude.{OnOk}
use Rattle.std.specs.List.{All}
use Rattle.std.proofs.lemmas.List.Elements.{All-append, All-weaker}
use Rattle.cps_literal.specs.declared.atom.Op.{Op}
use Rattle.cps_literal.specs.declared.atom.Op.TheVariants.{Eq, Ne}
use Rattle.cps_instance.proofs.Agreeing.{All-append_left, All-append_right}
use Rattle.cps_propagate.specs.Waiting.{is_waiting, StillWait}
use Rattle.cps_propagate.specs.Readers.{BySide, readers_at, woken_by}
use Rattle.cps_propagate.proofs.Visiting.{All-still}
use Rattle.cps_propagate.proofs.waking.wake_for.Goals as goal

both : (r : BySide) (op : Op) (i : ℕ) → (op ≡ Eq) ⊎ (op ≡ Ne) → woken_by r op i ≡ readers_at r.rises i ++ readers_at r.falls i
both r op i (inl e) = ap (λ (o : Op). woken_by r o i) e
both r op i (inr e) = ap (λ (o : Op). woken_by r o i) e

rising_part : (P : ℕ → Type 0) (r : BySide) (op : Op) (i : ℕ) (numbers : List ℕ) → (op ≡ Eq) ⊎ (op ≡ Ne) → numbers ≡ readers_at r.rises i → All P (woken_by r op i) → All P numbers
rising_part P r op i numbers is e h =
    subst (λ (l : List ℕ). All P l) (sym e) (All-append_left P (readers_at r.rises i) (readers_at r.falls i) (subst (λ (l : List ℕ). All P l) (both r op i is) h))

falling_part : (P : ℕ → Type 0) (r : BySide) (op : Op) (i : ℕ) (numbers : List ℕ) → (op ≡ Eq) ⊎ (op ≡ Ne) → numbers ≡ readers_at r.falls i → All P (woken_by r op i) → All P numbers
falling_part P r op i numbers is e h =
    subst (λ (l : List ℕ). All P l) (sym e) (All-append_right P (readers_at r.rises i) (readers_at r.falls i) (subst (λ (l : List ℕ). All P l) (both r op i is) h))

both_parts : (P : ℕ → Type 0) (r : BySide) (op : Op) (i : ℕ) (rising falling : List ℕ) → (op ≡ Eq) ⊎ (op ≡ Ne) → rising ≡ readers_at r.rises i → falling ≡ readers_at r.falls i → All P rising → All P falling → All P (woken_by r op i)
both_parts P r op i rising falling is e f h k =
    subst (λ (l : List ℕ). All P l) (sym (both r op i is))
    (All-append P (readers_at r.rises i) (readers_at r.falls i) (subst (λ (l : List ℕ). All P l) e h) (subst (λ (l : List ℕ). All P l) f k))

on_both_ok : {A E P Q R : Type 0} (r : Result A E) → (P → Q → R) → OnOk r P → OnOk r Q → OnOk r R
on_both_ok (Ok x) f p q = f p q
on_both_ok (Err e) f p q = tt

pub wake_each-requires-in-Eq : goal.wake_each-requires-in-Eq
wake_each-requires-in-Eq c = rising_part (λ k. k < length c.args.queue.now.waits) c.args.readers.now c.args.atom.op c.args.atom.subject c.rising-in-Eq.result.now c.in-Eq.is c.rising-in-Eq.ensures c.requires

pub wake_each-requires-in-Eq-2 : goal.wake_each-requires-in-Eq-2
wake_each-requires-in-Eq-2 c =
    let count = c.in_ok-wake_each-in-Eq.ensures.still.count in
    falling_part (λ k. k < length c.wake_each-in-Eq.new.queue.waits) c.args.readers.now c.args.atom.op c.args.atom.subject c.falling-in-Eq.result.now c.in-Eq.is c.falling-in-Eq.ensures
    (All-weaker (λ k. k < length c.args.queue.now.waits) (λ k. k < length c.wake_each-in-Eq.new.queue.waits) (λ k b. omega (arith, b, count)) (woken_by c.args.readers.now c.args.atom.op c.args.atom.subject) c.requires)

pub returns-in_ok-wake_each-in-Eq-clause-wait : goal.returns-in_ok-wake_each-in-Eq-clause-wait
returns-in_ok-wake_each-in-Eq-clause-wait c =
    on_both_ok {P = StillWait c.wake_each-in-Eq.new.queue.waits c.wake_each-in-Eq-2.new.queue.waits} {Q = All (λ k. is_waiting c.wake_each-in-Eq-2.new.queue.waits k ≡ true) c.falling-in-Eq.result.now} c.wake_each-in-Eq-2.result
    (λ still wait. both_parts (λ k. is_waiting c.wake_each-in-Eq-2.new.queue.waits k ≡ true) c.args.readers.now c.args.atom.op c.args.atom.subject c.rising-in-Eq.result.now c.falling-in-Eq.result.now
    c.in-Eq.is c.rising-in-Eq.ensures c.falling-in-Eq.ensures (All-still _ _ c.rising-in-Eq.result.now still c.in_ok-wake_each-in-Eq.ensures.wait) wait)
    c.wake_each-in-Eq-2.ensures.still c.wake_each-in-Eq-2.ensures.wait
