-- Tasks over four bits fit a store of four bits.
use Rattle.std.proofs.Common.{◌≡◌, ℕ, zero, suc, ◌<◌, ℤ, pos, ◌≤ℤ◌, true, List, ◌++◌, refl, sym, subst, arith, rules}
use Rattle.std.specs.List.{All}
use Rattle.std.proofs.lemmas.Int.{ints}
use Rattle.std.proofs.lemmas.List.Elements.{All-append, All-map}
use Rattle.cps_domain.specs.Window.{is_among}
use Rattle.cps_literal.specs.declared.atom.Atom.{Atom}
use Rattle.cps_instance.specs.declared.task.Body.{Body}
use Rattle.cps_instance.specs.declared.task.Body.TheVariants.{BoolOr, BoolAnd, AtMostOne, ExactlyOne, BoolXor}
use Rattle.cps_instance.specs.declared.task.Task.{Task}
use Rattle.cps_instance.specs.Tasks.{atom_subjects, subjects_of_body}
use Rattle.cps_instance.specs.Terms.{Domains, AreIntervals, domain_at}
use Rattle.cps_instance.specs.Fitting.{IsLiteral, IsFitting}
use Rattle.cps_propagation_tests.specs.Bits.{bit, four_bits, IsBit, IsOverBits}

at_bit : (s : ℕ) → s < 4 → bit ≡ domain_at four_bits s
at_bit zero l = refl
at_bit (suc zero) l = refl
at_bit (suc (suc zero)) l = refl
at_bit (suc (suc (suc zero))) l = refl
at_bit (suc (suc (suc (suc n)))) l = absurd (omega (arith, l))

bit_least : (x : ℤ) → is_among bit x ≡ true → pos 0 ≤ℤ x
bit_least x h = grind (arith, ints)

bit_greatest : (x : ℤ) → is_among bit x ≡ true → x ≤ℤ pos 1
bit_greatest x h = grind (arith, ints)

literal : (u : Atom) → IsBit 0 4 u → IsLiteral four_bits u
literal u h = record {
  low = h.low;
  high = h.high;
  least = λ x a. bit_least x (subst (λ (d : List (ℤ × ℤ)). is_among d x ≡ true) (sym (at_bit u.subject h.to)) a);
  greatest = λ x a. bit_greatest x (subst (λ (d : List (ℤ × ℤ)). is_among d x ≡ true) (sym (at_bit u.subject h.to)) a);
}

bit_sound : AreIntervals bit
bit_sound = record { some = omega arith; rising = search rules }

subjects_below : (us : List Atom) → All (IsBit 0 4) us → All (λ i. i < 4) (atom_subjects us)
subjects_below us h = All-map (λ i. i < 4) (λ u. u.subject) us (λ j d l. (h j d l).to)

-- a body of a Boolean kind over bits
pub or_over_bits : (us : List Atom) → All (IsBit 0 4) us → IsOverBits (BoolOr us)
or_over_bits us h = record { cheap = refl; subjects = subjects_below us h; fits = λ j d l. literal _ (h j d l) }

pub and_over_bits : (us : List Atom) → All (IsBit 0 4) us → IsOverBits (BoolAnd us)
and_over_bits us h = record { cheap = refl; subjects = subjects_below us h; fits = λ j d l. literal _ (h j d l) }

pub at_most_one_over_bits : (us : List Atom) → All (IsBit 0 4) us → IsOverBits (AtMostOne us)
at_most_one_over_bits us h = record { cheap = refl; subjects = subjects_below us h; fits = λ j d l. literal _ (h j d l) }

pub exactly_one_over_bits : (us : List Atom) → All (IsBit 0 4) us → IsOverBits (ExactlyOne us)
exactly_one_over_bits us h = record { cheap = refl; subjects = subjects_below us h; fits = λ j d l. literal _ (h j d l) }

pub xor_over_bits : (us : List Atom) → All (IsBit 0 4) us → IsOverBits (BoolXor us)
xor_over_bits us h = record { cheap = refl; subjects = subjects_below us h; fits = λ j d l. literal _ (h j d l) }

-- a task over bits fits a store of bits
pub bits_fit : (first : Domains) (task : Task) → first ≡ four_bits → All (IsBit 0 4) task.enforcement → IsOverBits task.body → IsFitting first task
bits_fit first task is he hb = subst (λ (f : Domains). IsFitting f task) (sym is) (record {
  subjects = every (λ s. s < 4) (λ s h. h);
  sound = every (λ s. AreIntervals (domain_at four_bits s)) (λ s h. subst (λ (d : List (ℤ × ℤ)). AreIntervals d) (at_bit s h) bit_sound);
  enforcement = λ j d l. literal _ (he j d l);
  body = hb.fits;
})
  where
    every : (P : ℕ → Type 0) → ((s : ℕ) → s < 4 → P s) → All P (atom_subjects task.enforcement ++ subjects_of_body task.body)
    every P h = All-append P (atom_subjects task.enforcement) (subjects_of_body task.body) (All-map P (λ u. u.subject) task.enforcement (λ j d l. h _ (he j d l).to)) (λ j d l. h _ (hb.subjects j d l))
