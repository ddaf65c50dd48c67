-- A task with a lower end: what it says, what it fits, and what a second lower end makes of it.
use Rattle.std.specs.Prelude.{◌≤ℤ◌, map, Option, Some, None}
use Rattle.std.specs.Int.{int_min}
use Rattle.std.proofs.Common.{◌≡◌, List, [], ◌∷◌, ◌++◌, refl, ap, arith, ℤ}
use Rattle.std.proofs.lemmas.Int.{ints}
use Rattle.std.proofs.lemmas.List.Elements.{All-nil, All-cons, All-head, All-tail}
use Rattle.cps_instance.specs.declared.task.Task.{Task}
use Rattle.cps_instance.specs.declared.task.Body.{Body}
use Rattle.cps_instance.specs.declared.task.Body.TheVariants.{Cut}
use Rattle.cps_instance.specs.Terms.{Domains, terms_value}
use Rattle.cps_instance.specs.Tasks.{HoldsBody, HoldsTask, HoldAll, IsSumUpTo, atom_subjects, subjects_of, subjects_of_body, lowered, lowered_body, lowered_end, IsBodyUpTo}
use Rattle.cps_instance.specs.Fitting.{IsFitting, IsFittingBody}

lesser : (a b v : ℤ) → v ≤ℤ int_min a b → (v ≤ℤ a) × (v ≤ℤ b)
lesser a b v h = (grind (arith, ints), grind (arith, ints))

least_of_both : (a b v : ℤ) → v ≤ℤ a → v ≤ℤ b → v ≤ℤ int_min a b
least_of_both a b v p q = grind (arith, ints)

end_said : (upper : ℤ) (old : Option ℤ) (v : ℤ) → v ≤ℤ lowered_end upper old → IsSumUpTo old v × (v ≤ℤ upper)
end_said upper None v h = (tt, h)
end_said upper (Some old) v h = lesser old upper v h

end_from : (upper : ℤ) (old : Option ℤ) (v : ℤ) → IsSumUpTo old v → v ≤ℤ upper → v ≤ℤ lowered_end upper old
end_from upper None v h k = k
end_from upper (Some old) v h k = least_of_both old upper v h k

body_said : (upper : ℤ) (b : Body) (xs : List ℤ) → HoldsBody (lowered_body upper b) xs → HoldsBody b xs × IsBodyUpTo upper b xs
body_said upper (Cut terms old) xs h = end_said upper old (terms_value xs terms) h
body_said upper body xs h = (h, tt)

body_from : (upper : ℤ) (b : Body) (xs : List ℤ) → HoldsBody b xs → IsBodyUpTo upper b xs → HoldsBody (lowered_body upper b) xs
body_from upper (Cut terms old) xs h k = end_from upper old (terms_value xs terms) h k
body_from upper body xs h k = h

-- a task with a lower end says what it said, and that a cut's sum is at most the end
pub lowered_said : (upper : ℤ) (t : Task) (xs : List ℤ) → HoldsTask (lowered upper t) xs → HoldsTask t xs
lowered_said upper t xs h = λ e. (body_said upper t.body xs (h e)).0

pub lowered_from : (upper : ℤ) (t : Task) (xs : List ℤ) → HoldsTask t xs → IsBodyUpTo upper t.body xs → HoldsTask (lowered upper t) xs
lowered_from upper t xs h k = λ e. body_from upper t.body xs (h e) k

pub all_lowered_said : (upper : ℤ) (ts : List Task) (xs : List ℤ) → HoldAll (map (lowered upper) ts) xs → HoldAll ts xs
all_lowered_said upper [] xs h = All-nil (λ t. HoldsTask t xs)
all_lowered_said upper (t ∷ ts) xs h =
    All-cons (λ u. HoldsTask u xs) t ts
    (lowered_said upper t xs (All-head (λ u. HoldsTask u xs) (lowered upper t) (map (lowered upper) ts) h))
    (all_lowered_said upper ts xs (All-tail (λ u. HoldsTask u xs) (lowered upper t) (map (lowered upper) ts) h))

body_subjects-lowered : (upper : ℤ) (b : Body) → subjects_of_body (lowered_body upper b) ≡ subjects_of_body b
body_subjects-lowered upper (Cut terms old) = refl
body_subjects-lowered upper body = refl

-- it reads the same subjects, and fits the same domains
pub subjects_of-lowered : (upper : ℤ) (t : Task) → subjects_of (lowered upper t) ≡ subjects_of t
subjects_of-lowered upper t = ap (λ ss. atom_subjects t.enforcement ++ ss) (body_subjects-lowered upper t.body)

body_fits-lowered : (ds : Domains) (upper : ℤ) (b : Body) → IsFittingBody ds b → IsFittingBody ds (lowered_body upper b)
body_fits-lowered ds upper (Cut terms old) h = record { small = h.small }
body_fits-lowered ds upper body h = h

pub IsFitting-lowered : (ds : Domains) (upper : ℤ) (t : Task) → IsFitting ds t → IsFitting ds (lowered upper t)
IsFitting-lowered ds upper t h = record {
  subjects = rw (subjects_of-lowered upper t) h.subjects;
  sound = rw (subjects_of-lowered upper t) h.sound;
  enforcement = h.enforcement;
  body = body_fits-lowered ds upper t.body h.body;
}

ends_assoc : (a b c : ℤ) → int_min (int_min a b) c ≡ int_min a (int_min b c)
ends_assoc a b c = grind (arith, ints)

end_twice : (u v : ℤ) (old : Option ℤ) → lowered_end v (Some (lowered_end u old)) ≡ lowered_end (int_min u v) old
end_twice u v None = refl
end_twice u v (Some old) = ends_assoc old u v

body_twice : (u v : ℤ) (b : Body) → lowered_body v (lowered_body u b) ≡ lowered_body (int_min u v) b
body_twice u v (Cut terms old) = ap (λ (e : ℤ). Cut terms (Some e)) (end_twice u v old)
body_twice u v body = refl

-- two ends are as one, the lesser
pub lowered-lowered : (u v : ℤ) (t : Task) → lowered v (lowered u t) ≡ lowered (int_min u v) t
lowered-lowered u v t = ap (λ b. let w : Task = record { enforcement = t.enforcement; body = b } in w) (body_twice u v t.body)
