-- Marks that only grow keep what the marked entries make false, and what is closed under reasons.
use Rattle.std.specs.Prelude.{if◌then◌else◌}
use Rattle.std.specs.List.{list_all}
use Rattle.std.proofs.Common.{◌≡◌, inl, inr, ℕ, zero, suc, ◌<◌, ◌≤◌, List, [], ◌∷◌, ◌++◌, true, false, true≢false, Bool, ◌&&◌, length, take, get_or, refl, sym, ◌∙◌, ap, subst, arith, eqb, ℤ, get_or-take, length-take-le}
use Rattle.cps_domain.specs.Window.{is_among}
use Rattle.cps_literal.specs.declared.atom.Atom.{Atom}
use Rattle.cps_literal.specs.Truth.{meets}
use Rattle.cps_trail.specs.Trail.{Domains, Entry, Explains, admits, leaves, first_of, IsFalseAfter}
use Rattle.cps_conflict.specs.Leading.{IsLed, chosen, AreMore}

and_left : (a b : Bool) → (a && b) ≡ true → a ≡ true
and_left a b h = grind arith

and_right : (a b : Bool) → (a && b) ≡ true → b ≡ true
and_right a b h = grind arith

and_both : (a b : Bool) → a ≡ true → b ≡ true → (a && b) ≡ true
and_both a b h k = grind arith

leaves_other : (e : Entry) (i : ℕ) (x : ℤ) → (e.atom.subject ≡ i → ⊥) → leaves i x e ≡ true
leaves_other e i x ne = let h : eqb e.atom.subject i ≡ false = grind arith in rw h refl

tail_of : (b : Bool) (p : Entry → Bool) (e : Entry) (es : List Entry) → list_all p (if b then e ∷ es else es) ≡ true → list_all p es ≡ true
tail_of true p e es h = and_right (p e) (list_all p es) h
tail_of false p e es h = h

all-more : (p : Entry → Bool) (ms ns : List Bool) (es : List Entry) → AreMore ms ns → list_all p (chosen ns es) ≡ true → list_all p (chosen ms es) ≡ true
all-more p [] ns es m h = refl
all-more p (a ∷ ms) [] es m h = absurd m
all-more p (a ∷ ms) (b ∷ ns) [] m h = refl
all-more p (a ∷ ms) (b ∷ ns) (e ∷ es) m h = elim a as (λ x. (x ≡ true → b ≡ true) → list_all p (if x then e ∷ chosen ms es else chosen ms es) ≡ true) [
  | true ↦ λ f. (let g : (p e && list_all p (chosen ns es)) ≡ true = rw (f refl) at h in let rest = all-more p ms ns es m.1 (and_right (p e) (list_all p (chosen ns es)) g) in and_both (p e) (list_all p (chosen ms es)) (and_left (p e) (list_all p (chosen ns es)) g) rest)
  | false ↦ λ f. all-more p ms ns es m.1 (tail_of b p e (chosen ns es) h)
] m.0

admits-more : (first : Domains) (ms ns : List Bool) (es : List Entry) (i : ℕ) (x : ℤ) → AreMore ms ns → admits first (chosen ns es) i x ≡ true → admits first (chosen ms es) i x ≡ true
unfolding admits
admits-more first ms ns es i x m h =
    and_both (is_among (first_of first i) x) (list_all (leaves i x) (chosen ms es)) (and_left (is_among (first_of first i) x) (list_all (leaves i x) (chosen ns es)) h)
    (all-more (leaves i x) ms ns es m (and_right (is_among (first_of first i) x) (list_all (leaves i x) (chosen ns es)) h))

pub false-more : (first : Domains) (ms ns : List Bool) (es : List Entry) (u : Atom) → AreMore ms ns → IsFalseAfter first (chosen ms es) u → IsFalseAfter first (chosen ns es) u
false-more first ms ns es u m f = λ x a. f x (admits-more first ms ns es u.subject x m a)

Explains-more : (first : Domains) (ms ns : List Bool) (es : List Entry) (clause : List Atom) (t : Atom) → AreMore ms ns → Explains first (chosen ms es) clause t → Explains first (chosen ns es) clause t
Explains-more first ms ns es clause t m h = record { has = h.has; others = λ u c ne. false-more first ms ns es u m (h.others u c ne); subjects = h.subjects }

pub IsLed-more : (given : List Atom → Type 0) (first : Domains) (ms ns : List Bool) (es : List Entry) (e : Entry) → AreMore ms ns → IsLed given first (chosen ms es) e → IsLed given first (chosen ns es) e
IsLed-more given first ms ns es e m h = elim h as (λ u. IsLed given first (chosen ns es) e) [
  | inl d ↦ inl d
  | inr c ↦ inr (c.0, Explains-more first ms ns es c.0 e.atom m c.1, c.2)
]

-- marks that grow place by place
pub more-at : (ms ns : List Bool) → length ms ≤ length ns → ((k : ℕ) → get_or ms k false ≡ true → get_or ns k false ≡ true) → AreMore ms ns
more-at [] ns l h = tt
more-at (m ∷ ms) [] l h = absurd (omega (arith, l))
more-at (m ∷ ms) (n ∷ ns) l h = (h zero, more-at ms ns (omega (arith, l)) (λ k. h (suc k)))

pub more-take : (ms ns : List Bool) (j k : ℕ) → j ≤ k → AreMore ms ns → AreMore (take j ms) (take k ns)
more-take [] ns zero k l h = tt
more-take [] ns (suc j) k l h = tt
more-take (m ∷ ms) ns zero k l h = tt
more-take (m ∷ ms) [] (suc j) k l h = absurd h
more-take (m ∷ ms) (n ∷ ns) (suc j) zero l h = absurd (omega (arith, l))
more-take (m ∷ ms) (n ∷ ns) (suc j) (suc k) l h = (h.0, more-take ms ns j k (omega (arith, l)) h.1)

pub more-all : (ms ns : List Bool) (j : ℕ) → AreMore ms ns → AreMore (take j ms) ns
more-all [] ns zero h = tt
more-all [] ns (suc j) h = tt
more-all (m ∷ ms) ns zero h = tt
more-all (m ∷ ms) [] (suc j) h = absurd h
more-all (m ∷ ms) (n ∷ ns) (suc j) h = (h.0, more-all ms ns j h.1)

-- the first marks choose among the first entries alone
chosen-take : (n : ℕ) (ms : List Bool) (es : List Entry) → chosen (take n ms) (take n es) ≡ chosen (take n ms) es
chosen-take zero ms es = refl
chosen-take (suc n) [] es = refl
chosen-take (suc n) (m ∷ ms) [] = refl
chosen-take (suc n) (m ∷ ms) (e ∷ es) = ap (λ (fs : List Entry). if m then e ∷ fs else fs) (chosen-take n ms es)

-- one mark more chooses one entry more, if it is set
pub chosen-push : (k : ℕ) (ms : List Bool) (es : List Entry) (d : Entry) → k < length ms → k < length es → chosen (take (suc k) ms) es ≡ chosen (take k ms) es ++ (if get_or ms k false then get_or es k d ∷ [] else [])
chosen-push k [] es d l l' = absurd (omega (arith, l))
chosen-push k (m ∷ ms) [] d l l' = absurd (omega (arith, l'))
chosen-push zero (m ∷ ms) (e ∷ es) d l l' = refl
chosen-push (suc k) (m ∷ ms) (e ∷ es) d l l' =
    let rest = chosen-push k ms es d (omega (arith, l)) (omega (arith, l')) in
    elim m as (λ b. (if b then e ∷ chosen (take (suc k) ms) es else chosen (take (suc k) ms) es) ≡ (if b then e ∷ chosen (take k ms) es else chosen (take k ms) es) ++ (if get_or ms k false then get_or es k d ∷ [] else [])) [
      | true ↦ ap (λ (fs : List Entry). e ∷ fs) rest
      | false ↦ rest
    ]

-- where each entry about a subject is marked, the marked ones leave it what all of them do
all-about : (i : ℕ) (x : ℤ) (ms : List Bool) (es : List Entry) → ((k : ℕ) (d : Entry) → k < length es → (get_or es k d).atom.subject ≡ i → get_or ms k false ≡ true) → list_all (leaves i x) (chosen ms es) ≡ true → list_all (leaves i x) es ≡ true
all-about i x ms [] h c = refl
all-about i x [] (e ∷ es) h c = and_both (leaves i x e) (list_all (leaves i x) es) (leaves_other e i x (λ same. true≢false (sym (h zero e (omega arith) same)))) (all-about i x [] es (λ k d l same. h (suc k) d (omega arith) same) refl)
all-about i x (m ∷ ms) (e ∷ es) h c = elim m as (λ b. (e.atom.subject ≡ i → b ≡ true) → list_all (leaves i x) (if b then e ∷ chosen ms es else chosen ms es) ≡ true → list_all (leaves i x) (e ∷ es) ≡ true) [
  | true ↦ λ f g. and_both (leaves i x e) (list_all (leaves i x) es) (and_left (leaves i x e) (list_all (leaves i x) (chosen ms es)) g) (all-about i x ms es (λ k d l same. h (suc k) d (omega arith) same) (and_right (leaves i x e) (list_all (leaves i x) (chosen ms es)) g))
  | false ↦ λ f g. and_both (leaves i x e) (list_all (leaves i x) es) (leaves_other e i x (λ same. true≢false (sym (f same)))) (all-about i x ms es (λ k d l same. h (suc k) d (omega arith) same) g)
] (λ same. h zero e (omega arith) same) c

about : (first : Domains) (ms : List Bool) (es : List Entry) (u : Atom) → ((k : ℕ) (d : Entry) → k < length es → (get_or es k d).atom.subject ≡ u.subject → get_or ms k false ≡ true) → IsFalseAfter first es u → IsFalseAfter first (chosen ms es) u
unfolding admits
about first ms es u h f = λ x a. f x (and_both (is_among (first_of first u.subject) x) (list_all (leaves u.subject x) es) (and_left (is_among (first_of first u.subject) x) (list_all (leaves u.subject x) (chosen ms es)) a)
    (all-about u.subject x ms es h (and_right (is_among (first_of first u.subject) x) (list_all (leaves u.subject x) (chosen ms es)) a)))

-- where each of the first n entries about an atom's subject is marked, the marked ones among these make it false
pub false-about : (first : Domains) (ms : List Bool) (es : List Entry) (n : ℕ) (u : Atom) → n ≤ length es → ((k : ℕ) (d : Entry) → k < n → (get_or es k d).atom.subject ≡ u.subject → get_or ms k false ≡ true) → IsFalseAfter first (take n es) u
    → IsFalseAfter first (chosen (take n ms) es) u
false-about first ms es n u within h f =
    subst (λ (fs : List Entry). IsFalseAfter first fs u) (chosen-take n ms es)
    (about first (take n ms) (take n es) u (λ k d l same.
    let size = length-take-le n es within in
    let inside : k < n = omega (arith, l, size) in
    get_or-take n ms k false inside ∙ h k d inside (ap (λ (e : Entry). e.atom.subject) (sym (get_or-take n es k d inside)) ∙ same)) f)

-- an entry that is marked leaves what the marked ones leave
at_marked : (p : Entry → Bool) (ms : List Bool) (es : List Entry) (k : ℕ) (d : Entry) → k < length es → get_or ms k false ≡ true → list_all p (chosen ms es) ≡ true → p (get_or es k d) ≡ true
at_marked p ms [] k d l on h = absurd (let f : k < 0 = l in omega arith)
at_marked p [] (e ∷ es) k d l on h = absurd (true≢false (sym on))
at_marked p (m ∷ ms) (e ∷ es) zero d l on h = let g : list_all p (if m then e ∷ chosen ms es else chosen ms es) ≡ true = h in and_left (p e) (list_all p (chosen ms es)) (rw on at g)
at_marked p (m ∷ ms) (e ∷ es) (suc k) d l on h = at_marked p ms es k d (omega arith) on (tail_of m p e (chosen ms es) h)

leaves_here : (e : Entry) (i : ℕ) (x : ℤ) → e.atom.subject ≡ i → leaves i x e ≡ true → meets e.atom.op e.atom.value x ≡ true
leaves_here e i x same h = let g : eqb e.atom.subject i ≡ true = grind arith in rw g at h

-- where one marked entry alone refutes an atom, the marked ones do
pub false-single : (first : Domains) (ms : List Bool) (es : List Entry) (k : ℕ) (d : Entry) (u : Atom) → k < length es → get_or ms k false ≡ true → (get_or es k d).atom.subject ≡ u.subject
    → ((x : ℤ) → meets (get_or es k d).atom.op (get_or es k d).atom.value x ≡ true → meets u.op u.value x ≡ false) → IsFalseAfter first (chosen ms es) u
unfolding admits
false-single first ms es k d u l on same refutes = λ x a. refutes x (leaves_here (get_or es k d) u.subject x same
    (at_marked (leaves u.subject x) ms es k d l on (and_right (is_among (first_of first u.subject) x) (list_all (leaves u.subject x) (chosen ms es)) a)))
