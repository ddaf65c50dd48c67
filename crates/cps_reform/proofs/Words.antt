-- What is read back from a word of 64 bits, and what is made of it.
use Rattle.std.specs.Prelude.{int_lt, unsigned_abs, Result, Ok}
use Rattle.std.specs.Int.{int_min}
use Rattle.std.proofs.Common.{◌≡◌, ◌∙◌, ℕ, zero, suc, ◌+◌, ◌*◌, ◌<◌, ◌≤◌, ◌^◌, ℤ, pos, negsuc, ◌+ℤ◌, ◌-ℤ◌, ◌*ℤ◌, ◌≤ℤ◌, ◌<ℤ◌, Bool, List, true, false, length, length-set, set, refl, sym, ap, subst, arith, to_z, of_z, w64, FitsSigned}
use Rattle.std.proofs.Math.Nat.{mul-le-mul_left}
use Rattle.std.proofs.lemmas.Int.{fits_signed_from_abs, ints, to_z-of_z, unsigned_abs-mul}
use Rattle.cps_model.specs.declared.bound.Bound.{Bound}
use Rattle.cps_model.specs.declared.bound.Bound.TheVariants.{At}
use Rattle.cps_model.proofs.Sums.{unsigned_abs-add}
use Rattle.cps_port.specs.Order.{IsBelow, IsSmallBound}
use Rattle.cps_instance.specs.Terms.{Intervals, least_of, magnitude}
use Rattle.cps_instance.proofs.Boundings.{fits_small}
use Rattle.cps_reform.specs.declared.held.Held.{Held}
use Rattle.cps_reform.specs.Forms.{Form, term_at}
use Rattle.cps_reform.proofs.Rooms.{weight-small}

-- a number that is small is the one that is read
pub read_small : (x : ℤ) → unsigned_abs x < 2 ^ 62 → to_z w64 (of_z w64 x) ≡ x
read_small x small = to_z-of_z w64 x (fits_small x small)

-- an amount is read as a whole number
pub read_amount : (n : ℕ) → n < 2 ^ 63 → to_z w64 n ≡ pos n
read_amount n small = omega (arith, ints)

-- a base and a part of it
pub fits-sum : (b p n : ℤ) → FitsSigned w64 b → FitsSigned w64 p → b ≡ n → unsigned_abs (n +ℤ p) < 2 ^ 62 → FitsSigned w64 (to_z w64 (of_z w64 b) +ℤ to_z w64 (of_z w64 p))
fits-sum b p n fb fp same small =
    subst (λ (x : ℤ). FitsSigned w64 (x +ℤ to_z w64 (of_z w64 p))) (sym (to_z-of_z w64 b fb ∙ same))
    (subst (λ (x : ℤ). FitsSigned w64 (n +ℤ x)) (sym (to_z-of_z w64 p fp)) (fits_small (n +ℤ p) small))

pub read-sum : (b p n : ℤ) → FitsSigned w64 b → FitsSigned w64 p → b ≡ n → unsigned_abs (n +ℤ p) < 2 ^ 62 → to_z w64 (of_z w64 (to_z w64 (of_z w64 b) +ℤ to_z w64 (of_z w64 p))) ≡ n +ℤ p
read-sum b p n fb fp same small =
    to_z-of_z w64 (to_z w64 (of_z w64 b) +ℤ to_z w64 (of_z w64 p)) (fits-sum b p n fb fp same small)
    ∙ ap (λ (x : ℤ). x +ℤ to_z w64 (of_z w64 p)) (to_z-of_z w64 b fb ∙ same) ∙ ap (λ (x : ℤ). n +ℤ x) (to_z-of_z w64 p fp)

-- a base and an amount by which it rises
pub fits-rise : (b n : ℤ) (a : ℕ) → FitsSigned w64 b → b ≡ n → a < 2 ^ 63 → unsigned_abs (n +ℤ pos a) < 2 ^ 63 → FitsSigned w64 (to_z w64 (of_z w64 b) +ℤ to_z w64 a)
fits-rise b n a fb same small within =
    subst (λ (x : ℤ). FitsSigned w64 (x +ℤ to_z w64 a)) (sym (to_z-of_z w64 b fb ∙ same))
    (subst (λ (x : ℤ). FitsSigned w64 (n +ℤ x)) (sym (read_amount a small)) (fits_signed_from_abs w64 (n +ℤ pos a) within))

pub read-rise : (b n : ℤ) (a : ℕ) → FitsSigned w64 b → b ≡ n → a < 2 ^ 63 → unsigned_abs (n +ℤ pos a) < 2 ^ 63 → to_z w64 (of_z w64 (to_z w64 (of_z w64 b) +ℤ to_z w64 a)) ≡ n +ℤ pos a
read-rise b n a fb same small within =
    to_z-of_z w64 (to_z w64 (of_z w64 b) +ℤ to_z w64 a) (fits-rise b n a fb same small within)
    ∙ ap (λ (x : ℤ). x +ℤ to_z w64 a) (to_z-of_z w64 b fb ∙ same) ∙ ap (λ (x : ℤ). n +ℤ x) (read_amount a small)

-- a rise from one bound to another
gap_size : (f t : ℤ) → unsigned_abs (t -ℤ f) ≤ unsigned_abs f + unsigned_abs t
gap_size f t = omega (arith, ints)

pub read-gap : (f t : ℤ) → unsigned_abs f < 2 ^ 62 → unsigned_abs t < 2 ^ 62 → to_z w64 (of_z w64 (to_z w64 (of_z w64 t) -ℤ to_z w64 (of_z w64 f))) ≡ t -ℤ f
read-gap f t low high =
    ap (λ (x : ℤ). to_z w64 (of_z w64 (x -ℤ to_z w64 (of_z w64 f)))) (read_small t high) ∙ ap (λ (x : ℤ). to_z w64 (of_z w64 (t -ℤ x))) (read_small f low)
    ∙ to_z-of_z w64 (t -ℤ f) (fits_signed_from_abs w64 (t -ℤ f) (let size = gap_size f t in omega (arith, size, low, high)))

pub gap-small : (w : ℕ) (f t : ℤ) → w * (unsigned_abs f + unsigned_abs t) < 2 ^ 63 → w * unsigned_abs (t -ℤ f) < 2 ^ 63
gap-small w f t small = (let most = mul-le-mul_left w (gap_size f t) in omega (arith, small, most))

up_size : (x : ℤ) → pos 0 ≤ℤ x → pos (unsigned_abs x) ≡ x
up_size (pos n) h = refl
up_size (negsuc n) h = absurd (omega (arith, ints, h))

pub gap-is : (w : ℕ) (f t : ℤ) → f ≤ℤ t → pos (w * unsigned_abs (t -ℤ f)) ≡ pos w *ℤ (t -ℤ f)
gap-is w f t rises = times w (unsigned_abs (t -ℤ f)) ∙ ap (λ (x : ℤ). pos w *ℤ x) (up_size (t -ℤ f) (omega (arith, ints, rises)))
  where
    times : (w n : ℕ) → pos (w * n) ≡ pos w *ℤ pos n
    times w n = refl

-- a form by its parts
pub form_by : (x y : ℤ) (ts us : List Held) → x ≡ y → ts ≡ us → ◌≡◌ {A = Form} (record { base = x; terms = ts }) (record { base = y; terms = us })
form_by x y ts us base terms = ap (λ (v : ℤ). record { base = v; terms = ts }) base ∙ ap (λ (vs : List Held). record { base = y; terms = vs }) terms

-- a term that was read, put back with another bound
pub set-bound : (ts us ws : List Held) (i : ℕ) (t : Held) (b v : ℤ) → ws ≡ set us i (record { weight = t.weight; subject = t.subject; bound = v; in_core = false }) → us ≡ ts → t ≡ term_at ts i → v ≡ b
    → ws ≡ set ts i (record (term_at ts i) { bound = b; in_core = false })
set-bound ts us ws i t b v is same read bound =
    is ∙ ap (λ (vs : List Held). set vs i (record { weight = t.weight; subject = t.subject; bound = v; in_core = false })) same
    ∙ ap (λ (u : Held). set ts i (record u { bound = v; in_core = false })) read
    ∙ ap (λ (x : ℤ). set ts i (record (term_at ts i) { bound = x; in_core = false })) bound

pub same-size : (us ws : List Held) (i : ℕ) (t : Held) → ws ≡ set us i t → length ws ≡ length us
same-size us ws i t is = ap (λ (ts : List Held). length ts) is ∙ length-set us i t

-- a test of two numbers that were read
pub not_less : (x y : ℤ) → int_lt x y ≡ false → y ≤ℤ x
not_less x y h = grind (arith, ints)

pub is_less : (x y : ℤ) → int_lt x y ≡ true → x <ℤ y
is_less x y h = grind (arith, ints)

pub high-read : (g b : ℤ) → FitsSigned w64 g → FitsSigned w64 b → int_lt (to_z w64 (of_z w64 g)) (to_z w64 (of_z w64 b)) ≡ false → b ≤ℤ g
high-read g b fg fb h =
    not_less g b (ap (λ (x : ℤ). int_lt x b) (sym (to_z-of_z w64 g fg)) ∙ ap (λ (y : ℤ). int_lt (to_z w64 (of_z w64 g)) y) (sym (to_z-of_z w64 b fb)) ∙ h)

-- how much room a base has below a limit
room_read : (base limit b : ℤ) (room : ℕ) → b ≡ base → unsigned_abs base < 2 ^ 62 → FitsSigned w64 limit → to_z w64 (of_z w64 b) +ℤ pos room ≡ to_z w64 (of_z w64 limit) → base +ℤ pos room ≡ limit
room_read base limit b room same small fl is =
    ap (λ (x : ℤ). x +ℤ pos room) (sym (ap (λ (x : ℤ). to_z w64 (of_z w64 x)) same ∙ read_small base small)) ∙ is ∙ to_z-of_z w64 limit fl

pub within-read : (base limit b : ℤ) (room amount : ℕ) → b ≡ base → unsigned_abs base < 2 ^ 62 → FitsSigned w64 limit → to_z w64 (of_z w64 b) +ℤ pos room ≡ to_z w64 (of_z w64 limit) → amount ≤ room → (base +ℤ pos amount) ≤ℤ limit
within-read base limit b room amount same small fl is less = (let here = room_read base limit b room same small fl is in omega (arith, ints, here, less))

pub over-read : (base limit b : ℤ) (room amount : ℕ) → b ≡ base → unsigned_abs base < 2 ^ 62 → FitsSigned w64 limit → to_z w64 (of_z w64 b) +ℤ pos room ≡ to_z w64 (of_z w64 limit) → room < amount → limit <ℤ (base +ℤ pos amount)
over-read base limit b room amount same small fl is more = (let here = room_read base limit b room same small fl is in omega (arith, ints, here, more))

-- what a rise of a term that was read is worth
pub amount-is : (ts : List Held) (i : ℕ) (t : Held) (bound : ℤ) (amount : ℕ) → FitsSigned w64 bound → FitsSigned w64 t.bound → t ≡ term_at ts i → pos amount ≡ pos t.weight *ℤ (to_z w64 (of_z w64 bound) -ℤ to_z w64 (of_z w64 t.bound))
    → pos amount ≡ pos (term_at ts i).weight *ℤ (bound -ℤ (term_at ts i).bound)
amount-is ts i t bound amount fb ft same is =
    is ∙ ap (λ (x : ℤ). pos t.weight *ℤ (x -ℤ to_z w64 (of_z w64 t.bound))) (to_z-of_z w64 bound fb) ∙ ap (λ (x : ℤ). pos t.weight *ℤ (bound -ℤ x)) (to_z-of_z w64 t.bound ft) ∙ ap (λ (u : Held). pos u.weight *ℤ (bound -ℤ u.bound)) same

-- a weight times a number that is not 0
pub some_size : (b : ℤ) → (of_z w64 b ≡ 0 → ⊥) → 1 ≤ unsigned_abs b
some_size (pos zero) h = absurd (h refl)
some_size (pos (suc n)) h = omega arith
some_size (negsuc n) h = omega arith

pub fits-product : (w : ℕ) (b : ℤ) → FitsSigned w64 b → 1 ≤ unsigned_abs b → w * unsigned_abs b < 2 ^ 62 → FitsSigned w64 (to_z w64 w *ℤ to_z w64 (of_z w64 b))
fits-product w b fb some need =
    subst (λ (x : ℤ). FitsSigned w64 (x *ℤ to_z w64 (of_z w64 b))) (sym (read_amount w (let small = weight-small w (unsigned_abs b) some need in omega (arith, small))))
    (subst (λ (x : ℤ). FitsSigned w64 (pos w *ℤ x)) (sym (to_z-of_z w64 b fb)) (fits_small (pos w *ℤ b) (let size = unsigned_abs-mul (pos w) b in omega (arith, size, need))))

-- a weight times the least value of a domain, and a base with it
pub part-small : (w reach : ℕ) (d : Intervals) (b : ℤ) → b ≡ least_of d → reach + w * magnitude d < 2 ^ 62 → w * unsigned_abs b < 2 ^ 62
part-small w reach d b is small =
    let most : unsigned_abs (least_of d) ≤ magnitude d = omega arith in
    let part = mul-le-mul_left w most in
    subst (λ (x : ℤ). w * unsigned_abs x < 2 ^ 62) (sym is) (omega (arith, small, part))

pub held-small : (base p : ℤ) (w reach : ℕ) (d : Intervals) (b : ℤ) → b ≡ least_of d → unsigned_abs base ≤ reach → unsigned_abs p ≡ w * unsigned_abs b → reach + w * magnitude d < 2 ^ 62 → unsigned_abs (base +ℤ p) < 2 ^ 62
held-small base p w reach d b is near size small =
    let most : unsigned_abs (least_of d) ≤ magnitude d = omega arith in
    let part = mul-le-mul_left w most in
    let here : unsigned_abs p ≡ w * unsigned_abs (least_of d) = size ∙ ap (λ (x : ℤ). w * unsigned_abs x) is in
    let both = unsigned_abs-add base p in
    omega (arith, small, part, here, near, both)

-- the number after one that is small
pub read-next : (x : ℤ) → unsigned_abs x < 2 ^ 62 → to_z w64 (of_z w64 (to_z w64 (of_z w64 x) +ℤ pos 1)) ≡ x +ℤ pos 1
read-next x small = ap (λ (y : ℤ). to_z w64 (of_z w64 (y +ℤ pos 1))) (read_small x small) ∙ to_z-of_z w64 (x +ℤ pos 1) (fits_signed_from_abs w64 (x +ℤ pos 1) (omega (arith, ints, small)))

-- the lesser of a number and the one before another
lesser_all : (g x v : ℤ) → v <ℤ x → v ≤ℤ g → v ≤ℤ int_min g (x -ℤ pos 1)
lesser_all g x v l m = grind (arith, ints)

lesser_below : (g x : ℤ) → int_min g (x -ℤ pos 1) <ℤ x
lesser_below g x = grind (arith, ints)

read_lesser : (g x r : ℤ) → FitsSigned w64 g → FitsSigned w64 r → unsigned_abs x < 2 ^ 62 → r ≡ int_min (to_z w64 (of_z w64 g)) (to_z w64 (of_z w64 (to_z w64 (of_z w64 x) -ℤ pos 1))) → to_z w64 (of_z w64 r) ≡ int_min g (x -ℤ pos 1)
read_lesser g x r fg fr small is =
    to_z-of_z w64 r fr ∙ is ∙ ap (λ (y : ℤ). int_min y (to_z w64 (of_z w64 (to_z w64 (of_z w64 x) -ℤ pos 1)))) (to_z-of_z w64 g fg) ∙ ap (λ (y : ℤ). int_min g (to_z w64 (of_z w64 (y -ℤ pos 1)))) (read_small x small)
    ∙ ap (λ (y : ℤ). int_min g y) (to_z-of_z w64 (x -ℤ pos 1) (fits_signed_from_abs w64 (x -ℤ pos 1) (omega (arith, ints, small))))

pub limit-all : (z : Bound) (g x r : ℤ) → z ≡ At x → IsSmallBound z → FitsSigned w64 g → FitsSigned w64 r → r ≡ int_min (to_z w64 (of_z w64 g)) (to_z w64 (of_z w64 (to_z w64 (of_z w64 x) -ℤ pos 1))) → (v : ℤ) → IsBelow v z → v ≤ℤ g → v ≤ℤ to_z w64 (of_z w64 r)
limit-all z g x r same small fg fr is v below most =
    subst (λ (y : ℤ). v ≤ℤ y) (sym (read_lesser g x r fg fr (subst (λ (b : Bound). IsSmallBound b) same small) is)) (lesser_all g x v (subst (λ (b : Bound). IsBelow v b) same below) most)

pub limit-below : (z : Bound) (g x r : ℤ) → z ≡ At x → IsSmallBound z → FitsSigned w64 g → FitsSigned w64 r → r ≡ int_min (to_z w64 (of_z w64 g)) (to_z w64 (of_z w64 (to_z w64 (of_z w64 x) -ℤ pos 1))) → IsBelow (to_z w64 (of_z w64 r)) z
limit-below z g x r same small fg fr is =
    subst (λ (b : Bound). IsBelow (to_z w64 (of_z w64 r)) b) (sym same) (subst (λ (y : ℤ). y <ℤ x) (sym (read_lesser g x r fg fr (subst (λ (b : Bound). IsSmallBound b) same small) is)) (lesser_below g x))

-- yes is not no
pub yes_not_no : {E : Type 0} (P : Type 0) → ◌≡◌ {A = Result Bool E} (Ok true) (Ok false) → P
yes_not_no P h = absurd (cc h)
