-- What spans demand in a window of times, summed over them.
use Rattle.std.specs.Prelude.{Option, Some, None}
use Rattle.std.specs.List.{list_all}
use Rattle.std.proofs.Common.{ℕ, zero, suc, inl, inr, drop, length, ◌≤◌, ℤ, pos, negsuc, ◌^◌, FitsSigned, w64, to_z, of_z, ◌+ℤ◌, ◌*ℤ◌, ◌≤ℤ◌, ◌<ℤ◌, ◌≡◌, ◌⊎◌, true, List, ◌∷◌, unsigned_abs, refl, sym, ◌∙◌, ap, subst, arith}
use Rattle.std.proofs.lemmas.Int.{ints, to_z-of_z, fits_signed_mul, fits_signed_from_abs}
use mir.Syntax.{w128}
use Rattle.std.proofs.Math.IntN.{zero-*ℤ, *ℤ-zero}
use Rattle.cps_model.proofs.Sums.{unsigned_abs-add}
use Rattle.cps_domain.proofs.Products.{next_times, times_grows, size_times}
use Rattle.cps_literal.specs.Truth.{value_at, atom_holds}
use Rattle.cps_instance.specs.declared.task.Span.{Span}
use Rattle.cps_instance.specs.Parts.{span_end}
use Rattle.cps_trail.specs.Trail.{IsInside}
use Rattle.cps_p_cumulative.specs.declared.charge.Stay.{Stay}
use Rattle.cps_p_cumulative.specs.Running.{demand_of, demands_at, energy_of, energies}
use Rattle.cps_p_cumulative.specs.Relying.{IsLong, IsStay, IsActiveBetween}
use Rattle.cps_p_cumulative.proofs.Moves.{le_or_lt}
use Rattle.cps_p_cumulative.proofs.SpanDemands.{demands-cons, running, demand-runs, demand-some}
use Rattle.cps_p_cumulative.proofs.Profiled.{demands-past}

-- one time more
pub more_times : (v : ℤ) (k : ℕ) → pos (suc k) *ℤ v ≡ pos k *ℤ v +ℤ v
more_times v k =
    let e : pos (suc k) ≡ pos k +ℤ pos 1 = omega (arith, ints) in
    ap (λ (z : ℤ). z *ℤ v) e ∙ next_times (pos k) v

pub times-some : (a b : ℤ) → pos 0 ≤ℤ a → pos 0 ≤ℤ b → pos 0 ≤ℤ (a *ℤ b)
times-some a b p q = let e = *ℤ-zero a in let f = times_grows a (pos 0) b p q in omega (arith, ints)

pub times-next-some : (a b : ℤ) → pos 0 ≤ℤ a → pos 0 ≤ℤ b → pos 0 ≤ℤ ((a *ℤ b) +ℤ pos 1)
times-next-some a b p q = let e = times-some a b p q in omega (arith, ints)

-- how large a number of 64 bits is
pub number_size : (n : ℤ) → FitsSigned w64 n → unsigned_abs n ≤ 2 ^ 63
number_size (pos n) f = let g = f.sfits in omega (arith, ints)
number_size (negsuc n) f = let g = f.sfits in omega (arith, ints)

pub fits-wide : (n : ℤ) → FitsSigned w64 n → FitsSigned w128 n
fits-wide n f = fits_signed_from_abs w128 n (let s = number_size n f in omega arith)

-- two numbers of 64 bits give one of 128
pub energy-fits : (a b : ℤ) → FitsSigned w64 a → FitsSigned w64 b → FitsSigned w128 (a *ℤ b)
energy-fits a b f g = fits_signed_mul w128 a b (2 ^ 63) (2 ^ 63) (number_size a f) (number_size b g) (omega arith)

pub energy-next-fits : (a b : ℤ) → FitsSigned w64 a → FitsSigned w64 b → FitsSigned w128 ((a *ℤ b) +ℤ pos 1)
energy-next-fits a b f g = fits_signed_from_abs w128 ((a *ℤ b) +ℤ pos 1) (
    let p = size_times a b (2 ^ 63) (2 ^ 63) (number_size a f) (number_size b g) in
    let q = unsigned_abs-add (a *ℤ b) (pos 1) in
    omega arith)

pub sum-fits : (a b : ℤ) → FitsSigned w64 a → FitsSigned w64 b → FitsSigned w128 (a +ℤ b)
sum-fits a b f g = fits_signed_from_abs w128 (a +ℤ b) (
    let p = number_size a f in
    let q = number_size b g in
    let r = unsigned_abs-add a b in
    omega arith)

-- a number of 64 bits, read in 128, and what is made of two
pub wide_is : (a x : ℤ) → FitsSigned w64 a → x ≡ to_z w64 (of_z w64 a) → to_z w128 (of_z w128 x) ≡ a
wide_is a x f p =
    let e : x ≡ a = p ∙ to_z-of_z w64 a f in
    rw e (to_z-of_z w128 a (fits-wide a f))

pub wide_same : (a x : ℤ) → FitsSigned w64 a → x ≡ to_z w64 (of_z w64 a) → to_z w128 (of_z w128 x) ≡ to_z w64 (of_z w64 a)
wide_same a x f p = wide_is a x f p ∙ sym (to_z-of_z w64 a f)

pub wide_sum_fits : (a b x y : ℤ) → FitsSigned w64 a → FitsSigned w64 b → x ≡ to_z w64 (of_z w64 a) → y ≡ to_z w64 (of_z w64 b) → FitsSigned w128 (to_z w128 (of_z w128 x) +ℤ to_z w128 (of_z w128 y))
wide_sum_fits a b x y f g p q = subst (λ (z : ℤ). FitsSigned w128 (z +ℤ to_z w128 (of_z w128 y))) (sym (wide_is a x f p)) (subst (λ (z : ℤ). FitsSigned w128 (a +ℤ z)) (sym (wide_is b y g q)) (sum-fits a b f g))

pub wide_sum : (a b x y : ℤ) → FitsSigned w64 a → FitsSigned w64 b → x ≡ to_z w64 (of_z w64 a) → y ≡ to_z w64 (of_z w64 b) → to_z w128 (of_z w128 (to_z w128 (of_z w128 x) +ℤ to_z w128 (of_z w128 y))) ≡ a +ℤ b
wide_sum a b x y f g p q = to_z-of_z w128 (to_z w128 (of_z w128 x) +ℤ to_z w128 (of_z w128 y)) (wide_sum_fits a b x y f g p q) ∙ ap (λ (z : ℤ). z +ℤ to_z w128 (of_z w128 y)) (wide_is a x f p) ∙ ap (λ (z : ℤ). a +ℤ z) (wide_is b y g q)

pub wide_next_fits : (a x : ℤ) → FitsSigned w64 a → x ≡ to_z w64 (of_z w64 a) → FitsSigned w128 (to_z w128 (of_z w128 x) +ℤ pos 1)
wide_next_fits a x f p = subst (λ (z : ℤ). FitsSigned w128 (z +ℤ pos 1)) (sym (wide_is a x f p)) (fits_signed_from_abs w128 (a +ℤ pos 1) (
    let s = number_size a f in
    let r = unsigned_abs-add a (pos 1) in
    omega arith))

pub wide_next : (a x : ℤ) → FitsSigned w64 a → x ≡ to_z w64 (of_z w64 a) → to_z w128 (of_z w128 (to_z w128 (of_z w128 x) +ℤ pos 1)) ≡ a +ℤ pos 1
wide_next a x f p = to_z-of_z w128 (to_z w128 (of_z w128 x) +ℤ pos 1) (wide_next_fits a x f p) ∙ ap (λ (z : ℤ). z +ℤ pos 1) (wide_is a x f p)

pub wide_times_fits : (a b x y : ℤ) → FitsSigned w64 a → FitsSigned w64 b → x ≡ to_z w64 (of_z w64 a) → y ≡ to_z w64 (of_z w64 b) → FitsSigned w128 (to_z w128 (of_z w128 x) *ℤ to_z w128 (of_z w128 y))
wide_times_fits a b x y f g p q = subst (λ (z : ℤ). FitsSigned w128 (z *ℤ to_z w128 (of_z w128 y))) (sym (wide_is a x f p)) (subst (λ (z : ℤ). FitsSigned w128 (a *ℤ z)) (sym (wide_is b y g q)) (energy-fits a b f g))

pub wide_times : (a b x y : ℤ) → FitsSigned w64 a → FitsSigned w64 b → x ≡ to_z w64 (of_z w64 a) → y ≡ to_z w64 (of_z w64 b) → to_z w128 (of_z w128 (to_z w128 (of_z w128 x) *ℤ to_z w128 (of_z w128 y))) ≡ a *ℤ b
wide_times a b x y f g p q = to_z-of_z w128 (to_z w128 (of_z w128 x) *ℤ to_z w128 (of_z w128 y)) (wide_times_fits a b x y f g p q) ∙ ap (λ (z : ℤ). z *ℤ to_z w128 (of_z w128 y)) (wide_is a x f p) ∙ ap (λ (z : ℤ). a *ℤ z) (wide_is b y g q)

-- the number after a value that a subject may have
pub next_fits : (v : ℤ) → IsInside v → FitsSigned w64 (v +ℤ pos 1)
next_fits v h = fits_signed_from_abs w64 (v +ℤ pos 1) (
    let p = inside_size v h in
    let q = unsigned_abs-add v (pos 1) in
    omega arith)
  where
    inside_size : (n : ℤ) → IsInside n → unsigned_abs n ≤ 2 ^ 62
    inside_size (pos n) i = let g = i.high in omega (arith, ints)
    inside_size (negsuc n) i = let g = i.low in omega (arith, ints)

-- one span more
pub energies-cons : (xs : List ℤ) (t : ℤ) (n : ℕ) (p : Span) (d : ℕ) (ps : List Span) (ds : List ℕ) → energies xs t n (p ∷ ps) (d ∷ ds) ≡ energy_of xs t n p d +ℤ energies xs t n ps ds
energies-cons xs t zero p d ps ds = omega (arith, ints)
energies-cons xs t (suc n) p d ps ds =
    let here = demands-cons xs t p d ps ds in
    let rest = energies-cons xs (t +ℤ pos 1) n p d ps ds in
    omega (arith, ints)

-- no span or no demand is left
pub energies-past : (xs : List ℤ) (t : ℤ) (n : ℕ) (ps : List Span) (ds : List ℕ) (k : ℕ) → (length ps ≤ k) ⊎ (length ds ≤ k) → energies xs t n (drop k ps) (drop k ds) ≡ pos 0
energies-past xs t zero ps ds k past = refl
energies-past xs t (suc n) ps ds k past =
    let here = demands-past xs t ps ds k past in
    let rest = energies-past xs (t +ℤ pos 1) n ps ds k past in
    omega (arith, ints)

-- they use no more than the capacity at each time
pub energies-within : (xs : List ℤ) (c t : ℤ) (n : ℕ) (ps : List Span) (ds : List ℕ) → ((u : ℤ) → demands_at xs u ps ds ≤ℤ c) → energies xs t n ps ds ≤ℤ (pos n *ℤ c)
energies-within xs c t zero ps ds h = let e = zero-*ℤ c in omega (arith, ints)
energies-within xs c t (suc n) ps ds h =
    let here = h t in
    let rest = energies-within xs c (t +ℤ pos 1) n ps ds h in
    let e = more_times c n in
    omega (arith, ints)

pub energy-some : (xs : List ℤ) (t : ℤ) (n : ℕ) (p : Span) (d : ℕ) → pos 0 ≤ℤ value_at xs d → pos 0 ≤ℤ energy_of xs t n p d
energy-some xs t zero p d h = omega (arith, ints)
energy-some xs t (suc n) p d h =
    let here = demand-some xs t p d h in
    let rest = energy-some xs (t +ℤ pos 1) n p d h in
    omega (arith, ints)

-- what a span uses that runs for so many times of a window
module _ (xs : List ℤ) (p : Span) (d : ℕ) (v : ℤ) (here : list_all (atom_holds xs) p.presence ≡ true) (some : pos 0 ≤ℤ v) (low : v ≤ℤ value_at xs d) where
  start : ℤ
  start = value_at xs p.start

  end : ℤ
  end = span_end xs p.start p.end p.length

  -- the span runs from its start up to its end
  pub record Lies (t : ℤ) (n k : ℕ) : Type 0 where
    pub within : k ≤ n
    pub left : (t +ℤ pos k) ≤ℤ span_end xs p.start p.end p.length
    pub right : (value_at xs p.start +ℤ pos k) ≤ℤ (t +ℤ pos n)
    pub long : (value_at xs p.start +ℤ pos k) ≤ℤ span_end xs p.start p.end p.length

  runs_now : (t : ℤ) → value_at xs p.start ≤ℤ t → t <ℤ span_end xs p.start p.end p.length → v ≤ℤ demand_of xs t p d
  runs_now t a b = let e = demand-runs xs t p d (running xs t p here a b) in omega (arith, ints)

  abbrev Uses : ℤ → ℕ → ℕ → Type 0
  Uses t n k = Lies t n k → (pos k *ℤ v) ≤ℤ energy_of xs t n p d

  -- it runs now or later
  least_more : (n k : ℕ) (t : ℤ) → Lies t (suc n) (suc k) → Uses (t +ℤ pos 1) n k → Uses (t +ℤ pos 1) n (suc k) → (value_at xs p.start ≤ℤ t) ⊎ (t <ℤ value_at xs p.start) → (pos (suc k) *ℤ v) ≤ℤ energy_of xs t (suc n) p d
  least_more n k t h once more (inl started) =
      let left = h.left in
      let right = h.right in
      let long = h.long in
      let within = h.within in
      let now = runs_now t started (omega (arith, ints)) in
      let rest = once (record { within = omega arith; left = omega (arith, ints); right = omega (arith, ints); long = omega (arith, ints) }) in
      let e = more_times v k in
      omega (arith, ints)
  least_more n k t h once more (inr later) =
      let left = h.left in
      let right = h.right in
      let long = h.long in
      let now = demand-some xs t p d (omega (arith, ints)) in
      let rest = more (record { within = omega (arith, ints); left = omega (arith, ints); right = omega (arith, ints); long = omega (arith, ints) }) in
      omega (arith, ints)

  pub energy-least : (n k : ℕ) (t : ℤ) → Lies t n k → (pos k *ℤ v) ≤ℤ energy_of xs t n p d
  energy-least n zero t h = let e = zero-*ℤ v in let f = energy-some xs t n p d (omega (arith, ints)) in omega (arith, ints)
  energy-least zero (suc k) t h = absurd (let a = h.within in omega arith)
  energy-least (suc n) (suc k) t h = least_more n k t h (λ l. energy-least n k (t +ℤ pos 1) l) (λ l. energy-least n (suc k) (t +ℤ pos 1) l) (le_or_lt (value_at xs p.start) t)

-- where a span is so long, whether its length is known or its end alone
long_of : (xs : List ℤ) (start end : ℕ) (far : Option ℤ) (stay : Stay) → IsLong far stay → value_at xs start ≤ℤ stay.latest → stay.after <ℤ span_end xs start end far → (value_at xs start +ℤ stay.ticks) ≤ℤ span_end xs start end far
long_of xs start end None stay h a b = omega (arith, ints)
long_of xs start end (Some far) stay h a b = omega (arith, ints)

-- what a span uses that stays so long
pub energy-stay : (xs : List ℤ) (t w : ℤ) (p : Span) (d : ℕ) (v : ℤ) (stay : Stay) → IsStay t w p.length stay → IsActiveBetween stay.latest stay.after p xs → pos 0 ≤ℤ v → v ≤ℤ value_at xs d → (stay.ticks *ℤ v) ≤ℤ energy_of xs t (unsigned_abs w) p d
energy-stay xs t w p d v stay of h some low =
    let ticks = stay.ticks in
    let long = long_of xs p.start p.end p.length stay of.long h.started h.later in
    let ticks_some = of.some in
    let within = of.within in
    let left = of.left in
    let right = of.right in
    let started = h.started in
    let later = h.later in
    let e : pos (unsigned_abs ticks) ≡ ticks = omega (arith, ints) in
    let f = energy-least xs p d v h.present some low (unsigned_abs w) (unsigned_abs ticks) t (record { within = omega (arith, ints); left = omega (arith, ints); right = omega (arith, ints); long = omega (arith, ints) }) in
    subst (λ (z : ℤ). (z *ℤ v) ≤ℤ energy_of xs t (unsigned_abs w) p d) e f

-- what is seen of a stay
pub stay-of : (t w : ℤ) (o p : Option ℤ) (stay : Stay) → o ≡ p → IsLong p stay → pos 0 ≤ℤ stay.ticks → stay.ticks ≤ℤ w → (t +ℤ stay.ticks) ≤ℤ (stay.after +ℤ pos 1) → (stay.latest +ℤ stay.ticks) ≤ℤ (t +ℤ w) → IsStay t w o stay
stay-of t w o p stay e long a b c d = record { some = a; within = b; left = c; right = d; long = subst (λ (q : Option ℤ). IsLong q stay) (sym e) long }
