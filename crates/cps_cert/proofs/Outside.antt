-- The ends of a sum are one pair, so that what is said of some ends is said of those that were computed.
use Rattle.std.specs.Prelude.{◌&&◌, ◌⊎◌}
use Rattle.std.proofs.Common.{◌≡◌, ℕ, List, [], ◌∷◌, Bool, true, false, refl, sym, ◌∙◌, arith, ℤ, ◌+ℤ◌, ◌*ℤ◌, ◌≤ℤ◌, ◌<ℤ◌}
use Rattle.std.proofs.lemmas.Int.{ints}
use Rattle.cps_model.specs.declared.model.LinearExpr.{LinearExpr}
use Rattle.cps_model.specs.Values.{variable_of}
use Rattle.cps_model.specs.Within.{is_within, is_allowed}
use Rattle.cps_validate.specs.Signs.{with_sign_of}
use Rattle.cps_unit.specs.Boxes.{Box}
use Rattle.cps_log.specs.Boxes.{Spans, HasEnds, NoneBetween, IsSumOutside}
use Rattle.cps_cert.specs.Accepting.{AreEndsApart}
use Rattle.cps_subjects.proofs.Unique.{AreSame, spans_unique, ends_unique}

pub outside_if : (box : Box) (vars coeffs : List ℤ) (admits : ℤ → Bool) (l h : ℤ) → HasEnds box vars coeffs l h → NoneBetween l h admits → IsSumOutside box vars coeffs admits
outside_if box vars coeffs admits l h e n = record { low = l; high = h; ends = e; none = n }

pub outside_only : (box : Box) (vars coeffs : List ℤ) (admits : ℤ → Bool) (l h : ℤ) → HasEnds box vars coeffs l h → IsSumOutside box vars coeffs admits → NoneBetween l h admits
outside_only box vars coeffs admits l h e s =
    let same = ends_unique box vars coeffs l h s.low s.high e s.ends in
    rw (same.lows, same.highs) s.none

-- ---- the objective

none_of : (a b : Bool) → (b ≡ true → a ≡ false) → (a && b) ≡ false
none_of true true h = h refl
none_of true false h = refl
none_of false b h = refl

pub issue_if : (low high last : ℤ) (allows leaves : ℤ → Bool) → ((x : ℤ) → x ≤ℤ high → leaves x ≡ true → x ≤ℤ last) → NoneBetween low last allows → NoneBetween low high (λ x. allows x && leaves x)
issue_if low high last allows leaves above none = λ x p q. none_of (allows x) (leaves x) (λ h. none x p (above x q h))

and_left : (a b : Bool) → (a && b) ≡ false → b ≡ true → a ≡ false
and_left true true e h = e
and_left true false e h = cc
and_left false b e h = refl

pub issue_only : (low high last : ℤ) (allows leaves : ℤ → Bool) → ((x : ℤ) → x ≤ℤ last → (x ≤ℤ high) × (leaves x ≡ true)) → NoneBetween low high (λ x. allows x && leaves x) → NoneBetween low last allows
issue_only low high last allows leaves below none = λ x p q. (let b = below x q in and_left (allows x) (leaves x) (none x p b.0) b.1)

pub none_from_empty : (bounds : List ℤ) (low high : ℤ) → bounds ≡ [] → high <ℤ low → NoneBetween low high (is_allowed bounds)
none_from_empty bounds low high e h = λ x p q. absurd (omega (arith, ints))

pub empty_only : (bounds : List ℤ) (low high : ℤ) → bounds ≡ [] → NoneBetween low high (is_allowed bounds) → (low ≤ℤ high → ⊥)
empty_only bounds low high e none = λ h. (let out : is_allowed [] low ≡ false = rw e at (none low (omega (arith, ints)) h) in cc)

pub allowed_within : (bounds : List ℤ) (x : ℤ) → (bounds ≡ [] → ⊥) → is_allowed bounds x ≡ is_within bounds x
allowed_within [] x h = absurd (h refl)
allowed_within (b ∷ bs) x h = refl

-- ---- the ends of a subject's sum

pub apart_if : (box : Box) (subject : ℕ) (e : LinearExpr) (l h least greatest : ℤ) → HasEnds box e.vars e.coeffs l h → Spans (box subject) (λ x. x) least greatest → ((h +ℤ e.offset) <ℤ least) ⊎ (greatest <ℤ (l +ℤ e.offset)) → AreEndsApart box subject e
apart_if box subject e l h least greatest ends domain apart = record { low = l; high = h; ends = ends; least = least; greatest = greatest; domain = domain; apart = apart }

pub apart_only : (box : Box) (subject : ℕ) (e : LinearExpr) (l h least greatest : ℤ) → HasEnds box e.vars e.coeffs l h → Spans (box subject) (λ x. x) least greatest → AreEndsApart box subject e → ((h +ℤ e.offset) <ℤ least) ⊎ (greatest <ℤ (l +ℤ e.offset))
apart_only box subject e l h least greatest ends domain a =
    let same = ends_unique box e.vars e.coeffs l h a.low a.high ends a.ends in
    let hull = spans_unique (box subject) (λ x. x) least greatest a.least a.greatest domain a.domain in
    rw (same.lows, same.highs, hull.lows, hull.highs) a.apart

pub hull_spans : (admits : ℤ → Bool) (least greatest : ℤ) → admits least ≡ true → admits greatest ≡ true → ((x : ℤ) → admits x ≡ true → least ≤ℤ x) → ((x : ℤ) → admits x ≡ true → x ≤ℤ greatest) → Spans admits (λ x. x) least greatest
hull_spans admits least greatest p q above below = record { above = above; below = below; lowest = (least, p, refl); highest = (greatest, q, refl) }
