-- Domains of the same intervals have the same values.
use Rattle.std.proofs.Common.{◌≡◌, List, ap, ℤ}
use Rattle.cps_domain.specs.Window.{Window, contains, intervals, is_among}

-- domains of the same intervals have the same values
pub contains_same : (d d' : Window) (x : ℤ) → intervals d' ≡ intervals d → contains d' x ≡ contains d x
unfolding contains
contains_same d d' x same = ap (λ (ps : List (ℤ × ℤ)). is_among ps x) same
