-- One more entry leaves what was seen of those before it.
use Rattle.std.proofs.Common.{ℕ, ◌≡◌, List, ◌++◌, length, take, ap, ◌∙◌, arith}
use Rattle.std.proofs.lemmas.List.{take-append-le}
use Rattle.cps_trail.specs.Trail.{Domains, Entry, Trail, first_of}
use Rattle.cps_branch.specs.Scope.{AreSameUpTo}

pub same_before : (n : ℕ) (s t : Trail) (es : List Entry) → t.first ≡ s.first → t.entries ≡ s.entries ++ es → AreSameUpTo n (length s.entries) s t
same_before n s t es first entries = record {
  domains = λ i l. ap (λ (ds : Domains). first_of ds i) first;
  entries = ap (λ (fs : List Entry). take (length s.entries) fs) entries ∙ take-append-le (length s.entries) s.entries es (omega arith);
}
