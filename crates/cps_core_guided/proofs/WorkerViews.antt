-- A worker whose memory was not refused is seen as it is.
use Rattle.std.proofs.Common.{◌≡◌, ◌∙◌, Bool, false, ap, sym}
use Rattle.cps_core_guided.specs.declared.guided.Guided.{Guided}
use Rattle.cps_core_guided.specs.Guiding.{core_search_of, with_refused}
use Rattle.cps_core_guided.specs.Reforming.{CoreSearch}

pub as-running : {P B : Type 0} (x : Guided P B) (refused : Bool) → refused ≡ false → x.frame.refused ≡ false → with_refused (core_search_of x) refused ≡ core_search_of x
as-running x refused e running = ap (λ (b : Bool). with_refused (core_search_of x) b) (e ∙ sym running)

-- with its brancher
pub seen-running : {P B : Type 0} (x : Guided P B) (refused : Bool) → refused ≡ false → x.frame.refused ≡ false → (let was : CoreSearch × B = (with_refused (core_search_of x) refused, x.brancher) in was) ≡ (let is : CoreSearch × B = (core_search_of x, x.brancher) in is)
seen-running x refused e running = ap (λ (s : CoreSearch). (s, x.brancher)) (as-running x refused e running)
