-- A frame whose memory was not refused is seen as the search that it has.
use Rattle.std.proofs.Common.{◌≡◌, ◌∙◌, Bool, false, ap, sym}
use Rattle.cps_search.specs.Searches.{Search}

pub as_running : (s : Search) (refused : Bool) → refused ≡ false → s.refused ≡ false → record s { refused = refused } ≡ s
as_running s refused e running = ap (λ (b : Bool). record s { refused = b }) (e ∙ sym running)
