use Rattle.std.specs.List.{All}
use Rattle.std.proofs.Common.{◌≡◌, ◌<◌, ℤ, List, length, subst, sym}
use Rattle.cps_instance.specs.Posting.{atom_of}
use Rattle.cps_search.specs.Searches.{Search, IsSoundSearch}
use Rattle.cps_search.specs.Searching.{search_of}
use Rattle.cps_search.proofs.Cores.{assumed_subjects}
use Rattle.cps_search.proofs.searcher.Searcher.open_assumption.Goals as goal

pub first_open-requires : goal.first_open-requires
first_open-requires g c =
    let s = search_of c.self.inside in
    let sound : IsSoundSearch s = subst (λ (x : Search). IsSoundSearch x) (sym c.self.view_is) c.requires in
    let same : c.assumptions.result.now ≡ s.instance.model.assumptions = c.assumptions.ensures in
    subst (λ (rs : List ℤ). All (λ r. (atom_of r).subject < length s.store.first) rs) (sym same) (assumed_subjects s sound)
