-- What a function gives for the first elements of a list.
use Rattle.std.proofs.Common.{◌≡◌, ℕ, ◌+◌, ◌<◌, List, [], ◌∷◌, ◌++◌, length, map, take, get_or, sym, ap, ◌∙◌}
use Rattle.std.proofs.lemmas.List.{map_more}

-- with what it gives for one more
pub map_longer : {X Y : Type 0} (f : X → Y) (xs : List X) (k : ℕ) (d : X) (ys zs : List Y) (y : Y) → k < length xs → ys ≡ map f (take k xs) → y ≡ f (get_or xs k d) → zs ≡ ys ++ y ∷ [] → zs ≡ map f (take (k + 1) xs)
map_longer f xs k d ys zs y l before own longer = longer ∙ ap (λ us. us ++ y ∷ []) before ∙ ap (λ u. map f (take k xs) ++ u ∷ []) own ∙ sym (map_more f xs k d l)
