-- Lists of spans that are copied one by one.
use Rattle.std.proofs.Common.{◌≡◌, ◌∙◌, ℕ, ◌+◌, ◌<◌, List, [], ◌∷◌, ◌++◌, length, take, get_or, sym, ap}
use Rattle.std.proofs.lemmas.List.{take_more}
use Rattle.cps_instance.specs.declared.task.Span.{Span}

pub copied_more : (ps before now : List Span) (i : ℕ) (q copy : Span) → i < length ps → q ≡ get_or ps i q → copy ≡ q → now ≡ before ++ copy ∷ [] → before ≡ take i ps → now ≡ take (i + 1) ps
copied_more ps before now i q copy l is same more h =
    more ∙ ap (λ (qs : List Span). qs ++ copy ∷ []) h ∙ ap (λ (p : Span). take i ps ++ p ∷ []) (same ∙ is) ∙ sym (take_more ps i q l)
