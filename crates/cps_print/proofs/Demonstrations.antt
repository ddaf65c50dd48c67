-- Lines that are written one after another.
use Rattle.std.proofs.Common.{◌≡◌, List, ℕ, ◌++◌, ◌∙◌, ap, append_assoc}

-- four texts behind an empty one
pub four_lines : (t u v w a b c d : List ℕ) → t ≡ a → u ≡ t ++ b → v ≡ u ++ c → w ≡ v ++ d → w ≡ a ++ (b ++ (c ++ d))
four_lines t u v w a b c d first second third fourth =
    fourth ∙ ap (λ (x : List ℕ). x ++ d) (third ∙ ap (λ (x : List ℕ). x ++ c) (second ∙ ap (λ (x : List ℕ). x ++ b) first))
    ∙ append_assoc (a ++ b) c d ∙ append_assoc a b (c ++ d)
