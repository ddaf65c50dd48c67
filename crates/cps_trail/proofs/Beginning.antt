-- A history with no entry, and its first domains one by one.
use Rattle.std.proofs.Common.{ℕ, ◌+◌, ◌<◌, ◌≡◌, List, [], ◌∷◌, ◌++◌, length, get_or, take, ◌∙◌, ap, refl, sym, subst, arith}
use Rattle.std.proofs.lemmas.List.{take_more}
use Rattle.cps_domain.specs.Window.{Window, intervals}
use Rattle.cps_literal.specs.declared.atom.Atom.{Atom}
use Rattle.cps_trail.specs.declared.change.Change.{Change}
use Rattle.cps_trail.specs.declared.entry.EntryView.{EntryView}
use Rattle.cps_trail.specs.Trail.{Domains}
use Rattle.cps_trail.specs.Changes.{IsHistory}
use Rattle.cps_trail.proofs.Facts.{firsts_of, firsts_add}

-- six lists with nothing in them
no_history : IsHistory [] [] [] [] [] []
no_history = record {
  domains = λ i l. absurd (omega arith);
  unwinds = record { sizes = refl; values = λ i x l. absurd (omega arith); domains = λ i l. absurd (omega arith) };
  kept = record { sizes = refl; each = λ k d c l. absurd (omega arith); subjects = refl; last = λ i l. absurd (omega arith) };
  stacked = tt;
  subjects = λ k d l. absurd (omega arith);
}

pub history_none : (ws ds : List Window) (ls : List ℕ) (vs : List EntryView) (cs : List Change) (atoms : List Atom) → ws ≡ [] → ds ≡ [] → ls ≡ [] → vs ≡ [] → cs ≡ [] → atoms ≡ [] → IsHistory ws ds ls vs cs atoms
history_none ws ds ls vs cs atoms a b c d e f =
    subst (λ w. IsHistory w ds ls vs cs atoms) (sym a) (subst (λ w. IsHistory [] w ls vs cs atoms) (sym b) (subst (λ l. IsHistory [] [] l vs cs atoms) (sym c)
    (subst (λ v. IsHistory [] [] [] v cs atoms) (sym d) (subst (λ v. IsHistory [] [] [] [] v atoms) (sym e) (subst (λ v. IsHistory [] [] [] [] [] v) (sym f) no_history)))))

-- one more of the first domains
pub first_more : (ds : List Window) (k : ℕ) (w f : Window) (firsts : Domains) → k < length ds → w ≡ get_or ds k w → intervals f ≡ intervals w → firsts ≡ firsts_of (take k ds) → firsts ++ intervals f ∷ [] ≡ firsts_of (take (k + 1) ds)
first_more ds k w f firsts l is same e =
    ap (λ ps. ps ++ intervals f ∷ []) e
    ∙ sym (ap (λ ws. firsts_of ws) (take_more ds k w l ∙ ap (λ v. take k ds ++ v ∷ []) (sym is)) ∙ firsts_add (take k ds) f w (sym same))
