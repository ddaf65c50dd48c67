-- One domain more.
use Rattle.std.specs.Prelude.{slice_index_or}
use Rattle.std.proofs.Common.{◌≡◌, ℕ, zero, suc, ◌+◌, List, [], ◌∷◌, ◌++◌, length, get_or, map, take, ◌<◌, ◌≤◌, refl, sym, ◌∙◌, ap, subst, arith, ℤ}
use Rattle.std.proofs.lemmas.List.{append_assoc, append-nil, get_or_append_left, length-append, length-map, length_push, map-append, take_all, take_more}
use Rattle.cps_model.specs.declared.model.LinearExpr.{LinearExpr}
use Rattle.cps_model.specs.declared.model.Variable.{Variable}
use Rattle.cps_log.specs.Subjects.{variable_domain, sum_domain, subject_domains}
use Rattle.cps_model.specs.Within.{is_within}
use Rattle.cps_domain.specs.Window.{Window, contains}
use Rattle.cps_rup.specs.Domains.{box_in}
use Rattle.cps_subjects.specs.Domains.{AreDomains, HasDomainsOf}

none_left : (s : ℕ) (x : ℤ) → box_in [] s x ≡ is_within [] x
unfolding contains
none_left s x = refl

-- no domains, for no variables
pub none_are : (ds : List Window) → ds ≡ [] → AreDomains ds []
none_are ds e = record { many = ap length e; same = λ s x. rw e (none_left s x) }

push_at : (ds : List Window) (ls : List (List ℤ)) (d : Window) (l : List ℤ) (s : ℕ) (x : ℤ) → length ds ≡ length ls → ((k : ℕ) (y : ℤ) → box_in ds k y ≡ is_within (slice_index_or ls k []) y) → ((y : ℤ) → contains d y ≡ is_within l y) → box_in (ds ++ d ∷ []) s x ≡ is_within (slice_index_or (ls ++ l ∷ []) s []) x
push_at [] [] d l zero x e are same = same x
push_at [] [] d l (suc s) x e are same = are s x
push_at [] (k ∷ ks) d l s x e are same = cc
push_at (w ∷ ws) [] d l s x e are same = cc
push_at (w ∷ ws) (k ∷ ks) d l zero x e are same = are 0 x
push_at (w ∷ ws) (k ∷ ks) d l (suc s) x e are same = push_at ws ks d l s x (let p = e in cc) (λ n y. are (suc n) y) same

pub domains_push : (ds : List Window) (ls : List (List ℤ)) (d : Window) (l : List ℤ) → AreDomains ds ls → ((y : ℤ) → contains d y ≡ is_within l y) → AreDomains (ds ++ d ∷ []) (ls ++ l ∷ [])
domains_push ds ls d l are same = record {
  many = length_push ds d ∙ ap (λ n. n + 1) are.many ∙ sym (length_push ls l);
  same = λ s x. push_at ds ls d l s x are.many are.same same;
}

-- one variable more
pub domains_next : (ds new : List Window) (vs : List Variable) (k : ℕ) (v : Variable) (d : Window) → k < length vs → v ≡ get_or vs k v → new ≡ ds ++ d ∷ [] → AreDomains ds (map variable_domain (take k vs)) → ((y : ℤ) → contains d y ≡ is_within v.domain y) → AreDomains new (map variable_domain (take (k + 1) vs))
domains_next ds new vs k v d l at pushed are same =
    let longer : take (k + 1) vs ≡ take k vs ++ v ∷ [] = take_more vs k v l ∙ ap (λ (u : Variable). take k vs ++ u ∷ []) (sym at) in
    let lists : map variable_domain (take (k + 1) vs) ≡ map variable_domain (take k vs) ++ v.domain ∷ [] = ap (λ (us : List Variable). map variable_domain us) longer ∙ map-append variable_domain (take k vs) (v ∷ []) in
    rw (pushed, lists) (domains_push ds (map variable_domain (take k vs)) d v.domain are same)

-- no variable more
pub domains_all : (ds : List Window) (vs : List Variable) (k : ℕ) → length vs ≤ k → AreDomains ds (map variable_domain (take k vs)) → AreDomains ds (map variable_domain vs)
domains_all ds vs k l are = subst (λ (us : List Variable). AreDomains ds (map variable_domain us)) (take_all k vs l) are

-- a sum more
pub sum_pushed : (ds new : List Window) (vs : List Variable) (sums : List LinearExpr) (e : LinearExpr) (d : Window) → new ≡ ds ++ d ∷ [] → AreDomains ds (subject_domains vs sums) → ((y : ℤ) → contains d y ≡ is_within (sum_domain vs e) y) → AreDomains new (subject_domains vs (sums ++ e ∷ []))
sum_pushed ds new vs sums e d pushed are same =
    let lists : subject_domains vs (sums ++ e ∷ []) ≡ subject_domains vs sums ++ sum_domain vs e ∷ [] = ap (λ (ls : List (List ℤ)). map variable_domain vs ++ ls) (map-append (sum_domain vs) sums (e ∷ [])) ∙ sym (append_assoc (map variable_domain vs) (map (sum_domain vs) sums) (sum_domain vs e ∷ [])) in
    rw (pushed, lists) (domains_push ds (subject_domains vs sums) d (sum_domain vs e) are same)

-- without a sum the subjects are the variables
pub no_sums : (ds : List Window) (vs : List Variable) → AreDomains ds (map variable_domain vs) → AreDomains ds (subject_domains vs [])
no_sums ds vs are = subst (AreDomains ds) (sym (append-nil (map variable_domain vs))) are

-- domains of the subjects begin with those of the variables
pub has_domains : (ds : List Window) (vs : List Variable) (sums : List LinearExpr) → AreDomains ds (subject_domains vs sums) → HasDomainsOf ds vs
has_domains ds vs sums are =
    let long = length-append (map variable_domain vs) (map (sum_domain vs) sums) in
    let count = length-map vs variable_domain in
    let many = are.many in
    record {
      many = omega arith;
      same = λ i l x. (let here : i < length (map variable_domain vs) = rw (length-map vs variable_domain) l in are.same i x ∙ ap (λ (bs : List ℤ). is_within bs x) (get_or_append_left (map variable_domain vs) (map (sum_domain vs) sums) [] i here));
    }
