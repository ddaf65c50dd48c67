use Rattle.std.specs.Prelude.{All, unsigned_abs}
use Rattle.std.proofs.Common.{ℕ, List, refl, ◌≡◌, ◌+◌, ◌*◌, ◌<◌, ◌^◌, length, get_or, arith, ap, sym, subst, [], map, ◌∙◌, pos, rules, FitsSigned, w64}
use Rattle.std.proofs.lemmas.Int.{to_z-of_z}
use Rattle.std.proofs.lemmas.List.{get_or_default, get_or-map}
use Rattle.std.proofs.lemmas.List.Elements.{All-get_or}
use Rattle.cps_domain.specs.Window.{Window, intervals}
use Rattle.cps_instance.specs.declared.term.Term.{Term}
use Rattle.cps_instance.specs.Terms.{Intervals, domain_at, magnitude, terms_reach}
use Rattle.cps_instance.proofs.Boundings.{low_end, term_room, low_room}
use Rattle.cps_search.proofs.LogStarts.{ends_at_start, ends_over, least_more}
use Rattle.cps_search.proofs.log_items.least_of_terms.Goals as goal

no_term : Term
no_term = record { coeff = pos 0; subject = 0 }

-- a read of a term and of its subject's domain
record Reads (ws : List Window) (ts : List Term) (k : ℕ) (t : Term) (w : Window) : Type 0 where
  term : t ≡ get_or ts k t
  domain : intervals w ≡ domain_at (map intervals ws) t.subject

reads : (ws : List Window) (ts : List Term) (k : ℕ) (t e : Term) (w : Window) → k < length ts → t ≡ get_or ts k e → All (λ u. u.subject < length ws) ts → w ≡ get_or ws t.subject w → Reads ws ts k t w
reads ws ts k t e w l r h s =
    let term = r ∙ get_or_default ts k e t l in
    let inside : (get_or ts k t).subject < length ws = All-get_or (λ u. u.subject < length ws) ts k t l h in
    let inside' : t.subject < length ws = rw term inside in
    record { term = term; domain = ap (λ v. intervals v) s ∙ sym (get_or-map intervals ws t.subject w [] inside') }

pub least_of_term-requires : goal.least_of_term-requires
unfolding no_term
least_of_term-requires c =
    let ws = c.args.domains.now in
    let ds = map intervals ws in
    let ts = c.args.terms.now in
    let k = c.loop-term.term-index in
    let t = get_or ts k no_term in
    let l : k < length ts = omega arith in
    let r = reads ws ts k t no_term c.index-domains-term.result l refl c.requires.subjects c.index-domains-term.is in
    let small : terms_reach ds ts + unsigned_abs (pos 0) < 2 ^ 62 = omega (arith, c.requires.small) in
    subst (λ (ps : Intervals). unsigned_abs t.coeff * magnitude ps < 2 ^ 62) (sym r.domain)
    (term_room ds ts (pos 0) k _ c.loop-term.invariant.0 t small c.loop-term.invariant.1 l r.term)

pub sum_of-sum-requires : goal.sum_of-sum-requires
unfolding no_term
sum_of-sum-requires c =
    let ws = c.args.domains.now in
    let ds = map intervals ws in
    let ts = c.args.terms.now in
    let k = c.loop-term.term-index in
    let t = get_or ts k no_term in
    let l : k < length ts = omega arith in
    let r = reads ws ts k t no_term c.index-domains-term.result l refl c.requires.subjects c.index-domains-term.is in
    let small : terms_reach ds ts + unsigned_abs (pos 0) < 2 ^ 62 = omega (arith, c.requires.small) in
    let fits : FitsSigned w64 c.least_of_term.result = search rules in
    low_room ds ts (pos 0) k _ c.loop-term.invariant.0 t _ small c.loop-term.invariant.1 l r.term
    (to_z-of_z w64 c.least_of_term.result fits ∙ c.least_of_term.ensures ∙ ap (λ w. low_end t w) r.domain)

pub loop-term-init : goal.loop-term-init
loop-term-init c = (pos 0, ends_at_start (map intervals c.args.domains.now) c.args.terms.now)

pub loop-term-preserved : goal.loop-term-preserved
unfolding no_term
loop-term-preserved c =
    let ws = c.args.domains.now in
    let ds = map intervals ws in
    let ts = c.args.terms.now in
    let k = c.loop-term.term-index in
    let t = get_or ts k no_term in
    let l : k < length ts = omega arith in
    let r = reads ws ts k t no_term c.index-domains-term.result l refl c.requires.subjects c.index-domains-term.is in
    let fits : FitsSigned w64 c.least_of_term.result = search rules in
    let fits' : FitsSigned w64 c.sum_of-sum.result = search rules in
    least_more ds ts k _ c.loop-term.invariant.0 t _ _ c.loop-term.invariant.1 l r.term (to_z-of_z w64 c.least_of_term.result fits ∙ c.least_of_term.ensures ∙ ap (λ w. low_end t w) r.domain) (to_z-of_z w64 c.sum_of-sum.result fits' ∙ c.sum_of-sum.ensures)

pub returns : goal.returns
returns c = ends_over (map intervals c.args.domains.now) c.args.terms.now c.loop-term.term-index _ c.loop-term.invariant.0 c.loop-term.invariant.1 (omega arith)
