-- The subject is held at its least value, for which the base has room.
use Rattle.std.proofs.Common.{◌≡◌, ℕ, ℤ, pos, ◌+ℤ◌, ◌*ℤ◌, [], ◌∷◌, ◌++◌, false, ◌∙◌, ◌*◌, ◌<◌, ◌^◌, ap, arith, rules, map, subst, sym, unsigned_abs, w64, FitsSigned}
use Rattle.std.proofs.lemmas.List.{length-map}
use Rattle.std.proofs.lemmas.Int.{to_z-of_z}
use Rattle.cps_domain.specs.Window.{intervals}
use Rattle.cps_instance.specs.Terms.{Domains, domain_at, least_of}
use Rattle.cps_reform.specs.Forms.{Form, with_held}
use Rattle.cps_reform.proofs.Rooms.{roomy-held, base-held, worth-held, above-held}
use Rattle.cps_reform.proofs.Words.{held-small, part-small}
use Rattle.cps_reform.proofs.reform.Reform.hold.Goals as goal

made : (ds : Domains) (f g : Form) (w subject : ℕ) (part bound part' bound' : ℤ) → g ≡ record { base = f.base +ℤ part'; terms = f.terms ++ record { weight = w; subject = subject; bound = bound'; in_core = false } ∷ [] }
    → part' ≡ part → bound' ≡ bound → part ≡ pos w *ℤ bound → bound ≡ least_of (domain_at ds subject) → g ≡ with_held ds f w subject
made ds f g w subject part bound part' bound' h e k p b =
    h ∙ ap (λ (v : ℤ). record { base = f.base +ℤ v; terms = f.terms ++ record { weight = w; subject = subject; bound = bound'; in_core = false } ∷ [] }) (e ∙ p ∙ ap (λ (v : ℤ). pos w *ℤ v) b)
    ∙ ap (λ (v : ℤ). record { base = f.base +ℤ pos w *ℤ least_of (domain_at ds subject); terms = f.terms ++ record { weight = w; subject = subject; bound = v; in_core = false } ∷ [] }) (k ∙ b)

pub returns-clause-roomy : goal.returns-clause-roomy
returns-clause-roomy c =
    let fp : FitsSigned w64 c.product-part.result = search rules in
    let fb : FitsSigned w64 c.least_at-bound.result = search rules in
    let is = made (map intervals c.args.domains.now) c.args.self.now c.add.new.self c.args.weight c.args.subject c.product-part.result c.least_at-bound.result _ _ c.in_ok-add.ensures.adds (to_z-of_z w64 c.product-part.result fp) (to_z-of_z w64 c.least_at-bound.result fb) (simp to_z-of_z at c.product-part.ensures.is) c.least_at-bound.ensures in
    rw is (roomy-held (map intervals c.args.domains.now) c.args.self.now c.args.weight c.args.subject c.requires.roomy (let s = c.requires.subject in let e = length-map c.args.domains.now intervals in omega arith) c.requires.ordered c.requires.within c.requires.small)

pub returns-clause-base : goal.returns-clause-base
returns-clause-base c =
    let fp : FitsSigned w64 c.product-part.result = search rules in
    let fb : FitsSigned w64 c.least_at-bound.result = search rules in
    let is = made (map intervals c.args.domains.now) c.args.self.now c.add.new.self c.args.weight c.args.subject c.product-part.result c.least_at-bound.result _ _ c.in_ok-add.ensures.adds (to_z-of_z w64 c.product-part.result fp) (to_z-of_z w64 c.least_at-bound.result fb) (simp to_z-of_z at c.product-part.ensures.is) c.least_at-bound.ensures in
    rw is (base-held (map intervals c.args.domains.now) c.args.self.now c.args.weight c.args.subject c.requires.base)

pub returns-clause-worth : goal.returns-clause-worth
returns-clause-worth c = λ xs.
    let fp : FitsSigned w64 c.product-part.result = search rules in
    let fb : FitsSigned w64 c.least_at-bound.result = search rules in
    let is = made (map intervals c.args.domains.now) c.args.self.now c.add.new.self c.args.weight c.args.subject c.product-part.result c.least_at-bound.result _ _ c.in_ok-add.ensures.adds (to_z-of_z w64 c.product-part.result fp) (to_z-of_z w64 c.least_at-bound.result fb) (simp to_z-of_z at c.product-part.ensures.is) c.least_at-bound.ensures in
    rw is (worth-held xs (map intervals c.args.domains.now) c.args.self.now c.args.weight c.args.subject)

pub returns-clause-above : goal.returns-clause-above
returns-clause-above c = λ xs h v.
    let fp : FitsSigned w64 c.product-part.result = search rules in
    let fb : FitsSigned w64 c.least_at-bound.result = search rules in
    let is = made (map intervals c.args.domains.now) c.args.self.now c.add.new.self c.args.weight c.args.subject c.product-part.result c.least_at-bound.result _ _ c.in_ok-add.ensures.adds (to_z-of_z w64 c.product-part.result fp) (to_z-of_z w64 c.least_at-bound.result fb) (simp to_z-of_z at c.product-part.ensures.is) c.least_at-bound.ensures in
    rw is (above-held xs (map intervals c.args.domains.now) c.args.self.now c.args.weight c.args.subject h v)

pub product-part-requires : goal.product-part-requires
product-part-requires c =
    let b = c.least_at-bound.result in
    let fb : FitsSigned w64 b = search rules in
    let d = domain_at (map intervals c.args.domains.now) c.args.subject in
    subst (λ (x : ℤ). c.args.weight * unsigned_abs x < 2 ^ 62) (sym (to_z-of_z w64 b fb)) (part-small c.args.weight _ d b c.least_at-bound.ensures c.requires.small)

pub add-requires : goal.add-requires
add-requires c =
    let b = c.least_at-bound.result in
    let fb : FitsSigned w64 b = search rules in
    let d = domain_at (map intervals c.args.domains.now) c.args.subject in
    let p = c.product-part.result in
    let fp : FitsSigned w64 p = search rules in
    subst (λ (x : ℤ). unsigned_abs (c.args.self.now.base +ℤ x) < 2 ^ 62) (sym (to_z-of_z w64 p fp))
    (held-small c.args.self.now.base p c.args.weight _ d b c.least_at-bound.ensures c.requires.base (c.product-part.ensures.size ∙ ap (λ (x : ℤ). c.args.weight * unsigned_abs x) (to_z-of_z w64 b fb)) c.requires.small)
