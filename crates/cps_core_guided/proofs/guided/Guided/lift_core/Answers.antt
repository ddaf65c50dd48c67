use Rattle.std.proofs.Common.{◌≡◌, ◌∙◌, ◌<◌, ◌≤◌, ◌^◌, ℕ, ℤ, ◌+ℤ◌, ◌≤ℤ◌, pos, List, ap, arith, length, of_z, refl, subst, sym, to_z, unsigned_abs, w64, FitsSigned}
use Rattle.std.proofs.lemmas.Int.{ints}
use Rattle.cps_literal.specs.declared.atom.Atom.{Atom}
use Rattle.cps_literal.specs.Truth.{value_at}
use Rattle.cps_instance.specs.declared.term.Term.{Term}
use Rattle.cps_trail.specs.Trail.{IsFalseNow, IsSoundTrail, Trail}
use Rattle.cps_search.proofs.Results.{if_ok_weaker}
use Rattle.cps_reform.specs.declared.held.Held.{Held}
use Rattle.cps_reform.specs.Cores.{core_terms}
use Rattle.cps_reform.specs.Floors.{OfEachBelow}
use Rattle.cps_reform.specs.Forms.{Form, lifted, term_at}
use Rattle.cps_reform.proofs.Rooms.{bound-small}
use Rattle.cps_core_guided.specs.Guiding.{SplitsCore, Tried, core_search_of}
use Rattle.cps_core_guided.specs.Reforming.{CoreSearch, ReformsTo, alone}
use Rattle.cps_core_guided.proofs.CoreLaw.{core-has-failed, core-some, core-weighs, in-core, risen-alone}
use Rattle.cps_core_guided.proofs.Lifts.{lift-same, marked-sound, one_more, tried-lifted, tried-split, works-form}
use Rattle.cps_core_guided.proofs.Reforms.{base-rises, read_back}
use Rattle.cps_core_guided.proofs.guided.Guided.lift_core.Goals as goal

fits_one : (v : ℤ) → unsigned_abs v < 2 ^ 62 → FitsSigned w64 (v +ℤ pos 1)
fits_one v small = omega (arith, ints)

pub overflow_add-atom : goal.overflow_add-atom
overflow_add-atom g c =
    let s = core_search_of c.args.self.now in
    let value : c.args.atom.value ≡ (term_at s.form.terms c.args.place).bound = ap (λ (t : Atom). t.value) c.requires.atom in
    let small : unsigned_abs c.args.atom.value < 2 ^ 62 = subst (λ (v : ℤ). unsigned_abs v < 2 ^ 62) (sym value) (bound-small s.search.instance.domains s.form c.args.place c.requires.works.sound.form.roomy c.requires.failed.within) in
    subst (λ (x : ℤ). FitsSigned w64 (x +ℤ pos 1)) (sym (read_back c.args.atom.value small)) (fits_one c.args.atom.value small)

pub lift-requires-clause-sound : goal.lift-requires-clause-sound
lift-requires-clause-sound g c =
    let s = core_search_of c.args.self.now in
    marked-sound s c.mark_core.new.self c.args.place c.args.decisions.now c.requires.works.sound c.requires.failed.bottom (subst (λ (x : Trail). IsSoundTrail x) c.store.ensures c.entries.ensures.sound) c.mark_core.ensures

pub lift-requires-clause-rises : goal.lift-requires-clause-rises
lift-requires-clause-rises g c =
    let s = core_search_of c.args.self.now in
    let f : Form = c.mark_core.new.self in
    let value : c.args.atom.value ≡ (term_at s.form.terms c.args.place).bound = ap (λ (t : Atom). t.value) c.requires.atom in
    let small : unsigned_abs c.args.atom.value < 2 ^ 62 = subst (λ (v : ℤ). unsigned_abs v < 2 ^ 62) (sym value) (bound-small s.search.instance.domains s.form c.args.place c.requires.works.sound.form.roomy c.requires.failed.within) in
    let same : (term_at f.terms c.args.place).bound ≡ (term_at s.form.terms c.args.place).bound = ap (λ (t : Held). t.bound) (c.mark_core.ensures.terms.same c.args.place c.requires.failed.within) in
    subst (λ (x : ℤ). (term_at f.terms c.args.place).bound ≤ℤ x) (sym (one_more c.args.atom.value small)) (omega (arith, ints, value, same))

pub lift-requires-clause-risen : goal.lift-requires-clause-risen
lift-requires-clause-risen g c =
    let s = core_search_of c.args.self.now in
    let f : Form = c.mark_core.new.self in
    let i = c.args.place in
    let value : c.args.atom.value ≡ (term_at s.form.terms i).bound = ap (λ (t : Atom). t.value) c.requires.atom in
    let small : unsigned_abs c.args.atom.value < 2 ^ 62 = subst (λ (v : ℤ). unsigned_abs v < 2 ^ 62) (sym value) (bound-small s.search.instance.domains s.form i c.requires.works.sound.form.roomy c.requires.failed.within) in
    let same : (term_at f.terms i).bound ≡ (term_at s.form.terms i).bound = ap (λ (t : Held). t.bound) (c.mark_core.ensures.terms.same i c.requires.failed.within) in
    let bound : to_z w64 (of_z w64 (to_z w64 (of_z w64 c.args.atom.value) +ℤ pos 1)) ≡ (term_at f.terms i).bound +ℤ pos 1 = one_more c.args.atom.value small ∙ ap (λ (x : ℤ). x +ℤ pos 1) (value ∙ sym same) in
    let count : length c.in_ok-core.core.items ≡ c.len.result = omega (arith, c.len.ensures, c.in_ok-core.core.ok.0) in
    let one : length (core_terms f.terms) ≡ 1 = ap (λ (ts : List Term). length ts) (sym c.in_ok-core.ensures) ∙ count ∙ c.if-len-eq1.true in
    subst (λ (b : ℤ). OfEachBelow s.search.instance s.search.z (λ xs. b ≤ℤ value_at xs (term_at f.terms i).subject)) (sym bound) (risen-alone s f i c.args.decisions.now c.requires.works.sound.search c.requires.failed c.mark_core.ensures one)

pub returns-then-len-eq1-clause-tried : goal.returns-then-len-eq1-clause-tried
returns-then-len-eq1-clause-tried g c =
    let s = core_search_of c.args.self.now in
    let t = core_search_of c.lift.new.self in
    let f : Form = c.mark_core.new.self in
    let i = c.args.place in
    let decisions = c.args.decisions.now in
    let failed = c.requires.failed in
    let b = to_z w64 (of_z w64 (to_z w64 (of_z w64 c.args.atom.value) +ℤ pos 1)) in
    let value : c.args.atom.value ≡ (term_at s.form.terms i).bound = ap (λ (u : Atom). u.value) c.requires.atom in
    let small : unsigned_abs c.args.atom.value < 2 ^ 62 = subst (λ (v : ℤ). unsigned_abs v < 2 ^ 62) (sym value) (bound-small s.search.instance.domains s.form i c.requires.works.sound.form.roomy failed.within) in
    let bound : b ≡ (term_at s.form.terms i).bound +ℤ pos 1 = one_more c.args.atom.value small ∙ ap (λ (x : ℤ). x +ℤ pos 1) value in
    let term = c.mark_core.ensures.terms.same i failed.within in
    let same : (term_at f.terms i).bound ≡ (term_at s.form.terms i).bound = ap (λ (u : Held). u.bound) term in
    let weight : (term_at f.terms i).weight ≡ (term_at s.form.terms i).weight = ap (λ (u : Held). u.weight) term in
    let base = c.mark_core.ensures.base in
    let weighs = failed.weighs in
    let up = base-rises f i b (omega (arith, weight, weighs)) (omega (arith, ints, bound, same)) in
    let count : length c.in_ok-core.core.items ≡ c.len.result = omega (arith, c.len.ensures, c.in_ok-core.core.ok.0) in
    let one : length (core_terms f.terms) ≡ 1 = ap (λ (ts : List Term). length ts) (sym c.in_ok-core.ensures) ∙ count ∙ c.if-len-eq1.true in
    let not_false = subst (λ (u : Atom). IsFalseNow s.search.store u → ⊥) c.requires.atom c.requires.not_false in
    tried-lifted s t f i b decisions c.lift.result failed
    (subst (λ (x : ℤ). ReformsTo s.search.store s.search.instance s.form i decisions s.search.instance (lifted f i x) 0) (sym bound) (alone f not_false c.mark_core.ensures one))
    (omega (arith, ints, up, base)) c.lift.ensures.lifts c.lift.ensures.stays c.lift.ensures.not_past c.lift.ensures.past c.lift.ensures.none

pub returns-then-len-eq1-clause-works : goal.returns-then-len-eq1-clause-works
returns-then-len-eq1-clause-works g c =
    let s = core_search_of c.args.self.now in
    let n = c.lift.new.self in
    let t = core_search_of c.lift.new.self in
    let f : Form = c.mark_core.new.self in
    let old = c.args.self.now in
    let b = to_z w64 (of_z w64 (to_z w64 (of_z w64 c.args.atom.value) +ℤ pos 1)) in
    let w = c.requires.works in
    let k = c.lift.ensures.kept in
    let same : t ≡ record s { form = t.form } = lift-same s t (lifted f c.args.place b) f c.lift.result c.lift.ensures.lifts c.lift.ensures.stays in
    let trail : t.search.store ≡ s.search.store = ap (λ (x : CoreSearch). x.search.store) same in
    works-form s t (g.B.Brancher.scope old.brancher) (g.B.Brancher.scope n.brancher) (g.B.Brancher.agrees old.brancher s.search.store) (g.B.Brancher.agrees n.brancher t.search.store) old.kept n.kept w c.lift.ensures.sound same
    (ap (λ (x : _). g.B.Brancher.scope x) k.0) k.1
    (subst (λ (x : _). g.B.Brancher.agrees x t.search.store n.kept) (sym k.0) (subst (λ (x : Trail). g.B.Brancher.agrees old.brancher x n.kept) (sym trail) (subst (λ (m : ℕ). g.B.Brancher.agrees old.brancher s.search.store m) (sym k.1) w.agreed)))

pub split-requires-clause-works : goal.split-requires-clause-works
split-requires-clause-works g c =
    let s = core_search_of c.args.self.now in
    let f : Form = c.mark_core.new.self in
    let old = c.args.self.now in
    let scope = g.B.Brancher.scope old.brancher in
    let agrees = g.B.Brancher.agrees old.brancher s.search.store in
    let sound = marked-sound s f c.args.place c.args.decisions.now c.requires.works.sound c.requires.failed.bottom (subst (λ (x : Trail). IsSoundTrail x) c.store.ensures c.entries.ensures.sound) c.mark_core.ensures in
    works-form s (record s { form = f }) scope scope agrees agrees old.kept old.kept c.requires.works sound refl refl refl c.requires.works.agreed

pub split-requires-clause-weights : goal.split-requires-clause-weights
split-requires-clause-weights g c = core-weighs (core_search_of c.args.self.now) c.mark_core.new.self c.args.place c.args.decisions.now c.requires.works.sound.search c.requires.failed c.mark_core.ensures

pub split-requires-clause-above : goal.split-requires-clause-above
split-requires-clause-above g c = core-some (core_search_of c.args.self.now) c.mark_core.new.self c.args.place c.args.decisions.now c.requires.works.sound.search c.requires.failed c.mark_core.ensures

pub returns-clause-tried : goal.returns-clause-tried
returns-clause-tried g c =
    let s = core_search_of c.args.self.now in
    let t = core_search_of c.split.new.self in
    let f : Form = c.mark_core.new.self in
    let i = c.args.place in
    let decisions = c.args.decisions.now in
    let failed = c.requires.failed in
    let m = c.mark_core.ensures in
    let within = failed.within in
    let longer = m.terms.same_length in
    let some = in-core f.terms i (omega (arith, within, longer)) (core-has-failed s f i decisions c.requires.works.sound.search failed m) in
    let count : length c.in_ok-core.core.items ≡ c.len.result = omega (arith, c.len.ensures, c.in_ok-core.core.ok.0) in
    let size : length (core_terms f.terms) ≡ c.len.result = ap (λ (ts : List Term). length ts) (sym c.in_ok-core.ensures) ∙ count in
    let several_terms : 2 ≤ length (core_terms f.terms) = omega (arith, some, size, c.if-len-eq1.false) in
    let not_false = subst (λ (u : Atom). IsFalseNow s.search.store u → ⊥) c.requires.atom c.requires.not_false in
    if_ok_weaker c.split.result (SplitsCore (record s { form = f }) t) (Tried s t i decisions) (λ done sp. tried-split s t f i decisions done failed not_false m several_terms (core-weighs s f i decisions c.requires.works.sound.search failed m) sp) c.split.ensures.splits
