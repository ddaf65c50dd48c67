use Rattle.std.specs.Prelude.{◌↔◌}
use Rattle.std.proofs.Common.{ℕ, ◌<◌, pos, [], ◌∷◌, arith}
use Rattle.std.proofs.lemmas.List.Elements.{All-nil, All-cons, All-head}
use Rattle.cps_literal.specs.declared.atom.Atom.{Atom}
use Rattle.cps_literal.specs.declared.atom.Op.TheVariants.{Ge}
use Rattle.cps_log.specs.Subjects.{IsAtomOver, IsClauseOver}
use Rattle.cps_search.proofs.log_items.is_subject.Goals as goal

at_least : ℕ → Atom
at_least subject = record { subject = subject; op = Ge; value = pos 0 }

is_over : (n subject : ℕ) → IsClauseOver n (at_least subject ∷ []) ↔ (subject < n)
unfolding at_least
is_over n subject = (
  λ over. let own = (All-head (IsAtomOver n) (at_least subject) [] over).subject in omega arith,
  λ below. All-cons (IsAtomOver n) (at_least subject) [] (record { subject = omega arith; near = omega arith }) (All-nil (IsAtomOver n)),
)

pub returns : goal.returns
unfolding at_least
returns c =
    let over = is_over _ c.args.subject in
    (λ yes. over.0 (c.is_over.ensures.0 yes), λ below. c.is_over.ensures.1 (over.1 below))
