-- An objective that is read has an offset and a scaling factor that can be shown.
use Rattle.std.specs.Prelude.{Option, Some, None, int_le, unsigned_abs, codes}
use Rattle.std.specs.Option.{option_to_list}
use Rattle.std.proofs.Common.{◌≡◌, ◌^◌, ◌≤◌, List, [], ◌∷◌, arith, true, ℤ, pos, negsuc, refl, sym, subst}
use Rattle.std.proofs.lemmas.Int.{ints}
use Rattle.cps_model.specs.declared.model.CpModel.{CpModel}
use Rattle.cps_model.specs.declared.model.Objective.{Objective}
use Rattle.cps_model.proofs.Tests.{and_true}
use Rattle.cps_schema.specs.declared.number.Number.TheVariants.{Exact}
use Rattle.cps_schema.specs.Written.{Written}
use Rattle.cps_schema.specs.Numbers.{fits}
use Rattle.cps_schema.specs.Tables.{use_of, model_message, objective_message}
use Rattle.cps_schema.specs.Faults.{fields_fault}
use Rattle.cps_schema.specs.Readings.{first_of, messages, read_objective, read_model, ReadsAs}
use Rattle.cps_textproto.specs.Trees.{Tree}
use Rattle.cps_print.specs.Responses.{HasShowableLimits}
use Rattle.cps_print.proofs.Readable.{Each, IsReadableObjective, each_map, messages_sound, objective_readable}

-- a number that fits is small
small_of : (z : ℤ) → fits Exact z ≡ true → unsigned_abs z ≤ 2 ^ 53
unfolding fits
small_of z e =
    let both = and_true (int_le (negsuc 9007199254740991) z) (int_le z (pos 9007199254740992)) e in
    let low = both.0 in
    let high = both.1 in
    grind (arith, ints)

readable_showable : (o : Option Objective) → Each IsReadableObjective (option_to_list o) → HasShowableLimits o
readable_showable None r = tt
readable_showable (Some o) r = record { offset = small_of o.offset r.0.offset; scaling = small_of o.scaling r.0.scaling }

first_readable : (os : List Objective) → Each IsReadableObjective os → Each IsReadableObjective (option_to_list (first_of os))
first_readable [] e = tt
first_readable (o ∷ os) e = (e.0, tt)

objective_of : (w : Written) (t : Tree) → fields_fault w model_message [] t ≡ None → Each IsReadableObjective (option_to_list (read_model w t).objective)
unfolding use_of
objective_of w t e =
    let objectives = messages_sound w model_message [] (codes "objective") objective_message t refl e in
    first_readable _ (each_map (λ t. fields_fault w objective_message [] t ≡ None) IsReadableObjective (read_objective w) (objective_readable w) (messages w (codes "objective") t) objectives)

pub showable : (w : Written) (tree : Tree) (m : CpModel) → ReadsAs w tree m → HasShowableLimits m.objective
showable w tree m r =
    readable_showable m.objective
    (subst (λ (n : CpModel). Each IsReadableObjective (option_to_list n.objective)) (sym r.reading) (objective_of w tree r.accepted))
