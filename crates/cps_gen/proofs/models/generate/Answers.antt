-- What each family's function answers is the stated model, and so valid.
use Rattle.std.specs.Prelude.{IfOk, IsTrue}
use Rattle.std.specs.List.{All}
use Rattle.std.proofs.Common.{◌≡◌, Result, Ok, Err, subst, sym}
use Rattle.cps_model.specs.declared.model.CpModel.{CpModel}
use Rattle.cps_model.specs.Validity.{IsValid}
use Rattle.cps_gen.specs.Draws.{draws_of}
use Rattle.cps_gen.specs.Generated.{generated, is_generated}
use Rattle.cps_gen.specs.Knapsack.{knapsack}
use Rattle.cps_gen.specs.Jobshop.{jobshop}
use Rattle.cps_gen.specs.Tour.{tour}
use Rattle.cps_gen.proofs.Generated.{generated_knapsack, generated_jobshop, generated_tour, generated_valid, generated_told}
use Rattle.cps_gen.proofs.models.generate.Goals as goal

-- a model that is the one of its family is that of the family, the size and the seed
stated : {E : Type 0} (r : Result CpModel E) (x m : CpModel) → x ≡ m → IfOk r (λ k. k ≡ x) → IfOk r (λ k. k ≡ m)
stated (Ok k) x m same e = subst (λ y. k ≡ y) same e
stated (Err f) x m same e = e

-- and has what that has
has : {E : Type 0} (r : Result CpModel E) (m : CpModel) (P : CpModel → Type 0) → P m → IfOk r (λ k. k ≡ m) → IfOk r P
has (Ok k) m P p e = subst P (sym e) p
has (Err f) m P p e = e

pub returns-in-Knapsack-clause-stated : goal.returns-in-Knapsack-clause-stated
returns-in-Knapsack-clause-stated c =
    stated c.knapsack.result (knapsack (draws_of c.args.seed 1) c.args.size) (generated c.args.family c.args.size c.args.seed)
    (generated_knapsack c.args.family c.args.size c.args.seed c.in-Knapsack.is) c.knapsack.ensures

pub returns-in-Knapsack-clause-valid : goal.returns-in-Knapsack-clause-valid
returns-in-Knapsack-clause-valid c =
    has c.knapsack.result (generated c.args.family c.args.size c.args.seed) IsValid (generated_valid c.args.family c.args.size c.args.seed c.requires.range)
    (returns-in-Knapsack-clause-stated c)

pub returns-in-Jobshop-clause-stated : goal.returns-in-Jobshop-clause-stated
returns-in-Jobshop-clause-stated c =
    stated c.jobshop.result (jobshop (draws_of c.args.seed 2) c.args.size) (generated c.args.family c.args.size c.args.seed)
    (generated_jobshop c.args.family c.args.size c.args.seed c.in-Jobshop.is) c.jobshop.ensures

pub returns-in-Jobshop-clause-valid : goal.returns-in-Jobshop-clause-valid
returns-in-Jobshop-clause-valid c =
    has c.jobshop.result (generated c.args.family c.args.size c.args.seed) IsValid (generated_valid c.args.family c.args.size c.args.seed c.requires.range)
    (returns-in-Jobshop-clause-stated c)

pub returns-in-Jobshop-clause-kinds : goal.returns-in-Jobshop-clause-kinds
returns-in-Jobshop-clause-kinds c =
    has c.jobshop.result (generated c.args.family c.args.size c.args.seed) (λ m. All (λ k. IsTrue (is_generated k.kind)) m.constraints)
    (generated_told c.args.family c.args.size c.args.seed c.requires.range) (returns-in-Jobshop-clause-stated c)

pub returns-in-Tour-clause-stated : goal.returns-in-Tour-clause-stated
returns-in-Tour-clause-stated c =
    stated c.tour.result (tour (draws_of c.args.seed 3) c.args.size) (generated c.args.family c.args.size c.args.seed)
    (generated_tour c.args.family c.args.size c.args.seed c.in-Tour.is) c.tour.ensures

pub returns-in-Tour-clause-valid : goal.returns-in-Tour-clause-valid
returns-in-Tour-clause-valid c =
    has c.tour.result (generated c.args.family c.args.size c.args.seed) IsValid (generated_valid c.args.family c.args.size c.args.seed c.requires.range)
    (returns-in-Tour-clause-stated c)
