-- The numbers under which rules are published. The definitions of validity name a rule by its number.
use Rattle.std.specs.Prelude.{ℕ}
use Rattle.cps_model.specs.declared.place.Place.{Place}
use Rattle.cps_validate.specs.declared.rule.Rule.{Rule}
use Rattle.cps_validate.specs.declared.rule.Rule.TheVariants.{IllFormedDomain, FarBound, UnknownVariable, NotBoolean, UnequalLists, FarSum, IllFormedLinearDomain, ZeroDivisor, LowModulus, FarProduct, NegativeDemand, UnknownInterval, WrongOperands, ValuesWithoutColumns, WrongNodes, IllFormedObjectiveDomain, WrongHint, TooLarge, ZeroRefused}

abbrev pub number_of : Rule → ℕ
number_of IllFormedDomain = 1
number_of FarBound = 2
number_of UnknownVariable = 3
number_of NotBoolean = 4
number_of UnequalLists = 5
number_of FarSum = 6
number_of IllFormedLinearDomain = 7
number_of ZeroDivisor = 8
number_of LowModulus = 9
number_of FarProduct = 10
number_of NegativeDemand = 11
number_of UnknownInterval = 12
number_of WrongOperands = 13
number_of ValuesWithoutColumns = 14
number_of WrongNodes = 15
number_of IllFormedObjectiveDomain = 16
number_of WrongHint = 17
number_of TooLarge = 18
number_of ZeroRefused = 19

-- a rule and the place where it is broken, by the rule's number
abbrev pub with_number : Rule × Place → ℕ × Place
with_number broken = (number_of broken.0, broken.1)
