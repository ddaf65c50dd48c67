-- The bodies of elements and tables.
use Rattle.std.specs.Prelude.{ℕ, ℤ, Bool, true, false, List}
use Rattle.cps_instance.specs.declared.task.Body.{Body}
use Rattle.cps_instance.specs.declared.task.Body.TheVariants.{Element, Table}

-- whether a body asks for an element, or for a table
abbrev pub is_element : Body → Bool
is_element (Element index target exprs) = true
is_element _ = false

abbrev pub is_table : Body → Bool
is_table (Table exprs values negated) = true
is_table _ = false

-- the body of these parts
abbrev pub element_of : ℕ → ℕ → List ℕ → Body
element_of index target exprs = Element index target exprs

abbrev pub table_of : List ℕ → List ℤ → Bool → Body
table_of exprs values negated = Table exprs values negated
