-- What is left of a body, by the items that it names.
use Rattle.std.specs.Prelude.{◌≡◌, ◌++◌, Bool, true, false, List, Option, Some, None}
use Rattle.std.specs.Option.{option_map}
use Rattle.wc_read.specs.BodyOperators.{operators_left}
use Rattle.wc_read.specs.declared.body_operators.Operators.{Operators}
use Rattle.wc_paths.specs.Items.{code_items}
use Rattle.wc_paths.specs.declared.items.PathItem.{PathItem}

-- the items that the operators name that are left; None where what is left is not the end of a body
abbrev pub items_left : Operators → Option (List PathItem)
items_left o = option_map code_items (operators_left o)

-- these items were appended; or some, where there are none
abbrev pub ArePut : List PathItem → List PathItem → Option (List PathItem) → Bool → Type 0
ArePut old new (Some items) is_code = (new ≡ old ++ items) × (is_code ≡ true)
ArePut old new None is_code = ((more : List PathItem) × (new ≡ old ++ more)) × (is_code ≡ false)
