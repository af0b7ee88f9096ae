-- Texts, and names of functions.
use Rattle.std.specs.Prelude.{ℕ, ◌^◌, List, nat_eq, nat_lt, cond, Option, None}
use Rattle.std.specs.Borrow.{Bor}
use Rattle.std.specs.Map.{lookup}
use Rattle.wc_read.specs.Names.{GlobalNameValue}
use Rattle.wc_read.specs.declared.operators.Space.TheVariants.{Funcs}
use Rattle.wc_paths.specs.declared.items.PathItem.{PathItem}
use Rattle.wc_paths.specs.declared.items.PathItem.TheVariants.{Item, Elements, Data}

abbrev pub text_of : Bor (List ℕ) → List ℕ
text_of t = t.now

-- the name of a function by its index; an index past 32 bits has none
abbrev pub name_at : List GlobalNameValue → ℕ → Option (List ℕ)
name_at names n = cond (nat_lt n (2 ^ 32)) (lookup (nat_eq n) names) None

-- the name of an item that is a function
abbrev pub name_of : List GlobalNameValue → PathItem → Option (List ℕ)
name_of names (Item Funcs n) = name_at names n
name_of names (Item space n) = None
name_of names (Elements n) = None
name_of names (Data n) = None
