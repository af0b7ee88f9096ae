-- The interface of an import, where no world says it: the name of the module that it is from.
use Rattle.std.specs.Prelude.{ℕ, Bool, List, cond, Option, Some, None}
use Rattle.wc_read.specs.Imports.{ImportValue}

-- if the import belongs to no module of the component
abbrev pub tag_if : Bool → ImportValue → Option (List ℕ)
tag_if is_one i = cond is_one (Some i.module_name) None
