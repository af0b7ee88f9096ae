-- The single imports that an iterator has left.
use Rattle.std.specs.Prelude.{ℕ, List, [], ◌++◌, map, Option, Some, None, String}
use Rattle.std.specs.Borrow.{Bor}
use Rattle.std.specs.declared.alloc.Global.{Global}
use Rattle.wc_names.specs.declared.imports.Import.{Import}
use Rattle.wc_names.specs.Views.{ImportView, import_view}
use Rattle.wc_validate.specs.declared.imports.iter.Imports.{Imports}
use Rattle.wc_validate.specs.Imports.Map.{imports_in}
use Rattle.wc_validate.specs.Imports.Instances.{import_entry, instance_entry}

-- an import by its module and its name
abbrev pub import_shown : Bor (List ℕ) × Bor (List ℕ) × Bor Import → List ℕ × (List ℕ × ImportView)
import_shown x = (x.0.now, (x.1.now, import_view x.2.now))

-- the imports that are left of one module
abbrev pub names_left : List ℕ → Option (List (String Global × Import)) → List (List ℕ × (List ℕ × ImportView))
names_left m None = []
names_left m (Some names) = map (λ (x : List ℕ × ImportView). (m, x)) (map import_entry names)

-- the imports that are left of the module that is gone through, and then those of the modules after it
abbrev pub imports_left : Imports → List (List ℕ × (List ℕ × ImportView))
imports_left s = names_left s.module_name.now s.names ++ imports_in (map instance_entry s.modules)
