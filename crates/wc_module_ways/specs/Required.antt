-- What is required of an adapter where no world says it, and which adapters a component needs.
use Rattle.std.specs.Prelude.{ℕ, List, ◌++◌, Bool, ◌||◌, not}
use Rattle.std.specs.List.{list_any}
use Rattle.wc_read.specs.Exports.{ExportValue}
use Rattle.wc_read.specs.Modules.{ModuleValue}
use Rattle.wc_gc.specs.Found.{is_empty}
use Rattle.wc_texts.specs.Names.{first_occurrences}
use Rattle.wc_module_ways.specs.ComponentExports.{component_exports, has_hash}

-- the exports that an adapter has to have whatever the main module imports: those that a component may need, and those that are asked for
abbrev pub always_names : ModuleValue → List (List ℕ) → List (List ℕ)
always_names m asked = component_exports m ++ asked

-- the exports that are required of an adapter: the functions of these names, which the main module imports; and the exports that it has to
-- have whatever the main module imports; each once, in this order
abbrev pub required_names : List (List ℕ) → ModuleValue → List (List ℕ) → List (List ℕ)
required_names imported m asked = first_occurrences (imported ++ always_names m asked)

-- a component needs an adapter: the main module imports a function of it, an export of it is asked for, or it exports a function
-- of an interface
abbrev pub has_interface_export : List ExportValue → Bool
has_interface_export exports = list_any (λ (e : ExportValue). has_hash e.name) exports

abbrev pub is_needed : List (List ℕ) → ModuleValue → List (List ℕ) → Bool
is_needed imported m asked = not (is_empty imported) || (not (is_empty asked) || has_interface_export m.exports)
