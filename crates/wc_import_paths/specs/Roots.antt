-- The exports at which paths may begin.
use Rattle.std.specs.Prelude.{ℕ, List, [], ◌∷◌, Option}
use Rattle.std.specs.List.{find, flat_map}
use Rattle.std.specs.Option.{option_to_list}
use Rattle.std.specs.Str.{bytes_eq}
use Rattle.wc_read.specs.Exports.{ExportValue}

-- the export of a name
abbrev pub export_named : List ExportValue → List ℕ → Option ExportValue
export_named exports name = find (λ (e : ExportValue). bytes_eq name e.name) exports

-- the exports of some names, in their order
abbrev pub exports_named : List ExportValue → List (List ℕ) → List ExportValue
exports_named exports names = flat_map (λ name. option_to_list (export_named exports name)) names

-- the exports at which paths may begin: those of these names; all, where there are none
abbrev pub exports_for : List (List ℕ) → List ExportValue → List ExportValue
exports_for [] exports = exports
exports_for (name ∷ names) exports = exports_named exports (name ∷ names)
