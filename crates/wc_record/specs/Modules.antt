-- What is recorded of a core module, as JSON.
use Rattle.std.specs.Prelude.{ℕ, List, [], ◌∷◌, map, codes}
use Rattle.json.specs.Json.{Json, string}
use Rattle.wc_names.specs.ExportViews.{ExportView}
use Rattle.wc_names.specs.Views.{ImportView}
use Rattle.wc_validate.specs.Imports.Entries.{InstanceRecord, all_of, names_of}
use Rattle.wc_validate.specs.Validate.{ModuleRecord}
use Rattle.wc_record.specs.Exports.{export_json}
use Rattle.wc_record.specs.Imports.{import_json}
use Rattle.wc_record.specs.Libraries.{which_json}
use Rattle.wc_texts.specs.Shapes.{array_of, object_of}
use Rattle.wc_record.specs.Objects.{object_of_kind}

-- an import, and an export, under its name

abbrev pub import_entry_json : List ℕ × ImportView → Json
import_entry_json e = object_of ((codes "name", string e.0) ∷ (codes "import", import_json e.1) ∷ [])

abbrev pub export_entry_json : List ℕ × ExportView → Json
export_entry_json e = object_of ((codes "name", string e.0) ∷ (codes "export", export_json e.1) ∷ [])

-- what is imported from a module: another module of the component, all of it; or single imports by their names
abbrev pub import_instance_json : InstanceRecord → Json
import_instance_json (all_of which) = object_of_kind (codes "whole") ((codes "which", which_json which) ∷ [])
import_instance_json (names_of names) = object_of_kind (codes "names") ((codes "names", array_of (map import_entry_json names)) ∷ [])

abbrev pub instance_entry_json : List ℕ × InstanceRecord → Json
instance_entry_json e = object_of ((codes "module", string e.0) ∷ (codes "instance", import_instance_json e.1) ∷ [])

abbrev pub module_json : ModuleRecord → Json
module_json m =
    object_of (
    (codes "imports", array_of (map instance_entry_json m.imports)) ∷ (codes "exports", array_of (map export_entry_json m.exports)) ∷ []
    )
