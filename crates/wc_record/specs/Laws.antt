-- The laws of what is written, as the functions of `laws` state them: `wc_json` reads it back.
use Rattle.std.specs.Prelude.{◌≡◌, ℕ, List, Ok, IsSomeAnd}
use Rattle.json.specs.Json.{document}
use Rattle.json.specs.Strict.{HasUniqueKeys}
use Rattle.wc_adapters.specs.Adapters.{InstanceView, LibraryItemView, LibraryView, WhichView}
use Rattle.wc_json.specs.Libraries.{argument, export_kind, instance, library, library_item, which}
use Rattle.wc_read.specs.declared.exports.ExportKind.{ExportKind}
use Rattle.wc_record.specs.CoreTypes.{export_kind_json}
use Rattle.wc_record.specs.Libraries.{argument_json, instance_json, library_item_json, library_json, which_json}
use Rattle.wc_record.specs.Texts.{text_of}

-- how a library is instantiated
abbrev pub LibrariesReadBack : Type 0
LibrariesReadBack = (l : LibraryView) → library (library_json l) ≡ Ok l

-- and its parts: what it gets under the name of a module, the module or the items that this is, the module of an item, and
-- kinds of exports

abbrev pub ArgumentsReadBack : Type 0
ArgumentsReadBack = (a : List ℕ × InstanceView) → argument (argument_json a) ≡ Ok a

abbrev pub InstancesReadBack : Type 0
InstancesReadBack = (i : InstanceView) → instance (instance_json i) ≡ Ok i

abbrev pub ItemsReadBack : Type 0
ItemsReadBack = (i : LibraryItemView) → library_item (library_item_json i) ≡ Ok i

abbrev pub ExportersReadBack : Type 0
ExportersReadBack = (w : WhichView) → which (which_json w) ≡ Ok w

abbrev pub KindsReadBack : Type 0
KindsReadBack = (k : ExportKind) → export_kind (export_kind_json k) ≡ Ok k

-- a library as a text: the text is JSON, no object in it repeats a member, and its value is read as the library
abbrev pub LibraryTextsReadBack : Type 0
LibraryTextsReadBack = (l : LibraryView) → IsSomeAnd (document (text_of (library_json l))) (λ j. HasUniqueKeys j × (library j ≡ Ok l))
