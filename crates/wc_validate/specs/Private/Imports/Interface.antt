-- Interfaces that texts are looked up among, as the code has them.
use Rattle.std.specs.Prelude.{ℕ, List, map, Option, Result}
use Rattle.wc_resolve.specs.Views.{key_view, world_entry}
use Rattle.wc_adapters.specs.Entries.{Entries}
use Rattle.wc_names.specs.Interfaces.{FoundInterface, InterfaceTexts, NamesInterface}
use Rattle.wc_names.specs.Mangling.{Scheme}
use Rattle.wc_validate.specs.declared.imports.interface.FoundInterface.{FoundInterface as CodeInterface}
use Rattle.wc_validate.specs.declared.imports.interface.InterfaceLookup.{InterfaceLookup}
use Rattle.wc_validate.specs.NameScope.{IsIndexFor, name_scope_of}
use Rattle.wc_names.specs.Finds.{Finds}
use Rattle.wc_names.specs.declared.imports.Import.{Import}
use Rattle.wc_validate.specs.declared.imports.items.ImportedFunction.{ImportedFunction}
use Rattle.wc_validate.specs.Private.Imports.Functions.{IsDecidedInExport, IsDecidedInImport}
use Rattle.wc_validate.specs.declared.names.Names.{Names}
use Rattle.wc_validate.specs.Private.Imports.Kinds.{NamesExport, NamesImport}
use Rattle.wc_validate.specs.declared.name_fault.NameFault.{NameFault}
use Rattle.std.specs.Option.{option_map}

-- what the world imports, or what it exports
abbrev pub interface_entries : InterfaceLookup → Entries
interface_entries l = map world_entry l.items.now.entries

-- an index, if there is one, is that of these interfaces
abbrev pub IsIndexed : InterfaceTexts → InterfaceLookup → Type 0
IsIndexed texts l = IsIndexFor texts l.resolve.now (interface_entries l) l.index.now

-- a text is about an interface of these
abbrev pub NamesAmong : Scheme → InterfaceLookup → List ℕ → FoundInterface → Type 0
NamesAmong s l text found = NamesInterface s l.resolve.now (interface_entries l) text found

-- an interface that is found
abbrev pub found_view : CodeInterface → FoundInterface
found_view found = (key_view found.key, found.id.0)

-- the answer of a look-up
abbrev pub IsFoundBy : Scheme → InterfaceLookup → List ℕ → Option CodeInterface → Type 0
IsFoundBy s l text found = Finds (option_map found_view found) (NamesAmong s l text)

-- a function of an interface that is imported, or exported, and is found, whichever text is about it
abbrev pub IsDecidedAsImport : Scheme → Names → CodeInterface → ImportedFunction → Result Import NameFault → Type 0
IsDecidedAsImport s n found f result =
    (text : List ℕ) → NamesImport s (name_scope_of n) text (found_view found) → IsDecidedInImport s (name_scope_of n) text f result

abbrev pub IsDecidedAsExport : Scheme → Names → CodeInterface → ImportedFunction → Result Import NameFault → Type 0
IsDecidedAsExport s n found f result =
    (text : List ℕ) → NamesExport s (name_scope_of n) text (found_view found) → IsDecidedInExport s (name_scope_of n) text f result
