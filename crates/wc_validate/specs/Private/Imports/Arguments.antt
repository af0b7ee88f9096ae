-- What a library is passed, by indices.
use Rattle.std.specs.Prelude.{◌≡◌, ℕ, List, map, Option, Some, None, ◌++◌, ◌∷◌, [], OnOk, Result}
use Rattle.std.specs.Borrow.{Bor}
use Rattle.std.specs.Map.{lookup}
use Rattle.std.specs.Option.{option_and_then, option_map}
use Rattle.std.specs.Str.{bytes_eq}
use Rattle.wc_adapters.specs.declared.adapters.Item.{Item}
use Rattle.wc_adapters.specs.Adapters.{InstanceView, LibraryView, LibraryItemView, which_view, library_item_view, instance_view}
use Rattle.wc_validate.specs.declared.imports.arguments.Argument.{Argument}
use Rattle.wc_validate.specs.declared.imports.arguments.Argument.TheVariants.{Whole, Items}
use Rattle.wc_validate.specs.declared.imports.arguments.Arguments.{Arguments}
use Rattle.wc_validate.specs.declared.imports.arguments.PassedArgument.{PassedArgument}
use Rattle.wc_validate.specs.declared.imports.arguments.PassedArgument.TheVariants as passed_argument
use Rattle.wc_validate.specs.Imports.Entries.{Entry, whole}
use Rattle.wc_validate.specs.Imports.Record.{item_entry, argument_entry, library_entry, alias_entry}
use Rattle.wc_adapters.specs.declared.adapters.Instance.{Instance}

-- texts are found among these entries as among those
abbrev pub IsIndexOf : {X : Type 0} → List (List ℕ × X) → List (List ℕ × X) → Type 0
IsIndexOf index entries = (name : List ℕ) → lookup (bytes_eq name) index ≡ lookup (bytes_eq name) entries

-- an item by its alias
abbrev pub item_entry_of : Bor (List ℕ) × Bor Item → List ℕ × LibraryItemView
item_entry_of e = (e.0.now, library_item_view e.1.now)

-- aliases are found in an index as among these items
abbrev pub IsItemIndexOf : List (Bor (List ℕ) × Bor Item) → List (List ℕ × LibraryItemView) → Type 0
IsItemIndexOf index items = IsIndexOf (map item_entry_of index) items

-- the entry of an import for which there is this argument
abbrev pub entry_by : List ℕ → List ℕ → Argument → Option Entry
entry_by m name (Whole which) = Some (whole m (which_view which.now))
entry_by m name (Items items) = option_map (item_entry m name) (lookup (bytes_eq name) (map item_entry_of items.entries))

-- an argument serves each import as that of the library does
abbrev pub IsArgumentOf : Argument → InstanceView → Type 0
IsArgumentOf a v = (m name : List ℕ) → entry_by m name a ≡ argument_entry m name v

abbrev pub Matches : Option Argument → Option InstanceView → Type 0
Matches None None = Unit {0}
Matches (Some a) (Some v) = IsArgumentOf a v
Matches a v = ⊥

-- texts are found among these arguments as among those of the library, and what is found serves in the same way
abbrev pub AreMatched : List (List ℕ × Argument) → List (List ℕ × InstanceView) → Type 0
AreMatched index entries = (m : List ℕ) → Matches (lookup (bytes_eq m) index) (lookup (bytes_eq m) entries)

abbrev pub module_entry : Bor (List ℕ) × Argument → List ℕ × Argument
module_entry e = (e.0.now, e.1)

-- modules are found in an index as among these instances
abbrev pub IsModuleIndexOf : List (Bor (List ℕ) × Argument) → List (List ℕ × InstanceView) → Type 0
IsModuleIndexOf index instances = AreMatched (map module_entry index) instances

-- the entry of an import for which there is one of these arguments
abbrev pub entry_among : List (List ℕ × Argument) → List ℕ → List ℕ → Option Entry
entry_among arguments m name = option_and_then (entry_by m name) (lookup (bytes_eq m) arguments)

-- each import is served as by the arguments of the library
abbrev pub HasArgumentsOf : Arguments → Option LibraryView → Type 0
HasArgumentsOf a library = (m name : List ℕ) → entry_among (map module_entry a.modules.entries) m name ≡ library_entry library m name

-- the entry of an import for which this is passed
abbrev pub passed_entry : List ℕ → List ℕ → PassedArgument → Entry
passed_entry m name (passed_argument.Whole which) = whole m (which_view which.now)
passed_entry m name (passed_argument.Item item) = item_entry m name (library_item_view item.now)

-- an item was added under its alias, or an argument under its module's name, after others
abbrev pub IsItemAdded : {T F : Type 0} → List (Bor (List ℕ) × Bor Item) → List (Bor (List ℕ) × Bor Item) → List ℕ → Item → Result T F → Type 0
IsItemAdded old new alias item result =
    (entries : List (List ℕ × LibraryItemView)) → IsItemIndexOf old entries
    → OnOk result (IsItemIndexOf new (entries ++ (alias, library_item_view item) ∷ []))

abbrev pub IsModuleAdded : {T F : Type 0} → List (Bor (List ℕ) × Argument) → List (Bor (List ℕ) × Argument) → List ℕ → Instance → Result T F → Type 0
IsModuleAdded old new name instance result =
    (entries : List (List ℕ × InstanceView)) → IsModuleIndexOf old entries
    → OnOk result (IsModuleIndexOf new (entries ++ (name, instance_view instance) ∷ []))

-- items by their aliases; and the one of an alias
abbrev pub alias_entries : List Item → List (List ℕ × LibraryItemView)
alias_entries items = map alias_entry (map library_item_view items)

abbrev pub item_among : List (Bor (List ℕ) × Bor Item) → List ℕ → Option LibraryItemView
item_among items alias = lookup (bytes_eq alias) (map item_entry_of items)

-- the entry of an import for which arguments have something
abbrev pub passed_by : Arguments → List ℕ → List ℕ → Option Entry
passed_by a m name = entry_among (map module_entry a.modules.entries) m name
