-- What is there in place of a name that is not: the same at another version, or but for the case of letters.
use Rattle.std.specs.Prelude.{ℕ, ◌==◌, Bool, false, cond, codes, List, [], length, nat_lt, map, find, Option, Some, None, if◌then◌else◌, slice_get, unwrap_or}
use Rattle.std.specs.List.{after_first, position_or_len}
use Rattle.std.specs.Option.{option_and_then, option_map_or}
use Rattle.std.specs.Str.{bytes_eq, str_eq_ignore_ascii_case}
use Rattle.semver.specs.Identifiers.{parts_text}
use Rattle.wc_adapters.specs.Entries.{Entries}
use Rattle.wc_encoder.specs.EncoderParts.{EncoderView, world_exports, world_imports}
use Rattle.wc_resolve.specs.Resolve.{key_text}
use Rattle.wc_resolve.specs.Views.{FunctionView, InterfaceView, ItemView, KeyView}
use Rattle.wc_resolve.specs.Kinds.{ResolveView}
use Rattle.wc_texts.specs.Prefixes.{rest_after}
use Rattle.wc_names.specs.Keys.{as_interface}
use Rattle.wc_selection.specs.KeyNames.{unversioned_text}
use Rattle.wc_selection.specs.Keys.{named_keys, texts_of}
use Rattle.wc_validate.specs.Explain.{SubjectView, an_import, subject_view}
use Rattle.wc_validate.specs.declared.fault.ValidateFault.{ValidateFault}
use Rattle.wc_validate.specs.declared.fault.ValidateFault.TheVariants.{NoRootImport, UnknownInterface, MissingFunction, NoSuchExport}
use Rattle.wc_world.specs.declared.places.ModulePlace.{ModulePlace}
use Rattle.wc_world.specs.declared.places.ModulePlace.TheVariants as place
use Rattle.wc_world.specs.declared.fault.WorldFault.{WorldFault}
use Rattle.wc_world.specs.declared.fault.WorldFault.TheVariants.{Main, Adapter, Minimized}

-- names that are the same but for their versions, which are after an `@`, and for the case of ASCII letters
abbrev pub is_alike : List ℕ → List ℕ → Bool
is_alike name other = str_eq_ignore_ascii_case (unversioned_text name) (unversioned_text other)

-- and that are not the same
abbrev pub is_near : List ℕ → List ℕ → Bool
is_near name other = cond (bytes_eq name other) false (is_alike name other)

-- the first of some names that is near a name
abbrev pub first_near : List ℕ → List (List ℕ) → Option (List ℕ)
first_near name names = find (is_near name) names

-- the texts of the keys of what a world imports or exports
abbrev pub key_texts : ResolveView → Entries → List (List ℕ)
key_texts r entries = texts_of (named_keys r entries)

-- the names of the functions of the interface at an index
abbrev pub names_in : InterfaceView → List (List ℕ)
names_in v = map (λ (f : List ℕ × FunctionView). f.0) v.functions

abbrev pub function_names : ResolveView → ℕ → List (List ℕ)
function_names r i = option_map_or names_in (slice_get r.interfaces i) []

-- what is after the first of a character, where there is one
abbrev pub after_mark : ℕ → List ℕ → Option (List ℕ)
after_mark mark text =
    if nat_lt (position_or_len (λ b. b == mark) text) (length text) then Some (after_first (λ b. b == mark) text) else None

-- the codes of `]` and `|`
abbrev pub bracket : ℕ
bracket = 93

abbrev pub bar : ℕ
bar = 124

-- what a name is about: something that the world exports, after a `]`; or an interface that it imports, in the standard
-- scheme after a `|`
abbrev pub exported_name : List ℕ → Option (List ℕ)
exported_name text = after_mark bracket text

abbrev pub imported_name : List ℕ → List ℕ
imported_name text = unwrap_or (after_mark bar text) text

-- what the world exports that a module's name is about: after a `]`, or in the standard scheme after `_ex_`
abbrev pub exported_or : Option (List ℕ) → List ℕ → Option (List ℕ)
exported_or (Some name) text = Some name
exported_or None text = rest_after (codes "_ex_") (imported_name text)

abbrev pub exported_interface : List ℕ → Option (List ℕ)
exported_interface text = exported_or (exported_name text) text

-- the function that a name is about
abbrev pub function_name : List ℕ → List ℕ
function_name name = unwrap_or (rest_after (codes "[async-lower]") name) name

-- the interface that is there in place of the one that a module's name is about
abbrev pub near_interface_by : EncoderView → List ℕ → Option (List ℕ) → Option (List ℕ)
near_interface_by e text (Some exported) = first_near exported (key_texts e.resolve (world_exports e))
near_interface_by e text None = first_near (imported_name text) (key_texts e.resolve (world_imports e))

abbrev pub near_interface : EncoderView → List ℕ → Option (List ℕ)
near_interface e text = near_interface_by e text (exported_interface text)

-- whether the text of an entry's key fits
abbrev pub has_key_text : ResolveView → (List ℕ → Bool) → KeyView × ItemView → Bool
has_key_text r fits x = option_map_or fits (key_text parts_text r x.0) false

-- the interface of the first key whose text fits, of what a world imports
abbrev pub interface_by : ResolveView → Entries → (List ℕ → Bool) → Option ℕ
interface_by r entries fits = option_and_then (λ (x : KeyView × ItemView). as_interface x.1) (find (has_key_text r fits) entries)

-- the interface whose key has this text; and the first whose key has it but for its version and for the case of letters
abbrev pub interface_named : ResolveView → Entries → List ℕ → Option ℕ
interface_named r entries text = interface_by r entries (λ (t : List ℕ). bytes_eq t text)

abbrev pub interface_alike : ResolveView → Entries → List ℕ → Option ℕ
interface_alike r entries text = interface_by r entries (is_alike text)

-- the first of the two
abbrev pub first_interface : Option ℕ → Option ℕ → Option ℕ
first_interface (Some i) other = Some i
first_interface None other = other

abbrev pub interface_for : ResolveView → Entries → List ℕ → Option ℕ
interface_for r entries text = first_interface (interface_named r entries text) (interface_alike r entries text)

-- the function that is there in place of the one of this name in the interface of this text
abbrev pub near_function : EncoderView → List ℕ → List ℕ → Option (List ℕ)
near_function e text name =
    option_and_then (λ (i : ℕ). first_near name (function_names e.resolve i)) (interface_for e.resolve (world_imports e) text)

-- what the world exports in place of the function whose result a name is about, after a `]`
abbrev pub near_result_of : EncoderView → Option (List ℕ) → Option (List ℕ)
near_result_of e (Some name) = first_near name (key_texts e.resolve (world_exports e))
near_result_of e None = None

abbrev pub near_result : EncoderView → List ℕ → Option (List ℕ)
near_result e name = near_result_of e (exported_name name)

-- what is there in place of an import that is refused
abbrev pub near_import : EncoderView → ValidateFault → List ℕ → List ℕ → Option (List ℕ)
near_import e UnknownInterface text name = near_interface e text
near_import e NoRootImport text name = first_near (function_name name) (key_texts e.resolve (world_imports e))
near_import e MissingFunction text name = near_function e (imported_name text) (function_name name)
near_import e NoSuchExport text name = near_result e name
near_import e f text name = None

abbrev pub near_subject : EncoderView → ValidateFault → SubjectView → Option (List ℕ)
near_subject e f (an_import text name index) = near_import e f text name
near_subject e f x = None

-- what is there in place of what a fault of a component's world is about
abbrev pub nearest : EncoderView → WorldFault → SubjectView → Option (List ℕ)
nearest e (Main f) x = near_subject e f x
nearest e (Adapter name f) x = near_subject e f x
nearest e (Minimized name f) x = near_subject e f x
nearest e f x = None

-- and of a place in a module; nothing of what trimming refuses, and of sizes of pages
abbrev pub near_place : EncoderView → WorldFault → ModulePlace → Option (List ℕ)
near_place e f (place.Validation p) = nearest e f (subject_view p.subject)
near_place e f p = None
