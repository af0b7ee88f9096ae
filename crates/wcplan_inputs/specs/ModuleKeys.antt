-- What a command asks of adapters and of exports.
use Rattle.std.specs.Prelude.{◌≡◌, ◌⊎◌, ◌<◌, ℕ, List, All, Contains, unwrap_or, Option, Some, None, String, string_bytes}
use Rattle.std.specs.Borrow.{Bor}
use Rattle.std.specs.Option.{option_map}
use Rattle.std.specs.declared.alloc.Global.{Global}
use Rattle.wc_json.specs.Document.{DocumentView}
use Rattle.wc_selection.specs.KeyNames.{count_unversioned}
use Rattle.wc_selection.specs.Keys.{NamedKey, texts_of}
use Rattle.wc_selection.specs.Requests.{RequestValue, given_keys}
use Rattle.wc_selection.specs.ModuleKeys.{AreKeysThere}
use Rattle.wc_selection.specs.TaskHook.{no_task_hook}
use Rattle.wc_maps.specs.Texts.{AreDistinct, IsFirstMissing, IsFirstRepeated, first_parts, text_of}
use Rattle.wc_selection.specs.WorldParts.{IsWholeWorld}
use Rattle.wc_selection.specs.Worlds.{IsNoWorld, IsSelected, IsWorldCause}
use Rattle.wc_selection.specs.declared.fault.RequestFault.TheVariants.{Memory as no_memory, UnknownWorld, UnknownKey, SeveralKeys, RepeatedKey}
use Rattle.wcplan_inputs.specs.Arguments.{CommandView}
use Rattle.wcplan_inputs.specs.FileNames.{AreFilesNamed, IsFilesCause}
use Rattle.wcplan_inputs.specs.Listing.{world_listing}
use Rattle.wcplan_inputs.specs.declared.fault.SelectionFault.{SelectionFault}
use Rattle.wcplan_inputs.specs.declared.fault.SelectionFault.TheVariants.{Memory, Request, RepeatedAdapter, UnknownAdapter, EmptyDirectory, FileName, MainFile}

-- the keys that a command gives
abbrev pub request_of : CommandView → RequestValue
request_of c = record { exports = c.exports; adapter_exports = c.adapter_exports }

-- those of the main module, with these of adapters
abbrev pub request_with : CommandView → List (List ℕ × List ℕ) → RequestValue
request_with c given = record { exports = c.exports; adapter_exports = given }

-- the name of the task hook: the one that is given, or else one that no export is taken for
abbrev pub hook_of : CommandView → List ℕ
hook_of c = unwrap_or c.task_hook no_task_hook

-- the world that a command means: the one that it names; without a name the one of which all others are parts
abbrev pub IsMeant : DocumentView → Option (List ℕ) → ℕ → Type 0
IsMeant d None world = IsWholeWorld d world
IsMeant d (Some name) world = IsSelected d name world

-- there is none
abbrev pub IsNoneMeant : DocumentView → Option (List ℕ) → Type 0
IsNoneMeant d None = (world : ℕ) → ¬ IsWholeWorld d world
IsNoneMeant d (Some name) = IsNoWorld d name

-- there is none, and what worlds there are is said
abbrev pub IsNotMeant : DocumentView → Option (List ℕ) → Option (Bor (List ℕ)) → String Global → Type 0
IsNotMeant d text name listing = (option_map text_of name ≡ text) × IsNoneMeant d text × (string_bytes listing ≡ world_listing d)

-- why none is selected though it is named: it can't be told which one that is
abbrev pub IsNameCause : DocumentView → List ℕ → SelectionFault → Type 0
IsNameCause d text Memory = Unit {0}
IsNameCause d text (Request (UnknownWorld name)) = ⊥
IsNameCause d text (Request f) = IsWorldCause d text f
IsNameCause d text f = ⊥

abbrev pub IsSelectionCause : DocumentView → Option (List ℕ) → SelectionFault → Type 0
IsSelectionCause d None f = ⊥
IsSelectionCause d (Some name) f = IsNameCause d name f

-- adapters have names of their own, and those that have to export something are there
abbrev pub adapter_names : CommandView → List (List ℕ)
adapter_names c = first_parts c.adapters

abbrev pub AreExportersThere : CommandView → Type 0
AreExportersThere c = All (Contains (adapter_names c)) (first_parts c.adapter_exports)

-- why keys are not there, or are given twice: no key is given by a text, which is that of none without its version, of several,
-- or of one, which is given with it too; or all are there, and one is given twice
abbrev pub IsGivenCause : List (List ℕ) → List NamedKey → SelectionFault → Type 0
IsGivenCause given keys Memory = Unit {0}
IsGivenCause given keys (Request no_memory) = Unit {0}
IsGivenCause given keys (Request (UnknownKey key)) = IsFirstMissing given (texts_of keys) key.now × (count_unversioned keys key.now ≡ 0)
IsGivenCause given keys (Request (SeveralKeys key)) = IsFirstMissing given (texts_of keys) key.now × (1 < count_unversioned keys key.now)
IsGivenCause given keys (Request (RepeatedKey key)) =
    (IsFirstMissing given (texts_of keys) key.now × (count_unversioned keys key.now ≡ 1))
    ⊎ (All (Contains (texts_of keys)) given × IsFirstRepeated given key.now)
IsGivenCause given keys f = ⊥

-- the names of adapters and the keys of a command are there, and none is given twice
pub record AreNamesThere (c : CommandView) (keys : List NamedKey) : Type 0 where
  pub adapters : AreDistinct (adapter_names c)
  pub exporters : AreExportersThere c
  pub files : AreFilesNamed c.out (adapter_names c)
  pub keys_there : AreKeysThere (given_keys (request_of c)) (texts_of keys)

-- why the names of adapters and the keys of a command are not there, or are given twice: adapters are before keys
abbrev pub AreAdaptersThere : CommandView → Type 0
AreAdaptersThere c = AreDistinct (adapter_names c) × AreExportersThere c × AreFilesNamed c.out (adapter_names c)

abbrev pub IsNamesCause : CommandView → List NamedKey → SelectionFault → Type 0
IsNamesCause c keys Memory = Unit {0}
IsNamesCause c keys (RepeatedAdapter name) = IsFirstRepeated (adapter_names c) name.now
IsNamesCause c keys (UnknownAdapter name) = AreDistinct (adapter_names c) × IsFirstMissing (first_parts c.adapter_exports) (adapter_names c) name.now
IsNamesCause c keys EmptyDirectory = AreDistinct (adapter_names c) × AreExportersThere c × IsFilesCause c.out (adapter_names c) EmptyDirectory
IsNamesCause c keys (FileName name) = AreDistinct (adapter_names c) × AreExportersThere c × IsFilesCause c.out (adapter_names c) (FileName name)
IsNamesCause c keys (MainFile name) = AreDistinct (adapter_names c) × AreExportersThere c × IsFilesCause c.out (adapter_names c) (MainFile name)
IsNamesCause c keys (Request f) = AreAdaptersThere c × IsGivenCause (given_keys (request_of c)) keys (Request f)
