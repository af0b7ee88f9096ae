-- What liveness answers: the reached items, or why there are none.
use Rattle.std.specs.Prelude.{◌≡◌, ◌≢◌, ℕ, ◌<◌, List, [], length, map, Bool, false, AllPairs, IsTrue, Contains, IsSome, Some, None, String, string_bytes, ◌↔◌}
use Rattle.std.specs.Prelude.{◌⊎◌}
use Rattle.wc_texts.specs.Names.{first_occurrences}
use Rattle.wc_read.specs.Fault.{SpellsNothing}
use Rattle.wc_read.specs.Sections.{IsComponent}
use Rattle.wc_read.specs.Modules.{ModuleValue, SpellsModule}
use Rattle.wc_read.specs.declared.fault.ReadFault.{ReadFault}
use Rattle.wc_read.specs.declared.fault.ReadFault.TheVariants.{Memory as read_memory, Component}
use Rattle.wc_read.specs.Decoded.{ItemIndex, decode}
use Rattle.wc_gc.specs.Exports.{kept_exports, missing_name}
use Rattle.wc_gc.specs.Reached.{IsReached}
use Rattle.wc_gc.specs.InRange.{is_item_in_range}
use Rattle.wc_gc.specs.declared.fault.GcFault.{GcFault}
use Rattle.wc_gc.specs.declared.fault.GcFault.TheVariants.{Memory, Read, MissingExport, UnsupportedSection, LiveBody, SeveralNamed, LiveTable, SeveralMemories}
use Rattle.wc_gc.specs.declared.fault.GcFault.TheVariants.{LocalMemory, ReallocType, ReallocMemory, TooLarge}

-- n is how many things P holds of
abbrev pub IsCount : {A : Type 0} → (A → Type 0) → ℕ → Type 0
IsCount {A} P n = (xs : List A) × AllPairs (λ x y. x ≢ y) xs × ((x : A) → P x ↔ Contains xs x) × (length xs ≡ n)

-- an item that the kept exports of a module reach
abbrev pub IsLive : List (List ℕ) → ModuleValue → ItemIndex → Type 0
IsLive required m x = IsReached (decode m) (kept_exports required m.exports) x

-- a live function whose body is no code, or names what is not there
abbrev pub HasLiveBody : List (List ℕ) → ModuleValue → Type 0
HasLiveBody required m = (x : ItemIndex) × IsLive required m x × (is_item_in_range (decode m) x ≡ false)

-- a start function, or sections of segments
abbrev pub HasUnsupported : ModuleValue → Type 0
HasUnsupported m = IsSome m.start ⊎ (m.ids ≢ [])

-- no export is missing, and there is nothing that is not supported
abbrev pub IsSupported : List (List ℕ) → ModuleValue → Type 0
IsSupported required m = (missing_name m.exports required ≡ None) × ¬ (HasUnsupported m)

-- these are the live items of a module that has no fault, and so many they are
pub record IsLivenessOf (required : List (List ℕ)) (m : ModuleValue) (live : ItemIndex → Bool) (turns : ℕ) : Type 0 where
  pub is_live : (x : ItemIndex) → IsTrue (live x) ↔ IsLive required m x
  pub counted : IsCount (IsLive required m) turns
  pub supported : IsSupported required m
  pub in_range : ¬ (HasLiveBody required m)

-- why a module has no liveness
abbrev pub IsFaultOf : List (List ℕ) → ModuleValue → GcFault → Type 0
IsFaultOf required m (MissingExport name) = missing_name m.exports required ≡ Some (string_bytes name)
IsFaultOf required m UnsupportedSection = (missing_name m.exports required ≡ None) × HasUnsupported m
IsFaultOf required m LiveBody = IsSupported required m × HasLiveBody required m
IsFaultOf required m f = f ≡ Memory

-- the bytes of an adapter, and the names of the exports that are required of it
pub record TrimInput : Type 0 where
  pub bytes : List ℕ
  pub required : List (List ℕ)

-- the bytes of names
abbrev pub names_of : {A : Type 0} → List (String A) → List (List ℕ)
names_of names = map string_bytes names

-- an adapter, and the exports of a set of names
abbrev pub trim_input : {A : Type 0} → List ℕ → List (String A) → TrimInput
trim_input bytes names = record { bytes = bytes; required = names_of names }

-- an adapter, and the exports of these names, of which some may be repeated
abbrev pub trim_input_for_names : List ℕ → List (List ℕ) → TrimInput
trim_input_for_names bytes names = record { bytes = bytes; required = first_occurrences names }

-- other bytes, of which the same exports are required
abbrev pub with_bytes : TrimInput → List ℕ → TrimInput
with_bytes w bytes = record w { bytes = bytes }

-- these are the live items of the module that the bytes spell, and so many they are
abbrev pub IsLiveness : TrimInput → (ItemIndex → Bool) → ℕ → Type 0
IsLiveness w live turns = (m : ModuleValue) × SpellsModule w.bytes m × IsLivenessOf w.required m live turns

-- the bytes spell no module, and begin with a component's header or not
abbrev pub IsUnread : List ℕ → ReadFault → Type 0
IsUnread bytes f = SpellsNothing SpellsModule bytes × (f ≢ read_memory) × ((f ≡ Component) ↔ IsComponent bytes)

-- the cause of each fault of liveness but Memory, by itself

abbrev pub IsCauseIn : TrimInput → ModuleValue → GcFault → Type 0
IsCauseIn w m (MissingExport name) = missing_name m.exports w.required ≡ Some (string_bytes name)
IsCauseIn w m UnsupportedSection = HasUnsupported m
IsCauseIn w m LiveBody = HasLiveBody w.required m
IsCauseIn w m _ = ⊥

abbrev pub IsLivenessCause : TrimInput → GcFault → Type 0
IsLivenessCause w (Read f) = IsUnread w.bytes f
IsLivenessCause w fault = (m : ModuleValue) × SpellsModule w.bytes m × IsCauseIn w m fault

-- the order in which faults are named
abbrev pub order_of : GcFault → ℕ
order_of Memory = 0
order_of (Read f) = 1
order_of (MissingExport name) = 2
order_of UnsupportedSection = 3
order_of LiveBody = 4
order_of SeveralNamed = 5
order_of LiveTable = 6
order_of SeveralMemories = 7
order_of LocalMemory = 8
order_of ReallocType = 9
order_of ReallocMemory = 10
order_of TooLarge = 11

-- what causes a fault causes this one, and none that is named before it
abbrev pub IsFirstCause : (GcFault → Type 0) → GcFault → Type 0
IsFirstCause Causes f = Causes f × ((g : GcFault) → order_of g < order_of f → ¬ (Causes g))

-- Memory at any time; another fault where its cause is so, and none before it
abbrev pub IsFault : TrimInput → GcFault → Type 0
IsFault w f = (f ≡ Memory) ⊎ (IsLivenessCause w f × ((g : GcFault) → order_of g < order_of f → ¬ (IsLivenessCause w g)))
