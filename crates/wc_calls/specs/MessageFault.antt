-- Why a message has no component's world; and the texts and the numbers of its faults.
use Rattle.std.specs.Prelude.{◌≡◌, ◌≢◌, ◌⊎◌, ◌<◌, ◌++◌, ℕ, List, ◌∷◌, true, false, codes, map, length, sum, ⊤, All, Contains, string_bytes}
use Rattle.std.specs.Str.{IsUtf8}
use Rattle.json.specs.Json.{document}
use Rattle.wc_dedupe.specs.Dedupe.{IsDedupeCause}
use Rattle.wc_dedupe.specs.Fault.{dedupe_fault_number, dedupe_fault_text}
use Rattle.wc_dedupe.specs.declared.fault.DedupeFault.{DedupeFault}
use Rattle.wc_dedupe.specs.declared.fault.DedupeFault.TheVariants.{Memory as dedupe_memory}
use Rattle.wc_adapters.specs.Adapters.{AdapterView}
use Rattle.wc_encoder.specs.EncoderParts.{EncoderView}
use Rattle.wc_encoder.specs.Fault.{IsEncoderCause, encoder_fault_number, encoder_fault_text}
use Rattle.wc_encoder.specs.declared.fault.EncoderFault.{EncoderFault}
use Rattle.wc_encoder.specs.declared.fault.EncoderFault.TheVariants.{Memory as encoder_memory}
use Rattle.wc_json.specs.Fault.{json_fault_number, json_fault_text}
use Rattle.wc_json.specs.FromJson.{IsCauseOf}
use Rattle.wc_json.specs.declared.fault.JsonFault.{JsonFault}
use Rattle.wc_json.specs.declared.fault.JsonFault.TheVariants.{Memory as json_memory}
use Rattle.wc_resolve.specs.Fault.{IsResolveCause, resolve_fault_number, resolve_fault_text}
use Rattle.wc_resolve.specs.declared.fault.ResolveFault.{ResolveFault}
use Rattle.wc_resolve.specs.declared.fault.ResolveFault.TheVariants.{Memory as resolve_memory}
use Rattle.wc_resolve.specs.Views.{KeyView}
use Rattle.wc_resolve.specs.WellFormed.{IsWellFormed}
use Rattle.wc_plan.specs.Fault.{IsFirstFault, plan_fault_number, plan_fault_text}
use Rattle.wc_plan.specs.declared.fault.PlanFault.{PlanFault}
use Rattle.wc_plan.specs.declared.fault.PlanFault.TheVariants.{Memory as plan_memory, World as plan_world}
use Rattle.wc_world.specs.Causes.{IsComponentWorldCause}
use Rattle.wc_texts.specs.FaultNumbers.{carrying}
use Rattle.wc_texts.specs.FaultTexts.{carried_text, memory_text, quoted_text}
use Rattle.wc_world.specs.Fault.{world_fault_number, world_fault_text}
use Rattle.wc_world.specs.Options.{OptionsOf}
use Rattle.wc_world.specs.Views.{ComponentWorldView}
use Rattle.wc_world.specs.World.{IsWorldOf}
use Rattle.wc_world.specs.declared.fault.WorldFault.{WorldFault}
use Rattle.wc_world.specs.declared.fault.WorldFault.TheVariants.{Memory as world_memory}
use Rattle.wc_json.specs.Document.{DocumentView}
use Rattle.wc_json.specs.Messages.{AdapterMessageView, MessageView, WorldNameView, at_index, message, of_name}
use Rattle.wc_selection.specs.KeyNames.{count_unversioned}
use Rattle.wc_selection.specs.Keys.{NamedKey, export_keys, texts_of}
use Rattle.wc_selection.specs.ModuleKeys.{AreKeysThere}
use Rattle.wc_selection.specs.Requests.{RequestValue, given_keys}
use Rattle.wc_maps.specs.Texts.{IsFirstMissing, IsFirstRepeated, is_in}
use Rattle.wc_selection.specs.Worlds.{ArePackagesIn, AreSeveralWorlds, IsNoWorld}
use Rattle.wc_calls.specs.AskedKeys.{keys_in, request_of}
use Rattle.wc_calls.specs.Encoders.{AreChosen, AreExporters, AreOptionsOf, IsEncoderOf, IsMessage, IsPartsOf, IsWorldNamed}
use Rattle.wc_calls.specs.declared.message_fault.MessageFault.{MessageFault}
use Rattle.wc_calls.specs.declared.message_fault.MessageFault.TheVariants.{Memory, NotText, Json, UnknownWorld, Lengths, Resolve, AdapterTwice, Dedupe, Encoder, World, SeveralWorlds, PackageRange, UnknownKey, SeveralKeys, RepeatedKey, Plan}

-- faults that are carried; that of memory as the own one

abbrev pub of_json : JsonFault → MessageFault
of_json json_memory = Memory
of_json f = Json f

abbrev pub of_resolve : ResolveFault → MessageFault
of_resolve resolve_memory = Memory
of_resolve f = Resolve f

abbrev pub of_dedupe : DedupeFault → MessageFault
of_dedupe dedupe_memory = Memory
of_dedupe f = Dedupe f

abbrev pub of_encoder : EncoderFault → MessageFault
of_encoder encoder_memory = Memory
of_encoder f = Encoder f

abbrev pub of_world : WorldFault → MessageFault
of_world world_memory = Memory
of_world f = World f

abbrev pub of_plan : PlanFault → MessageFault
of_plan plan_memory = Memory
of_plan (plan_world f) = World f
of_plan f = Plan f

-- why a text names no world of a document
abbrev pub IsNameCause : DocumentView → List ℕ → MessageFault → Type 0
IsNameCause d name Memory = ⊤
IsNameCause d name (UnknownWorld n) = (string_bytes n ≡ name) × IsNoWorld d name
IsNameCause d name (SeveralWorlds n) = (string_bytes n ≡ name) × AreSeveralWorlds d name
IsNameCause d name PackageRange = ¬ ArePackagesIn d
IsNameCause d name f = ⊥

abbrev pub IsWorldNameCause : DocumentView → WorldNameView → MessageFault → Type 0
IsWorldNameCause d (at_index n) f = ⊥
IsWorldNameCause d (of_name name) f = IsNameCause d name f

-- why keys that are given are not those of exports, of which `own` are the keys by their own texts, and `keys` those by the texts
-- by which they are given. The first that none is given by is not that of several without their versions, or is. It is given
-- again where it is the text of an export that is given by its index, or without a version that of one export; or all are
-- there, and one is given twice
abbrev pub IsAskedCause : RequestValue → List NamedKey → List NamedKey → MessageFault → Type 0
IsAskedCause q own keys Memory = ⊤
IsAskedCause q own keys (UnknownKey key) =
    IsFirstMissing (given_keys q) (texts_of keys) (string_bytes key) × (count_unversioned own (string_bytes key) ≡ 0)
IsAskedCause q own keys (SeveralKeys key) =
    IsFirstMissing (given_keys q) (texts_of keys) (string_bytes key) × (is_in (texts_of own) (string_bytes key) ≡ false)
    × (1 < count_unversioned own (string_bytes key))
IsAskedCause q own keys (RepeatedKey key) =
    (IsFirstMissing (given_keys q) (texts_of keys) (string_bytes key)
    × ((is_in (texts_of own) (string_bytes key) ≡ true) ⊎ (count_unversioned own (string_bytes key) ≡ 1)))
    ⊎ (All (Contains (texts_of keys)) (given_keys q) × IsFirstRepeated (given_keys q) (string_bytes key))
IsAskedCause q own keys f = ⊥

-- the keys that a message gives are those of the exports of a world, each given once
abbrev pub AreKeysKnown : MessageView → ℕ → Type 0
AreKeysKnown m world = AreKeysThere (given_keys (request_of m.exports m.adapters)) (texts_of (keys_in m.document.parts world m.exports m.adapters))

-- why they are none
abbrev pub AreKeysCause : MessageView → ℕ → MessageFault → Type 0
AreKeysCause m world f =
    IsAskedCause (request_of m.exports m.adapters) (export_keys m.document.parts world) (keys_in m.document.parts world m.exports m.adapters) f

-- how many bytes adapters of a message have
abbrev pub sizes : List AdapterMessageView → ℕ
sizes ms = sum (map (λ (a : AdapterMessageView). a.size) ms)

-- an adapter has the name, and one before it has
pub record IsNamedTwice (ms : List AdapterMessageView) (name : List ℕ) : Type 0 where
  pub front : List AdapterMessageView
  pub again : AdapterMessageView
  pub back : List AdapterMessageView
  pub cut : ms ≡ front ++ again ∷ back
  pub named : again.name ≡ name
  pub before : Contains (map (λ (a : AdapterMessageView). a.name) front) name

-- the main module's bytes and the others, and the world that is named: a fact of these
abbrev pub IsOfChosen : MessageView → List ℕ → (ℕ → List ℕ → List ℕ → Type 0) → Type 0
IsOfChosen m modules P = (world : ℕ) × (main : List ℕ) × (others : List ℕ) × AreChosen m modules world main others × P world main others

-- a key is none, or is given twice, in a well-formed message
abbrev pub IsKeyCause : MessageView → MessageFault → ℕ → List ℕ → List ℕ → Type 0
IsKeyCause m f world main others = IsWellFormed m.document.parts × AreKeysCause m world f

-- the adapters have other bytes than the message says; one has the name of another; keys are there
abbrev pub AreLengthsOther : MessageView → ℕ → List ℕ → List ℕ → Type 0
AreLengthsOther m world main others = IsWellFormed m.document.parts × AreKeysKnown m world × (sizes m.adapters ≢ length others)

abbrev pub IsAdapterTwice : MessageView → List ℕ → ℕ → List ℕ → List ℕ → Type 0
IsAdapterTwice m name world main others = IsWellFormed m.document.parts × AreKeysKnown m world × IsNamedTwice m.adapters name

-- the main module's imports can't be renamed, where all adapters are there
abbrev pub IsMainCause : MessageView → DedupeFault → ℕ → List ℕ → List ℕ → Type 0
IsMainCause m f world main others =
    IsWellFormed m.document.parts × (required : List KeyView) × (adapters : List (List ℕ × AdapterView))
    × AreExporters m.document.parts world m.exports m.adapters others required adapters × IsDedupeCause main f

-- why a step of the encoder's making fails, for a message that is read; the steps before it do not fail. They are: the world is
-- named; the main module's bytes are there; the parts are well-formed; keys are there; adapters are there; the main module's
-- imports are renamed; and the encoder is made. None carries a Memory of its own
abbrev pub IsPartsCause : MessageView → List ℕ → MessageFault → Type 0
IsPartsCause m modules Memory = ⊤
IsPartsCause m modules (UnknownWorld name) = IsWorldNameCause m.document m.world (UnknownWorld name)
IsPartsCause m modules (SeveralWorlds name) = IsWorldNameCause m.document m.world (SeveralWorlds name)
IsPartsCause m modules PackageRange = IsWorldNameCause m.document m.world PackageRange
IsPartsCause m modules Lengths =
    ((world : ℕ) × IsWorldNamed m.document m.world world × (length modules < m.size)) ⊎ IsOfChosen m modules (AreLengthsOther m)
IsPartsCause m modules (Resolve f) = (f ≢ resolve_memory) × IsOfChosen m modules (λ world main others. IsResolveCause m.document.parts f)
IsPartsCause m modules (UnknownKey key) = IsOfChosen m modules (IsKeyCause m (UnknownKey key))
IsPartsCause m modules (SeveralKeys key) = IsOfChosen m modules (IsKeyCause m (SeveralKeys key))
IsPartsCause m modules (RepeatedKey key) = IsOfChosen m modules (IsKeyCause m (RepeatedKey key))
IsPartsCause m modules (AdapterTwice name) = IsOfChosen m modules (IsAdapterTwice m (string_bytes name))
IsPartsCause m modules (Dedupe f) = (f ≢ dedupe_memory) × IsOfChosen m modules (IsMainCause m f)
IsPartsCause m modules (Encoder f) =
    (f ≢ encoder_memory) × (e : EncoderView) × IsPartsOf m modules e × IsWellFormed m.document.parts × IsEncoderCause e f
IsPartsCause m modules f = ⊥

-- the cause of each fault, for the bytes of a message and of modules; that an allocation failed is Memory, and under no other
-- name
abbrev pub IsMessageCause : List ℕ → List ℕ → MessageFault → Type 0
IsMessageCause text modules Memory = ⊤
IsMessageCause text modules NotText = ¬ IsUtf8 text
IsMessageCause text modules (Json f) = (f ≢ json_memory) × IsCauseOf message (document text) f
IsMessageCause text modules (World f) = (e : EncoderView) × IsEncoderOf text modules e × IsComponentWorldCause e f
IsMessageCause text modules (Plan f) =
    (e : EncoderView) × IsEncoderOf text modules e × (options : OptionsOf) × AreOptionsOf text options × (w : ComponentWorldView)
    × IsWorldOf options e w × IsFirstFault w f
IsMessageCause text modules f = (m : MessageView) × IsMessage text m × IsPartsCause m modules f

-- why a message and modules are no encoder: a fault of these, and none of its component
abbrev pub IsNoEncoderCause : List ℕ → List ℕ → MessageFault → Type 0
IsNoEncoderCause text modules (World f) = ⊥
IsNoEncoderCause text modules (Plan f) = ⊥
IsNoEncoderCause text modules f = IsMessageCause text modules f

-- the adapters' bytes have other lengths, or two adapters have one name
abbrev pub IsAdaptersCause : List AdapterMessageView → List ℕ → MessageFault → Type 0
IsAdaptersCause ms bytes Memory = ⊤
IsAdaptersCause ms bytes Lengths = sizes ms ≢ length bytes
IsAdaptersCause ms bytes (AdapterTwice name) = IsNamedTwice ms (string_bytes name)
IsAdaptersCause ms bytes f = ⊥

-- the text of a fault: its name; where it carries another fault, its name, `: `, and the text of that; or its name, and a
-- name or a key in quotation marks
abbrev pub message_fault_text : MessageFault → List ℕ
message_fault_text Memory = memory_text
message_fault_text NotText = codes "NotText"
message_fault_text (Json f) = carried_text (codes "Json") (json_fault_text f)
message_fault_text (UnknownWorld name) = quoted_text (codes "UnknownWorld") (string_bytes name)
message_fault_text Lengths = codes "Lengths"
message_fault_text (Resolve f) = carried_text (codes "Resolve") (resolve_fault_text f)
message_fault_text (AdapterTwice name) = quoted_text (codes "AdapterTwice") (string_bytes name)
message_fault_text (Dedupe f) = carried_text (codes "Main module") (dedupe_fault_text f)
message_fault_text (Encoder f) = carried_text (codes "Encoder") (encoder_fault_text f)
message_fault_text (World f) = carried_text (codes "World") (world_fault_text f)
message_fault_text (Plan f) = carried_text (codes "Plan") (plan_fault_text f)
message_fault_text (SeveralWorlds name) = quoted_text (codes "SeveralWorlds") (string_bytes name)
message_fault_text PackageRange = codes "PackageRange"
message_fault_text (UnknownKey key) = quoted_text (codes "UnknownKey") (string_bytes key)
message_fault_text (SeveralKeys key) = quoted_text (codes "SeveralKeys") (string_bytes key)
message_fault_text (RepeatedKey key) = quoted_text (codes "RepeatedKey") (string_bytes key)

-- the number of a fault: its position in its enum; where it carries another fault, that and 256 times the number of the other
abbrev pub message_fault_number : MessageFault → ℕ
message_fault_number Memory = 0
message_fault_number NotText = 1
message_fault_number (Json f) = carrying 2 (json_fault_number f)
message_fault_number (UnknownWorld name) = 3
message_fault_number Lengths = 4
message_fault_number (Resolve f) = carrying 5 (resolve_fault_number f)
message_fault_number (AdapterTwice name) = 6
message_fault_number (Dedupe f) = carrying 7 (dedupe_fault_number f)
message_fault_number (Encoder f) = carrying 8 (encoder_fault_number f)
message_fault_number (World f) = carrying 9 (world_fault_number f)
message_fault_number (Plan f) = carrying 10 (plan_fault_number f)
message_fault_number (SeveralWorlds name) = 11
message_fault_number PackageRange = 12
message_fault_number (UnknownKey key) = 13
message_fault_number (SeveralKeys key) = 14
message_fault_number (RepeatedKey key) = 15
