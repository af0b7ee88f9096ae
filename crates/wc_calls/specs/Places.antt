-- What a fault is about, as JSON, as the texts of answers.
use Rattle.std.specs.Prelude.{◌≡◌, ℕ, List, [], map, Option, Some, None, length, string_bytes}
use Rattle.std.specs.List.{range_with_len}
use Rattle.json.specs.Json.{Json as json_value}
use Rattle.wc_dedupe.specs.Dedupe.{IsDedupePlace}
use Rattle.wc_dedupe.specs.declared.fault.DedupeFault.{DedupeFault}
use Rattle.wc_encoder.specs.EncoderParts.{EncoderView}
use Rattle.wc_gc.specs.LiveItems.{TrimInput}
use Rattle.wc_gc.specs.TrimPlace.{IsExplained}
use Rattle.wc_gc.specs.declared.fault.GcFault.{GcFault}
use Rattle.wc_gc.specs.declared.trim_place.TrimPlace.{TrimPlace}
use Rattle.wc_json.specs.Document.{DocumentView}
use Rattle.wc_json.specs.Messages.{MessageView}
use Rattle.wc_json.specs.Places.{IsFaultPlace}
use Rattle.wc_json.specs.declared.fault.JsonFault.{JsonFault}
use Rattle.wc_json.specs.declared.places.JsonPlace.{JsonPlace}
use Rattle.wc_plan.specs.Fault.{IsFirstFault, place_view}
use Rattle.wc_plan.specs.declared.fault.PlanFault.{PlanFault}
use Rattle.wc_plan.specs.declared.fault.PlanPlace.{PlanPlace}
use Rattle.wc_read.specs.declared.place.ReadPlace.{ReadPlace}
use Rattle.wc_record.specs.MessagePlaces.{adapter_json, json_place_json, key_json, part_json, plan_place_json, trim_fault_json, worlds_json}
use Rattle.wc_record.specs.Places.{bytes_json, trim_place_json, world_place_json}
use Rattle.wc_record.specs.Texts.{text_of}
use Rattle.wc_resolve.specs.Explain.{IsPlace}
use Rattle.wc_resolve.specs.declared.explain.Part.{Part}
use Rattle.wc_resolve.specs.declared.fault.ResolveFault.{ResolveFault}
use Rattle.wc_selection.specs.Worlds.{world_name}
use Rattle.wc_world.specs.Options.{OptionsOf}
use Rattle.wc_world.specs.Refused.{IsPlaceOrNone}
use Rattle.wc_world.specs.Views.{ComponentWorldView}
use Rattle.wc_world.specs.World.{IsWorldOf}
use Rattle.wc_world.specs.declared.fault.WorldFault.{WorldFault}
use Rattle.wc_world.specs.declared.fault.WorldFault.TheVariants.{Trim}
use Rattle.wc_world.specs.declared.places.WorldPlace.{WorldPlace}
use Rattle.wc_calls.specs.Encoders.{AreOptionsOf, IsEncoderOf, IsMessage}
use Rattle.wc_calls.specs.MessageFault.{IsOfChosen}
use Rattle.wc_calls.specs.declared.message_fault.MessageFault.{MessageFault}
use Rattle.wc_calls.specs.declared.message_fault.MessageFault.TheVariants.{AdapterTwice, Dedupe, Json, Plan, RepeatedKey, Resolve, SeveralKeys, SeveralWorlds, UnknownKey, UnknownWorld, World}

-- a place as a text; the empty text where there is none
abbrev pub place_text : {P : Type 0} → (P → json_value) → Option P → List ℕ
place_text json None = []
place_text json (Some p) = text_of (json p)

-- what a fault of a component's world is about: its place; where it has none, the adapter that can't be trimmed

abbrev pub unplaced_world_text : WorldFault → List ℕ
unplaced_world_text (Trim name f) = text_of (trim_fault_json (string_bytes name) f)
unplaced_world_text f = []

abbrev pub world_place_text : WorldFault → Option WorldPlace → List ℕ
world_place_text f None = unplaced_world_text f
world_place_text f (Some p) = text_of (world_place_json p)

abbrev pub IsWorldPlaceText : EncoderView → WorldFault → List ℕ → Type 0
IsWorldPlaceText e f text = (p : Option WorldPlace) × IsPlaceOrNone e f p × (text ≡ world_place_text f p)

-- what a fault of a plan is about: the first function that has a fault
abbrev pub IsPlanPlace : ComponentWorldView → PlanFault → PlanPlace → Type 0
IsPlanPlace w f p = (first : IsFirstFault w f) × (place_view p ≡ first.at.0)

abbrev pub IsPlanPlaceText : ComponentWorldView → PlanFault → List ℕ → Type 0
IsPlanPlaceText w f text = (p : PlanPlace) × IsPlanPlace w f p × (text ≡ text_of (plan_place_json p))

-- the text is what a fault of trimming is about
abbrev pub IsTrimPlaceText : TrimInput → GcFault → List ℕ → Type 0
IsTrimPlaceText w f text = (p : Option TrimPlace) × IsExplained w f p × (text ≡ place_text (trim_place_json None) p)

-- the text is the part of a message that a fault of its parts is about
abbrev pub IsPartText : MessageView → ResolveFault → List ℕ → Type 0
IsPartText m f text = (p : Part) × IsPlace m.document.parts f p × (text ≡ text_of (part_json p))

abbrev pub IsPartPlaceText : List ℕ → ResolveFault → List ℕ → Type 0
IsPartPlaceText message f text = (m : MessageView) × IsMessage message m × IsPartText m f text

-- a name of a world, and the names of the worlds of a message

abbrev pub world_names : DocumentView → List (List ℕ)
world_names d = map (world_name d) (range_with_len 0 (length d.parts.worlds))

abbrev pub AreWorldsText : List ℕ → List ℕ → List ℕ → Type 0
AreWorldsText message name text = (m : MessageView) × IsMessage message m × (text ≡ text_of (worlds_json name (world_names m.document)))

-- where the main module of a message stops to be right, if it does
abbrev pub IsMainText : DedupeFault → List ℕ → ℕ → List ℕ → List ℕ → Type 0
IsMainText f text world main others = (p : Option ReadPlace) × IsDedupePlace main f p × (text ≡ place_text (bytes_json None) p)

abbrev pub IsMainPlaceText : List ℕ → List ℕ → DedupeFault → List ℕ → Type 0
IsMainPlaceText message modules f text = (m : MessageView) × IsMessage message m × IsOfChosen m modules (IsMainText f text)

-- where a message stops to be JSON, or is not what it has to be
abbrev pub IsJsonPlaceText : List ℕ → JsonFault → List ℕ → Type 0
IsJsonPlaceText message f text = (p : JsonPlace) × IsFaultPlace message f (Some p) × (text ≡ text_of (json_place_json p))

-- of the world of the encoder that a message is, and of its plan

abbrev pub IsWorldPlaceTextOf : List ℕ → List ℕ → WorldFault → List ℕ → Type 0
IsWorldPlaceTextOf message modules f text = (e : EncoderView) × IsEncoderOf message modules e × IsWorldPlaceText e f text

abbrev pub IsPlanPlaceTextOf : List ℕ → List ℕ → PlanFault → List ℕ → Type 0
IsPlanPlaceTextOf message modules f text =
    (e : EncoderView) × IsEncoderOf message modules e × (options : OptionsOf) × AreOptionsOf message options × (w : ComponentWorldView)
    × IsWorldOf options e w × IsPlanPlaceText w f text

-- the text is what a fault of a message is about; other faults are about nothing
abbrev pub IsPlaceOf : List ℕ → List ℕ → MessageFault → List ℕ → Type 0
IsPlaceOf message modules (Json f) text = IsJsonPlaceText message f text
IsPlaceOf message modules (UnknownWorld name) text = AreWorldsText message (string_bytes name) text
IsPlaceOf message modules (SeveralWorlds name) text = AreWorldsText message (string_bytes name) text
IsPlaceOf message modules (Resolve f) text = IsPartPlaceText message f text
IsPlaceOf message modules (UnknownKey key) text = text ≡ text_of (key_json (string_bytes key))
IsPlaceOf message modules (SeveralKeys key) text = text ≡ text_of (key_json (string_bytes key))
IsPlaceOf message modules (RepeatedKey key) text = text ≡ text_of (key_json (string_bytes key))
IsPlaceOf message modules (AdapterTwice name) text = text ≡ text_of (adapter_json (string_bytes name))
IsPlaceOf message modules (Dedupe f) text = IsMainPlaceText message modules f text
IsPlaceOf message modules (World f) text = IsWorldPlaceTextOf message modules f text
IsPlaceOf message modules (Plan f) text = IsPlanPlaceTextOf message modules f text
IsPlaceOf message modules f text = text ≡ []
