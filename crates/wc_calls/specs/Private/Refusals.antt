-- Words of contracts of private functions. No contract of a public function cites these, directly or through others.
-- Why a message is refused, and what that is about.
use Rattle.std.specs.Prelude.{◌≡◌, ◌⊎◌, ℕ, List, [], map, Option, Some, None, ⊤, string_bytes}
use Rattle.std.specs.Option.{option_map}
use Rattle.wc_adapters.specs.Adapters.{AdapterView}
use Rattle.wc_dedupe.specs.Dedupe.{IsDedupeCause, IsDedupePlace}
use Rattle.wc_dedupe.specs.declared.fault.DedupeFault.{DedupeFault}
use Rattle.wc_encoder.specs.EncoderParts.{EncoderView}
use Rattle.json.specs.Json.{document}
use Rattle.wc_json.specs.Document.{DocumentView}
use Rattle.wc_json.specs.FromJson.{IsCauseOf}
use Rattle.wc_json.specs.Messages.{AdapterMessageView, KeyMessageView, MessageView, WorldNameView, message}
use Rattle.wc_json.specs.Places.{IsFaultPlace}
use Rattle.wc_json.specs.declared.fault.JsonFault.{JsonFault}
use Rattle.wc_json.specs.declared.places.JsonPlace.{JsonPlace}
use Rattle.wc_plan.specs.declared.fault.PlanFault.{PlanFault}
use Rattle.wc_record.specs.MessagePlaces.{adapter_json, json_place_json, key_json, part_json, plan_place_json, worlds_json}
use Rattle.wc_record.specs.Places.{bytes_json, world_place_json}
use Rattle.wc_record.specs.Texts.{text_of}
use Rattle.json.specs.Json.{Json as json_value}
use Rattle.wc_resolve.specs.Explain.{IsPlace}
use Rattle.wc_read.specs.declared.place.ReadPlace.{ReadPlace}
use Rattle.wc_resolve.specs.Kinds.{ResolveView}
use Rattle.wc_resolve.specs.Views.{KeyView}
use Rattle.wc_resolve.specs.Refusals.{IsRefusal, Refusal}
use Rattle.wc_resolve.specs.declared.fault.ResolveFault.{ResolveFault}
use Rattle.wc_selection.specs.declared.fault.RequestFault.{RequestFault}
use Rattle.wc_selection.specs.declared.fault.RequestFault.TheVariants as request
use Rattle.wc_texts.specs.declared.refused.Refused.{Refused}
use Rattle.wc_world.specs.Options.{OptionsOf}
use Rattle.wc_world.specs.Refused.{IsPlaceOrNone}
use Rattle.wc_world.specs.Views.{ComponentWorldView}
use Rattle.wc_world.specs.World.{IsWorldOf}
use Rattle.wc_world.specs.declared.fault.WorldFault.{WorldFault}
use Rattle.wc_calls.specs.Encoders.{AreExporters, IsMessage}
use Rattle.wc_calls.specs.MessageFault.{IsNameCause, IsNoEncoderCause, IsOfChosen, IsPartsCause, IsWorldNameCause, of_dedupe, of_json, of_resolve}
use Rattle.wc_calls.specs.Places.{IsPlanPlace, unplaced_world_text, world_names}
use Rattle.wc_calls.specs.Private.AskedKeys.{IsExportersCause}
use Rattle.wc_calls.specs.declared.message_fault.MessageFault.{MessageFault}
use Rattle.wc_calls.specs.declared.message_fault.MessageFault.TheVariants.{AdapterTwice, Dedupe, Json, Memory, NotText, PackageRange, Plan, RepeatedKey, Resolve, SeveralKeys, SeveralWorlds, UnknownKey, UnknownWorld, World}
use Rattle.wc_calls.specs.declared.refusals.MessagePlace.{MessagePlace}
use Rattle.wc_calls.specs.declared.refusals.MessagePlace.TheVariants as place

-- why a message is refused, and what that is about
abbrev pub RefusedMessage : Type 0
RefusedMessage = Refused MessageFault MessagePlace

-- the refusal has this fault, and no place
abbrev pub IsWithoutPlace : MessageFault → RefusedMessage → Type 0
IsWithoutPlace f x = (x.fault ≡ f) × (x.place ≡ None)

-- it is another one, with its fault and its place as those of a message
abbrev pub IsRefusalOf : {F P : Type 0} → (F → MessageFault) → (P → MessagePlace) → Refused F P → RefusedMessage → Type 0
IsRefusalOf of kind r x = (x.fault ≡ of r.fault) × (x.place ≡ option_map kind r.place)

-- the byte or the path of a text that a fault of JSON is about
abbrev pub IsJsonAt : List ℕ → JsonFault → Option MessagePlace → Type 0
IsJsonAt text f (Some (place.Json p)) = IsFaultPlace text f (Some p)
IsJsonAt text f p = ⊥

-- a text that is no message; or an allocation failed
abbrev pub IsTextRefusal : List ℕ → JsonFault → RefusedMessage → Type 0
IsTextRefusal text f x =
    IsWithoutPlace Memory x ⊎ ((x.fault ≡ of_json f) × (p : Option JsonPlace) × IsFaultPlace text f p × (x.place ≡ option_map place.Json p))

-- a name of a world, and the worlds that there are
abbrev pub AreWorldsAt : DocumentView → List ℕ → Option MessagePlace → Type 0
AreWorldsAt d name (Some (place.Worlds n worlds)) = (string_bytes n ≡ name) × (map string_bytes worlds.items ≡ world_names d)
AreWorldsAt d name p = ⊥

-- the fault of a message for that of the name of its world as a request
abbrev pub IsWorldRequest : RequestFault → MessageFault → Type 0
IsWorldRequest f Memory = ⊤
IsWorldRequest request.PackageRange PackageRange = ⊤
IsWorldRequest (request.UnknownWorld name) (UnknownWorld n) = string_bytes n ≡ name.now
IsWorldRequest (request.SeveralWorlds name) (SeveralWorlds n) = string_bytes n ≡ name.now
IsWorldRequest f g = ⊥

abbrev pub IsNamePlaced : DocumentView → MessageFault → Option MessagePlace → Type 0
IsNamePlaced d (UnknownWorld name) p = AreWorldsAt d (string_bytes name) p
IsNamePlaced d (SeveralWorlds name) p = AreWorldsAt d (string_bytes name) p
IsNamePlaced d f p = p ≡ None

abbrev pub IsUnselected : DocumentView → RequestFault → RefusedMessage → Type 0
IsUnselected d f x = IsWorldRequest f x.fault × IsNamePlaced d x.fault x.place

-- why a text names no world of a document; why a message names none
abbrev pub IsNameRefusal : DocumentView → List ℕ → RefusedMessage → Type 0
IsNameRefusal d name x = IsNameCause d name x.fault × IsNamePlaced d x.fault x.place

abbrev pub IsWorldNameRefusal : DocumentView → WorldNameView → RefusedMessage → Type 0
IsWorldNameRefusal d name x = IsWorldNameCause d name x.fault × IsNamePlaced d x.fault x.place

-- why a text is no message, with its cause
abbrev pub IsTextRefused : List ℕ → RefusedMessage → Type 0
IsTextRefused text x = (f : JsonFault) × IsCauseOf message (document text) f × IsTextRefusal text f x

-- why parts are refused, and the main module, each with its cause and its place

abbrev pub IsPartsRefused : ResolveView → RefusedMessage → Type 0
IsPartsRefused v x = (r : Refusal) × IsRefusal v r × IsRefusalOf of_resolve place.Part r x

abbrev pub IsMainRefused : List ℕ → RefusedMessage → Type 0
IsMainRefused bytes x =
    (r : Refused DedupeFault ReadPlace) × IsDedupeCause bytes r.fault × IsDedupePlace bytes r.fault r.place
    × IsRefusalOf of_dedupe place.Bytes r x

-- why there are no parts of an encoder that are made of modules: no exporters, or no main module
abbrev pub IsModulesRefusal : ResolveView → ℕ → Option (List KeyMessageView) → List AdapterMessageView → List ℕ → List ℕ → RefusedMessage → Type 0
IsModulesRefusal r world exports ms main others x =
    IsWithoutPlace Memory x ⊎ ((f : MessageFault) × IsExportersCause r world exports ms others f × IsWithoutPlace f x)
    ⊎ ((keys : List KeyView) × (adapters : List (List ℕ × AdapterView)) × AreExporters r world exports ms others keys adapters × IsMainRefused main x)

-- the part of these that a fault is about; the byte of the main module
abbrev pub IsPartAt : ResolveView → ResolveFault → Option MessagePlace → Type 0
IsPartAt r f (Some (place.Part p)) = IsPlace r f p
IsPartAt r f p = ⊥

abbrev pub IsByteAt : DedupeFault → Option MessagePlace → ℕ → List ℕ → List ℕ → Type 0
IsByteAt f None world main others = IsDedupePlace main f None
IsByteAt f (Some (place.Bytes p)) world main others = IsDedupePlace main f (Some p)
IsByteAt f p world main others = ⊥

-- what a fault of a message that is read is about
abbrev pub IsPlacedIn : MessageView → List ℕ → MessageFault → Option MessagePlace → Type 0
IsPlacedIn m modules (UnknownWorld name) p = AreWorldsAt m.document (string_bytes name) p
IsPlacedIn m modules (SeveralWorlds name) p = AreWorldsAt m.document (string_bytes name) p
IsPlacedIn m modules (Resolve f) p = IsPartAt m.document.parts f p
IsPlacedIn m modules (Dedupe f) p = IsOfChosen m modules (IsByteAt f p)
IsPlacedIn m modules f p = p ≡ None

-- a message that is read and the bytes of modules are no encoder, for this reason
abbrev pub AreNoParts : MessageView → List ℕ → RefusedMessage → Type 0
AreNoParts m modules x = IsPartsCause m modules x.fault × IsPlacedIn m modules x.fault x.place

-- the same of the bytes of a message

abbrev pub IsPlaced : List ℕ → List ℕ → MessageFault → Option MessagePlace → Type 0
IsPlaced text modules Memory p = p ≡ None
IsPlaced text modules NotText p = p ≡ None
IsPlaced text modules (Json f) p = IsJsonAt text f p
IsPlaced text modules f p = (m : MessageView) × IsMessage text m × IsPlacedIn m modules f p

abbrev pub IsNoEncoder : List ℕ → List ℕ → RefusedMessage → Type 0
IsNoEncoder text modules x = IsNoEncoderCause text modules x.fault × IsPlaced text modules x.fault x.place

-- what a fault of a component's world is about; and one of its plan

abbrev pub IsWorldAt : EncoderView → WorldFault → Option MessagePlace → Type 0
IsWorldAt e f None = IsPlaceOrNone e f None
IsWorldAt e f (Some (place.World p)) = IsPlaceOrNone e f (Some p)
IsWorldAt e f p = ⊥

abbrev pub IsPlanAt : ComponentWorldView → PlanFault → Option MessagePlace → Type 0
IsPlanAt w f (Some (place.Plan p)) = IsPlanPlace w f p
IsPlanAt w f p = ⊥

-- what a fault of an encoder's component is about
abbrev pub IsPlacedFor : EncoderView → MessageFault → Option MessagePlace → Type 0
IsPlacedFor e (World f) p = IsWorldAt e f p
IsPlacedFor e f p = p ≡ None

-- the same where its plan is made
abbrev pub IsPlanPlacedFor : OptionsOf → EncoderView → MessageFault → Option MessagePlace → Type 0
IsPlanPlacedFor options e (Plan f) p = (w : ComponentWorldView) × IsWorldOf options e w × IsPlanAt w f p
IsPlanPlacedFor options e f p = IsPlacedFor e f p

-- a place as JSON
abbrev pub message_place_json : MessagePlace → json_value
message_place_json (place.Json p) = json_place_json p
message_place_json (place.Worlds name worlds) = worlds_json (string_bytes name) (map string_bytes worlds.items)
message_place_json (place.Part p) = part_json p
message_place_json (place.Bytes p) = bytes_json None p
message_place_json (place.World p) = world_place_json p
message_place_json (place.Plan p) = plan_place_json p

-- what a fault without a place is about; what a refusal is

abbrev pub unplaced_text : MessageFault → List ℕ
unplaced_text (World f) = unplaced_world_text f
unplaced_text (AdapterTwice name) = text_of (adapter_json (string_bytes name))
unplaced_text (UnknownKey key) = text_of (key_json (string_bytes key))
unplaced_text (SeveralKeys key) = text_of (key_json (string_bytes key))
unplaced_text (RepeatedKey key) = text_of (key_json (string_bytes key))
unplaced_text f = []

abbrev pub refusal_text : MessageFault → Option MessagePlace → List ℕ
refusal_text f None = unplaced_text f
refusal_text f (Some p) = text_of (message_place_json p)
