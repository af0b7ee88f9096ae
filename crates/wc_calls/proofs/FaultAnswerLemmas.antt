-- Faults that are answered, by their causes and what they are about.
use Rattle.std.proofs.Common.{◌≡◌, ◌⊎◌, ℕ, List, None, Option, Some, false, true, ap, inl, inr, refl, string_bytes, sym, subst, ◌∙◌}
use Rattle.std.proofs.lemmas.Bool.{false≢true}
use Rattle.wc_encoder.specs.EncoderParts.{EncoderView}
use Rattle.wc_dedupe.specs.declared.fault.DedupeFault.{DedupeFault}
use Rattle.wc_json.specs.Document.{DocumentView}
use Rattle.wc_json.specs.Messages.{MessageView}
use Rattle.wc_json.specs.declared.fault.JsonFault.{JsonFault}
use Rattle.wc_resolve.specs.declared.fault.ResolveFault.{ResolveFault}
use Rattle.wc_plan.specs.Encoder.{IsWorldCause}
use Rattle.wc_validate.specs.Validate.{ModuleRecord}
use Rattle.wc_world.specs.Trimming.{NamedAdapter}
use Rattle.wc_world.specs.Causes.{IsComponentWorldCause, IsMemory, IsMemoryOf}
use Rattle.wc_world.specs.Options.{OptionsOf}
use Rattle.wc_world.specs.declared.fault.WorldFault.{WorldFault}
use Rattle.wc_world.specs.declared.fault.WorldFault.TheVariants.{Memory as world_memory, Main, Adapter, Trim, Minimized, PageSize}
use Rattle.wc_record.specs.MessagePlaces.{worlds_json}
use Rattle.wc_record.specs.Texts.{text_of}
use Rattle.wc_calls.specs.Answers.{AreOthersOfFaultZero, AreOthersOfTextZero, IsPut, IsTooLong, failed, out_of_memory}
use Rattle.wc_calls.specs.Encoders.{AreOptionsOf, IsEncoderOf}
use Rattle.wc_calls.specs.FaultAnswers.{IsFaultAnswered}
use Rattle.wc_calls.specs.MemoryFaults.{gc_is_memory, is_memory, validate_is_memory, world_is_memory}
use Rattle.wc_calls.specs.MessageFault.{IsMessageCause, IsNoEncoderCause}
use Rattle.wc_calls.specs.Places.{IsJsonPlaceText, IsMainText, IsPartText, IsPlaceOf, world_names}
use Rattle.wc_calls.specs.Private.EncoderAnswers.{IsFaultFor, IsPlaceFor, IsPlanFaultFor, IsPlanPlaceFor}
use Rattle.wc_calls.specs.Private.Refusals.{AreWorldsAt, IsByteAt, IsJsonAt, IsNoEncoder, IsPartAt, IsPlaced, RefusedMessage, refusal_text}
use Rattle.wc_calls.specs.declared.answers.Answer.{Answer}
use Rattle.wc_calls.specs.declared.message_fault.MessageFault.{MessageFault}
use Rattle.wc_calls.specs.declared.message_fault.MessageFault.TheVariants.{Dedupe, Json, Memory, NotText, Plan, Resolve, SeveralWorlds, UnknownWorld, World}
use Rattle.wc_calls.specs.declared.refusals.MessagePlace.{MessagePlace}
use Rattle.wc_calls.specs.declared.refusals.MessagePlace.TheVariants as place

-- what is put, and what is too long for the buffer, by what is known of it

pub put_by : (P Q : List ℕ → Type 0) (n : ℕ) (old new : List ℕ) → ((text : List ℕ) → P text → Q text) → IsPut P n old new → IsPut Q n old new
put_by P Q n old new f (text, is, size, front) = (text, f text is, size, front)

pub too_long_by : (P Q : List ℕ → Type 0) (n : ℕ) (old : List ℕ) → ((text : List ℕ) → P text → Q text) → IsTooLong P n old → IsTooLong Q n old
too_long_by P Q n old f (text, is, size, less) = (text, f text is, size, less)

-- a fault that is answered, by more that is known of it
pub answered_by : (P Q : MessageFault → Type 0) (R S : MessageFault → List ℕ → Type 0) (a : Answer) (old new : List ℕ)
    → ((f : MessageFault) → is_memory f ≡ false → P f → Q f) → ((f : MessageFault) (place : List ℕ) → P f → R f place → S f place)
    → IsFaultAnswered P R a old new → IsFaultAnswered Q S a old new
answered_by P Q R S a old new causes places (f, cause, other, place, at, answered) = (f, causes f other cause, other, place, places f place cause at, answered)

-- a certain fault
pub answered_as : (g : MessageFault) (Q : MessageFault → Type 0) (R S : MessageFault → List ℕ → Type 0) (a : Answer) (old new : List ℕ)
    → Q g → ((place : List ℕ) → R g place → S g place) → IsFaultAnswered (λ f. f ≡ g) R a old new → IsFaultAnswered Q S a old new
answered_as g Q R S a old new cause places h =
    answered_by (λ f. f ≡ g) Q R S a old new (λ f other same. subst Q (sym same) cause)
    (λ f place same at. subst (λ z. S z place) (sym same) (places place (subst (λ z. R z place) same at))) h

-- the fault of a message that is no encoder, and what it is about

pub message_cause : (message modules : List ℕ) (f : MessageFault) → IsNoEncoderCause message modules f → IsMessageCause message modules f
message_cause message modules (World f) h = absurd h
message_cause message modules (Plan f) h = absurd h
message_cause message modules f h = h

json_text_at : (message : List ℕ) (f : JsonFault) (p : Option MessagePlace) (text : List ℕ) → IsJsonAt message f p → text ≡ refusal_text (Json f) p
    → IsJsonPlaceText message f text
json_text_at message f (Some (place.Json p)) text at is = (p, at, is)
json_text_at message f p text at is = absurd at

worlds_text_at : (d : DocumentView) (name : List ℕ) (f : MessageFault) (p : Option MessagePlace) (text : List ℕ) → AreWorldsAt d name p → text ≡ refusal_text f p
    → text ≡ text_of (worlds_json name (world_names d))
worlds_text_at d name f (Some (place.Worlds n worlds)) text (same, all) is = is ∙ (λ i. text_of (worlds_json (same i) (all i)))
worlds_text_at d name f p text at is = absurd at

part_text_at : (m : MessageView) (f : ResolveFault) (p : Option MessagePlace) (text : List ℕ) → IsPartAt m.document.parts f p → text ≡ refusal_text (Resolve f) p
    → IsPartText m f text
part_text_at m f (Some (place.Part p)) text at is = (p, at, is)
part_text_at m f p text at is = absurd at

main_text_at : (f : DedupeFault) (p : Option MessagePlace) (world : ℕ) (main others text : List ℕ) → IsByteAt f p world main others
    → text ≡ refusal_text (Dedupe f) p → IsMainText f text world main others
main_text_at f None world main others text at is = (None, at, is)
main_text_at f (Some (place.Bytes p)) world main others text at is = (Some p, at, is)
main_text_at f p world main others text at is = absurd at

pub no_encoder_place : (message modules : List ℕ) (f : MessageFault) (p : Option MessagePlace) (text : List ℕ) → IsNoEncoderCause message modules f
    → IsPlaced message modules f p → text ≡ refusal_text f p → IsPlaceOf message modules f text
no_encoder_place message modules Memory p text h none is = is ∙ ap (refusal_text Memory) none
no_encoder_place message modules NotText p text h none is = is ∙ ap (refusal_text NotText) none
no_encoder_place message modules (Json f) p text h at is = json_text_at message f p text at is
no_encoder_place message modules (World f) p text h at is = absurd h
no_encoder_place message modules (Plan f) p text h at is = absurd h
no_encoder_place message modules (UnknownWorld name) p text h (m, read, at) is =
    (m, read, worlds_text_at m.document (string_bytes name) (UnknownWorld name) p text at is)
no_encoder_place message modules (SeveralWorlds name) p text h (m, read, at) is =
    (m, read, worlds_text_at m.document (string_bytes name) (SeveralWorlds name) p text at is)
no_encoder_place message modules (Resolve f) p text h (m, read, at) is = (m, read, part_text_at m f p text at is)
no_encoder_place message modules (Dedupe f) p text h (m, read, (world, main, others, chosen, at)) is =
    (m, read, (world, main, others, chosen, main_text_at f p world main others text at is))
no_encoder_place message modules f p text h (m, read, none) is = is ∙ ap (refusal_text f) none

pub message_refused : (message modules : List ℕ) (x : RefusedMessage) (a : Answer) (old new : List ℕ) → IsNoEncoder message modules x
    → IsFaultAnswered (λ g. g ≡ x.fault) (λ g text. text ≡ refusal_text x.fault x.place) a old new
    → IsFaultAnswered (IsMessageCause message modules) (IsPlaceOf message modules) a old new
message_refused message modules x a old new (h, about) answered =
    answered_as x.fault (IsMessageCause message modules) (λ g text. text ≡ refusal_text x.fault x.place) (IsPlaceOf message modules) a old new
    (message_cause message modules x.fault h) (λ text is. no_encoder_place message modules x.fault x.place text h about is) answered

-- a fault of a component's world that carries no Memory has its own cause

adapters_memory : (e : EncoderView) (main : ModuleRecord) (x : NamedAdapter) (f : WorldFault) → IsMemoryOf e main x f → world_is_memory f ≡ true
adapters_memory e main x world_memory h = absurd h
adapters_memory e main x (Main f) h = absurd h
adapters_memory e main x (Adapter name f) h = ap validate_is_memory h.1
adapters_memory e main x (Trim name f) h = ap gc_is_memory h.1
adapters_memory e main x (Minimized name f) h = ap validate_is_memory h.1
adapters_memory e main x (PageSize name own mains) h = absurd h

carried_memory : (e : EncoderView) (f : WorldFault) → IsMemory e f → world_is_memory f ≡ true
carried_memory e world_memory h = refl
carried_memory e (Main f) h = ap validate_is_memory h
carried_memory e (Adapter name f) h = adapters_memory e h.main h.first.adapter (Adapter name f) h.first.here
carried_memory e (Trim name f) h = adapters_memory e h.main h.first.adapter (Trim name f) h.first.here
carried_memory e (Minimized name f) h = adapters_memory e h.main h.first.adapter (Minimized name f) h.first.here
carried_memory e (PageSize name own mains) h = adapters_memory e h.main h.first.adapter (PageSize name own mains) h.first.here

component_cause : (e : EncoderView) (f : WorldFault) → world_is_memory f ≡ false → IsWorldCause e f → IsComponentWorldCause e f
component_cause e f other (known, inl memory) = absurd (false≢true (sym other ∙ carried_memory e f memory))
component_cause e f other (known, inr cause) = cause

-- the fault for an encoder that a message is, and what it is about

world_cause : (message modules : List ℕ) (e : EncoderView) (f : MessageFault) → IsEncoderOf message modules e → is_memory f ≡ false → IsFaultFor e f
    → IsMessageCause message modules f
world_cause message modules e Memory encodes other is = tt
world_cause message modules e (World f) encodes other is = (e, encodes, component_cause e f other is)
world_cause message modules e f encodes other is = absurd is

world_place : (message modules : List ℕ) (e : EncoderView) (f : MessageFault) (place : List ℕ) → IsEncoderOf message modules e → IsFaultFor e f
    → IsPlaceFor e f place → IsPlaceOf message modules f place
world_place message modules e Memory place encodes is at = at
world_place message modules e (World f) place encodes is at = (e, encodes, at)
world_place message modules e f place encodes is at = absurd is

pub world_refused : (message modules : List ℕ) (e : EncoderView) (a : Answer) (old new : List ℕ) → IsEncoderOf message modules e
    → IsFaultAnswered (IsFaultFor e) (IsPlaceFor e) a old new
    → IsFaultAnswered (IsMessageCause message modules) (IsPlaceOf message modules) a old new
world_refused message modules e a old new encodes answered =
    answered_by (IsFaultFor e) (IsMessageCause message modules) (IsPlaceFor e) (IsPlaceOf message modules) a old new
    (λ f other is. world_cause message modules e f encodes other is) (λ f place is at. world_place message modules e f place encodes is at) answered

plan_cause : (message modules : List ℕ) (options : OptionsOf) (e : EncoderView) (f : MessageFault) → IsEncoderOf message modules e
    → AreOptionsOf message options → is_memory f ≡ false → IsPlanFaultFor options e f → IsMessageCause message modules f
plan_cause message modules options e Memory encodes given other is = tt
plan_cause message modules options e (World f) encodes given other is = (e, encodes, component_cause e f other is)
plan_cause message modules options e (Plan f) encodes given other is = (e, encodes, options, given, is.0, is.1, is.2)
plan_cause message modules options e f encodes given other is = absurd is

plan_place : (message modules : List ℕ) (options : OptionsOf) (e : EncoderView) (f : MessageFault) (text : List ℕ) → IsEncoderOf message modules e
    → AreOptionsOf message options → IsPlanFaultFor options e f → IsPlanPlaceFor options e f text → IsPlaceOf message modules f text
plan_place message modules options e Memory text encodes given is at = at
plan_place message modules options e (World f) text encodes given is at = (e, encodes, at)
plan_place message modules options e (Plan f) text encodes given is at = (e, encodes, options, given, at.0, at.1, at.2)
plan_place message modules options e f text encodes given is at = absurd is

pub plan_refused : (message modules : List ℕ) (options : OptionsOf) (e : EncoderView) (a : Answer) (old new : List ℕ) → IsEncoderOf message modules e
    → AreOptionsOf message options → IsFaultAnswered (IsPlanFaultFor options e) (IsPlanPlaceFor options e) a old new
    → IsFaultAnswered (IsMessageCause message modules) (IsPlaceOf message modules) a old new
plan_refused message modules options e a old new encodes given answered =
    answered_by (IsPlanFaultFor options e) (IsMessageCause message modules) (IsPlanPlaceFor options e) (IsPlaceOf message modules) a old new
    (λ f other is. plan_cause message modules options e f encodes given other is)
    (λ f text is at. plan_place message modules options e f text encodes given is at) answered

-- what the answer of a refusal has no use for is 0, where the faults of the call alone have bytes

pub fault_others : (a : Answer) → (a.status ≡ failed) ⊎ (a.status ≡ out_of_memory) → AreOthersOfTextZero a → AreOthersOfFaultZero a
fault_others a (inl is) others =
    (others.1 (λ e. let bad : ⊥ = cc e in bad) (λ e. let bad : ⊥ = cc e in bad), λ other. absurd (other is))
fault_others a (inr is) others =
    let own = others.1 (λ e. let bad : ⊥ = cc e in bad) (λ e. let bad : ⊥ = cc e in bad) in
    (own, λ other. (others.0 other, (others.2 (λ e. let bad : ⊥ = cc e in bad) (λ e. let bad : ⊥ = cc e in bad) other, own)))
