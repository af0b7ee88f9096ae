-- Faults that are that an allocation failed, or carry such a fault, at any depth.
use Rattle.std.specs.Prelude.{Bool, true, false}
use Rattle.wc_read.specs.declared.fault.ReadFault.{ReadFault}
use Rattle.wc_read.specs.declared.fault.ReadFault.TheVariants.{Memory as read_memory}
use Rattle.wc_dedupe.specs.declared.fault.DedupeFault.{DedupeFault}
use Rattle.wc_dedupe.specs.declared.fault.DedupeFault.TheVariants.{Memory as dedupe_memory, Read as dedupe_read}
use Rattle.wc_gc.specs.declared.fault.GcFault.{GcFault}
use Rattle.wc_gc.specs.declared.fault.GcFault.TheVariants.{Memory as gc_memory, Read as gc_read}
use Rattle.wc_encoder.specs.declared.fault.EncoderFault.{EncoderFault}
use Rattle.wc_encoder.specs.declared.fault.EncoderFault.TheVariants.{Memory as encoder_memory}
use Rattle.wc_json.specs.declared.fault.JsonFault.{JsonFault}
use Rattle.wc_json.specs.declared.fault.JsonFault.TheVariants.{Memory as json_memory}
use Rattle.wc_plan.specs.declared.fault.PlanFault.{PlanFault}
use Rattle.wc_plan.specs.declared.fault.PlanFault.TheVariants.{Memory as plan_memory, World as plan_world}
use Rattle.wc_resolve.specs.declared.fault.ResolveFault.{ResolveFault}
use Rattle.wc_resolve.specs.declared.fault.ResolveFault.TheVariants.{Memory as resolve_memory}
use Rattle.wc_validate.specs.declared.fault.ValidateFault.{ValidateFault}
use Rattle.wc_validate.specs.declared.fault.ValidateFault.TheVariants.{Memory as validate_memory, Read as validate_read}
use Rattle.wc_world.specs.declared.fault.WorldFault.{WorldFault}
use Rattle.wc_world.specs.declared.fault.WorldFault.TheVariants.{Memory as world_memory, Main, Adapter, Trim, Minimized}
use Rattle.wc_calls.specs.declared.message_fault.MessageFault.{MessageFault}
use Rattle.wc_calls.specs.declared.message_fault.MessageFault.TheVariants.{Memory, Json, Resolve, Dedupe, Encoder, World, Plan}

abbrev pub read_is_memory : ReadFault → Bool
read_is_memory read_memory = true
read_is_memory f = false

abbrev pub dedupe_is_memory : DedupeFault → Bool
dedupe_is_memory dedupe_memory = true
dedupe_is_memory (dedupe_read f) = read_is_memory f
dedupe_is_memory f = false

abbrev pub gc_is_memory : GcFault → Bool
gc_is_memory gc_memory = true
gc_is_memory (gc_read f) = read_is_memory f
gc_is_memory f = false

abbrev pub json_is_memory : JsonFault → Bool
json_is_memory json_memory = true
json_is_memory f = false

abbrev pub resolve_is_memory : ResolveFault → Bool
resolve_is_memory resolve_memory = true
resolve_is_memory f = false

abbrev pub encoder_is_memory : EncoderFault → Bool
encoder_is_memory encoder_memory = true
encoder_is_memory f = false

abbrev pub validate_is_memory : ValidateFault → Bool
validate_is_memory validate_memory = true
validate_is_memory (validate_read f) = read_is_memory f
validate_is_memory f = false

abbrev pub world_is_memory : WorldFault → Bool
world_is_memory world_memory = true
world_is_memory (Main f) = validate_is_memory f
world_is_memory (Adapter name f) = validate_is_memory f
world_is_memory (Trim name f) = gc_is_memory f
world_is_memory (Minimized name f) = validate_is_memory f
world_is_memory f = false

abbrev pub plan_is_memory : PlanFault → Bool
plan_is_memory plan_memory = true
plan_is_memory (plan_world f) = world_is_memory f
plan_is_memory f = false

-- the same of a fault of a message
abbrev pub is_memory : MessageFault → Bool
is_memory Memory = true
is_memory (Json f) = json_is_memory f
is_memory (Resolve f) = resolve_is_memory f
is_memory (Dedupe f) = dedupe_is_memory f
is_memory (Encoder f) = encoder_is_memory f
is_memory (World f) = world_is_memory f
is_memory (Plan f) = plan_is_memory f
is_memory f = false
