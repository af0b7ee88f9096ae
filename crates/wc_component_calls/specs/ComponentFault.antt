-- The faults of the calls beside those of messages: their numbers, their texts, and what they are about.
use Rattle.std.specs.Prelude.{ℕ, List, [], Bool, true, false, cond, codes, map, string_bytes}
use Rattle.wc_calls.specs.MemoryFaults.{gc_is_memory}
use Rattle.wc_gc.specs.Fault.{gc_fault_number, gc_fault_text}
use Rattle.wc_gc.specs.declared.fault.GcFault.{GcFault}
use Rattle.wc_record.specs.Texts.{text_of}
use Rattle.wc_texts.specs.FaultNumbers.{carrying}
use Rattle.wc_texts.specs.FaultTexts.{carried_text, memory_text, quoted_text}
use Rattle.wc_component_calls.specs.Places.{imports_json}
use Rattle.wc_component_calls.specs.declared.component_fault.ComponentFault.{ComponentFault}
use Rattle.wc_component_calls.specs.declared.component_fault.ComponentFault.TheVariants.{Memory, UnknownImport, Ways}

-- the fault of an adapter that can't be searched; that of memory as the own one
abbrev pub of_gc : GcFault → ComponentFault
of_gc f = cond (gc_is_memory f) Memory (Ways f)

-- a fault is that an allocation failed, or carries such a fault
abbrev pub is_memory : ComponentFault → Bool
is_memory Memory = true
is_memory (UnknownImport key imports) = false
is_memory (Ways f) = gc_is_memory f

-- the text of a fault, and its number: after those of messages
abbrev pub component_fault_text : ComponentFault → List ℕ
component_fault_text Memory = memory_text
component_fault_text (UnknownImport key imports) = quoted_text (codes "UnknownImport") (string_bytes key)
component_fault_text (Ways f) = carried_text (codes "Ways") (gc_fault_text f)

abbrev pub component_fault_number : ComponentFault → ℕ
component_fault_number Memory = 0
component_fault_number (UnknownImport key imports) = 16
component_fault_number (Ways f) = carrying 17 (gc_fault_number f)

-- what a fault is about: the key, and the imports that there are
abbrev pub fault_place : ComponentFault → List ℕ
fault_place (UnknownImport key imports) = text_of (imports_json (string_bytes key) (map string_bytes imports.items))
fault_place f = []
