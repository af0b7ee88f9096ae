-- Why there are no paths, by why a key is unknown and why an adapter can't be searched.
use Rattle.std.proofs.Common.{ℕ, List, inl, inr}
use Rattle.std.proofs.lemmas.Bool.{cases_Bool}
use Rattle.wc_calls.specs.MemoryFaults.{gc_is_memory}
use Rattle.wc_gc.specs.declared.fault.GcFault.{GcFault}
use Rattle.wc_ways.specs.WaysFaults.{IsWaysFault}
use Rattle.wc_world.specs.Views.{ComponentWorldView}
use Rattle.wc_component_calls.specs.ComponentFault.{of_gc}
use Rattle.wc_component_calls.specs.ImportsCall.{IsImportsCause}
use Rattle.wc_component_calls.specs.PathsCall.{IsPathsCause}
use Rattle.wc_component_calls.specs.KnownImports.{import_texts}
use Rattle.wc_component_calls.specs.Private.Keys.{IsUnknown}
use Rattle.wc_component_calls.specs.declared.component_fault.ComponentFault.{ComponentFault}
use Rattle.wc_component_calls.specs.declared.component_fault.ComponentFault.TheVariants.{Memory, UnknownImport, Ways}

pub key_cause : (key : List ℕ) (w : ComponentWorldView) (f : ComponentFault) → IsUnknown key (import_texts w.encoder) f → IsPathsCause key w f
key_cause key w Memory h = tt
key_cause key w (UnknownImport k imports) h = h
key_cause key w (Ways f) h = absurd h

pub paths_cause : (key : List ℕ) (w : ComponentWorldView) (f : GcFault) → IsWaysFault w f → IsPathsCause key w (of_gc f)
paths_cause key w f h = elim (cases_Bool (gc_is_memory f)) [
  | inl on ↦ rw on tt
  | inr off ↦ rw off h
]

pub imports_cause : (w : ComponentWorldView) (f : GcFault) → IsWaysFault w f → IsImportsCause w (of_gc f)
imports_cause w f h = elim (cases_Bool (gc_is_memory f)) [
  | inl on ↦ rw on tt
  | inr off ↦ rw off h
]
