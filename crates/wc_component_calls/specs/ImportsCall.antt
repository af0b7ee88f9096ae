-- What the call that answers what a component imports of each interface answers.
use Rattle.std.specs.Prelude.{ℕ, List, ⊤}
use Rattle.wc_calls.specs.WorldCalls.{IsOfWorld}
use Rattle.wc_calls.specs.declared.answers.Answer.{Answer}
use Rattle.wc_ways.specs.Imports.{IsImportsJson}
use Rattle.wc_ways.specs.WaysFaults.{IsWaysFault}
use Rattle.wc_world.specs.Views.{ComponentWorldView}
use Rattle.wc_component_calls.specs.FaultAnswers.{IsFaultFor}
use Rattle.wc_component_calls.specs.declared.component_fault.ComponentFault.{ComponentFault}
use Rattle.wc_component_calls.specs.declared.component_fault.ComponentFault.TheVariants.{Memory, UnknownImport, Ways}

-- the imports of each interface, as JSON, of the world that the message describes
abbrev pub AreComponentImports : List ℕ → List ℕ → List ℕ → Type 0
AreComponentImports message modules text = IsOfWorld message modules (λ w. IsImportsJson w text)

-- why they can't be said of a component with this world
abbrev pub IsImportsCause : ComponentWorldView → ComponentFault → Type 0
IsImportsCause w Memory = ⊤
IsImportsCause w (UnknownImport key imports) = ⊥
IsImportsCause w (Ways f) = IsWaysFault w f

-- the answer is a fault of the message, or such a one of its world
abbrev pub IsImportsFault : List ℕ → List ℕ → Answer → List ℕ → List ℕ → Type 0
IsImportsFault message modules answer old new = IsFaultFor IsImportsCause message modules answer old new
