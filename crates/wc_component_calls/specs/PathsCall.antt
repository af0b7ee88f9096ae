-- What the call that answers the paths to what a component imports answers.
use Rattle.std.specs.Prelude.{◌≡◌, ℕ, List, String, true, false, map, string_bytes, ⊤}
use Rattle.std.specs.declared.alloc.Global.{Global}
use Rattle.std.specs.declared.vec.Vec.{Vec}
use Rattle.wc_calls.specs.WorldCalls.{IsOfWorld}
use Rattle.wc_calls.specs.declared.answers.Answer.{Answer}
use Rattle.wc_ways.specs.WaysTree.{IsWaysJson}
use Rattle.wc_ways.specs.WaysFaults.{IsWaysFault}
use Rattle.wc_world.specs.Views.{ComponentWorldView}
use Rattle.wc_component_calls.specs.FaultAnswers.{IsFaultFor}
use Rattle.wc_component_calls.specs.KnownImports.{asks_about_known, import_texts}
use Rattle.wc_component_calls.specs.declared.component_fault.ComponentFault.{ComponentFault}
use Rattle.wc_component_calls.specs.declared.component_fault.ComponentFault.TheVariants.{Memory, UnknownImport, Ways}

-- the paths to what a key asks about, as JSON, where it asks about something that the world imports
pub record IsPathsText (w : ComponentWorldView) (key text : List ℕ) : Type 0 where
  pub known : asks_about_known key (import_texts w.encoder) ≡ true
  pub is : IsWaysJson w key text

-- the same of the world that the message describes
abbrev pub IsComponentPaths : List ℕ → List ℕ → List ℕ → List ℕ → Type 0
IsComponentPaths message modules key text = IsOfWorld message modules (λ w. IsPathsText w key text)

-- the key asks about none of the imports with these texts; it and they are carried
pub record IsUnknownImport (key : List ℕ) (texts : List (List ℕ)) (carried : String Global) (imports : Vec (String Global) Global) : Type 0 where
  pub unknown : asks_about_known key texts ≡ false
  pub named : string_bytes carried ≡ key
  pub listed : map string_bytes imports.items ≡ texts

-- why a component with this world has no paths
abbrev pub IsPathsCause : List ℕ → ComponentWorldView → ComponentFault → Type 0
IsPathsCause key w Memory = ⊤
IsPathsCause key w (UnknownImport carried imports) = IsUnknownImport key (import_texts w.encoder) carried imports
IsPathsCause key w (Ways f) = IsWaysFault w f

-- the answer is a fault of the message, or such a one of its world
abbrev pub IsPathsFault : List ℕ → List ℕ → List ℕ → Answer → List ℕ → List ℕ → Type 0
IsPathsFault message modules key answer old new = IsFaultFor (IsPathsCause key) message modules answer old new
