-- How a fault is answered: its number, its text, and after that what it is about.
use Rattle.std.specs.Prelude.{◌≡◌, ◌++◌, ◌⊎◌, ℕ, List, length, false}
use Rattle.wc_calls.specs.Answers.{IsFaultPut}
use Rattle.wc_calls.specs.ComponentWorlds.{IsFaultOf}
use Rattle.wc_calls.specs.WorldCalls.{IsOfWorld}
use Rattle.wc_calls.specs.declared.answers.Answer.{Answer}
use Rattle.wc_world.specs.Views.{ComponentWorldView}
use Rattle.wc_component_calls.specs.ComponentFault.{component_fault_number, component_fault_text, fault_place, is_memory}
use Rattle.wc_component_calls.specs.declared.component_fault.ComponentFault.{ComponentFault}

-- the text of a fault, and what it is about
abbrev pub said_of : ComponentFault → List ℕ
said_of f = component_fault_text f ++ fault_place f

-- a fault by its number; its text and what it is about are in the front of the buffer, or longer than it; the latter begins where
-- the text ends
abbrev pub IsFaultAnswer : ComponentFault → Answer → List ℕ → List ℕ → Type 0
IsFaultAnswer f answer old new = IsFaultPut (component_fault_number f) (length (component_fault_text f)) (said_of f) answer old new

-- the answer is a fault with this cause, which neither is nor carries a Memory
abbrev pub IsAnsweredFault : (ComponentFault → Type 0) → Answer → List ℕ → List ℕ → Type 0
IsAnsweredFault IsCause answer old new = (f : ComponentFault) × IsCause f × (is_memory f ≡ false) × IsFaultAnswer f answer old new

-- it is a fault of the message, or one with this cause for the world that it describes
abbrev pub IsFaultFor : (ComponentWorldView → ComponentFault → Type 0) → List ℕ → List ℕ → Answer → List ℕ → List ℕ → Type 0
IsFaultFor IsCause message modules answer old new =
    IsFaultOf message modules answer old new ⊎ IsOfWorld message modules (λ w. IsAnsweredFault (IsCause w) answer old new)
