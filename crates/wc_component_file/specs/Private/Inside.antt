-- The search for core modules in components inside.
use Rattle.std.specs.Prelude.{ℕ, List, Bool, map, nat_eq, Option, Some, None}
use Rattle.std.specs.List.{filter}
use Rattle.std.specs.declared.alloc.Global.{Global}
use Rattle.std.specs.declared.vec.Vec.{Vec}
use Rattle.wc_component_file.specs.Frames.{FrameValue, SpellsComponent, component_id, frame_values}
use Rattle.wc_component_file.specs.declared.frames.Frame.{Frame}

abbrev pub is_component : FrameValue → Bool
is_component f = nat_eq f.section.id component_id

-- the components among sections
abbrev pub components_of : List FrameValue → List (List ℕ)
components_of fs = map (λ (f : FrameValue). f.section.content) (filter is_component fs)

-- the sections of a component, where the bytes are one
abbrev pub IsCutOf : List ℕ → Option (Vec Frame Global) → Type 0
IsCutOf bytes (Some v) = SpellsComponent bytes (frame_values v.items)
IsCutOf bytes None = (fs : List FrameValue) → SpellsComponent bytes fs → ⊥
