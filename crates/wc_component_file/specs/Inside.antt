-- Components inside a component, and whether core modules are in them.
use Rattle.std.specs.Prelude.{◌≡◌, ℕ, ◌+◌, ◌⊎◌, List, [], ◌∷◌, Contains}
use Rattle.wc_component_file.specs.Frames.{FrameValue, SpellsComponent, core_module_id, component_id}

-- a component has core modules, itself or in a component inside it
pub data HasCoreModules : List ℕ → Type 0 where
  directly : {bytes : List ℕ} (fs : List FrameValue) (f : FrameValue) → SpellsComponent bytes fs → Contains fs f → f.section.id ≡ core_module_id → HasCoreModules bytes
  within : {bytes : List ℕ} (fs : List FrameValue) (f : FrameValue) → SpellsComponent bytes fs → Contains fs f → f.section.id ≡ component_id → HasCoreModules f.section.content → HasCoreModules bytes

-- a section that is a component with core modules
abbrev pub IsInside : FrameValue → Type 0
IsInside f = (f.section.id ≡ component_id) × HasCoreModules f.section.content

-- how many of a list P holds of
abbrev pub Counts : {A : Type 0} → (A → Type 0) → List A → ℕ → Type 0
Counts P [] n = n ≡ 0
Counts P (x ∷ xs) n = (P x × (others : ℕ) × (n ≡ others + 1) × Counts P xs others) ⊎ ((P x → ⊥) × Counts P xs n)
