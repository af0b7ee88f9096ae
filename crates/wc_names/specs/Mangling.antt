-- The two schemes of names, and the texts of each.
use Rattle.std.specs.Prelude.{◌≡◌, ℕ, List, [], ◌++◌, Bool, true, false, Option, Some, None, codes}

-- `cm32p2` (component model, pull request 378), and the older scheme, with the name of the task hook
pub data Scheme : Type 0 where
  standard : Scheme
  legacy : List ℕ → Scheme

-- how names begin that are always read by the standard scheme
abbrev pub marker : List ℕ
marker = codes "cm32p2"

-- the module of functions and resources of the world itself
abbrev pub root_module : Scheme → List ℕ
root_module standard = []
root_module (legacy hook) = codes "$root"

-- how the names of all modules but that of the root begin
abbrev pub interface_prefix : Scheme → List ℕ
interface_prefix standard = codes "|"
interface_prefix (legacy hook) = []

-- what comes before the module of an export, whose intrinsics are imported
abbrev pub export_prefix : Scheme → List ℕ
export_prefix standard = codes "_ex_"
export_prefix (legacy hook) = codes "[export]"

abbrev pub memory_name : Scheme → List ℕ
memory_name standard = codes "_memory"
memory_name (legacy hook) = codes "memory"

abbrev pub initialize_name : Scheme → List ℕ
initialize_name s = codes "_initialize"

abbrev pub realloc_name : Scheme → List ℕ
realloc_name standard = codes "_realloc"
realloc_name (legacy hook) = codes "cabi_realloc"

abbrev pub function_table_name : Scheme → Option (List ℕ)
function_table_name standard = None
function_table_name (legacy hook) = Some (codes "__indirect_function_table")

abbrev pub task_hook_name : Scheme → Option (List ℕ)
task_hook_name standard = None
task_hook_name (legacy hook) = Some hook

-- a name, or the name after `[async-lower]`
abbrev pub lowered_name : Bool → List ℕ → List ℕ
lowered_name true name = codes "[async-lower]" ++ name
lowered_name false name = name

-- `resource.drop`, `resource.new` and `resource.rep` (component model, "Canonical built-ins")
pub data ResourceOperation : Type 0 where
  resource_drop : ResourceOperation
  resource_new : ResourceOperation
  resource_rep : ResourceOperation

abbrev pub NamesResource : Scheme → ResourceOperation → List ℕ → List ℕ → Type 0
NamesResource standard resource_drop resource name = name ≡ resource ++ codes "_drop"
NamesResource standard resource_new resource name = name ≡ resource ++ codes "_new"
NamesResource standard resource_rep resource name = name ≡ resource ++ codes "_rep"
NamesResource (legacy hook) resource_drop resource name = name ≡ codes "[resource-drop]" ++ resource
NamesResource (legacy hook) resource_new resource name = name ≡ codes "[resource-new]" ++ resource
NamesResource (legacy hook) resource_rep resource name = name ≡ codes "[resource-rep]" ++ resource

-- `task.return` of an exported function
abbrev pub NamesTaskReturn : Scheme → List ℕ → List ℕ → Type 0
NamesTaskReturn standard function name = ⊥
NamesTaskReturn (legacy hook) function name = name ≡ codes "[task-return]" ++ function

abbrev pub NamesTaskCancel : Scheme → List ℕ → Type 0
NamesTaskCancel standard name = ⊥
NamesTaskCancel (legacy hook) name = name ≡ codes "[task-cancel]"

-- an imported function: asynchronously after `[async-lower]`, and synchronously by every other name
abbrev pub NamesFunction : Scheme → Bool → List ℕ → List ℕ → Type 0
NamesFunction standard true function name = ⊥
NamesFunction standard false function name = name ≡ function
NamesFunction (legacy hook) true function name = name ≡ lowered_name true function
NamesFunction (legacy hook) false function name = (name ≡ function) × ((other : List ℕ) → ¬ (name ≡ lowered_name true other))

-- exports for the export of another name: its asynchronous lift with a callback, the callback, its stackful lift, and
-- what runs after it has returned
abbrev pub NamesAsyncLift : Scheme → List ℕ → List ℕ → Type 0
NamesAsyncLift standard lifted name = ⊥
NamesAsyncLift (legacy hook) lifted name = name ≡ codes "[async-lift]" ++ lifted

abbrev pub NamesCallback : Scheme → List ℕ → List ℕ → Type 0
NamesCallback standard lifted name = ⊥
NamesCallback (legacy hook) lifted name = name ≡ codes "[callback][async-lift]" ++ lifted

abbrev pub NamesStackfulLift : Scheme → List ℕ → List ℕ → Type 0
NamesStackfulLift standard lifted name = ⊥
NamesStackfulLift (legacy hook) lifted name = name ≡ codes "[async-lift-stackful]" ++ lifted

abbrev pub NamesPostReturn : Scheme → List ℕ → List ℕ → Type 0
NamesPostReturn standard returned name = name ≡ returned ++ codes "_post"
NamesPostReturn (legacy hook) returned name = name ≡ codes "cabi_post_" ++ returned
