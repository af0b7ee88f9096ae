-- Functions of the module `env`, by which linkers reach a thread's stack pointer and its local storage.
use Rattle.std.specs.Prelude.{◌≡◌, ℕ, Bool, List, ◌∷◌, Option, Some, None, is_some, if◌then◌else◌, codes}
use Rattle.std.specs.Option.{option_and_then}
use Rattle.wc_read.specs.declared.types.ValType.{ValType}
use Rattle.wc_read.specs.Types.{FuncTypeValue, type_index}
use Rattle.wc_names.specs.Meanings.{Meaning, means, refuses, typed_reference}
use Rattle.wc_names.specs.Mangling.{Scheme, standard, legacy}
use Rattle.wc_names.specs.Views.{ImportView, builtin, context_get, context_set, tls_base_get, tls_base_set}

abbrev pub environment_module : List ℕ
environment_module = codes "env"

pub data EnvironmentFunction : Type 0 where
  get_stack_pointer : EnvironmentFunction
  set_stack_pointer : EnvironmentFunction
  get_tls_base : EnvironmentFunction
  set_tls_base : EnvironmentFunction

-- a name, the list of types of which the first is the value's, and what it means for that type; no signature is fixed
pub record EnvironmentRow : Type 0 where
  pub text : List ℕ
  pub types : FuncTypeValue → List ValType
  pub meaning : ValType → ImportView

abbrev pub results_of : FuncTypeValue → List ValType
results_of ty = ty.results

abbrev pub params_of : FuncTypeValue → List ValType
params_of ty = ty.params

abbrev pub row : List ℕ → (FuncTypeValue → List ValType) → (ValType → ImportView) → EnvironmentRow
row text types meaning = record { text = text; types = types; meaning = meaning }

-- the name, the types and the meaning of each function of `env`
abbrev pub environment_row : EnvironmentFunction → EnvironmentRow
environment_row get_stack_pointer = row (codes "__wasm_get_stack_pointer") results_of (λ t. builtin (context_get t 0))
environment_row set_stack_pointer = row (codes "__wasm_set_stack_pointer") params_of (λ t. builtin (context_set t 0))
environment_row get_tls_base = row (codes "__wasm_get_tls_base") results_of tls_base_get
environment_row set_tls_base = row (codes "__wasm_set_tls_base") params_of tls_base_set

abbrev pub IsEnvironmentImport : List ℕ → FuncTypeValue → ImportView → Type 0
IsEnvironmentImport name ty i =
    (f : EnvironmentFunction) × (t : ValType) × (rest : List ValType)
    × (name ≡ (environment_row f).text) × ((environment_row f).types ty ≡ t ∷ rest) × (i ≡ (environment_row f).meaning t)

-- the standard scheme has no functions of `env`
abbrev pub NamesEnvironment : Scheme → List ℕ → FuncTypeValue → ImportView → Type 0
NamesEnvironment standard name ty i = ⊥
NamesEnvironment (legacy hook) name ty i = IsEnvironmentImport name ty i

-- the type of the value that is read or written
abbrev pub environment_type : ImportView → Option ValType
environment_type (builtin (context_get t slot)) = Some t
environment_type (builtin (context_set t slot)) = Some t
environment_type (tls_base_get t) = Some t
environment_type (tls_base_set t) = Some t
environment_type i = None

-- whether the type of the value names a type of the module by its index
abbrev pub names_value_type : ImportView → Bool
names_value_type i = is_some (option_and_then type_index (environment_type i))

-- what an import of `env` means; where its value's type names a type, it is refused, since indices mean nothing in another
-- module
abbrev pub environment_meaning : ImportView → Meaning
environment_meaning i = if names_value_type i then refuses typed_reference else means i None
