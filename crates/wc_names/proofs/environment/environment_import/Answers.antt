use Rattle.std.proofs.Common.{◌≡◌, ℕ, List, [], ◌∷◌, Some, refl, sym, ◌∙◌}
use Rattle.std.specs.Prelude.{slice_get}
use Rattle.std.proofs.lemmas.Slice.Eq.{bytes_eq-Decides}
use Rattle.wc_read.specs.declared.types.ValType.{ValType}
use Rattle.wc_read.specs.Types.{FuncTypeValue, func_type_value}
use Rattle.wc_names.specs.Environment.{EnvironmentFunction, IsEnvironmentImport, environment_row, get_stack_pointer, set_stack_pointer, get_tls_base, set_tls_base}
use Rattle.wc_names.proofs.environment.environment_import.Goals as goal

environment_found : (f : EnvironmentFunction) (name : List ℕ) (ty : FuncTypeValue) (types : List ValType) (t : ValType) → name ≡ (environment_row f).text
    → types ≡ (environment_row f).types ty → Some t ≡ slice_get types 0
    → IsEnvironmentImport name ty ((environment_row f).meaning t)
environment_found f name ty [] t named same first = absurd (let bad : ⊥ = cc first in bad)
environment_found f name ty (x ∷ xs) t named same first =
    (f, t, xs, named, sym same ∙ (let e : x ∷ xs ≡ t ∷ xs = cc first in e), refl)

pub returns-then-eq : goal.returns-then-eq
returns-then-eq c =
    environment_found get_stack_pointer c.args.name.now (func_type_value c.args.ty.now) c.results.result.now c.in_ok-ty.field-0.now
    ((bytes_eq-Decides c.args.name.now _).0 (sym c.if-eq.ensures)) c.results.ensures c.in_ok-ty.ensures.value

pub returns-then-eq-2 : goal.returns-then-eq-2
returns-then-eq-2 c =
    environment_found set_stack_pointer c.args.name.now (func_type_value c.args.ty.now) c.params.result.now c.in_ok-ty-2.field-0.now
    ((bytes_eq-Decides c.args.name.now _).0 (sym c.if-eq-2.ensures)) c.params.ensures c.in_ok-ty-2.ensures.value

pub returns-then-eq-3 : goal.returns-then-eq-3
returns-then-eq-3 c =
    environment_found get_tls_base c.args.name.now (func_type_value c.args.ty.now) c.results-then-eq-3.result.now c.in_ok-ty-3.field-0.now
    ((bytes_eq-Decides c.args.name.now _).0 (sym c.if-eq-3.ensures)) c.results-then-eq-3.ensures c.in_ok-ty-3.ensures.value

pub returns-then-eq-4 : goal.returns-then-eq-4
returns-then-eq-4 c =
    environment_found set_tls_base c.args.name.now (func_type_value c.args.ty.now) c.params-then-eq-4.result.now c.in_ok-ty-4.field-0.now
    ((bytes_eq-Decides c.args.name.now _).0 (sym c.if-eq-4.ensures)) c.params-then-eq-4.ensures c.in_ok-ty-4.ensures.value
