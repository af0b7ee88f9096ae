-- Only functions have signatures: what an import or an export means by a rule that fixes a signature.
use Rattle.std.proofs.Common.{◌≡◌, ℕ, List, [], ◌∷◌, map, Some, inl, inr, refl, subst}
use Rattle.wc_read.specs.declared.types.FuncType.{FuncType}
use Rattle.wc_read.specs.declared.types.Import.{Import}
use Rattle.wc_read.specs.declared.types.ImportType.{ImportType}
use Rattle.wc_read.specs.declared.types.ImportType.TheVariants as imported
use Rattle.wc_read.specs.Types.{FuncTypeValue, func_type_value}
use Rattle.wc_names.specs.First.{FirstOf}
use Rattle.wc_names.specs.Imports.{CoreImport, IsFunction, IsRule, NameScope, Rule, adapter_function, by_scheme, func_type, main_item, main_memory, not_function, rules}
use Rattle.wc_names.specs.Meanings.{means}
use Rattle.wc_names.specs.Views.{ImportView}
use Rattle.wc_validate.specs.declared.imports.record.ImportContext.{ImportContext}
use Rattle.wc_validate.specs.declared.name_fault.NameFault.TheVariants as naming
use Rattle.wc_validate.specs.Imports.Record.{extern_type}
use Rattle.wc_validate.specs.NameScope.{name_scope_of}
use Rattle.wc_validate.specs.Private.Explain.{IsRefusedByName}
use Rattle.wc_validate.proofs.ExplainLemmas.{mismatch_of}

module _ (e : NameScope) (a : CoreImport) (v : ImportView) (w : FuncTypeValue) where
  rule_signed : (r : Rule) → IsRule e a r (means v (Some w)) → IsFunction a.ty
  rule_signed main_memory h = let bad : ⊥ = cc h.4 in absurd bad
  rule_signed main_item h = let bad : ⊥ = cc h.1 in absurd bad
  rule_signed not_function h = let bad : ⊥ = cc h.1 in absurd bad
  rule_signed adapter_function h = (h.1, h.2)
  rule_signed (by_scheme k) h = (h.0, h.3)

  rules_signed : (rs : List Rule) → FirstOf (IsRule e a) rs (means v (Some w)) → IsFunction a.ty
  rules_signed [] h = absurd h
  rules_signed (r ∷ rs) (inl h) = rule_signed r h
  rules_signed (r ∷ rs) (inr h) = rules_signed rs h.1

function_type_of : (types : List FuncTypeValue) (t : ImportType) (f : FuncTypeValue) → extern_type types t ≡ Some (func_type f)
    → (index : ℕ) × (t ≡ imported.Func index)
function_type_of types (imported.Func index) f h = (index, refl)
function_type_of types (imported.Table t) f h = let bad : ⊥ = cc h in absurd bad
function_type_of types (imported.Memory t) f h = let bad : ⊥ = cc h in absurd bad
function_type_of types (imported.Global t) f h = let bad : ⊥ = cc h in absurd bad

-- an import that is refused for its type is a function
pub refused_function : (c : ImportContext) (i : Import) (wanted : FuncType) → IsRefusedByName c i (naming.SignatureMismatch wanted)
    → (index : ℕ) × (i.ty ≡ imported.Func index)
refused_function c i wanted h =
    let n = mismatch_of (name_scope_of c.names) h.1.0 wanted h.1.2 in
    let f = rules_signed (name_scope_of c.names) h.1.0 n.0 (func_type_value wanted) rules n.1 in
    function_type_of (map func_type_value c.types.now) i.ty f.0 (subst (λ z. extern_type (map func_type_value c.types.now) i.ty ≡ Some z) f.1 h.1.1.2)
