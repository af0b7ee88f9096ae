-- An import means one thing at most.
use Rattle.std.proofs.Common.{◌≡◌, ℕ, Bool, true, false, List, ◌++◌, Some, None, inl, inr, sym, ap, ◌∙◌, subst}
use Rattle.std.proofs.lemmas.List.{append_cancel_left}
use Rattle.wc_maps.proofs.OptionLemmas.{some_unique}
use Rattle.wc_read.specs.declared.types.MemoryType.{MemoryType}
use Rattle.wc_read.specs.Types.{FuncTypeValue}
use Rattle.wc_resolve.specs.Views.{FunctionView, plain_key}
use Rattle.wc_resolve.specs.WellFormed.{HaveDistinctNames}
use Rattle.wc_names.specs.Builtins.{builtin_import, builtin_type}
use Rattle.wc_names.specs.Environment.{environment_meaning}
use Rattle.wc_names.specs.Imports.{Classified, CoreFunction, CoreImport, IsKind, IsReadBy, IsRule, Kind, NamesExportedInterface, NamesImportedInterface, Rule, NameScope, adapter_function, adapter_meaning, by_scheme, environment, export_intrinsic, export_other_name, export_root_intrinsic, export_unknown, func_type, function_type, import_abi, interface_function, interface_intrinsic, interface_other_name, interface_unknown, main_item, main_memory, memory_type, not_function, root_builtin, root_function, root_intrinsic, root_other_item, root_unknown, rules, scope_of, without_prefix}
use Rattle.wc_names.specs.Interfaces.{FoundInterface, NamesInterface}
use Rattle.wc_names.specs.Keys.{function_named, world_scope}
use Rattle.wc_names.specs.Meanings.{Meaning, means}
use Rattle.wc_names.specs.Mangling.{Scheme, export_prefix, interface_prefix, marker}
use Rattle.wc_names.specs.Views.{Builtin, interface_func, main_module_memory, world_func}
use Rattle.wc_names.specs.WitIntrinsics.{IsWitIntrinsic}
use Rattle.wc_names.proofs.BuiltinLemmas.{builtin_unique}
use Rattle.wc_names.proofs.MeaningLemmas.{environment_names_unique, function_unique, interface_unique, wit_intrinsic_unique}
use Rattle.wc_names.proofs.SearchLemmas.{first_unique}

builtin_meaning : Builtin → Meaning
builtin_meaning b = means (builtin_import b) (Some (builtin_type b))

world_meaning : NameScope → List ℕ → FunctionView → Bool → Meaning
world_meaning e name f a = means (world_func (plain_key name) f.name (import_abi a)) (Some (function_type e.resolve (import_abi a) f))

interface_meaning : NameScope → FoundInterface → FunctionView → Bool → Meaning
interface_meaning e found f a = means (interface_func found.0 found.1 f.name (import_abi a)) (Some (function_type e.resolve (import_abi a) f))

module _ (e : NameScope) (distinct : HaveDistinctNames e.resolve.packages) where
  exported_unique : (s : Scheme) (from : List ℕ) (f g : FoundInterface) → NamesExportedInterface s e from f → NamesExportedInterface s e from g → f ≡ g
  exported_unique s from f g x y =
      let text : x.0 ≡ y.0 =
      append_cancel_left (export_prefix s) x.0 y.0 (append_cancel_left (interface_prefix s) (export_prefix s ++ x.0) (export_prefix s ++ y.0)
      (sym x.1 ∙ y.1)) in
      interface_unique e.resolve distinct e.world.exports s y.0 f g (subst (λ z. NamesInterface s e.resolve e.world.exports z f) text x.2) y.2

  imported_unique : (s : Scheme) (from : List ℕ) (f g : FoundInterface) → NamesImportedInterface s e from f → NamesImportedInterface s e from g → f ≡ g
  imported_unique s from f g x y =
      let text : x.0 ≡ y.0 = append_cancel_left (interface_prefix s) x.0 y.0 (sym x.1 ∙ y.1) in
      interface_unique e.resolve distinct e.world.imports s y.0 f g (subst (λ z. NamesInterface s e.resolve e.world.imports z f) text x.2) y.2

  pub kind_unique : (s : Scheme) (c : CoreFunction) (k : Kind) (m n : Meaning) → IsKind s e c k m → IsKind s e c k n → m ≡ n
  unfolding builtin_meaning world_meaning interface_meaning
  kind_unique s c root_builtin m n x y = x.3 ∙ (ap builtin_meaning (builtin_unique s x.1 y.1 c.name x.2 y.2) ∙ sym y.3)
  kind_unique s c root_function m n x y =
      let names = function_unique s x.1 y.1 x.2 y.2 c.name x.4 y.4 in
      let f : x.3 ≡ y.3 =
      some_unique (function_named e.resolve e.world true world_scope y.2) x.3 y.3
      (subst (λ z. function_named e.resolve e.world true world_scope z ≡ Some x.3) names.1 x.5) y.5 in
      x.6 ∙ (ap (λ z. world_meaning e z x.3 x.1) names.1 ∙ (ap (λ z. world_meaning e y.2 z x.1) f ∙ (ap (world_meaning e y.2 y.3) names.0 ∙ sym y.6)))
  kind_unique s c (root_intrinsic k) m n x y = wit_intrinsic_unique s e.resolve e.world true world_scope c.name k m n x.1 y.1
  kind_unique s c root_other_item m n x y = x.5 ∙ sym y.5
  kind_unique s c root_unknown m n x y = x.1 ∙ sym y.1
  kind_unique s c environment m n x y = x.3 ∙ (ap environment_meaning (environment_names_unique s c.name c.ty x.1 y.1 x.2 y.2) ∙ sym y.3)
  kind_unique s c (export_root_intrinsic k) m n x y = wit_intrinsic_unique s e.resolve e.world false world_scope c.name k m n x.1 y.1
  kind_unique s c without_prefix m n x y = x.1 ∙ sym y.1
  kind_unique s c export_unknown m n x y = x.3 ∙ sym y.3
  kind_unique s c (export_intrinsic k) m n x y =
      wit_intrinsic_unique s e.resolve e.world false (scope_of y.0) c.name k m n
      (subst (λ (z : FoundInterface). IsWitIntrinsic s e.resolve e.world false (scope_of z) c.name k m) (exported_unique s c.from x.0 y.0 x.1 y.1) x.2) y.2
  kind_unique s c export_other_name m n x y = x.2 ∙ sym y.2
  kind_unique s c interface_unknown m n x y = x.3 ∙ sym y.3
  kind_unique s c interface_function m n x y =
      let found : x.0 ≡ y.0 = imported_unique s c.from x.0 y.0 x.4 y.4 in
      let names = function_unique s x.1 y.1 x.2 y.2 c.name x.5 y.5 in
      let own : function_named e.resolve e.world true (scope_of y.0) y.2 ≡ Some x.3 =
      subst (λ (z : FoundInterface). function_named e.resolve e.world true (scope_of z) y.2 ≡ Some x.3) found
      (subst (λ z. function_named e.resolve e.world true (scope_of x.0) z ≡ Some x.3) names.1 x.6) in
      let f : x.3 ≡ y.3 = some_unique (function_named e.resolve e.world true (scope_of y.0) y.2) x.3 y.3 own y.6 in
      x.7 ∙ (ap (λ z. interface_meaning e z x.3 x.1) found ∙ (ap (λ z. interface_meaning e y.0 z x.1) f ∙ (ap (interface_meaning e y.0 y.3) names.0 ∙ sym y.7)))
  kind_unique s c (interface_intrinsic k) m n x y =
      wit_intrinsic_unique s e.resolve e.world true (scope_of y.0) c.name k m n
      (subst (λ (z : FoundInterface). IsWitIntrinsic s e.resolve e.world true (scope_of z) c.name k m) (imported_unique s c.from x.0 y.0 x.1 y.1) x.2) y.2
  kind_unique s c interface_other_name m n x y = x ∙ sym y

  read_by_unique : (from : List ℕ) (s t : Scheme) (a b : List ℕ) → IsReadBy e from s a → IsReadBy e from t b → (s ≡ t) × (a ≡ b)
  read_by_unique from s t a b (inl x) (inl y) = (x.1 ∙ sym y.1, append_cancel_left marker a b (sym x.0 ∙ y.0))
  read_by_unique from s t a b (inl x) (inr y) = absurd (y.0 a x.0)
  read_by_unique from s t a b (inr x) (inl y) = absurd (x.0 b y.0)
  read_by_unique from s t a b (inr x) (inr y) = (x.2 ∙ sym y.2, x.1 ∙ sym y.1)

  pub rule_unique : (a : CoreImport) (k : Rule) (m n : Meaning) → IsRule e a k m → IsRule e a k n → m ≡ n
  rule_unique a main_memory m n x y =
      let same : memory_type x.2 ≡ memory_type y.2 = sym x.3 ∙ y.3 in
      x.4 ∙ (ap (λ (z : MemoryType). means (main_module_memory z) None) (let t : x.2 ≡ y.2 = cc same in t) ∙ sym y.4)
  rule_unique a main_item m n x y = x.1 ∙ sym y.1
  rule_unique a not_function m n x y = x.1 ∙ sym y.1
  rule_unique a adapter_function m n x y =
      let same : func_type x.1 ≡ func_type y.1 = sym x.2 ∙ y.2 in
      x.3 ∙ (ap (adapter_meaning a.from a.name) (let t : x.1 ≡ y.1 = cc same in t) ∙ sym y.3)
  rule_unique a (by_scheme k) m n x y =
      let same : func_type x.0 ≡ func_type y.0 = sym x.3 ∙ y.3 in
      let read = read_by_unique a.from x.1 y.1 x.2 y.2 x.4 y.4 in
      let of_type : IsKind x.1 e (record { from = x.2; name = a.name; ty = y.0 }) k m =
      subst (λ (z : FuncTypeValue). IsKind x.1 e (record { from = x.2; name = a.name; ty = z }) k m) (let t : x.0 ≡ y.0 = cc same in t) x.5 in
      let of_name : IsKind x.1 e (record { from = y.2; name = a.name; ty = y.0 }) k m =
      subst (λ (z : List ℕ). IsKind x.1 e (record { from = z; name = a.name; ty = y.0 }) k m) read.1 of_type in
      let of_scheme : IsKind y.1 e (record { from = y.2; name = a.name; ty = y.0 }) k m =
      subst (λ (z : Scheme). IsKind z e (record { from = y.2; name = a.name; ty = y.0 }) k m) read.0 of_name in
      kind_unique y.1 (record { from = y.2; name = a.name; ty = y.0 }) k m n of_scheme y.5

  pub classified_unique : (a : CoreImport) (m n : Meaning) → Classified e a m → Classified e a n → m ≡ n
  classified_unique a m n x y = first_unique (IsRule e a) (rule_unique a) rules m n x y
