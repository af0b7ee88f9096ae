-- An export means one thing at most.
use Rattle.std.proofs.Common.{◌≡◌, ℕ, Bool, false, true≢false, nat_eq, List, [], ◌∷◌, Option, Some, None, inl, inr, refl, sym, ap, ◌∙◌, subst, codes}
use Rattle.std.specs.Prelude.{slice_get}
use Rattle.std.specs.Option.{option_and_then, option_map_or}
use Rattle.std.proofs.lemmas.List.{append_cancel_left, append_cancel_right}
use Rattle.wc_maps.proofs.OptionLemmas.{some_unique}
use Rattle.wc_read.specs.declared.types.MemoryType.{MemoryType}
use Rattle.wc_resolve.specs.declared.functions.AbiVariant.{AbiVariant}
use Rattle.wc_resolve.specs.Views.{FunctionView, KeyView, plain_key}
use Rattle.wc_resolve.specs.Kinds.{ResolveView}
use Rattle.wc_adapters.specs.Entries.{Entries}
use Rattle.wc_names.specs.declared.export_names.ExportSyntax.{ExportSyntax}
use Rattle.wc_names.specs.ExportNames.{ExportTarget, HasFunction, HasResource, IsExportedFunction, NamesDestructor, NamesFunctionExport, destructor_member, export_syntax, interface_function, interface_resource, searched_interfaces, target}
use Rattle.wc_names.specs.ExportViews.{exported_memory, resource_dtor}
use Rattle.wc_names.specs.Exports.{AnyTypeName, ClassifiedExport, CoreExport, ExportKind, ExportMeaning, ExportRule, IsExportKind, IsExportReadBy, IsExportRule, IsLifted, any_type, any_type_row, by_export_scheme, cabi_export_realloc, cabi_import_realloc, cabi_realloc_adapter, callback, callback_export, callback_type, canonical_abi_realloc, destructor, export_rules, function, function_export, function_table, initializer, is_export, memory, post_return, post_return_export, post_return_type, realloc, task_hook}
use Rattle.wc_names.specs.Builtins.{signature}
use Rattle.wc_names.specs.First.{FirstOf}
use Rattle.wc_names.specs.Imports.{ExternType, NameScope, function_type, memory_type}
use Rattle.wc_names.specs.Interfaces.{FoundInterface}
use Rattle.wc_names.specs.Keys.{as_function, item_under}
use Rattle.wc_names.specs.Mangling.{Scheme, NamesAsyncLift, NamesCallback, NamesPostReturn, NamesStackfulLift, legacy, marker, standard}
use Rattle.wc_read.specs.declared.types.ValType.TheVariants.{I32}
use Rattle.wc_names.proofs.ExportNameLemmas.{destructor_unique, parts_unique}
use Rattle.wc_names.proofs.SearchLemmas.{first_unique}

-- a function and a resource of an interface
function_in_unique : (r : ResolveView) (name : List ℕ) (found : FoundInterface) (t u : ExportTarget) → HasFunction r name found t → HasFunction r name found u
    → t ≡ u
function_in_unique r name found t u a b =
    a.2 ∙ (ap (λ (z : FunctionView). target found.0 (Some found.1) z) (some_unique (interface_function r found.1 name) a.0 b.0 a.1 b.1) ∙ sym b.2)

resource_in_unique : (r : ResolveView) (name : List ℕ) (found : FoundInterface) (t u : ℕ) → HasResource r name found t → HasResource r name found u → t ≡ u
resource_in_unique r name found t u a b = some_unique (interface_resource r found.1 name) t u a b

module _ (x : ExportSyntax) (r : ResolveView) (es : Entries) (ks : List KeyView) where
  exported_unique : (i : Option (List ℕ)) (name : List ℕ) (t u : ExportTarget) → IsExportedFunction x r es ks i name t → IsExportedFunction x r es ks i name u
      → t ≡ u
  exported_unique None name t u a b =
      a.3 ∙ (ap (λ (z : FunctionView). target (plain_key name) None z)
      (some_unique (option_and_then as_function (item_under es (plain_key name))) a.1 b.1 a.2 b.2) ∙ sym b.3)
  exported_unique (Some text) name t u a b = first_unique (HasFunction r name) (function_in_unique r name) (searched_interfaces x r es ks text) t u a b

  -- the function that a name is for
  pub target_unique : (name : List ℕ) (t u : ExportTarget) → NamesFunctionExport x r es ks name t → NamesFunctionExport x r es ks name u → t ≡ u
  target_unique name t u a b =
      let same = parts_unique x name a.0 b.0 a.1 b.1 a.2 b.2 in
      exported_unique b.0 b.1 t u (subst (λ z. IsExportedFunction x r es ks b.0 z t) same.1 (subst (λ z. IsExportedFunction x r es ks z a.1 t) same.0 a.3)) b.3

  -- the resource whose destructor a name is
  pub destructed_unique : (name : List ℕ) (t u : ℕ) → NamesDestructor x r es ks name t → NamesDestructor x r es ks name u → t ≡ u
  destructed_unique name t u a b =
      let same = parts_unique x name (Some a.0) (Some b.0) (destructor_member x a.1) (destructor_member x b.1) a.2 b.2 in
      let texts : a.0 ≡ b.0 = cc same.0 in
      let resources : a.1 ≡ b.1 = destructor_unique x a.1 b.1 same.1 in
      first_unique (HasResource r b.1) (resource_in_unique r b.1) (searched_interfaces x r es ks b.0) t u
      (subst (λ z. FirstOf (HasResource r b.1) (searched_interfaces x r es ks z) t) texts
      (subst (λ z. FirstOf (HasResource r z) (searched_interfaces x r es ks a.0) t) resources a.3)) b.3

-- whether the byte at an index is this one
abbrev has_byte : ℕ → ℕ → List ℕ → Bool
has_byte c i text = option_map_or (nat_eq c) (slice_get text i) false

-- a name says in one way how a function is lifted
async_unique : (s : Scheme) (name x y : List ℕ) → NamesAsyncLift s x name → NamesAsyncLift s y name → x ≡ y
async_unique standard name x y a b = absurd a
async_unique (legacy hook) name x y a b = append_cancel_left (codes "[async-lift]") x y (sym a ∙ b)

stackful_unique : (s : Scheme) (name x y : List ℕ) → NamesStackfulLift s x name → NamesStackfulLift s y name → x ≡ y
stackful_unique standard name x y a b = absurd a
stackful_unique (legacy hook) name x y a b = append_cancel_left (codes "[async-lift-stackful]") x y (sym a ∙ b)

not_both : (s : Scheme) (name x y : List ℕ) → NamesAsyncLift s x name → NamesStackfulLift s y name → ⊥
not_both standard name x y a b = a
not_both (legacy hook) name x y a b = true≢false (ap (has_byte 93 11) (sym a ∙ b))

pub lifted_unique : (s : Scheme) (name : List ℕ) (a b : AbiVariant) (x y : List ℕ) → IsLifted s name a x → IsLifted s name b y → (a ≡ b) × (x ≡ y)
lifted_unique s name a b x y (inl h) (inl k) = (h.1 ∙ sym k.1, async_unique s name x y h.0 k.0)
lifted_unique s name a b x y (inl h) (inr (inl k)) = absurd (not_both s name x y h.0 k.0)
lifted_unique s name a b x y (inl h) (inr (inr k)) = absurd (k.0 x h.0)
lifted_unique s name a b x y (inr (inl h)) (inl k) = absurd (not_both s name y x k.0 h.0)
lifted_unique s name a b x y (inr (inl h)) (inr (inl k)) = (h.1 ∙ sym k.1, stackful_unique s name x y h.0 k.0)
lifted_unique s name a b x y (inr (inl h)) (inr (inr k)) = absurd (k.1 x h.0)
lifted_unique s name a b x y (inr (inr h)) (inl k) = absurd (h.0 y k.0)
lifted_unique s name a b x y (inr (inr h)) (inr (inl k)) = absurd (h.1 y k.0)
lifted_unique s name a b x y (inr (inr h)) (inr (inr k)) = (h.3 ∙ sym k.3, h.2 ∙ sym k.2)

-- what runs after a return is for one name
pub returned_unique : (s : Scheme) (name x y : List ℕ) → NamesPostReturn s x name → NamesPostReturn s y name → x ≡ y
returned_unique standard name x y a b = append_cancel_right x y (codes "_post") (sym a ∙ b)
returned_unique (legacy hook) name x y a b = append_cancel_left (codes "cabi_post_") x y (sym a ∙ b)

-- a callback is for one name
pub called_back_unique : (s : Scheme) (name x y : List ℕ) → NamesCallback s x name → NamesCallback s y name → x ≡ y
called_back_unique standard name x y a b = absurd a
called_back_unique (legacy hook) name x y a b = append_cancel_left (codes "[callback][async-lift]") x y (sym a ∙ b)

-- the byte by which the four names differ
abbrev byte_six : AnyTypeName → ℕ
byte_six canonical_abi_realloc = 99
byte_six cabi_import_realloc = 109
byte_six cabi_export_realloc = 120
byte_six cabi_realloc_adapter = 101

any_type_unique : (a b : AnyTypeName) → (any_type_row a).text ≡ (any_type_row b).text → a ≡ b
any_type_unique canonical_abi_realloc canonical_abi_realloc e = refl
any_type_unique cabi_import_realloc cabi_import_realloc e = refl
any_type_unique cabi_export_realloc cabi_export_realloc e = refl
any_type_unique cabi_realloc_adapter cabi_realloc_adapter e = refl
any_type_unique a b e = absurd (true≢false (ap (has_byte (byte_six a) 6) e))

module _ (e : NameScope) (keys : List KeyView) where
  same_target : (s : Scheme) (a b : List ℕ) (f g : ExportTarget) → a ≡ b → NamesFunctionExport (export_syntax s) e.resolve e.world.exports keys a f
      → NamesFunctionExport (export_syntax s) e.resolve e.world.exports keys b g → f ≡ g
  same_target s a b f g same h k =
      target_unique (export_syntax s) e.resolve e.world.exports keys b f g
      (subst (λ z. NamesFunctionExport (export_syntax s) e.resolve e.world.exports keys z f) same h) k

  export_kind_unique : (s : Scheme) (name : List ℕ) (ty : ExternType) (k : ExportKind) (m n : ExportMeaning) → IsExportKind s e keys name ty k m
      → IsExportKind s e keys name ty k n → m ≡ n
  export_kind_unique s name ty memory m n x y =
      let same : memory_type x.0 ≡ memory_type y.0 = sym x.1 ∙ y.1 in
      x.3 ∙ (ap (λ (z : MemoryType). is_export (exported_memory z) None) (let t : x.0 ≡ y.0 = cc same in t) ∙ sym y.3)
  export_kind_unique s name ty function_table m n x y = x.3 ∙ sym y.3
  export_kind_unique s name ty realloc m n x y = x.3 ∙ sym y.3
  export_kind_unique s name ty initializer m n x y = x.3 ∙ sym y.3
  export_kind_unique s name ty task_hook m n x y = x.3 ∙ sym y.3
  export_kind_unique s name ty function m n x y =
      let lifted = lifted_unique s name x.1 y.1 x.2 y.2 x.5 y.5 in
      let f : x.3 ≡ y.3 = same_target s x.2 y.2 x.3 y.3 lifted.1 x.6 y.6 in
      x.7 ∙ (ap (λ z. is_export (function_export z x.3) (Some (function_type e.resolve z x.3.function))) lifted.0
      ∙ (ap (λ (z : ExportTarget). is_export (function_export y.1 z) (Some (function_type e.resolve y.1 z.function))) f ∙ sym y.7))
  export_kind_unique s name ty post_return m n x y =
      let lifted = lifted_unique s name x.1 y.1 x.2 y.2 x.6 y.6 in
      let returned : x.3 ≡ y.3 = returned_unique s y.2 x.3 y.3 (subst (NamesPostReturn s x.3) lifted.1 x.7) y.7 in
      let f : x.4 ≡ y.4 = same_target s x.3 y.3 x.4 y.4 returned x.8 y.8 in
      x.9 ∙ (ap (λ (z : ExportTarget). is_export (post_return_export z) (Some (post_return_type e.resolve z.function))) f ∙ sym y.9)
  export_kind_unique s name ty callback m n x y =
      let f : x.2 ≡ y.2 = same_target s x.1 y.1 x.2 y.2 (called_back_unique s name x.1 y.1 x.4 y.4) x.5 y.5 in
      x.6 ∙ (ap (λ (z : ExportTarget). is_export (callback_export z) (Some callback_type)) f ∙ sym y.6)
  export_kind_unique s name ty destructor m n x y =
      let lifted = lifted_unique s name x.1 y.1 x.2 y.2 x.5 y.5 in
      let t : x.3 ≡ y.3 = destructed_unique (export_syntax s) e.resolve e.world.exports keys y.2 x.3 y.3
      (subst (λ z. NamesDestructor (export_syntax s) e.resolve e.world.exports keys z x.3) lifted.1 x.6) y.6 in
      x.7 ∙ (ap (λ z. is_export (resource_dtor z) (Some (signature (I32 ∷ []) []))) t ∙ sym y.7)

  export_read_unique : (text : List ℕ) (s t : Scheme) (a b : List ℕ) → IsExportReadBy e text s a → IsExportReadBy e text t b → (s ≡ t) × (a ≡ b)
  export_read_unique text s t a b (inl x) (inl y) = (x.1 ∙ sym y.1, append_cancel_left marker a b (sym x.0 ∙ y.0))
  export_read_unique text s t a b (inl x) (inr y) = absurd (y.0 a x.0)
  export_read_unique text s t a b (inr x) (inl y) = absurd (x.0 b y.0)
  export_read_unique text s t a b (inr x) (inr y) = (x.3 ∙ sym y.3, x.2 ∙ sym y.2)

  export_rule_unique : (x : CoreExport) (k : ExportRule) (m n : ExportMeaning) → IsExportRule e keys x k m → IsExportRule e keys x k n → m ≡ n
  export_rule_unique x any_type m n a b =
      a.2 ∙ (ap (λ (z : AnyTypeName). is_export (any_type_row z).export None) (any_type_unique a.0 b.0 (sym a.1 ∙ b.1)) ∙ sym b.2)
  export_rule_unique x (by_export_scheme k) m n a b =
      let read = export_read_unique x.name a.0 b.0 a.1 b.1 a.2 b.2 in
      export_kind_unique b.0 b.1 x.ty k m n (subst (λ z. IsExportKind z e keys b.1 x.ty k m) read.0
      (subst (λ z. IsExportKind a.0 e keys z x.ty k m) read.1 a.3)) b.3

pub classified_export_unique : (e : NameScope) (keys : List KeyView) (x : CoreExport) (m n : ExportMeaning) → ClassifiedExport e keys x m
    → ClassifiedExport e keys x n → m ≡ n
classified_export_unique e keys x m n a b = first_unique (IsExportRule e keys x) (export_rule_unique e keys x) export_rules m n a b
