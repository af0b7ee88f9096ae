-- Core signatures of flat types that agree as far as they are kept.
use Rattle.std.proofs.Common.{◌≡◌, ℕ, ◌<◌, ◌≤◌, min, Bool, true, false, List, [], ◌∷◌, ◌++◌, map, length, take, Option, Some, None, String, cond, refl, sym, ap, ◌∙◌, subst, inl, inr, arith, lit<}
use Rattle.std.specs.Prelude.{nat_lt, is_some}
use Rattle.std.specs.List.{All}
use Rattle.std.specs.Option.{IfSome}
use Rattle.std.specs.declared.alloc.Global.{Global}
use Rattle.std.proofs.lemmas.Bool.{cases_Bool, cases_lt, ltb-false, lt-ltb, le-ltb}
use Rattle.std.proofs.lemmas.List.{length-take, take_all}
use Rattle.std.proofs.lemmas.List.Elements.{All-map, All-contains}
use Rattle.std.specs.Rc.{rc_slice_items}
use Rattle.wc_resolve.specs.declared.flat.WasmType.{WasmType}
use Rattle.wc_resolve.specs.declared.flat.WasmType.TheVariants.{Pointer}
use Rattle.wc_resolve.specs.declared.functions.AbiVariant.{AbiVariant}
use Rattle.wc_resolve.specs.declared.functions.AbiVariant.TheVariants.{GuestImport, GuestExport, GuestImportAsync, GuestExportAsync, GuestExportAsyncStackful}
use Rattle.wc_resolve.specs.declared.functions.Function.{Function}
use Rattle.wc_resolve.specs.declared.functions.FunctionKind.{FunctionKind}
use Rattle.wc_resolve.specs.declared.types.WitType.{WitType}
use Rattle.wc_resolve.specs.declared.types.WitType.TheVariants.{Id}
use Rattle.wc_resolve.specs.Flat.{AreFlattened, flat_entry, flat_of, flat_payload, flat_types_kept, flatten_types}
use Rattle.wc_resolve.specs.Ranges.{IsFunctionIn, IsTypeIn}
use Rattle.wc_resolve.specs.Signature.{SignatureView, flatten_functype, core_of, has_indirect_result, max_flat_params_of, passed_types, result_pointer, returned_types, is_exported_method, first_as_pointer}
use Rattle.wc_resolve.specs.Views.{FunctionView, TypeView, function_view}
use Rattle.wc_texts.specs.Names.{named_view}
use Rattle.wc_resolve.specs.Kinds.{SignatureHasOnly}
use Rattle.wc_resolve.proofs.FrontAgreementLemmas.{AgreeAtFront, agree_cut}
use Rattle.wc_resolve.proofs.FlatteningAgreementLemmas.{AgreeAtFrontOfType, agree_types, agree_payload}
use Rattle.wc_resolve.proofs.FuturesAtLemmas.{signature_in}
use Rattle.wc_resolve.proofs.NamedListLemmas.{named_values}

-- lists that agree in their first n elements are equally more than fewer elements long
over_agree : {X : Type 0} (m n : ℕ) (xs ys : List X) → m < n → AgreeAtFront n xs ys → nat_lt m (length xs) ≡ nat_lt m (length ys)
over_agree m n xs ys h e =
    let same : min n (length xs) ≡ min n (length ys) = sym (length-take n xs) ∙ ap (λ z. length z) e ∙ length-take n ys in
    elim (cases_lt m (length xs)) [
      | inl more ↦ (let more2 : m < length ys = omega (arith, h, same, more) in lt-ltb m (length xs) more ∙ sym (lt-ltb m (length ys) more2))
      | inr bounded ↦ (let bounded2 : length ys ≤ m = omega (arith, h, same, bounded) in le-ltb m (length xs) bounded ∙ sym (le-ltb m (length ys) bounded2))
    ]

-- and are equal where they are no longer
equal_from_agree : {X : Type 0} (m n : ℕ) (xs ys : List X) → m < n → AgreeAtFront n xs ys → nat_lt m (length xs) ≡ false → xs ≡ ys
equal_from_agree m n xs ys h e short =
    let bounded : length xs ≤ m = ltb-false m (length xs) short in
    let bounded2 : length ys ≤ m = ltb-false m (length ys) (sym (over_agree m n xs ys h e) ∙ short) in
    let fits : length xs ≤ n = omega (arith, h, bounded) in
    let fits2 : length ys ≤ n = omega (arith, h, bounded2) in
    sym (take_all n xs fits) ∙ e ∙ take_all n ys fits2

max_flat_params_small : (abi : AbiVariant) → max_flat_params_of abi < flat_types_kept
max_flat_params_small GuestImport = lit< tt
max_flat_params_small GuestExport = lit< tt
max_flat_params_small GuestImportAsync = lit< tt
max_flat_params_small GuestExportAsync = lit< tt
max_flat_params_small GuestExportAsyncStackful = lit< tt

over_passed : (abi : AbiVariant) (kind : FunctionKind) (ps : List WasmType) → nat_lt (max_flat_params_of abi) (length ps) ≡ true → passed_types abi kind ps ≡ Pointer ∷ []
over_passed abi kind ps over = ap (λ b. cond b (Pointer ∷ []) (cond (is_exported_method kind abi) (first_as_pointer ps) ps)) over

passed_agree : (abi : AbiVariant) (kind : FunctionKind) (ps qs : List WasmType) → AgreeAtFront flat_types_kept ps qs → passed_types abi kind ps ≡ passed_types abi kind qs
passed_agree abi kind ps qs e =
    let test : nat_lt (max_flat_params_of abi) (length ps) ≡ nat_lt (max_flat_params_of abi) (length qs) = over_agree (max_flat_params_of abi) flat_types_kept ps qs (max_flat_params_small abi) e in
    elim (cases_Bool (nat_lt (max_flat_params_of abi) (length ps))) [
      | inl over ↦ (let over2 : nat_lt (max_flat_params_of abi) (length qs) ≡ true = sym test ∙ over in over_passed abi kind ps over ∙ sym (over_passed abi kind qs over2))
      | inr fits ↦ ap (λ z. passed_types abi kind z) (equal_from_agree (max_flat_params_of abi) flat_types_kept ps qs (max_flat_params_small abi) e fits)
    ]

indirect_result_agree : (abi : AbiVariant) (rs ss : List WasmType) (has_result : Bool) → AgreeAtFront flat_types_kept rs ss → has_indirect_result abi rs has_result ≡ has_indirect_result abi ss has_result
indirect_result_agree GuestImport rs ss has_result e = over_agree 1 flat_types_kept rs ss (lit< tt) e
indirect_result_agree GuestExport rs ss has_result e = over_agree 1 flat_types_kept rs ss (lit< tt) e
indirect_result_agree GuestImportAsync rs ss has_result e = refl
indirect_result_agree GuestExportAsync rs ss has_result e = refl
indirect_result_agree GuestExportAsyncStackful rs ss has_result e = refl

returned_import : (b : Bool) (rs ss : List WasmType) → (b ≡ false → rs ≡ ss) → returned_types GuestImport b rs ≡ returned_types GuestImport b ss
returned_import true rs ss h = refl
returned_import false rs ss h = h refl

returned_export : (b : Bool) (rs ss : List WasmType) → (b ≡ false → rs ≡ ss) → returned_types GuestExport b rs ≡ returned_types GuestExport b ss
returned_export true rs ss h = refl
returned_export false rs ss h = h refl

returned_agree : (abi : AbiVariant) (rs ss : List WasmType) (has_result : Bool) → AgreeAtFront flat_types_kept rs ss
    → returned_types abi (has_indirect_result abi rs has_result) rs ≡ returned_types abi (has_indirect_result abi rs has_result) ss
returned_agree GuestImport rs ss has_result e = returned_import (nat_lt 1 (length rs)) rs ss (λ short. equal_from_agree 1 flat_types_kept rs ss (lit< tt) e short)
returned_agree GuestExport rs ss has_result e = returned_export (nat_lt 1 (length rs)) rs ss (λ short. equal_from_agree 1 flat_types_kept rs ss (lit< tt) e short)
returned_agree GuestImportAsync rs ss has_result e = refl
returned_agree GuestExportAsync rs ss has_result e = refl
returned_agree GuestExportAsyncStackful rs ss has_result e = refl

-- a signature, by its parts
parts_of_core : (abi : AbiVariant) → List WasmType → List WasmType → Bool → Bool → SignatureView
parts_of_core abi params results over indirect_result = record { params = params ++ result_pointer abi indirect_result; results = results; indirect_params = over; retptr = indirect_result }

pub core_agree : (abi : AbiVariant) (kind : FunctionKind) (ps qs rs ss : List WasmType) (has_result : Bool) → AgreeAtFront flat_types_kept ps qs → AgreeAtFront flat_types_kept rs ss
    → core_of abi kind ps rs has_result ≡ core_of abi kind qs ss has_result
unfolding parts_of_core
core_agree abi kind ps qs rs ss has_result e f =
    let indirect_result : has_indirect_result abi rs has_result ≡ has_indirect_result abi ss has_result = indirect_result_agree abi rs ss has_result f in
    let over : nat_lt (max_flat_params_of abi) (length ps) ≡ nat_lt (max_flat_params_of abi) (length qs) = over_agree (max_flat_params_of abi) flat_types_kept ps qs (max_flat_params_small abi) e in
    let passed : passed_types abi kind ps ≡ passed_types abi kind qs = passed_agree abi kind ps qs e in
    let returned : returned_types abi (has_indirect_result abi rs has_result) rs ≡ returned_types abi (has_indirect_result abi ss has_result) ss =
    returned_agree abi rs ss has_result f ∙ ap (λ b. returned_types abi b ss) indirect_result in
    let b : Bool = has_indirect_result abi rs has_result in
    let o : Bool = nat_lt (max_flat_params_of abi) (length ps) in
    ap (λ z. parts_of_core abi z (returned_types abi b rs) o b) passed
    ∙ ap (λ z. parts_of_core abi (passed_types abi kind qs) z o b) returned
    ∙ ap (λ z. parts_of_core abi (passed_types abi kind qs) (returned_types abi (has_indirect_result abi ss has_result) ss) z b) over
    ∙ ap (λ z. parts_of_core abi (passed_types abi kind qs) (returned_types abi (has_indirect_result abi ss has_result) ss) (nat_lt (max_flat_params_of abi) (length qs)) z) indirect_result

-- what is kept determines the flat types of a type that is in range, as many as are kept
table_agree : (types : List TypeView) (flats : List (List WasmType)) → AreFlattened types flats → (t : WitType) → IsTypeIn (length types) t → AgreeAtFrontOfType flat_types_kept (flat_entry flats) (flat_of types) t
table_agree types flats made (Id i) h = ap (λ z. take flat_types_kept z) (made.each i.0 h) ∙ agree_cut flat_types_kept (flat_of types i.0)
table_agree types flats made t h = refl

answer_in : (n : ℕ) (o : Option WitType) → IfSome o (IsTypeIn n) → (s : WitType) → o ≡ Some s → IsTypeIn n s
answer_in n None h s e = absurd (let bad : ⊥ = cc e in bad)
answer_in n (Some t) h s e = let same : t ≡ s = cc e in subst (IsTypeIn n) same h

-- and the flat types of a function's parameters and of its result
params_settled : (types : List TypeView) (flats : List (List WasmType)) (v : FunctionView) → AreFlattened types flats → IsFunctionIn (length types) v
    → AgreeAtFront flat_types_kept (flatten_types (flat_entry flats) (map (λ p. p.1) v.params)) (flatten_types (flat_of types) (map (λ p. p.1) v.params))
params_settled types flats v made there =
    let in_signature : SignatureHasOnly (IsTypeIn (length types)) v = signature_in (length types) v there in
    let all : All (IsTypeIn (length types)) (map (λ p. p.1) v.params) = All-map (IsTypeIn (length types)) (λ p. p.1) v.params in_signature.0 in
    agree_types flat_types_kept (flat_entry flats) (flat_of types) (map (λ p. p.1) v.params) (λ t k. table_agree types flats made t (All-contains (IsTypeIn (length types)) (map (λ p. p.1) v.params) t all k))

result_settled : (types : List TypeView) (flats : List (List WasmType)) (v : FunctionView) → AreFlattened types flats → IsFunctionIn (length types) v
    → AgreeAtFront flat_types_kept (flat_payload (flat_entry flats) v.outcome) (flat_payload (flat_of types) v.outcome)
result_settled types flats v made there =
    let in_signature : SignatureHasOnly (IsTypeIn (length types)) v = signature_in (length types) v there in
    agree_payload flat_types_kept (flat_entry flats) (flat_of types) v.outcome (λ s e. table_agree types flats made s (answer_in (length types) v.outcome in_signature.1 s e))

-- and the signature of a function whose types are in range
pub core_settled : (types : List TypeView) (flats : List (List WasmType)) (abi : AbiVariant) (v : FunctionView) → AreFlattened types flats → IsFunctionIn (length types) v
    → flatten_functype (flat_entry flats) abi v ≡ flatten_functype (flat_of types) abi v
core_settled types flats abi v made there =
    core_agree abi v.kind (flatten_types (flat_entry flats) (map (λ p. p.1) v.params)) (flatten_types (flat_of types) (map (λ p. p.1) v.params)) (flat_payload (flat_entry flats) v.outcome) (flat_payload (flat_of types) v.outcome) (is_some v.outcome)
    (params_settled types flats v made there) (result_settled types flats v made there)

-- the flat types of a function's parameters, which are read by their names
params_read : (flat : ℕ → List WasmType) (f : Function) (named : List (String Global × WitType)) → named ≡ rc_slice_items f.params
    → flatten_types flat (map (λ p. p.1) named) ≡ flatten_types flat (map (λ p. p.1) (map named_view (rc_slice_items f.params)))
params_read flat f named same = ap (λ z. flatten_types flat (map (λ p. p.1) z)) same ∙ ap (flatten_types flat) (sym (named_values (rc_slice_items f.params)))

-- the signature of a function, from the flat types of its parameters and its result
pub core_made : (flat : ℕ → List WasmType) (abi : AbiVariant) (f : Function) (params results : List WasmType) (named : List (String Global × WitType)) → named ≡ rc_slice_items f.params
    → params ≡ take flat_types_kept (flatten_types flat (map (λ p. p.1) named)) → results ≡ flat_payload flat f.result
    → core_of abi f.kind params results (is_some f.result) ≡ flatten_functype flat abi (function_view f)
core_made flat abi f params results named same made given =
    let full : List WasmType = flatten_types flat (map (λ p. p.1) (map named_view (rc_slice_items f.params))) in
    let agree : AgreeAtFront flat_types_kept params full = ap (λ z. take flat_types_kept z) (made ∙ ap (λ z. take flat_types_kept z) (params_read flat f named same)) ∙ agree_cut flat_types_kept full in
    core_agree abi f.kind params full results (flat_payload flat f.result) (is_some f.result) agree (ap (λ z. take flat_types_kept z) given)

-- the flat types of a function's parameters, as many as are kept
pub params_made : (types : List TypeView) (flats : List (List WasmType)) (f : Function) (params : List WasmType) (named : List (String Global × WitType)) → AreFlattened types flats
    → IsFunctionIn (length types) (function_view f) → named ≡ rc_slice_items f.params → params ≡ take flat_types_kept (flatten_types (flat_entry flats) (map (λ p. p.1) named))
    → params ≡ take flat_types_kept (flatten_types (flat_of types) (map (λ p. p.1) (function_view f).params))
params_made types flats f params named made there same given =
    given ∙ ap (λ z. take flat_types_kept z) (params_read (flat_entry flats) f named same) ∙ params_settled types flats (function_view f) made there

-- the signature of a function, from what is kept of its parameters
pub core_kept : (types : List TypeView) (flats : List (List WasmType)) (abi : AbiVariant) (f : Function) (params : List WasmType) → AreFlattened types flats
    → IsFunctionIn (length types) (function_view f) → params ≡ take flat_types_kept (flatten_types (flat_of types) (map (λ p. p.1) (function_view f).params))
    → core_of abi f.kind params (flat_payload (flat_entry flats) f.result) (is_some f.result) ≡ flatten_functype (flat_of types) abi (function_view f)
core_kept types flats abi f params made there kept =
    let full : List WasmType = flatten_types (flat_of types) (map (λ p. p.1) (function_view f).params) in
    core_agree abi f.kind params full (flat_payload (flat_entry flats) f.result) (flat_payload (flat_of types) f.result) (is_some f.result)
    (ap (λ z. take flat_types_kept z) kept ∙ agree_cut flat_types_kept full) (result_settled types flats (function_view f) made there)
