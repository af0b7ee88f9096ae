-- Documents that are written as texts are read back.
use Rattle.std.proofs.Common.{◌≡◌, ℕ, ◌<◌, ◌^◌, List, [], ◌∷◌, Option, Ok, All, IfSome, IsSomeAnd, codes, refl, sym, subst, arith, suc}
use Rattle.std.specs.Bool.{⊤}
use Rattle.std.specs.List.{AllByRecursion, zip}
use Rattle.std.proofs.lemmas.List.Elements.{All-from_recursion}
use Rattle.json.specs.Json.{Json, document}
use Rattle.json.specs.Strict.{HasUniqueKeys}
use Rattle.json.proofs.Printed.Trees.{document-print}
use Rattle.wc_resolve.specs.Views.{FunctionView, InterfaceView, TypeView, KindView, record_kind, resource_kind, handle_kind, flags_kind, tuple_kind, variant_kind, enum_kind, option_kind, result_kind, list_kind, future_kind, stream_kind, alias_kind, KeyView, ItemView, interface_item, function_item, type_item, WorldView, PackageView}
use Rattle.wc_resolve.specs.declared.functions.FunctionKind.{FunctionKind}
use Rattle.wc_resolve.specs.declared.functions.FunctionKind.TheVariants.{Freestanding, AsyncFreestanding, Method, AsyncMethod, Static, AsyncStatic, Constructor}
use Rattle.wc_resolve.specs.declared.types.Handle.{Handle}
use Rattle.wc_resolve.specs.declared.types.Handle.TheVariants.{Own, Borrow}
use Rattle.wc_resolve.specs.declared.types.TypeOwner.{TypeOwner}
use Rattle.wc_resolve.specs.declared.types.TypeOwner.TheVariants.{World, Interface, None as no_owner}
use Rattle.wc_resolve.specs.declared.types.WitType.{WitType}
use Rattle.wc_resolve.specs.declared.types.WitType.TheVariants.{Bool, U8, U16, U32, U64, S8, S16, S32, S64, F32, F64, Char, String, ErrorContext, Id}
use Rattle.wc_json.specs.Document.{DocumentView, document_of}
use Rattle.wc_json.specs.Fits.{CaseFits, DefinedTypeFits, DocumentFits, FunctionEntryFits, FunctionFits, FunctionKindFits, HandleFits, HasDistinctKeys, HasDistinctTexts, IdEntryFits, InterfaceFits, ItemFits, KindFits, NamedTypeFits, OwnerFits, PackageFits, TypeFits, WorldEntryFits, WorldFits}
use Rattle.wc_json.specs.Laws.{document_text}
use Rattle.wc_texts.specs.Shapes.{nullable_json, number_json}
use Rattle.wc_json.specs.ToJson.{document_json, function_json, function_kind_json, handle_json, interface_json, item_json, key_text, kind_json, label_json, list_json, name_map_json, named_type_json, owner_json, package_json, package_name_text, type_json, variant_case_json, wit_type_json, world_items_json, world_json}
use Rattle.wc_json.proofs.DocumentRoundTripLemmas.{document_of-document_json}
use Rattle.wc_json.proofs.WritableLemmas.{AreDistinct_counted, AreWritable-cons, AreWritable-nil, IsWritable, IsWritable-number_json, IsWritable-le, IsWritable-list_json, IsWritable-map, IsWritable-null, IsWritable-nullable_json, IsWritable-nullable_string, IsWritable-object, IsWritable-string, IsWritable-variant_json}

IsWritable-wit_type_json : (bound : ℕ) (t : WitType) → TypeFits t → IsWritable bound (wit_type_json t)
IsWritable-wit_type_json bound (Id t) fits = IsWritable-number_json bound t.0 fits
IsWritable-wit_type_json bound Bool fits = IsWritable-string bound (codes "bool")
IsWritable-wit_type_json bound U8 fits = IsWritable-string bound (codes "u8")
IsWritable-wit_type_json bound U16 fits = IsWritable-string bound (codes "u16")
IsWritable-wit_type_json bound U32 fits = IsWritable-string bound (codes "u32")
IsWritable-wit_type_json bound U64 fits = IsWritable-string bound (codes "u64")
IsWritable-wit_type_json bound S8 fits = IsWritable-string bound (codes "s8")
IsWritable-wit_type_json bound S16 fits = IsWritable-string bound (codes "s16")
IsWritable-wit_type_json bound S32 fits = IsWritable-string bound (codes "s32")
IsWritable-wit_type_json bound S64 fits = IsWritable-string bound (codes "s64")
IsWritable-wit_type_json bound F32 fits = IsWritable-string bound (codes "f32")
IsWritable-wit_type_json bound F64 fits = IsWritable-string bound (codes "f64")
IsWritable-wit_type_json bound Char fits = IsWritable-string bound (codes "char")
IsWritable-wit_type_json bound String fits = IsWritable-string bound (codes "string")
IsWritable-wit_type_json bound ErrorContext fits = IsWritable-string bound (codes "error-context")

IsWritable-nullable_type : (bound : ℕ) (t : Option WitType) → IfSome t TypeFits → IsWritable bound (nullable_json wit_type_json t)
IsWritable-nullable_type bound t fits = IsWritable-nullable_json bound wit_type_json TypeFits (IsWritable-wit_type_json bound) t fits

IsWritable-nullable_index : (bound : ℕ) (n : Option ℕ) → IfSome n (λ n. n < 2 ^ 32) → IsWritable bound (nullable_json number_json n)
IsWritable-nullable_index bound n fits = IsWritable-nullable_json bound number_json (λ n. n < 2 ^ 32) (IsWritable-number_json bound) n fits

-- types and functions

IsWritable-named_type_json : (p : List ℕ × WitType) → NamedTypeFits p → IsWritable 1 (named_type_json p)
IsWritable-named_type_json p fits =
    IsWritable-object
    (AreWritable-cons (IsWritable-string 0 p.0)
    (AreWritable-cons (IsWritable-wit_type_json 0 p.1 fits) AreWritable-nil))
    (AreDistinct_counted (codes "name" ∷ codes "type" ∷ []) refl)

IsWritable-variant_case_json : (p : List ℕ × Option WitType) → CaseFits p → IsWritable 1 (variant_case_json p)
IsWritable-variant_case_json p fits =
    IsWritable-object
    (AreWritable-cons (IsWritable-string 0 p.0)
    (AreWritable-cons (IsWritable-nullable_type 0 p.1 fits) AreWritable-nil))
    (AreDistinct_counted (codes "name" ∷ codes "type" ∷ []) refl)

IsWritable-label_json : (l : List ℕ) → ⊤ → IsWritable 1 (label_json l)
IsWritable-label_json l fits = IsWritable-variant_json (codes "name") (IsWritable-string 0 l)

IsWritable-function_kind_json : (k : FunctionKind) → FunctionKindFits k → IsWritable 2 (function_kind_json k)
IsWritable-function_kind_json Freestanding fits = IsWritable-string 2 (codes "freestanding")
IsWritable-function_kind_json AsyncFreestanding fits = IsWritable-string 2 (codes "async-freestanding")
IsWritable-function_kind_json (Method t) fits = IsWritable-variant_json (codes "method") (IsWritable-number_json 1 t.0 fits)
IsWritable-function_kind_json (AsyncMethod t) fits = IsWritable-variant_json (codes "async-method") (IsWritable-number_json 1 t.0 fits)
IsWritable-function_kind_json (Static t) fits = IsWritable-variant_json (codes "static") (IsWritable-number_json 1 t.0 fits)
IsWritable-function_kind_json (AsyncStatic t) fits = IsWritable-variant_json (codes "async-static") (IsWritable-number_json 1 t.0 fits)
IsWritable-function_kind_json (Constructor t) fits = IsWritable-variant_json (codes "constructor") (IsWritable-number_json 1 t.0 fits)

IsWritable-function_json : (f : FunctionView) → FunctionFits f → IsWritable 3 (function_json f)
IsWritable-function_json f fits =
    IsWritable-object
    (AreWritable-cons (IsWritable-string 2 f.name)
    (AreWritable-cons (IsWritable-function_kind_json f.kind fits.kind)
    (AreWritable-cons (IsWritable-list_json 1 named_type_json NamedTypeFits IsWritable-named_type_json f.params fits.params)
    (AreWritable-cons (IsWritable-nullable_type 2 f.outcome fits.outcome) AreWritable-nil))))
    (AreDistinct_counted (codes "name" ∷ codes "kind" ∷ codes "params" ∷ codes "result" ∷ []) refl)

-- kinds and defined types

IsWritable-handle_json : (h : Handle) → HandleFits h → IsWritable 3 (handle_json h)
IsWritable-handle_json (Own t) fits = IsWritable-variant_json (codes "own") (IsWritable-number_json 2 t.0 fits)
IsWritable-handle_json (Borrow t) fits = IsWritable-variant_json (codes "borrow") (IsWritable-number_json 2 t.0 fits)

-- a list of labels
IsWritable-labels : (ls : List (List ℕ)) → IsWritable 2 (list_json label_json ls)
IsWritable-labels ls = IsWritable-list_json 1 label_json (λ l. ⊤) IsWritable-label_json ls (All-from_recursion (λ l. ⊤) ls (each ls)) where
  each : (ls : List (List ℕ)) → AllByRecursion (λ l. ⊤) ls
  each [] = tt
  each (l ∷ ls) = (tt, each ls)

IsWritable-kind_json : (k : KindView) → KindFits k → IsWritable 4 (kind_json k)
IsWritable-kind_json (record_kind fields) fits =
    IsWritable-variant_json (codes "record")
    (IsWritable-variant_json (codes "fields") (IsWritable-list_json 1 named_type_json NamedTypeFits IsWritable-named_type_json fields fits))
IsWritable-kind_json resource_kind fits = IsWritable-string 4 (codes "resource")
IsWritable-kind_json (handle_kind h) fits = IsWritable-variant_json (codes "handle") (IsWritable-handle_json h fits)
IsWritable-kind_json (flags_kind labels) fits = IsWritable-variant_json (codes "flags") (IsWritable-variant_json (codes "flags") (IsWritable-labels labels))
IsWritable-kind_json (tuple_kind types) fits =
    IsWritable-variant_json (codes "tuple")
    (IsWritable-variant_json (codes "types") (IsWritable-list_json 1 wit_type_json TypeFits (IsWritable-wit_type_json 1) types fits))
IsWritable-kind_json (variant_kind cases) fits =
    IsWritable-variant_json (codes "variant")
    (IsWritable-variant_json (codes "cases") (IsWritable-list_json 1 variant_case_json CaseFits IsWritable-variant_case_json cases fits))
IsWritable-kind_json (enum_kind cases) fits = IsWritable-variant_json (codes "enum") (IsWritable-variant_json (codes "cases") (IsWritable-labels cases))
IsWritable-kind_json (option_kind t) fits = IsWritable-variant_json (codes "option") (IsWritable-wit_type_json 3 t fits)
IsWritable-kind_json (result_kind ok err) fits =
    IsWritable-variant_json (codes "result") (IsWritable-object
    (AreWritable-cons (IsWritable-nullable_type 2 ok fits.0)
    (AreWritable-cons (IsWritable-nullable_type 2 err fits.1) AreWritable-nil))
    (AreDistinct_counted (codes "ok" ∷ codes "err" ∷ []) refl))
IsWritable-kind_json (list_kind t) fits = IsWritable-variant_json (codes "list") (IsWritable-wit_type_json 3 t fits)
IsWritable-kind_json (future_kind t) fits = IsWritable-variant_json (codes "future") (IsWritable-nullable_type 3 t fits)
IsWritable-kind_json (stream_kind t) fits = IsWritable-variant_json (codes "stream") (IsWritable-nullable_type 3 t fits)
IsWritable-kind_json (alias_kind t) fits = IsWritable-variant_json (codes "type") (IsWritable-wit_type_json 3 t fits)

IsWritable-owner_json : (o : TypeOwner) → OwnerFits o → IsWritable 4 (owner_json o)
IsWritable-owner_json (World w) fits = IsWritable-variant_json (codes "world") (IsWritable-number_json 3 w.0 fits)
IsWritable-owner_json (Interface i) fits = IsWritable-variant_json (codes "interface") (IsWritable-number_json 3 i.0 fits)
IsWritable-owner_json no_owner fits = IsWritable-null 4

IsWritable-type_json : (t : TypeView) → DefinedTypeFits t → IsWritable 6 (type_json t)
IsWritable-type_json t fits =
    IsWritable-le 6 (omega arith) (IsWritable-object
    (AreWritable-cons (IsWritable-nullable_string 4 t.name)
    (AreWritable-cons (IsWritable-kind_json t.kind fits.kind)
    (AreWritable-cons (IsWritable-owner_json t.owner fits.owner) AreWritable-nil)))
    (AreDistinct_counted (codes "name" ∷ codes "kind" ∷ codes "owner" ∷ []) refl))

-- interfaces, worlds and packages

-- a map from names
IsWritable-name_map : {A : Type 0} (bound : ℕ) (write : A → Json) (Fits : List ℕ × A → Type 0)
    → ((e : List ℕ × A) → Fits e → IsWritable bound (write e.1)) → (es : List (List ℕ × A)) → HasDistinctKeys es → All Fits es
    → IsWritable (suc bound) (name_map_json write es)
IsWritable-name_map bound write Fits each es distinct fits = IsWritable-map (λ k. k) write Fits bound each es distinct fits

IsWritable-id_map : (bound : ℕ) (es : List (List ℕ × ℕ)) → HasDistinctKeys es → All IdEntryFits es → IsWritable (suc bound) (name_map_json number_json es)
IsWritable-id_map bound es distinct fits = IsWritable-name_map bound number_json IdEntryFits (λ e h. IsWritable-number_json bound e.1 h) es distinct fits

IsWritable-interface_json : (i : InterfaceView) → InterfaceFits i → IsWritable 6 (interface_json i)
IsWritable-interface_json i fits =
    IsWritable-le 6 (omega arith) (IsWritable-object
    (AreWritable-cons (IsWritable-nullable_string 4 i.name)
    (AreWritable-cons (IsWritable-id_map 3 i.types fits.type_names fits.types)
    (AreWritable-cons (IsWritable-name_map 3 function_json FunctionEntryFits
    (λ e h. IsWritable-function_json e.1 h) i.functions fits.function_names fits.functions)
    (AreWritable-cons (IsWritable-nullable_index 4 i.in_package fits.in_package)
    (AreWritable-cons (IsWritable-nullable_index 4 i.clone_of fits.clone_of) AreWritable-nil)))))
    (AreDistinct_counted (codes "name" ∷ codes "types" ∷ codes "functions" ∷ codes "package" ∷ codes "clone_of" ∷ []) refl))

IsWritable-item_json : (i : ItemView) → ItemFits i → IsWritable 4 (item_json i)
IsWritable-item_json (interface_item n external_id) fits =
    IsWritable-variant_json (codes "interface") (IsWritable-object
    (AreWritable-cons (IsWritable-number_json 2 n fits)
    (AreWritable-cons (IsWritable-nullable_string 2 external_id) AreWritable-nil))
    (AreDistinct_counted (codes "id" ∷ codes "external_id" ∷ []) refl))
IsWritable-item_json (function_item f) fits = IsWritable-variant_json (codes "function") (IsWritable-function_json f fits)
IsWritable-item_json (type_item n) fits = IsWritable-variant_json (codes "type") (IsWritable-number_json 3 n fits)

IsWritable-world_items_json : (es : List (KeyView × ItemView)) → HasDistinctTexts es → All WorldEntryFits es → IsWritable 5 (world_items_json es)
IsWritable-world_items_json es distinct fits =
    IsWritable-map key_text item_json WorldEntryFits 4 (λ e h. IsWritable-item_json e.1 h.1) es distinct fits

IsWritable-world_json : (p : WorldView × Option ℕ) → WorldFits p → IsWritable 6 (world_json p)
IsWritable-world_json p fits =
    IsWritable-object
    (AreWritable-cons (IsWritable-string 5 p.0.name)
    (AreWritable-cons (IsWritable-world_items_json p.0.imports fits.import_keys fits.imports)
    (AreWritable-cons (IsWritable-world_items_json p.0.exports fits.export_keys fits.exports)
    (AreWritable-cons (IsWritable-nullable_index 5 p.1 fits.in_package) AreWritable-nil))))
    (AreDistinct_counted (codes "name" ∷ codes "imports" ∷ codes "exports" ∷ codes "package" ∷ []) refl)

IsWritable-package_json : (p : PackageView × List (List ℕ × ℕ)) → PackageFits p → IsWritable 6 (package_json p)
IsWritable-package_json p fits =
    IsWritable-object
    (AreWritable-cons (IsWritable-string 5 (package_name_text p.0.name))
    (AreWritable-cons (IsWritable-id_map 4 p.0.interfaces fits.interface_names fits.interfaces)
    (AreWritable-cons (IsWritable-id_map 4 p.1 fits.world_names fits.worlds) AreWritable-nil)))
    (AreDistinct_counted (codes "name" ∷ codes "interfaces" ∷ codes "worlds" ∷ []) refl)

IsWritable-document_json : (d : DocumentView) → DocumentFits d → IsWritable 8 (document_json d)
IsWritable-document_json d fits =
    IsWritable-object
    (AreWritable-cons (IsWritable-list_json 6 world_json WorldFits IsWritable-world_json (zip d.parts.worlds d.world_packages) fits.worlds)
    (AreWritable-cons (IsWritable-list_json 6 interface_json InterfaceFits IsWritable-interface_json d.parts.interfaces fits.interfaces)
    (AreWritable-cons (IsWritable-list_json 6 type_json DefinedTypeFits IsWritable-type_json d.parts.types fits.types)
    (AreWritable-cons (IsWritable-list_json 6 package_json PackageFits IsWritable-package_json
    (zip d.parts.packages d.package_worlds) fits.packages) AreWritable-nil))))
    (AreDistinct_counted (codes "worlds" ∷ codes "interfaces" ∷ codes "types" ∷ codes "packages" ∷ []) refl)

pub document-document_text : (d : DocumentView) → DocumentFits d → IsSomeAnd (document (document_text d)) (λ j. HasUniqueKeys j × (document_of j ≡ Ok d))
document-document_text d fits =
    let j = document_json d in
    let w = IsWritable-document_json d fits in
    let shallow = w.shallow in
    let P : Option Json → Type 0 = λ o. IsSomeAnd o (λ j. HasUniqueKeys j × (document_of j ≡ Ok d)) in
    subst P (sym (document-print j w.numbers (omega (arith, shallow)))) (w.unique, document_of-document_json d fits)
