-- Types and functions that are written are read back.
use Rattle.std.proofs.Common.{◌≡◌, ◌≢◌, ℕ, ◌+◌, ◌<◌, ◌^◌, List, [], ◌∷◌, Option, Some, None, Ok, All, IfSome, codes, decimal, get_or, refl, ap, ◌∙◌, arith}
use Rattle.std.specs.Option.{unwrap_or}
use Rattle.std.specs.Str.Parse.{IsNumeral, without_leading_plus}
use Rattle.std.proofs.lemmas.Bool.{lt-ltb}
use Rattle.std.proofs.lemmas.Fmt.{decimal_is_IsNumeral}
use Rattle.std.proofs.lemmas.List.Elements.{All-head, All-tail}
use Rattle.std.proofs.lemmas.Str.Parse.{digit_from_value, without_leading_plus_none}
use Rattle.json.specs.Json.{Json, string}
use Rattle.wc_resolve.specs.Views.{FunctionView, TypeView, KindView, record_kind, resource_kind, handle_kind, flags_kind, tuple_kind, variant_kind, enum_kind, option_kind, result_kind, list_kind, future_kind, stream_kind, alias_kind}
use Rattle.wc_resolve.specs.declared.functions.FunctionKind.{FunctionKind}
use Rattle.wc_resolve.specs.declared.functions.FunctionKind.TheVariants.{Freestanding, AsyncFreestanding, Method, AsyncMethod, Static, AsyncStatic, Constructor}
use Rattle.wc_resolve.specs.declared.types.Handle.{Handle}
use Rattle.wc_resolve.specs.declared.types.Handle.TheVariants.{Own, Borrow}
use Rattle.wc_resolve.specs.declared.types.TypeOwner.{TypeOwner}
use Rattle.wc_resolve.specs.declared.types.TypeOwner.TheVariants.{World, Interface, None as no_owner}
use Rattle.wc_resolve.specs.declared.types.WitType.{WitType}
use Rattle.wc_resolve.specs.declared.types.WitType.TheVariants.{Bool, U8, U16, U32, U64, S8, S16, S32, S64, F32, F64, Char, String, ErrorContext, Id}
use Rattle.wc_json.specs.Fault.{Reading, ◌>>=◌}
use Rattle.wc_json.specs.Fits.{CaseFits, DefinedTypeFits, FunctionFits, FunctionKindFits, HandleFits, KindFits, NamedTypeFits, OwnerFits, TypeFits}
use Rattle.wc_json.specs.FromJson.{items_from, nullable, some, text}
use Rattle.wc_json.specs.Functions.{function, function_kind, kind_of_resource, kind_with_resource}
use Rattle.wc_json.specs.Ids.{index, index_of_digits}
use Rattle.wc_json.specs.Kinds.{handle, kind, label}
use Rattle.wc_json.specs.Paths.{at_step, variant_step}
use Rattle.wc_texts.specs.Shapes.{nullable_json, number_json}
use Rattle.wc_json.specs.ToJson.{function_json, function_kind_json, handle_json, items_json, kind_json, label_json, named_type_json, owner_json, type_json, variant_case_json, variant_json, wit_type_json}
use Rattle.wc_json.specs.Types.{defined_type, owner}
use Rattle.wc_json.specs.WitTypes.{named_type, variant_case, wit_type}
use Rattle.wc_json.proofs.IdLemmas.{is_numeral-IsNumeral}

numeral_without_plus : (ds : List ℕ) → IsNumeral 10 ds → get_or ds 0 0 ≢ 43
numeral_without_plus [] numeral e = absurd (let bad : 0 < 0 = numeral.0 in omega (arith, bad))
numeral_without_plus (c ∷ cs) numeral e = let digit = digit_from_value c numeral.1.0 in omega (arith, digit, e)

pub index_of_digits-decimal : (n : ℕ) → n < 2 ^ 32 → index_of_digits (decimal n) ≡ Ok n
index_of_digits-decimal n fits =
    let read = decimal_is_IsNumeral n (omega (arith, fits)) in
    rw (is_numeral-IsNumeral (decimal n) read.0, read.1, lt-ltb n (2 ^ 32) fits) refl

pub without_leading_plus-decimal : (n : ℕ) → n < 2 ^ 32 → without_leading_plus (decimal n) ≡ decimal n
without_leading_plus-decimal n fits = without_leading_plus_none (decimal n) (numeral_without_plus (decimal n) (decimal_is_IsNumeral n (omega (arith, fits))).0)

pub index-number_json : (n : ℕ) → n < 2 ^ 32 → index (number_json n) ≡ Ok n
index-number_json n fits = ap index_of_digits (without_leading_plus-decimal n fits) ∙ index_of_digits-decimal n fits

pub nullable-number_json : (n : Option ℕ) → IfSome n (λ n. n < 2 ^ 32) → nullable index (nullable_json number_json n) ≡ Ok n
nullable-number_json None fits = refl
nullable-number_json (Some n) fits = ap some (index-number_json n fits)

pub nullable-string : (n : Option (List ℕ)) → nullable text (nullable_json string n) ≡ Ok n
nullable-string None = refl
nullable-string (Some n) = refl

-- a list whose items are read back is read back
pub items_from-items_json : {A : Type 0} (write : A → Json) (read : Json → Reading A) (Fits : A → Type 0) → ((x : A) → Fits x → read (write x) ≡ Ok x)
    → (n : ℕ) (xs : List A) → All Fits xs → items_from read n (items_json write xs) ≡ Ok xs
items_from-items_json write read Fits back n [] fits = refl
items_from-items_json write read Fits back n (x ∷ xs) fits =
    rw (back x (All-head Fits x xs fits), items_from-items_json write read Fits back (n + 1) xs (All-tail Fits x xs fits)) refl

-- types where they are used

pub wit_type-wit_type_json : (t : WitType) → TypeFits t → wit_type (wit_type_json t) ≡ Ok t
wit_type-wit_type_json Bool fits = refl
wit_type-wit_type_json U8 fits = refl
wit_type-wit_type_json U16 fits = refl
wit_type-wit_type_json U32 fits = refl
wit_type-wit_type_json U64 fits = refl
wit_type-wit_type_json S8 fits = refl
wit_type-wit_type_json S16 fits = refl
wit_type-wit_type_json S32 fits = refl
wit_type-wit_type_json S64 fits = refl
wit_type-wit_type_json F32 fits = refl
wit_type-wit_type_json F64 fits = refl
wit_type-wit_type_json Char fits = refl
wit_type-wit_type_json String fits = refl
wit_type-wit_type_json ErrorContext fits = refl
wit_type-wit_type_json (Id t) fits = ap (λ (r : Reading ℕ). r >>= (λ n. Ok (Id (record { 0 = n })))) (index-number_json t.0 fits)

nullable-some_type : (t : WitType) → nullable wit_type (wit_type_json t) ≡ some (wit_type (wit_type_json t))
nullable-some_type Bool = refl
nullable-some_type U8 = refl
nullable-some_type U16 = refl
nullable-some_type U32 = refl
nullable-some_type U64 = refl
nullable-some_type S8 = refl
nullable-some_type S16 = refl
nullable-some_type S32 = refl
nullable-some_type S64 = refl
nullable-some_type F32 = refl
nullable-some_type F64 = refl
nullable-some_type Char = refl
nullable-some_type String = refl
nullable-some_type ErrorContext = refl
nullable-some_type (Id t) = refl

pub nullable-wit_type_json : (t : Option WitType) → IfSome t TypeFits → nullable wit_type (nullable_json wit_type_json t) ≡ Ok t
nullable-wit_type_json None fits = refl
nullable-wit_type_json (Some t) fits = nullable-some_type t ∙ ap some (wit_type-wit_type_json t fits)

named_type-named_type_json : (p : List ℕ × WitType) → NamedTypeFits p → named_type (named_type_json p) ≡ Ok p
named_type-named_type_json p fits = rw (wit_type-wit_type_json p.1 fits) refl

variant_case-variant_case_json : (p : List ℕ × Option WitType) → CaseFits p → variant_case (variant_case_json p) ≡ Ok p
variant_case-variant_case_json p fits = rw (nullable-wit_type_json p.1 fits) refl

-- functions

kind_with_resource-variant_json : (name : List ℕ) (n : ℕ) → n < 2 ^ 32
    → kind_with_resource (variant_json name (number_json n)) ≡ at_step (variant_step name) (kind_of_resource name n)
kind_with_resource-variant_json name n fits = rw (index-number_json n fits) refl

function_kind-function_kind_json : (k : FunctionKind) → FunctionKindFits k → function_kind (function_kind_json k) ≡ Ok k
function_kind-function_kind_json Freestanding fits = refl
function_kind-function_kind_json AsyncFreestanding fits = refl
function_kind-function_kind_json (Method t) fits = kind_with_resource-variant_json (codes "method") t.0 fits
function_kind-function_kind_json (AsyncMethod t) fits = kind_with_resource-variant_json (codes "async-method") t.0 fits
function_kind-function_kind_json (Static t) fits = kind_with_resource-variant_json (codes "static") t.0 fits
function_kind-function_kind_json (AsyncStatic t) fits = kind_with_resource-variant_json (codes "async-static") t.0 fits
function_kind-function_kind_json (Constructor t) fits = kind_with_resource-variant_json (codes "constructor") t.0 fits

pub function-function_json : (f : FunctionView) → FunctionFits f → function (function_json f) ≡ Ok f
function-function_json f fits =
    rw (
      function_kind-function_kind_json f.kind fits.kind,
      items_from-items_json named_type_json named_type NamedTypeFits named_type-named_type_json 0 f.params fits.params,
      nullable-wit_type_json f.outcome fits.outcome,
    ) refl

-- kinds and defined types

handle-handle_json : (h : Handle) → HandleFits h → handle (handle_json h) ≡ Ok h
handle-handle_json (Own t) fits = rw (index-number_json t.0 fits) refl
handle-handle_json (Borrow t) fits = rw (index-number_json t.0 fits) refl

labels_back : (n : ℕ) (ls : List (List ℕ)) → items_from label n (items_json label_json ls) ≡ Ok ls
labels_back n [] = refl
labels_back n (l ∷ ls) = rw (labels_back (n + 1) ls) refl

kind-kind_json : (k : KindView) → KindFits k → kind (kind_json k) ≡ Ok k
kind-kind_json (record_kind fields) fits = rw (items_from-items_json named_type_json named_type NamedTypeFits named_type-named_type_json 0 fields fits) refl
kind-kind_json resource_kind fits = refl
kind-kind_json (handle_kind h) fits = rw (handle-handle_json h fits) refl
kind-kind_json (flags_kind labels) fits = rw (labels_back 0 labels) refl
kind-kind_json (tuple_kind types) fits = rw (items_from-items_json wit_type_json wit_type TypeFits wit_type-wit_type_json 0 types fits) refl
kind-kind_json (variant_kind cases) fits = rw (items_from-items_json variant_case_json variant_case CaseFits variant_case-variant_case_json 0 cases fits) refl
kind-kind_json (enum_kind cases) fits = rw (labels_back 0 cases) refl
kind-kind_json (option_kind t) fits = rw (wit_type-wit_type_json t fits) refl
kind-kind_json (result_kind ok err) fits = rw (nullable-wit_type_json ok fits.0, nullable-wit_type_json err fits.1) refl
kind-kind_json (list_kind t) fits = rw (wit_type-wit_type_json t fits) refl
kind-kind_json (future_kind t) fits = rw (nullable-wit_type_json t fits) refl
kind-kind_json (stream_kind t) fits = rw (nullable-wit_type_json t fits) refl
kind-kind_json (alias_kind t) fits = rw (wit_type-wit_type_json t fits) refl

-- an owner, or none
abbrev owner_if_any : TypeOwner → Option TypeOwner
owner_if_any (World w) = Some (World w)
owner_if_any (Interface i) = Some (Interface i)
owner_if_any no_owner = None

nullable-owner_json : (o : TypeOwner) → OwnerFits o → nullable owner (owner_json o) ≡ Ok (owner_if_any o)
nullable-owner_json (World w) fits = rw (index-number_json w.0 fits) refl
nullable-owner_json (Interface i) fits = rw (index-number_json i.0 fits) refl
nullable-owner_json no_owner fits = refl

unwrap_or-owner_if_any : (o : TypeOwner) → unwrap_or (owner_if_any o) no_owner ≡ o
unwrap_or-owner_if_any (World w) = refl
unwrap_or-owner_if_any (Interface i) = refl
unwrap_or-owner_if_any no_owner = refl

pub defined_type-type_json : (t : TypeView) → DefinedTypeFits t → defined_type (type_json t) ≡ Ok t
defined_type-type_json t fits =
    rw (nullable-string t.name, kind-kind_json t.kind fits.kind, nullable-owner_json t.owner fits.owner)
    (ap (λ (o : TypeOwner). Ok (record { name = t.name; kind = t.kind; owner = o })) (unwrap_or-owner_if_any t.owner))
