-- How types are read where they are used.
use Rattle.std.specs.Prelude.{ℕ, List, Option, Ok, cond, codes}
use Rattle.std.specs.Str.{bytes_eq}
use Rattle.json.specs.Json.{Json, string}
use Rattle.wc_resolve.specs.declared.types.WitType.{WitType}
use Rattle.wc_resolve.specs.declared.types.WitType.TheVariants.{Bool, U8, U16, U32, U64, S8, S16, S32, S64, F32, F64, Char, String, ErrorContext, Id}
use Rattle.wc_json.specs.Fault.{Reading, refusal, ◌>>=◌}
use Rattle.wc_json.specs.FromJson.{text}
use Rattle.wc_json.specs.Ids.{index}
use Rattle.wc_json.specs.Members.{required_member, optional_member}
use Rattle.wc_json.specs.declared.fault.Problem.TheVariants.{Unknown}

abbrev pub primitive : List ℕ → Reading WitType
primitive name =
    cond (bytes_eq name (codes "bool")) (Ok Bool)
    (cond (bytes_eq name (codes "u8")) (Ok U8)
    (cond (bytes_eq name (codes "u16")) (Ok U16)
    (cond (bytes_eq name (codes "u32")) (Ok U32)
    (cond (bytes_eq name (codes "u64")) (Ok U64)
    (cond (bytes_eq name (codes "s8")) (Ok S8)
    (cond (bytes_eq name (codes "s16")) (Ok S16)
    (cond (bytes_eq name (codes "s32")) (Ok S32)
    (cond (bytes_eq name (codes "s64")) (Ok S64)
    (cond (bytes_eq name (codes "f32")) (Ok F32)
    (cond (bytes_eq name (codes "f64")) (Ok F64)
    (cond (bytes_eq name (codes "char")) (Ok Char)
    (cond (bytes_eq name (codes "string")) (Ok String)
    (cond (bytes_eq name (codes "error-context")) (Ok ErrorContext)
    (refusal Unknown))))))))))))))

abbrev pub type_by_id : Json → Reading WitType
type_by_id j = do
  n ← index j
  Ok (Id (record { 0 = n }))

-- a primitive type by its name, a defined one by its id
abbrev pub wit_type : Json → Reading WitType
wit_type (string s) = primitive s
wit_type j = type_by_id j

-- a parameter or a field
abbrev pub named_type : Json → Reading (List ℕ × WitType)
named_type j = do
  name ← required_member (codes "name") text j
  ty ← required_member (codes "type") wit_type j
  Ok (name, ty)

-- a case of a variant
abbrev pub variant_case : Json → Reading (List ℕ × Option WitType)
variant_case j = do
  name ← required_member (codes "name") text j
  payload ← optional_member (codes "type") wit_type j
  Ok (name, payload)
