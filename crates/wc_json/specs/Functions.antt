-- How functions are read.
use Rattle.std.specs.Prelude.{ℕ, List, Ok, cond, codes}
use Rattle.std.specs.Str.{bytes_eq}
use Rattle.json.specs.Json.{Json, string}
use Rattle.wc_resolve.specs.Views.{FunctionView}
use Rattle.wc_resolve.specs.declared.functions.FunctionKind.{FunctionKind}
use Rattle.wc_resolve.specs.declared.functions.FunctionKind.TheVariants.{Freestanding, AsyncFreestanding, Method, AsyncMethod, Static, AsyncStatic, Constructor}
use Rattle.wc_json.specs.Fault.{Reading, refusal, ◌>>=◌}
use Rattle.wc_json.specs.FromJson.{text, list}
use Rattle.wc_json.specs.Ids.{index}
use Rattle.wc_json.specs.Members.{only_member, required_member, optional_member, absent_member}
use Rattle.wc_json.specs.Paths.{at_step, variant_step}
use Rattle.wc_json.specs.WitTypes.{named_type, wit_type}
use Rattle.wc_json.specs.declared.fault.Problem.TheVariants.{Unknown}

abbrev pub kind_without_resource : List ℕ → Reading FunctionKind
kind_without_resource name =
    cond (bytes_eq name (codes "freestanding")) (Ok Freestanding)
    (cond (bytes_eq name (codes "async-freestanding")) (Ok AsyncFreestanding)
    (refusal Unknown))

abbrev pub kind_of_resource : List ℕ → ℕ → Reading FunctionKind
kind_of_resource name resource =
    cond (bytes_eq name (codes "method")) (Ok (Method (record { 0 = resource })))
    (cond (bytes_eq name (codes "async-method")) (Ok (AsyncMethod (record { 0 = resource })))
    (cond (bytes_eq name (codes "static")) (Ok (Static (record { 0 = resource })))
    (cond (bytes_eq name (codes "async-static")) (Ok (AsyncStatic (record { 0 = resource })))
    (cond (bytes_eq name (codes "constructor")) (Ok (Constructor (record { 0 = resource })))
    (refusal Unknown)))))

-- the only member: the kind's name, and the id of the resource
abbrev pub kind_with_resource : Json → Reading FunctionKind
kind_with_resource j = do
  m ← only_member j
  resource ← at_step (variant_step m.0) (index m.1)
  at_step (variant_step m.0) (kind_of_resource m.0 resource)

abbrev pub function_kind : Json → Reading FunctionKind
function_kind (string s) = kind_without_resource s
function_kind j = kind_with_resource j

-- the older member `results` is refused
abbrev pub function : Json → Reading FunctionView
function j = do
  name ← required_member (codes "name") text j
  kind ← required_member (codes "kind") function_kind j
  params ← required_member (codes "params") (list named_type) j
  _ ← absent_member (codes "results") j
  outcome ← optional_member (codes "result") wit_type j
  Ok (record { name = name; kind = kind; params = params; outcome = outcome })
