-- How kinds of defined types are read.
use Rattle.std.specs.Prelude.{ℕ, List, Ok, cond, codes}
use Rattle.std.specs.Str.{bytes_eq}
use Rattle.json.specs.Json.{Json, string}
use Rattle.wc_resolve.specs.Views.{KindView, record_kind, resource_kind, handle_kind, flags_kind, tuple_kind, variant_kind, enum_kind, option_kind, result_kind, list_kind, future_kind, stream_kind, alias_kind}
use Rattle.wc_resolve.specs.declared.types.Handle.{Handle}
use Rattle.wc_resolve.specs.declared.types.Handle.TheVariants.{Own, Borrow}
use Rattle.wc_json.specs.Fault.{Reading, refusal, ◌>>=◌}
use Rattle.wc_json.specs.FromJson.{text, list, nullable}
use Rattle.wc_json.specs.Ids.{index}
use Rattle.wc_json.specs.Members.{only_member, required_member, optional_member}
use Rattle.wc_json.specs.Paths.{at_step, variant_step}
use Rattle.wc_json.specs.WitTypes.{named_type, variant_case, wit_type}
use Rattle.wc_json.specs.declared.fault.Problem.TheVariants.{LeftOut, Unknown}

-- a flag, or a case of an enum: its name
abbrev pub label : Json → Reading (List ℕ)
label j = do
  name ← required_member (codes "name") text j
  Ok name

abbrev pub own_handle : Json → Reading Handle
own_handle j = do
  n ← index j
  Ok (Own (record { 0 = n }))

abbrev pub borrow_handle : Json → Reading Handle
borrow_handle j = do
  n ← index j
  Ok (Borrow (record { 0 = n }))

abbrev pub handle_of : List ℕ → Json → Reading Handle
handle_of name j =
    cond (bytes_eq name (codes "own")) (own_handle j)
    (cond (bytes_eq name (codes "borrow")) (borrow_handle j)
    (refusal Unknown))

abbrev pub handle : Json → Reading Handle
handle j = do
  m ← only_member j
  at_step (variant_step m.0) (handle_of m.0 m.1)

-- the kind that is this text alone
abbrev pub plain_kind : List ℕ → Reading KindView
plain_kind name =
    cond (bytes_eq name (codes "resource")) (Ok resource_kind)
    (cond (bytes_eq name (codes "unknown")) (refusal LeftOut)
    (refusal Unknown))

abbrev pub result_kind_of : Json → Reading KindView
result_kind_of j = do
  ok ← optional_member (codes "ok") wit_type j
  err ← optional_member (codes "err") wit_type j
  Ok (result_kind ok err)

-- the kind of this name, made of what the value has
abbrev pub kind_of : List ℕ → Json → Reading KindView
kind_of name j =
    cond (bytes_eq name (codes "record")) (required_member (codes "fields") (list named_type) j >>= (λ fields. Ok (record_kind fields)))
    (cond (bytes_eq name (codes "handle")) (handle j >>= (λ h. Ok (handle_kind h)))
    (cond (bytes_eq name (codes "flags")) (required_member (codes "flags") (list label) j >>= (λ labels. Ok (flags_kind labels)))
    (cond (bytes_eq name (codes "tuple")) (required_member (codes "types") (list wit_type) j >>= (λ types. Ok (tuple_kind types)))
    (cond (bytes_eq name (codes "variant")) (required_member (codes "cases") (list variant_case) j >>= (λ cases. Ok (variant_kind cases)))
    (cond (bytes_eq name (codes "enum")) (required_member (codes "cases") (list label) j >>= (λ cases. Ok (enum_kind cases)))
    (cond (bytes_eq name (codes "option")) (wit_type j >>= (λ t. Ok (option_kind t)))
    (cond (bytes_eq name (codes "result")) (result_kind_of j)
    (cond (bytes_eq name (codes "list")) (wit_type j >>= (λ t. Ok (list_kind t)))
    (cond (bytes_eq name (codes "future")) (nullable wit_type j >>= (λ t. Ok (future_kind t)))
    (cond (bytes_eq name (codes "stream")) (nullable wit_type j >>= (λ t. Ok (stream_kind t)))
    (cond (bytes_eq name (codes "type")) (wit_type j >>= (λ t. Ok (alias_kind t)))
    (cond (bytes_eq name (codes "fixed-length-list")) (refusal LeftOut)
    (cond (bytes_eq name (codes "fixed-size-list")) (refusal LeftOut)
    (cond (bytes_eq name (codes "map")) (refusal LeftOut)
    (refusal Unknown)))))))))))))))

-- the only member: the kind's name, and what it is made of
abbrev pub kind_by_name : Json → Reading KindView
kind_by_name j = do
  m ← only_member j
  at_step (variant_step m.0) (kind_of m.0 m.1)

abbrev pub kind : Json → Reading KindView
kind (string s) = plain_kind s
kind j = kind_by_name j
