-- What the keys of a world's items are.
use Rattle.std.specs.Prelude.{ℕ, Bool, false, List, cond, if◌then◌else◌, codes, Option, Some, None, Ok, Err, decimal}
use Rattle.std.specs.Str.{bytes_eq}
use Rattle.std.specs.Str.Parse.{without_leading_plus}
use Rattle.wc_resolve.specs.Views.{ItemView, interface_item, function_item, type_item, KeyView, plain_key, interface_key}
use Rattle.json.specs.Json.{Json, string}
use Rattle.wc_texts.specs.Prefixes.{rest_after}
use Rattle.wc_json.specs.Fault.{Reading, refusal}
use Rattle.wc_json.specs.Ids.{index_of_digits}
use Rattle.wc_json.specs.declared.fault.Problem.TheVariants.{NotAText}

-- the index that is read, if this text is how it is written
abbrev pub index_written_as : List ℕ → Reading ℕ → Option ℕ
index_written_as text (Ok n) = cond (bytes_eq (decimal n) text) (Some n) None
index_written_as text (Err fault) = None

-- the index below 2^32 whose decimal text this is
abbrev pub canonical_index : List ℕ → Option ℕ
canonical_index text = index_written_as text (index_of_digits (without_leading_plus text))

abbrev pub key_of_index : List ℕ → Option ℕ → KeyView
key_of_index text None = plain_key text
key_of_index text (Some n) = interface_key n

abbrev pub key_of_rest : List ℕ → Option (List ℕ) → KeyView
key_of_rest text None = plain_key text
key_of_rest text (Some digits) = key_of_index text (canonical_index digits)

-- by itself `interface-3` is the key of the interface 3, any other text a plain key
abbrev pub world_key : List ℕ → KeyView
world_key text = key_of_rest text (rest_after (codes "interface-") text)

-- a text is `interface-`, and then the decimal text of the index
abbrev pub is_id_rest : ℕ → Option (List ℕ) → Bool
is_id_rest index None = false
is_id_rest index (Some digits) = bytes_eq (decimal index) digits

abbrev pub is_id_key : List ℕ → ℕ → Bool
is_id_key text index = is_id_rest index (rest_after (codes "interface-") text)

-- for the interface 3 `interface-3` is its own key; any other text is a plain key, and for any other item
abbrev pub item_key : List ℕ → ItemView → KeyView
item_key text (interface_item index external_id) = if is_id_key text index then interface_key index else plain_key text
item_key text (function_item f) = plain_key text
item_key text (type_item index) = plain_key text

abbrev pub key : Json → Reading KeyView
key (string s) = Ok (world_key s)
key j = refusal NotAText
