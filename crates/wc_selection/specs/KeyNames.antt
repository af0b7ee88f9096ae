-- The texts by which a request gives the keys of a world's exports.
use Rattle.std.specs.Prelude.{ℕ, ◌==◌, ◌&&◌, Bool, not, List, ◌++◌, map, filter, length, if◌then◌else◌, codes, decimal}
use Rattle.std.specs.List.{before_first}
use Rattle.std.specs.Str.{bytes_eq}
use Rattle.wc_resolve.specs.Views.{KeyView, plain_key, interface_key}
use Rattle.wc_resolve.specs.Kinds.{ResolveView}
use Rattle.wc_selection.specs.Keys.{NamedKey, export_keys, texts_of}
use Rattle.wc_selection.specs.Requests.{RequestValue, given_keys}
use Rattle.wc_maps.specs.Texts.{is_in}

-- the code of `@`
abbrev pub at_sign : ℕ
at_sign = 64

-- the text of a key without its version: of an interface's key what is before its first `@`
abbrev pub unversioned_text : List ℕ → List ℕ
unversioned_text text = before_first (λ b. b == at_sign) text

abbrev pub unversioned_of : KeyView → List ℕ → List ℕ
unversioned_of (interface_key id) text = unversioned_text text
unversioned_of (plain_key name) text = text

abbrev pub unversioned : NamedKey → List ℕ
unversioned k = unversioned_of k.0 k.1

-- how many keys have this text without their versions
abbrev pub count_unversioned : List NamedKey → List ℕ → ℕ
count_unversioned keys text = length (filter (λ (k : NamedKey). bytes_eq (unversioned k) text) keys)

-- one has it, and no key has it with its version
abbrev pub is_only : List NamedKey → List ℕ → Bool
is_only keys text = count_unversioned keys text == 1 && not (is_in (texts_of keys) text)

-- the text by which a key is given: its text without a version, if this is given and the whole text is not, and if it is
-- that of no other key; else the whole text
abbrev pub text_as_given : List (List ℕ) → List NamedKey → NamedKey → List ℕ
text_as_given given keys k =
    if (is_in given (unversioned k) && not (is_in given k.1)) && is_only keys (unversioned k) then unversioned k else k.1

abbrev pub keys_as_given : List (List ℕ) → List NamedKey → List NamedKey
keys_as_given given keys = map (λ (k : NamedKey). (k.0, text_as_given given keys k)) keys

-- the keys of a world's exports, in order, each under the text by which a request gives it
abbrev pub request_keys : RequestValue → ResolveView → ℕ → List NamedKey
request_keys q r world = keys_as_given (given_keys q) (export_keys r world)

-- the text of an interface's index, by which a document has its key under its own id: `interface-3`
abbrev pub index_text : ℕ → List ℕ
index_text index = codes "interface-" ++ decimal index

-- this text, if it is given; else another
abbrev pub index_or_text : List (List ℕ) → ℕ → List ℕ → List ℕ
index_or_text given index text = if is_in given (index_text index) then index_text index else text

abbrev pub text_or_index_of : List (List ℕ) → KeyView → List ℕ → List ℕ
text_or_index_of given (interface_key id) text = index_or_text given id text
text_or_index_of given (plain_key name) text = text

-- the text of a key, or the index of its interface, if that is given
abbrev pub text_or_index : List (List ℕ) → NamedKey → List ℕ
text_or_index given k = text_or_index_of given k.0 k.1

abbrev pub keys_by_index : List (List ℕ) → List NamedKey → List NamedKey
keys_by_index given keys = map (λ (k : NamedKey). (k.0, text_or_index given k)) keys

-- keys, each under the text by which a request gives it, or under the index of its interface, where the request gives this
abbrev pub indexed_exports : RequestValue → List NamedKey → List NamedKey
indexed_exports q keys = keys_by_index (given_keys q) (keys_as_given (given_keys q) keys)

-- those of a world's exports, in order
abbrev pub indexed_keys : RequestValue → ResolveView → ℕ → List NamedKey
indexed_keys q r world = indexed_exports q (export_keys r world)
