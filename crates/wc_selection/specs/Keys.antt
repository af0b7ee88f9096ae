-- The keys of a world's imports and exports, with their texts.
use Rattle.std.specs.Prelude.{◌≢◌, ℕ, [], List, map, Option, String, string_bytes, slice_get}
use Rattle.std.specs.List.{AllPairs, filter_map}
use Rattle.std.specs.Option.{option_map, option_map_or}
use Rattle.std.specs.declared.alloc.Global.{Global}
use Rattle.semver.specs.Identifiers.{parts_text}
use Rattle.wc_resolve.specs.Resolve.{key_text}
use Rattle.wc_resolve.specs.Views.{ItemView, KeyView, WorldView, key_view}
use Rattle.wc_resolve.specs.Kinds.{ResolveView}
use Rattle.wc_resolve.specs.declared.worlds.WorldKey.{WorldKey}

-- a key of an import or an export, with its text
abbrev pub NamedKey : Type 0
NamedKey = KeyView × List ℕ

abbrev pub named_key : WorldKey × String Global → NamedKey
named_key k = (key_view k.0, string_bytes k.1)

-- a key under its text, if it has one
abbrev pub with_text : ResolveView → KeyView × ItemView → Option NamedKey
with_text r x = option_map (λ (text : List ℕ). (x.0, text)) (key_text parts_text r x.0)

-- the keys of items, in order
abbrev pub named_keys : ResolveView → List (KeyView × ItemView) → List NamedKey
named_keys r items = filter_map (with_text r) items

-- the keys of a world's exports, and of its imports, in order
abbrev pub export_keys : ResolveView → ℕ → List NamedKey
export_keys r world = option_map_or (λ (w : WorldView). named_keys r w.exports) (slice_get r.worlds world) []

abbrev pub import_keys : ResolveView → ℕ → List NamedKey
import_keys r world = option_map_or (λ (w : WorldView). named_keys r w.imports) (slice_get r.worlds world) []

-- no key is there twice
abbrev pub AreKeysApart : List NamedKey → Type 0
AreKeysApart keys = AllPairs (λ (a : NamedKey) (b : NamedKey). a.0 ≢ b.0) keys

abbrev pub texts_of : List NamedKey → List (List ℕ)
texts_of keys = map (λ (k : NamedKey). k.1) keys
