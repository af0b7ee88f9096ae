-- What modules have to export.
use Rattle.std.specs.Prelude.{◌≡◌, ◌⊎◌, ◌<◌, ℕ, Bool, true, false, not, ◌&&◌, ◌∷◌, [], List, map, filter, Option, Some, None, All, Contains}
use Rattle.std.specs.List.{list_any}
use Rattle.std.specs.Str.{bytes_eq}
use Rattle.wc_resolve.specs.Views.{KeyView}
use Rattle.wc_selection.specs.KeyNames.{count_unversioned}
use Rattle.wc_selection.specs.Keys.{NamedKey, texts_of}
use Rattle.wc_selection.specs.Requests.{RequestValue}
use Rattle.wc_maps.specs.Texts.{AreDistinct, IsFirstMissing, IsFirstRepeated, is_in, second_parts}
use Rattle.wc_selection.specs.declared.fault.RequestFault.{RequestFault}
use Rattle.wc_selection.specs.declared.fault.RequestFault.TheVariants.{Memory, UnknownKey, SeveralKeys, RepeatedKey}

-- a request says of an adapter that it has to export the key with this text
abbrev pub is_pair : List ℕ → List ℕ → List ℕ × List ℕ → Bool
is_pair name text p = bytes_eq p.0 name && bytes_eq p.1 text

-- of the main module: it says so; or it says no key of it, and the key of no adapter
abbrev pub is_required_of_main : RequestValue → List (List ℕ) → List ℕ → Bool
is_required_of_main q [] text = not (is_in (second_parts q.adapter_exports) text)
is_required_of_main q (key ∷ keys) text = is_in (key ∷ keys) text

abbrev pub is_required : RequestValue → Option (List ℕ) → List ℕ → Bool
is_required q None text = is_required_of_main q q.exports text
is_required q (Some name) text = list_any (is_pair name text) q.adapter_exports

-- the keys that a module has to export, in the order of the world's exports
abbrev pub required_keys : RequestValue → Option (List ℕ) → List NamedKey → List KeyView
required_keys q exporter keys = map (λ (k : NamedKey). k.0) (filter (λ (k : NamedKey). is_required q exporter k.1) keys)

-- keys are there, and none is given twice
abbrev pub AreKeysThere : List (List ℕ) → List (List ℕ) → Type 0
AreKeysThere given texts = All (Contains texts) given × AreDistinct given

-- why not, where `own` are the keys of exports by their own texts, and `keys` by those by which they are given: the first
-- text that none is given by is that of none without its version, or of several; or that of one, which is given otherwise.
-- Or all are there, and one is given twice
abbrev pub IsKeysCause : List (List ℕ) → List NamedKey → List NamedKey → RequestFault → Type 0
IsKeysCause given own keys Memory = Unit {0}
IsKeysCause given own keys (UnknownKey key) =
    IsFirstMissing given (texts_of keys) key.now × (is_in (texts_of own) key.now ≡ false) × (count_unversioned own key.now ≡ 0)
IsKeysCause given own keys (SeveralKeys key) =
    IsFirstMissing given (texts_of keys) key.now × (is_in (texts_of own) key.now ≡ false) × (1 < count_unversioned own key.now)
IsKeysCause given own keys (RepeatedKey key) =
    (IsFirstMissing given (texts_of keys) key.now × ((is_in (texts_of own) key.now ≡ true) ⊎ (count_unversioned own key.now ≡ 1)))
    ⊎ (All (Contains (texts_of keys)) given × IsFirstRepeated given key.now)
IsKeysCause given own keys f = ⊥
