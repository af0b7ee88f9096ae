-- Keys that are found by their texts.
use Rattle.std.specs.Prelude.{◌≡◌, ◌≢◌, ℕ, suc, Bool, List, [], ◌∷◌, map, filter, cond, slice_get, nat_eq, unwrap_or}
use Rattle.std.specs.Borrow.{Bor}
use Rattle.std.specs.List.{AllPairs, flat_map, list_any}
use Rattle.std.specs.List.Sorted.{IsStrictlyIncreasing}
use Rattle.std.specs.Option.{option_map}
use Rattle.std.specs.Str.{bytes_eq}
use Rattle.std.specs.declared.alloc.Global.{Global}
use Rattle.std.specs.declared.vec.Vec.{Vec}
use Rattle.wc_resolve.specs.Views.{KeyView, key_view, plain_key}
use Rattle.wc_resolve.specs.declared.worlds.WorldKey.{WorldKey}
use Rattle.wc_selection.specs.Keys.{AreKeysApart, NamedKey}
use Rattle.wc_selection.specs.TextLists.{listed}
use Rattle.wc_maps.specs.Texts.{is_in}

-- the keys that have one of these texts, in order
abbrev pub keys_under : List (List ℕ) → List NamedKey → List KeyView
keys_under texts keys = map (λ (k : NamedKey). k.0) (filter (λ (k : NamedKey). is_in texts k.1) keys)

-- the positions of what passes a test in a list, counted from this one on
abbrev pub positions_from : {A : Type 0} → ℕ → (A → Bool) → List A → List ℕ
positions_from low is_sought [] = []
positions_from low is_sought (x ∷ xs) = cond (is_sought x) (low ∷ positions_from (suc low) is_sought xs) (positions_from (suc low) is_sought xs)

abbrev pub has_text : List ℕ → NamedKey → Bool
has_text text k = bytes_eq text k.1

-- under each text are the positions of the keys that have it
abbrev pub ArePositions : List NamedKey → List (Bor (List ℕ) × Vec ℕ Global) → Type 0
ArePositions keys entries = (text : List ℕ) → listed entries text ≡ positions_from 0 (has_text text) keys

-- keys that differ, and their positions
pub record IsKeyIndex (keys : List NamedKey) (entries : List (Bor (List ℕ) × Vec ℕ Global)) : Type 0 where
  pub apart : AreKeysApart keys
  pub positions : ArePositions keys entries

-- what is listed under some texts
abbrev pub listed_positions : List (Bor (List ℕ) × Vec ℕ Global) → List (List ℕ) → List ℕ
listed_positions entries texts = flat_map (listed entries) texts

-- the same numbers, ascending, each once
pub record AreSorted (numbers sorted : List ℕ) : Type 0 where
  pub ascending : IsStrictlyIncreasing sorted
  pub same : (n : ℕ) → list_any (nat_eq n) sorted ≡ list_any (nat_eq n) numbers

-- the key at a position
abbrev pub key_at : List NamedKey → ℕ → KeyView
key_at keys position = unwrap_or (option_map (λ (k : NamedKey). k.0) (slice_get keys position)) (plain_key [])

abbrev pub viewed_key : Bor WorldKey → KeyView
viewed_key key = key_view key.now

-- no key is there twice
abbrev pub AreApart : List KeyView → Type 0
AreApart keys = AllPairs (λ (a : KeyView) (b : KeyView). a ≢ b) keys
