-- Patterns in a set.
use Rattle.std.specs.Prelude.{◌≡◌, ℕ, Bool, ◌&&◌, ◌||◌, List, [], ◌∷◌, ◌++◌, Option, Some, None}
use Rattle.std.specs.Borrow.{Bor}
use Rattle.std.specs.List.{list_any}
use Rattle.std.specs.Option.{option_eq, option_map, option_map_or}
use Rattle.std.specs.Str.{bytes_eq}
use Rattle.wc_texts.specs.Splits.{split_once}
use Rattle.wc_read.specs.Imports.{ImportValue}
use Rattle.wc_texts.specs.Characters.{slash}
use Rattle.wc_why.specs.Keys.{Halves, unversioned_text, version_of}
use Rattle.wc_why.specs.Texts.{text_of}
use Rattle.wc_import_paths.specs.Patterns.{PatternView}
use Rattle.wc_import_paths.specs.declared.asked.PatternKey.{PatternKey}

-- a key of modules, as what is before its first `@`, and its version
abbrev pub ModuleKey : Type 0
ModuleKey = List ℕ × Option (List ℕ)

abbrev pub module_key : List ℕ → ModuleKey
module_key text = (unversioned_text text, version_of text)

-- a key is this one
abbrev pub is_same_key : ModuleKey → ModuleKey → Bool
is_same_key x y = bytes_eq x.0 y.0 && option_eq bytes_eq x.1 y.1

-- the keys that ask about the imports of a module: its name and its package, each with the version, if there is one, and without
abbrev pub version_keys : List ℕ → Option (List ℕ) → List ModuleKey
version_keys front None = []
version_keys front (Some version) = (front, Some version) ∷ []

abbrev pub versioned_keys : List ℕ → Option (List ℕ) → List ModuleKey
versioned_keys front version = (front, None) ∷ version_keys front version

abbrev pub package_keys : List ℕ → List ModuleKey
package_keys text = option_map_or (λ (x : Halves). versioned_keys x.0 (version_of x.1)) (split_once slash text) []

abbrev pub module_keys : List ℕ → List ModuleKey
module_keys text = versioned_keys (unversioned_text text) (version_of text) ++ package_keys text

-- a pattern with its key in parts; and as it is looked up
abbrev pub KeyView : Type 0
KeyView = ModuleKey × Option (List ℕ)

abbrev pub key_view : PatternKey → KeyView
key_view k = ((k.text.now, option_map text_of k.version), option_map text_of k.name)

abbrev pub key_of : PatternView → KeyView
key_of p = (module_key p.0, p.1)

-- a pattern is this one; and the same of patterns as they are
abbrev pub is_same : KeyView → KeyView → Bool
is_same p q = is_same_key p.0 q.0 && option_eq bytes_eq p.1 q.1

abbrev pub are_same_texts : Option (Bor (List ℕ)) → Option (Bor (List ℕ)) → Bool
are_same_texts x y = option_eq (λ (a b : Bor (List ℕ)). bytes_eq a.now b.now) x y

abbrev pub is_same_pattern : PatternKey → PatternKey → Bool
is_same_pattern p q = bytes_eq p.text.now q.text.now && (are_same_texts p.version q.version && are_same_texts p.name q.name)

abbrev pub in_set : List PatternKey → PatternKey → Bool
in_set keys q = list_any (is_same_pattern q) keys

-- some pattern is this one
abbrev pub has_key : List PatternView → KeyView → Bool
has_key patterns k = list_any (λ p. is_same (key_of p) k) patterns

-- some pattern is for imports under a key, or for those of them that have this name; and under any of these keys
abbrev pub has_named : List PatternView → ModuleKey → List ℕ → Bool
has_named patterns key name = has_key patterns (key, Some name) || has_key patterns (key, None)

abbrev pub has_any : List PatternView → List ModuleKey → List ℕ → Bool
has_any patterns keys name = list_any (λ key. has_named patterns key name) keys

-- a set has exactly these patterns
abbrev pub HasSame : List PatternKey → List PatternView → Type 0
HasSame keys patterns = (q : PatternKey) → in_set keys q ≡ has_key patterns (key_view q)

-- a pattern is for imports under a key, or for those of them that have this name; and under any of these keys
abbrev pub is_named : KeyView → ModuleKey → List ℕ → Bool
is_named k key name = is_same k (key, Some name) || is_same k (key, None)

abbrev pub is_any : KeyView → List ModuleKey → List ℕ → Bool
is_any k keys name = list_any (λ key. is_named k key name) keys

-- it asks for an import
abbrev pub is_offered : KeyView → ImportValue → Bool
is_offered k i = is_any k (module_keys i.module_name) i.name

-- a set has exactly the patterns that ask for any of these imports
abbrev pub HasOffered : List PatternKey → List ImportValue → Type 0
HasOffered keys imports = (q : PatternKey) → in_set keys q ≡ list_any (is_offered (key_view q)) imports

-- those that ask for an import were added
abbrev pub AddsOffered : List PatternKey → List PatternKey → ImportValue → Type 0
AddsOffered before after i = (q : PatternKey) → in_set after q ≡ (in_set before q || is_offered (key_view q) i)

-- those for imports under these keys, and for those of them that have this name, were added
abbrev pub AddsKeys : List PatternKey → List PatternKey → List ModuleKey → List ℕ → Type 0
AddsKeys before after keys name = (q : PatternKey) → in_set after q ≡ (in_set before q || is_any (key_view q) keys name)

-- and under this key
abbrev pub AddsNamed : List PatternKey → List PatternKey → ModuleKey → List ℕ → Type 0
AddsNamed before after key name = (q : PatternKey) → in_set after q ≡ (in_set before q || is_named (key_view q) key name)
