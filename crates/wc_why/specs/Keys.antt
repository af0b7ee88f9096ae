-- Which imports a key is about, by their texts: of an import of a module the module's name; of an interface of a world its name as a
-- plan has it, of what is the world's own its name.
use Rattle.std.specs.Prelude.{ℕ, ◌==◌, Bool, false, ◌&&◌, ◌||◌, List, ◌∷◌, ◌++◌, Option, Some, None}
use Rattle.std.specs.List.{before_first}
use Rattle.std.specs.Option.{option_map, option_map_or}
use Rattle.std.specs.Str.{bytes_eq}
use Rattle.wc_texts.specs.Splits.{split_once}
use Rattle.wc_texts.specs.Characters.{at_sign, slash}

-- a text before and after a character
abbrev pub Halves : Type 0
Halves = List ℕ × List ℕ

-- a name without its version: what is before the first `@`
abbrev pub unversioned_text : List ℕ → List ℕ
unversioned_text text = before_first (λ b. b == at_sign) text

-- and its version: what is after that
abbrev pub version_of : List ℕ → Option (List ℕ)
version_of text = option_map (λ (x : Halves). x.1) (split_once at_sign text)

-- a version is after the first `@` of a text
abbrev pub has_version : List ℕ → List ℕ → Bool
has_version rest version = option_map_or (λ (x : Halves). bytes_eq version x.1) (split_once at_sign rest) false

-- a key is a package, with the version of an interface of it or without one: by the key's halves, the package, and what is after it
abbrev pub is_package_by : Option Halves → List ℕ → List ℕ → List ℕ → Bool
is_package_by None key front rest = bytes_eq key front
is_package_by (Some x) key front rest = bytes_eq x.0 front && has_version rest x.1

abbrev pub is_package : List ℕ → List ℕ → List ℕ → Bool
is_package key front rest = is_package_by (split_once at_sign key) key front rest

-- a key is the package of the interface of a name, which is what is before the name's first `/`
abbrev pub names_package : List ℕ → List ℕ → Bool
names_package key text = option_map_or (λ (x : Halves). is_package key x.0 x.1) (split_once slash text) false

-- a key asks about an import: by its text, with its version or without; or by its package
abbrev pub asks_about : List ℕ → List ℕ → Bool
asks_about key text = bytes_eq key text || (bytes_eq key (unversioned_text text) || names_package key text)

-- the package of the interface of a name, without its version: what is before the first `/`
abbrev pub package_of : List ℕ → Option (List ℕ)
package_of text = option_map (λ (x : Halves). x.0) (split_once slash text)

-- the package of the interface of a name, with its version: what is before the first `/`, and what is from the first `@` after that
-- on
abbrev pub versioned_by : Option Halves → List ℕ → List ℕ
versioned_by None front = front
versioned_by (Some x) front = front ++ at_sign ∷ x.1

abbrev pub versioned_package : List ℕ → List ℕ → List ℕ
versioned_package front rest = versioned_by (split_once at_sign rest) front

abbrev pub package_text : List ℕ → Option (List ℕ)
package_text text = option_map (λ (x : Halves). versioned_package x.0 x.1) (split_once slash text)
