-- What is served, by the names of which a function is lacking.
use Rattle.std.specs.Prelude.{◌≡◌, ◌≢◌, ℕ, Bool, true, not, ◌&&◌, ⊤, List}
use Rattle.std.specs.List.{list_any}
use Rattle.wc_maps.specs.Texts.{is_in}
use Rattle.wc_component_file.specs.Serving.{ServesTwo, is_from, lacks}
use Rattle.wc_component_file.specs.Told.{RoleView, adapter_for}
use Rattle.wc_component_file.specs.declared.role.RolesRefusal.{RolesRefusal}
use Rattle.wc_component_file.specs.declared.role.RolesRefusal.TheVariants.{Memory, NoModule, NoSuchModule, Unread, Unclear}

-- these are the names of which a function is asked for that is not given
abbrev pub AreLacking : List (List ℕ) → List (List ℕ × List ℕ) → List (List ℕ) → Type 0
AreLacking functions asked lacking = (t : List ℕ) → is_in lacking t ≡ list_any (lacks functions t) asked

-- functions of a name are asked for, and it is none of those
unfoldable pub is_left : List (List ℕ × List ℕ) → List (List ℕ) → List ℕ → Bool
is_left asked lacking name = list_any (is_from name) asked && not (is_in lacking name)

-- no other name is left
pub record IsOnlyLeft (asked : List (List ℕ × List ℕ)) (lacking : List (List ℕ)) (name : List ℕ) (role : RoleView) : Type 0 where
  pub is : role ≡ adapter_for name
  pub only : (other : List ℕ) → is_left asked lacking other ≡ true → other ≡ name

-- another one is left
abbrev pub IsOtherLeft : List (List ℕ × List ℕ) → List (List ℕ) → List ℕ → RolesRefusal → Type 0
IsOtherLeft asked lacking name Unclear = (other : List ℕ) × (is_left asked lacking other ≡ true) × (name ≢ other)
IsOtherLeft asked lacking name Memory = ⊥
IsOtherLeft asked lacking name NoModule = ⊥
IsOtherLeft asked lacking name NoSuchModule = ⊥
IsOtherLeft asked lacking name (Unread position fault place) = ⊥

-- a module serves two names
abbrev pub IsServingRefusal : List (List ℕ × List ℕ) → List (List ℕ) → RolesRefusal → Type 0
IsServingRefusal asked functions Unclear = ServesTwo asked functions
IsServingRefusal asked functions Memory = ⊤
IsServingRefusal asked functions NoModule = ⊥
IsServingRefusal asked functions NoSuchModule = ⊥
IsServingRefusal asked functions (Unread position fault place) = ⊥
