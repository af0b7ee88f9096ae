-- Renames in the order of the keys of their new names.
use Rattle.std.specs.Prelude.{◌≡◌, ◌≢◌, ℕ, ◌<◌, List, [], length, Option, Some, None, slice_get}
use Rattle.std.specs.declared.cmp.Ordering.{Ordering}
use Rattle.std.specs.List.{Contains}
use Rattle.std.specs.List.Sorted.{IsSortedBy}
use Rattle.std.specs.Option.{option_map_or}
use Rattle.std.specs.Ordering.{is_lt, nat_cmp, ordering_then}
use Rattle.wc_dedupe.specs.Renaming.{ImportName, RenameView, original_in}
use Rattle.wc_dedupe.specs.Private.NameKeys.{NameKey, name_key}
use Rattle.wc_dedupe.specs.Private.NamePositions.{names_cmp}

-- the name that a rename is to
abbrev pub new_name : RenameView → ImportName
new_name r = record { module_name = r.module_name; name = r.name }

-- the name that the rename at an index is to, an empty one past the last
abbrev pub name_at : List RenameView → ℕ → ImportName
name_at renames i = option_map_or new_name (slice_get renames i) (record { module_name = []; name = [] })

-- the order of names with their numbers: that of the numbers, or of the names where these are equal
abbrev pub numbered_cmp : ℕ → ImportName → ℕ → ImportName → Ordering
numbered_cmp m x n y = ordering_then (nat_cmp m n) (names_cmp x y)

-- how the new name that has a key compares to a name with its number
abbrev pub key_cmp : List RenameView → NameKey → ℕ → ImportName → Ordering
key_cmp renames e n y = numbered_cmp e.0 (name_at renames e.1) n y

-- the keys of the new names, in their order
pub record IsNameOrder (renames : List RenameView) (order : List NameKey) : Type 0 where
  pub of : (e : NameKey) → Contains order e → (r : RenameView) × (slice_get renames e.1 ≡ Some r) × (e.0 ≡ name_key (new_name r))
  pub all : (i : ℕ) → i < length renames → (e : NameKey) × Contains order e × (e.1 ≡ i)
  pub rises : IsSortedBy (λ e f. is_lt (key_cmp renames e f.0 (name_at renames f.1))) order

-- from the new name of each rename its original name is found
abbrev pub LeadBack : List RenameView → Type 0
LeadBack renames = (i : ℕ) (r : RenameView) → slice_get renames i ≡ Some r → original_in renames r.module_name r.name ≡ Some r.original

-- the index of a rename to this name, or there is none
abbrev pub Finds : List RenameView → ImportName → Option ℕ → Type 0
Finds renames x None = (i : ℕ) (r : RenameView) → slice_get renames i ≡ Some r → new_name r ≢ x
Finds renames x (Some i) = (r : RenameView) × (slice_get renames i ≡ Some r) × (new_name r ≡ x)
