-- The texts of renames, which stand one after another in one text.
use Rattle.std.specs.Prelude.{◌≡◌, ℕ, ◌+◌, List, ◌++◌, length, map, slice_range, All}
use Rattle.std.specs.Str.{IsUtf8}
use Rattle.wc_dedupe.specs.Renaming.{RenameView}
use Rattle.wc_dedupe.specs.declared.rename_list.Place.{Place}

-- the rename whose texts are at a place
abbrev pub rename_in : List ℕ → Place → RenameView
rename_in texts p = record { module_name = slice_range texts p.start p.original; original = slice_range texts p.original p.name; name = slice_range texts p.name p.end }

-- the texts of this rename are at a place, between other texts
pub record IsPlaced (texts : List ℕ) (p : Place) (r : RenameView) : Type 0 where
  pub front : List ℕ
  pub back : List ℕ
  pub cut : texts ≡ front ++ (r.module_name ++ (r.original ++ (r.name ++ back)))
  pub start_is : p.start ≡ length front
  pub original_is : p.original ≡ length front + length r.module_name
  pub name_is : p.name ≡ length front + (length r.module_name + length r.original)
  pub end_is : p.end ≡ length front + (length r.module_name + (length r.original + length r.name))
  pub module_text : IsUtf8 r.module_name
  pub original_text : IsUtf8 r.original
  pub name_text : IsUtf8 r.name
  pub back_text : IsUtf8 back

-- each place has the texts of a rename
abbrev pub HavePlaces : List ℕ → List Place → Type 0
HavePlaces texts places = All (λ p. (r : RenameView) × IsPlaced texts p r) places

-- the renames whose texts are at places
abbrev pub renames_at : List ℕ → List Place → List RenameView
renames_at texts places = map (rename_in texts) places

-- texts with more after them
abbrev pub IsLonger : List ℕ → List ℕ → Type 0
IsLonger old new = (more : List ℕ) × IsUtf8 more × (new ≡ old ++ more)
