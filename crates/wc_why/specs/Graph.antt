-- A component as one graph. An item is named by the position of its part, and by its number there.
use Rattle.std.specs.Prelude.{ℕ, ◌&&◌, Bool, false, List, [], ◌++◌, filter, map, nat_eq, nat_lt, Option}
use Rattle.std.specs.List.{slice_get}
use Rattle.std.specs.Option.{option_map, option_map_or, option_to_list}
use Rattle.wc_why.specs.Part.{LinkView, PartView}

-- whether there is an item
abbrev pub has_item : List PartView → ℕ × ℕ → Bool
has_item parts y = option_map_or (λ (part : PartView). nat_lt y.1 part.size) (slice_get parts y.0) false

-- what it names in its part
abbrev pub part_names : List PartView → ℕ × ℕ → List ℕ
part_names parts y = option_map_or (λ (part : PartView). part.names y.1) (slice_get parts y.0) []

-- what an item of the first part is linked to: of several links whose other item is there the first
abbrev pub links_in : List PartView → List LinkView
links_in parts = option_map_or (λ (part : PartView). part.links) (slice_get parts 0) []

abbrev pub is_link_of : List PartView → ℕ × ℕ → LinkView → Bool
is_link_of parts y l = nat_eq y.0 0 && (nat_eq y.1 l.item && has_item parts (l.part, l.linked))

abbrev pub link_at : List PartView → ℕ × ℕ → Option LinkView
link_at parts y = slice_get (filter (is_link_of parts y) (links_in parts)) 0

abbrev pub linked_item : LinkView → ℕ × ℕ
linked_item l = (l.part, l.linked)

-- what an item names: what it names in its part, and then what it is linked to
abbrev pub names_in : List PartView → ℕ × ℕ → List (ℕ × ℕ)
names_in parts y = map (λ n. (y.0, n)) (part_names parts y) ++ option_to_list (option_map linked_item (link_at parts y))
