-- The four lists of roots of a component, and where paths begin.
use Rattle.std.specs.Prelude.{◌≡◌, ◌≢◌, ℕ, ◌+◌, ◌<◌, ◌≤◌, ◌&&◌, ◌⊎◌, Bool, List, [], ◌∷◌, ◌++◌, filter, map, nat_eq, nat_lt, Option, Some, None}
use Rattle.std.specs.List.{slice_get}
use Rattle.wc_graph.specs.Alone.{ArePicked}
use Rattle.wc_why.specs.Graph.{names_in}
use Rattle.wc_why.specs.Part.{BeginView, PartView}
use Rattle.wc_why.specs.Paths.{IsUnreached}
use Rattle.wc_why.specs.Tree.{TreeRootView}

-- the roots of a part, at a position, that are of a list
abbrev pub is_begin_of : ℕ → ℕ → BeginView → Bool
is_begin_of size list b = nat_eq b.list list && nat_lt b.item size

abbrev pub begin_item : ℕ → BeginView → ℕ × ℕ
begin_item p b = (p, b.item)

abbrev pub part_roots : ℕ → ℕ → PartView → List (ℕ × ℕ)
part_roots list p part = map (begin_item p) (filter (is_begin_of part.size list) part.begins)

-- those of all parts, from a position on
abbrev pub roots_from : ℕ → ℕ → List PartView → List (ℕ × ℕ)
roots_from list p [] = []
roots_from list p (part ∷ parts) = part_roots list p part ++ roots_from list (p + 1) parts

abbrev pub roots_in : ℕ → List PartView → List (ℕ × ℕ)
roots_in list parts = roots_from list 0 parts

-- the first three lists; and of the fourth the roots to which none of these leads
abbrev pub first_lists : List PartView → List (List (ℕ × ℕ))
first_lists parts = roots_in 0 parts ∷ roots_in 1 parts ∷ roots_in 2 parts ∷ []

pub record AreLists (parts : List PartView) (lists : List (List (ℕ × ℕ))) : Type 0 where
  pub others : List (ℕ × ℕ)
  pub are : lists ≡ first_lists parts ++ others ∷ []
  pub picked : ArePicked (IsUnreached (names_in parts) (first_lists parts)) (roots_in 3 parts) others

-- the root at which paths begin that begin with an item: of the roots with this item the first of the first list; none, where there is no such root
pub record IsFirstRoot (begins : List BeginView) (item k : ℕ) (b : BeginView) : Type 0 where
  pub there : slice_get begins k ≡ Some b
  pub has : b.item ≡ item
  pub first : (j : ℕ) (c : BeginView) → slice_get begins j ≡ Some c → c.item ≡ item → (b.list < c.list) ⊎ ((b.list ≡ c.list) × (k ≤ j))

abbrev pub IsRootOf : List BeginView → ℕ → Option TreeRootView → Type 0
IsRootOf begins item root =
    ((k : ℕ) × (b : BeginView) × IsFirstRoot begins item k b × (root ≡ b.root))
    ⊎ (((j : ℕ) (c : BeginView) → slice_get begins j ≡ Some c → c.item ≢ item) × (root ≡ None))
