-- The paths of a tree by interfaces.
use Rattle.std.specs.Prelude.{◌≡◌, ℕ, cond, List, [], ◌∷◌, ◌++◌, filter, map, Some}
use Rattle.std.specs.Borrow.{Bor}
use Rattle.std.specs.Map.{lookup}
use Rattle.std.specs.Option.{option_map_or, unwrap_or}
use Rattle.std.specs.Str.{bytes_eq}
use Rattle.std.specs.declared.alloc.Global.{Global}
use Rattle.std.specs.declared.vec.Vec.{Vec}
use Rattle.indexmap.specs.IndexSet.{insert_key}
use Rattle.wc_texts.specs.Names.{first_occurrences}
use Rattle.wc_why.specs.Tree.{TreeWayView, tree_way_view}
use Rattle.wc_why.specs.declared.tree.TreeWay.{TreeWay}

-- the interface to which a path leads; of a path to a function, nothing
abbrev pub interface_of : TreeWayView → List ℕ
interface_of w = unwrap_or w.interface []

-- the interfaces of paths, in the order in which they come
abbrev pub interfaces_of : List TreeWayView → List (List ℕ)
interfaces_of ways = first_occurrences (map interface_of ways)

-- the paths to what is imported from an interface
abbrev pub ways_of : List TreeWayView → List ℕ → List TreeWayView
ways_of ways interface = filter (λ (w : TreeWayView). bytes_eq interface (interface_of w)) ways

-- names, and the paths under each
abbrev pub group_names : {X : Type 0} → List (Bor (List ℕ) × Vec X Global) → List (List ℕ)
group_names {X} entries = map (λ (e : Bor (List ℕ) × Vec X Global). e.0.now) entries

abbrev pub group_ways : List (Bor (List ℕ) × Vec TreeWay Global) → List ℕ → List TreeWayView
group_ways entries name =
    option_map_or (λ (v : Vec TreeWay Global). map tree_way_view v.items) (lookup (λ (k : Bor (List ℕ)). bytes_eq name k.now) entries) []

-- each interface is there once, with its paths
pub record IsGrouped (ways : List TreeWayView) (entries : List (Bor (List ℕ) × Vec TreeWay Global)) : Type 0 where
  pub names : group_names entries ≡ interfaces_of ways
  pub each : (name : List ℕ) → group_ways entries name ≡ ways_of ways name

-- a value more under a name, after the others of that name; a new name goes last
pub record IsOneMore {X : Type 0} (old new : List (Bor (List ℕ) × Vec X Global)) (name : List ℕ) (value : X) : Type 0 where
  pub names : group_names new ≡ insert_key bytes_eq (group_names old) name
  pub list : Vec X Global
  pub is : list.items ≡ option_map_or (λ (v : Vec X Global). v.items) (lookup (λ (k : Bor (List ℕ)). bytes_eq name k.now) old) [] ++ value ∷ []
  pub each : (q : List ℕ) → lookup (λ (k : Bor (List ℕ)). bytes_eq q k.now) new
      ≡ cond (bytes_eq name q) (Some list) (lookup (λ (k : Bor (List ℕ)). bytes_eq q k.now) old)
