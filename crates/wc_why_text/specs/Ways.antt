-- What paths of a tree lead to.
use Rattle.std.specs.Prelude.{ℕ, Bool, true, false, not, ◌&&◌, cond, List, filter, Option, Some, None}
use Rattle.wc_why.specs.Tree.{TreeWayView}

-- a path for the types of an interface alone
abbrev pub typed_by : Option (List ℕ) → Option (List ℕ) → Bool
typed_by None name = false
typed_by (Some interface) None = true
typed_by (Some interface) (Some name) = false

abbrev pub is_typed : TreeWayView → Bool
is_typed w = typed_by w.interface w.name

-- no path leads to an import or a function
abbrev pub unreached_by : Bool → Option ℕ → Option (List ℕ) → Bool
unreached_by typed None None = not typed
unreached_by typed None (Some ty) = false
unreached_by typed (Some item) ty = false

abbrev pub is_unreached : TreeWayView → Bool
is_unreached w = unreached_by (is_typed w) w.item w.ty

-- the ways to what is reached; or those to imports among them

abbrev pub is_import : Option (List ℕ) → Bool
is_import None = false
is_import (Some interface) = true

abbrev pub is_chosen : Bool → TreeWayView → Bool
is_chosen imports w = not (is_unreached w) && cond imports (is_import w.interface) true

abbrev pub chosen_ways : Bool → List TreeWayView → List TreeWayView
chosen_ways imports ways = filter (is_chosen imports) ways
