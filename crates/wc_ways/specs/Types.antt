-- The interfaces that a component imports for their types alone, and why: the type of each that is live first, and the first root that
-- needs it.
use Rattle.std.specs.Prelude.{ℕ, Bool, ◌&&◌, ◌==◌, List, [], cond, is_some, length, nat_eq, slice_get, unwrap_or, Option, Some, None}
use Rattle.std.specs.Map.{lookup}
use Rattle.std.specs.Option.{option_and_then}
use Rattle.semver.specs.Identifiers.{parts_text}
use Rattle.wc_resolve.specs.Kinds.{ResolveView}
use Rattle.wc_resolve.specs.Resolve.{key_text}
use Rattle.wc_resolve.specs.WellFormed.{type_name}
use Rattle.wc_world.specs.Views.{ComponentWorldView, ImportedView}
use Rattle.wc_ways.specs.Asked.{is_asked}
use Rattle.wc_ways.specs.TypeRoots.{TypeRoot, first_root, needs, of_import, of_item}

-- types of an interface are live, by the groups of live types
abbrev pub has_live_types : List (ℕ × List ℕ) → ℕ → Bool
has_live_types groups i = is_some (lookup (nat_eq i) groups)

-- nothing of an interface is lowered, neither a function nor the drop of a resource, but types of it are live
abbrev pub is_for_types : ComponentWorldView → ImportedView → ℕ → Bool
is_for_types w v i = length v.lowerings == 0 && has_live_types w.live_type_imports i

-- the name of such an interface that is asked about, and its index
abbrev pub typed_name : ComponentWorldView → List ℕ → Option (List ℕ) × ImportedView → Option (List ℕ × ℕ)
typed_name w key (None, v) = None
typed_name w key (Some text, v) =
    option_and_then (λ (i : ℕ). cond (is_for_types w v i && is_asked key text text) (Some (text, i)) None) v.interface

-- the type of an interface that is live first, by the groups of live types; and the name of a type, if it has one
abbrev pub first_live : List (ℕ × List ℕ) → ℕ → Option ℕ
first_live groups i = slice_get (unwrap_or (lookup (nat_eq i) groups) []) 0

-- why an interface is imported for its types: the name of the one that is live first, and the first root that needs it
pub record TypeCite : Type 0 where
  pub name : Option (List ℕ)
  pub root : Option TypeRoot

abbrev pub cite_by : ComponentWorldView → Option ℕ → TypeCite
cite_by w t = record { name = option_and_then (type_name w.encoder.resolve) t; root = option_and_then (first_root (needs w)) t }

abbrev pub cite : ComponentWorldView → ℕ → TypeCite
cite w i = cite_by w (first_live w.live_type_imports i)

-- what a root is called: the module from which something is imported, or the text of the world's key, if it has one
abbrev pub root_user : ResolveView → TypeRoot → Option (List ℕ)
root_user r (of_import adapter from name) = Some from
root_user r (of_item side key) = key_text parts_text r key

-- what needs the types of an interface
abbrev pub user_in : ComponentWorldView → ℕ → Option (List ℕ)
user_in w i = option_and_then (root_user w.encoder.resolve) (cite w i).root
