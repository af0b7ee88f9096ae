-- The interfaces that are asked about, as the code has them.
use Rattle.std.specs.Prelude.{◌≡◌, ◌&&◌, ℕ, List, [], ◌∷◌, ◌++◌, cond, map, nat_eq, Option, Some, None, String, string_bytes}
use Rattle.std.specs.Borrow.{Bor}
use Rattle.std.specs.Map.{lookup}
use Rattle.std.specs.Option.{option_map, option_map_or, option_to_list}
use Rattle.std.specs.declared.alloc.Global.{Global}
use Rattle.std.specs.declared.vec.Vec.{Vec}
use Rattle.wc_why.specs.Texts.{text_of}
use Rattle.wc_resolve.specs.declared.ids.InterfaceId.{InterfaceId}
use Rattle.wc_world.specs.Used.{same_interface}
use Rattle.wc_world.specs.Views.{ComponentWorldView, ImportedView}
use Rattle.wc_world.specs.WorldViews.{imported_view}
use Rattle.wc_world.specs.declared.imported.ImportedInterface.{ImportedInterface}
use Rattle.wc_ways.specs.Asked.{asked_name, asked_names, is_asked, root_text}
use Rattle.wc_ways.specs.declared.asked_keys.AskedKeys.{AskedKeys}

-- names under interfaces
abbrev pub Names : Type 0
Names = List (InterfaceId × Vec (Bor (List ℕ)) Global)

abbrev pub texts_in : Vec (Bor (List ℕ)) Global → List (List ℕ)
texts_in v = map text_of v.items

abbrev pub texts_at : Option (Bor (Vec (Bor (List ℕ)) Global)) → List (List ℕ)
texts_at o = option_map_or (λ (v : Bor (Vec (Bor (List ℕ)) Global)). texts_in v.now) o []

abbrev pub names_in : Names → ℕ → List (List ℕ)
names_in entries i = option_map_or texts_in (lookup (same_interface (record { 0 = i })) entries) []

-- under each interface is listed what was, and after that this name under its own
abbrev pub ListsMore : Names → Names → ℕ → List ℕ → Type 0
ListsMore old new i name = (j : ℕ) → names_in new j ≡ names_in old j ++ cond (nat_eq j i) (name ∷ []) []

-- and after that what is found for it
abbrev pub Lists : Names → Names → (ℕ → Option (List ℕ)) → Type 0
Lists old new found = (j : ℕ) → names_in new j ≡ names_in old j ++ option_to_list (found j)

-- an interface that the world imports, under its name
abbrev pub imported_shown : Bor (Option (String Global)) × Bor ImportedInterface → Option (List ℕ) × ImportedView
imported_shown x = (option_map string_bytes x.0.now, imported_view x.1.now)

-- its name, if it is asked about and this is its index
abbrev pub asked_under : List ℕ → ℕ → List ℕ → ℕ → Option (List ℕ)
asked_under key i name j = cond (nat_eq j i && is_asked key name name) (Some name) None

abbrev pub asked_of : List ℕ → Option (List ℕ) × ImportedView → ℕ → Option (List ℕ)
asked_of key x i = asked_name key i x

-- what a key asks about in a world
pub record IsAskedOf (w : ComponentWorldView) (asked : List ℕ) (k : AskedKeys) : Type 0 where
  pub key : k.key.now ≡ asked
  pub names : (i : ℕ) → names_in k.names.entries i ≡ asked_names w asked i
  pub own : texts_in k.own ≡ root_text ∷ []
