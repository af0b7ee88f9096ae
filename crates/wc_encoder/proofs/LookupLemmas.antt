-- Keys that a look-up finds among exports, and what the next export or import adds.
use Rattle.std.proofs.Common.{◌≡◌, ◌↔◌, String, Bool, true, List, ◌∷◌, map, Option, is_some, IsTrue, sym, ap, ◌∙◌}
use Rattle.std.specs.Map.{lookup}
use Rattle.std.specs.declared.alloc.Global.{Global}
use Rattle.semver.specs.Identifiers.{parts_text}
use Rattle.wc_resolve.specs.declared.ids.InterfaceId.{InterfaceId}
use Rattle.wc_resolve.specs.declared.worlds.WorldKey.{WorldKey}
use Rattle.wc_resolve.specs.declared.worlds.WorldItem.{WorldItem}
use Rattle.wc_resolve.specs.declared.worlds.WorldItem.TheVariants.{Interface as InterfaceItem}
use Rattle.wc_resolve.specs.Resolve.{key_text}
use Rattle.wc_resolve.specs.Views.{KeyView, key_view, world_entry}
use Rattle.wc_resolve.specs.Kinds.{ResolveView}
use Rattle.wc_resolve.proofs.LookupLemmas.{lookup_contains}
use Rattle.wc_encoder.specs.Distinct.{exported_interfaces, import_names}
use Rattle.wc_encoder.specs.Exported.{IsExported}

-- a look-up finds a key that is exported, and no other
pub exported_law : (test : WorldKey → Bool) (k : KeyView) → ((y : WorldKey) → (test y ≡ true) ↔ (k ≡ key_view y)) → (es : List (WorldKey × WorldItem)) (b : Bool) → b ≡ is_some (lookup test es)
    → IsTrue b ↔ IsExported (map world_entry es) k
unfolding IsExported
exported_law test k law es b is = let there = lookup_contains test k law es in ((λ t. there.0 (sym is ∙ t)), (λ h. is ∙ there.1 h))

-- the interface of the next export
pub interface_next : (left rest : List (WorldKey × WorldItem)) (k : WorldKey) (item : WorldItem) (id : InterfaceId) (external : Option (String Global)) → left ≡ (k, item) ∷ rest → item ≡ InterfaceItem id external
    → exported_interfaces (map world_entry left) ≡ id.0 ∷ exported_interfaces (map world_entry rest)
interface_next left rest k item id external next is =
    ap (λ (z : List (WorldKey × WorldItem)). exported_interfaces (map world_entry z)) next ∙ ap (λ (i : WorldItem). exported_interfaces (world_entry (k, i) ∷ map world_entry rest)) is

-- the name of the next import
pub name_next : (r : ResolveView) (left rest : List (WorldKey × WorldItem)) (k : WorldKey) (item : WorldItem) → left ≡ (k, item) ∷ rest
    → import_names r (map world_entry left) ≡ key_text parts_text r (key_view k) ∷ import_names r (map world_entry rest)
name_next r left rest k item next = ap (λ (z : List (WorldKey × WorldItem)). import_names r (map world_entry z)) next
