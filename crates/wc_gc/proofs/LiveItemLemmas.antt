-- What live items name is live, and so is what kept exports name.
use Rattle.std.proofs.Common.{ℕ, List, [], ◌∷◌, ◌++◌, map, refl, Bool}
use Rattle.std.specs.Prelude.{IsTrue, Contains}
use Rattle.std.specs.List.{AllByRecursion}
use Rattle.wc_read.specs.Exports.{ExportValue}
use Rattle.wc_read.specs.Modules.{ModuleValue}
use Rattle.wc_gc.specs.Causes.{DecidesLive}
use Rattle.wc_read.specs.Decoded.{DecodedModule, ItemIndex, decode, exported_item, is_in}
use Rattle.wc_read.specs.Entries.{entry_at, entry_refs, refs_in}
use Rattle.wc_gc.specs.Exports.{kept_exports}
use Rattle.wc_graph.specs.Reached.{IsReachedFrom}
use Rattle.wc_graph.proofs.GrowthLemmas.{longer}
use Rattle.wc_graph.proofs.ListLemmas.{contains_mapped, each_named}

-- a path from a root may go on
pub reached_more : {X : Type 0} (names : X → List X) (roots : List X) (y z : X) → IsReachedFrom names roots y → Contains (names y) z → IsReachedFrom names roots z
reached_more names roots y z r c = (r.0, r.1, r.2 ++ z ∷ [], longer names r.0 r.2 y z r.3 c)

module _ (required : List (List ℕ)) (m : ModuleValue) (live : ItemIndex → Bool) (decides : DecidesLive required m live) where
  pub live_root : (e : ExportValue) → Contains (kept_exports required m.exports) e → IsTrue (live (exported_item e))
  live_root e c = (decides (exported_item e)).1 (exported_item e, contains_mapped exported_item (kept_exports required m.exports) e c, [], refl)

  pub live_named : (x y : ItemIndex) → IsTrue (live x) → Contains (refs_in (decode m) x) y → IsTrue (live y)
  live_named x y h c = (decides y).1 (reached_more (refs_in (decode m)) (map exported_item (kept_exports required m.exports)) x y ((decides x).0 h) c)

-- each item that is named is kept, where those that the module has are

pub named_kept : (d : DecodedModule) (kept : ItemIndex → Bool) → ((x y : ItemIndex) → IsTrue (kept x) → Contains (refs_in d x) y → IsTrue (kept y))
    → (x : ItemIndex) → IsTrue (kept x) → AllByRecursion (λ y. IsTrue (is_in d y) → IsTrue (kept y)) (entry_refs (entry_at d x))
named_kept d kept closed x h = each_named (is_in d) (λ y. IsTrue (kept y)) (entry_refs (entry_at d x)) (λ y c. closed x y h c)
