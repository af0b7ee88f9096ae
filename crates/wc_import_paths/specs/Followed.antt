-- A module that is followed.
use Rattle.std.specs.Prelude.{◌≡◌, ℕ, List, map}
use Rattle.wc_read.specs.Exports.{export_value}
use Rattle.wc_read.specs.Modules.{module_value}
use Rattle.wc_segments.specs.Segments.{segments_value}
use Rattle.wc_paths.specs.Callers.{AreReached, IsCalling, calling_of}
use Rattle.wc_paths.specs.Roots.{AreImportItems}
use Rattle.wc_import_paths.specs.Following.{FollowedView, IsFollowed, first_in, graph_in, second_in}
use Rattle.wc_import_paths.specs.Rows.{AreRowsFor}
use Rattle.wc_import_paths.specs.declared.followed.Followed.{Followed}

-- the module that is followed
abbrev pub followed_view : Followed → FollowedView
followed_view f = record { code = module_value f.code; segments = segments_value f.segments; exports = map export_value f.exports.items }

-- what its items name, the functions that are reached, those that may call through tables, and the items of its imports
pub record HasPaths (f : Followed) : Type 0 where
  pub rows : AreRowsFor (graph_in (followed_view f)) f.rows
  pub reached : AreReached (graph_in (followed_view f)) (first_in (followed_view f)) (second_in (followed_view f)) f.reached.items
  pub calling : IsCalling (graph_in (followed_view f)) (first_in (followed_view f)) (second_in (followed_view f)) (calling_of f.callers)
  pub items : AreImportItems (module_value f.code).imports f.items.items

-- it is the module with these bytes, followed from its exports of these names
pub record IsSource (bytes : List ℕ) (exports : List (List ℕ)) (f : Followed) : Type 0 where
  pub followed : IsFollowed bytes exports (followed_view f)
  pub spelled : f.bytes.now ≡ bytes
  pub has_paths : HasPaths f
