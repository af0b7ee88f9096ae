use Rattle.std.proofs.Common.{◌≡◌, ◌++◌, map}
use Rattle.wc_validate.specs.Imports.Iter.{imports_left}
use Rattle.wc_world.specs.Views.{ComponentWorldView}
use Rattle.wc_summary.specs.Leads.{tags_view}
use Rattle.wc_ways.specs.Tags.{all_key, library_tags, recorded_tag}
use Rattle.wc_ways.specs.Private.AskedKeys.{IsAskedOf}
use Rattle.wc_ways.proofs.tags.library_tags.Given as goal

abbrev pub invariant-loop-from : goal.invariant-loop-from
invariant-loop-from l =
    (w : ComponentWorldView) → IsAskedOf w all_key l.keys → tags_view l.tags.items ++ map (recorded_tag w) (imports_left l._from-iterator) ≡ library_tags w l.records
