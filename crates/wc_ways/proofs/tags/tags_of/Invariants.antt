use Rattle.std.proofs.Common.{◌≡◌, take}
use Rattle.wc_read.specs.Imports.{import_values}
use Rattle.wc_world.specs.Views.{ComponentWorldView}
use Rattle.wc_ways.specs.Tags.{all_key, tags_in}
use Rattle.wc_summary.specs.Leads.{tags_view}
use Rattle.wc_ways.specs.Private.AskedKeys.{IsAskedOf}
use Rattle.wc_ways.proofs.tags.tags_of.Given as goal

abbrev pub invariant-loop-import : goal.invariant-loop-import
invariant-loop-import l =
    (w : ComponentWorldView) → IsAskedOf w all_key l.keys → tags_view l.tags.items ≡ tags_in w l.records (import_values (take l.import-index l.imports))
