use Rattle.std.proofs.Common.{None}
use Rattle.wc_adapters.specs.Entries.{entries_of}
use Rattle.wc_world.specs.WorldViews.{world_view}
use Rattle.wc_ways.specs.Private.Needs.{noted_in}
use Rattle.wc_ways.specs.TypeRoots.{module_needs}
use Rattle.wc_ways.proofs.NeedLemmas.{needs_both_on_ok}
use Rattle.wc_ways.proofs.type_roots.note_modules.Goals as goal

pub returns : goal.returns
returns c =
    let r = c.args.lists.resolve.now in
    needs_both_on_ok r (noted_in c.args.found.now) (noted_in c.note_imports.new.found) (noted_in c.note_adapters.new.found)
    (module_needs r (entries_of c.args.lists.imports.now) None (world_view c.args.world.now).info.imports) _ c.note_adapters.result c.in_ok-note_imports.ensures c.note_adapters.ensures
