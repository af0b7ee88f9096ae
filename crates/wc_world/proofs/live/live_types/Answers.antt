use Rattle.std.proofs.Common.{◌++◌, map, subst, sym}
use Rattle.std.proofs.lemmas.List.Elements.{Contains-append_left}
use Rattle.wc_resolve.specs.Live.{IsComplete}
use Rattle.wc_resolve.specs.Views.{world_view}
use Rattle.wc_resolve.proofs.ListingLemmas.{complete_none}
use Rattle.wc_validate.specs.Validate.{module_record}
use Rattle.wc_world.specs.Live.{adapter_roots, exports_roots, imported_types, module_roots, world_roots}
use Rattle.wc_world.specs.Private.LiveAdditions.{imports_roots}
use Rattle.wc_world.specs.Used.{used_view}
use Rattle.wc_world.specs.WorldViews.{adapter_entry}
use Rattle.wc_world.proofs.AddedFunctionLemmas.{have_none}
use Rattle.wc_world.proofs.LiveLemmas.{live_listed, roots_in}
use Rattle.wc_world.proofs.LiveWalkLemmas.{found_complete, live_found}
use Rattle.wc_world.proofs.live.live_types.Goals as goal

pub add_exports-requires-clause-complete : goal.add_exports-requires-clause-complete
add_exports-requires-clause-complete c =
    let r = c.args.context.now.resolve.now in
    let imports = (world_view c.args.world.now).imports in
    let main = module_roots r imports (module_record c.args.main.now).imports in
    found_complete r c.new-live.result c.add_adapters.new.live (main ++ adapter_roots r imports (map adapter_entry c.args.adapters.now.entries)) c.new-live.ensures
    (c.in_ok-add_adapters.ensures c.new-live.result main (Contains-append_left (imported_types imports) (imports_roots r imports (module_record c.args.main.now).imports)) c.in_ok-add_module.ensures.adds)

pub returns-clause-live : goal.returns-clause-live
returns-clause-live c =
    let r = c.args.context.now.resolve.now in
    let w = world_view c.args.world.now in
    let main = module_roots r w.imports (module_record c.args.main.now).imports in
    live_found r c.new-live.result c.add_adapters.new.live c.add_exports.new.live main (adapter_roots r w.imports (map adapter_entry c.args.adapters.now.entries)) (exports_roots r (used_view c.args.context.now.used.now) w.exports) c.new-live.ensures
    (c.in_ok-add_adapters.ensures c.new-live.result main (Contains-append_left (imported_types w.imports) (imports_roots r w.imports (module_record c.args.main.now).imports)) c.in_ok-add_module.ensures.adds)
    c.in_ok-add_exports.ensures

pub returns-clause-listed : goal.returns-clause-listed
returns-clause-listed c =
    live_listed c.args.context.now.resolve.now (world_roots c.args.context.now.resolve.now (used_view c.args.context.now.used.now) (world_view c.args.world.now).imports (world_view c.args.world.now).exports (module_record c.args.main.now) (map adapter_entry c.args.adapters.now.entries)) c.add_exports.new.live
    c.well_formedness.ensures.in_range (roots_in c.args.context.now.resolve.now (used_view c.args.context.now.used.now) (world_view c.args.world.now) (module_record c.args.main.now) (map adapter_entry c.args.adapters.now.entries) c.well_formedness.ensures.in_range c.requires.roots)
    (returns-clause-live c)

pub add_module-requires-clause-items : goal.add_module-requires-clause-items
add_module-requires-clause-items c = c.requires.roots.imports

pub add_module-requires-clause-imports : goal.add_module-requires-clause-imports
add_module-requires-clause-imports c = c.requires.roots.of_main

pub add_module-requires-clause-complete : goal.add_module-requires-clause-complete
add_module-requires-clause-complete c = subst (IsComplete c.args.context.now.resolve.now.types) (sym c.new-live.ensures) (complete_none c.args.context.now.resolve.now.types)

pub add_module-requires-clause-have : goal.add_module-requires-clause-have
add_module-requires-clause-have c = have_none c.args.context.now.resolve.now c.with_hasher-added.result.keys c.new-live.result c.with_hasher-added.ensures.empty

pub add_adapters-requires-clause-imports : goal.add_adapters-requires-clause-imports
add_adapters-requires-clause-imports c = c.requires.roots.of_adapters

pub add_adapters-requires-clause-complete : goal.add_adapters-requires-clause-complete
add_adapters-requires-clause-complete c =
    (c.in_ok-add_module.ensures.adds (subst (IsComplete c.args.context.now.resolve.now.types) (sym c.new-live.ensures) (complete_none c.args.context.now.resolve.now.types))).0

pub add_adapters-requires-clause-have : goal.add_adapters-requires-clause-have
add_adapters-requires-clause-have c = c.in_ok-add_module.ensures.have

pub add_exports-requires-clause-there : goal.add_exports-requires-clause-there
add_exports-requires-clause-there c = c.requires.roots.exports

pub add_exports-requires-clause-used : goal.add_exports-requires-clause-used
add_exports-requires-clause-used c = c.requires.used
