use Rattle.wc_resolve.specs.Views.{world_view}
use Rattle.wc_world.specs.Live.{imported_types}
use Rattle.wc_world.specs.Private.LiveAdditions.{imports_roots}
use Rattle.wc_world.proofs.AddedFunctionLemmas.{have_more}
use Rattle.wc_world.proofs.LiveWalkLemmas.{adds_more_on_ok}
use Rattle.wc_world.proofs.live.add_module.Goals as goal

pub add_world_types-requires : goal.add_world_types-requires
add_world_types-requires c = c.requires.items

pub add_imports-requires-clause-imports : goal.add_imports-requires-clause-imports
add_imports-requires-clause-imports c = c.requires.imports

pub add_imports-requires-clause-complete : goal.add_imports-requires-clause-complete
add_imports-requires-clause-complete c = (c.in_ok-add_world_types.ensures c.requires.complete).0

pub add_imports-requires-clause-have : goal.add_imports-requires-clause-have
add_imports-requires-clause-have c =
    have_more c.args.resolve.now c.args.live.now c.add_world_types.new.live (imported_types (world_view c.args.world.now).imports) c.requires.complete c.in_ok-add_world_types.ensures c.args.added.now.keys c.requires.have

pub returns-clause-adds : goal.returns-clause-adds
returns-clause-adds c =
    adds_more_on_ok c.add_imports.result c.args.resolve.now c.args.live.now c.add_world_types.new.live c.add_imports.new.live (imported_types (world_view c.args.world.now).imports) (imports_roots c.args.resolve.now (world_view c.args.world.now).imports c.args.imports.now)
    c.in_ok-add_world_types.ensures c.add_imports.ensures.adds
