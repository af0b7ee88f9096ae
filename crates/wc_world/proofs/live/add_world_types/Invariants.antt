use Rattle.std.proofs.Common.{[], map}
use Rattle.std.specs.Option.{option_to_list}
use Rattle.wc_resolve.specs.Views.{ItemView, KeyView, world_entry}
use Rattle.wc_names.specs.Keys.{as_type}
use Rattle.wc_world.proofs.LiveWalkLemmas.{LiveWalk}
use Rattle.wc_world.proofs.live.add_world_types.Given as goal

abbrev pub invariant-loop-key : goal.invariant-loop-key
invariant-loop-key l = LiveWalk l.resolve (λ (x : KeyView × ItemView). option_to_list (as_type x.1)) (map world_entry l.imports.entries) (map world_entry l._key-iterator) [] l.fn.live l.live
