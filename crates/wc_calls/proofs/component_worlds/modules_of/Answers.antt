use Rattle.std.proofs.Common.{rules}
use Rattle.wc_world.specs.Views.{NamedWorldAdapter}
use Rattle.wc_world.specs.WorldViews.{adapter_entry, world_view}
use Rattle.wc_calls.specs.ComponentWorlds.{modules_text}
use Rattle.wc_calls.proofs.AdapterLemmas.{bytes_more}
use Rattle.wc_calls.proofs.component_worlds.modules_of.Goals as goal

pub loop-name-preserved : goal.loop-name-preserved
loop-name-preserved c =
    bytes_more (λ (a : NamedWorldAdapter). a.1.wasm) adapter_entry (modules_text (world_view c.args.world.now)) c.loop-name.modules.items
    c.extend_from_slice.new.self.items _ c.loop-name._name-iterator c.next.new.self c.in-Some.ensures.steps (search rules) c.loop-name.invariant
