use Rattle.std.proofs.Common.{arith}
use Rattle.wc_write.specs.Modules.{global_text_of}
use Rattle.wc_write.proofs.VectorLemmas.{items_end}
use Rattle.wc_write.proofs.module_sections.put_globals.Goals as goal

pub returns : goal.returns
returns g c = items_end (global_text_of g.I.InitText.init) _ _ c.args.globals.now c.loop-global.global-index c.loop-global.invariant (omega arith)
