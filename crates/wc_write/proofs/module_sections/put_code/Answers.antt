use Rattle.std.proofs.Common.{arith}
use Rattle.wc_write.specs.Modules.{code_text_of}
use Rattle.wc_write.proofs.VectorLemmas.{items_end}
use Rattle.wc_write.proofs.module_sections.put_code.Goals as goal

pub returns : goal.returns
returns g c = items_end (code_text_of g.C.BodyText.body) _ _ c.args.funcs.now c.loop-func.func-index c.loop-func.invariant (omega arith)
