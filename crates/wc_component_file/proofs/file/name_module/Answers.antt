use Rattle.std.proofs.Common.{refl, arith}
use Rattle.wc_component_file.proofs.FilesLemmas.{named_here, named_past}
use Rattle.wc_component_file.proofs.file.name_module.Goals as goal

pub returns-then-index-modules : goal.returns-then-index-modules
returns-then-index-modules c = named_here c.args.modules.now (c.args.named.index, c.args.named.name.now) _ _ c.if-index-modules.true refl

pub returns-else-index-modules : goal.returns-else-index-modules
returns-else-index-modules c = named_past c.args.modules.now (c.args.named.index, c.args.named.name.now) (omega (arith, c.if-index-modules.false))
