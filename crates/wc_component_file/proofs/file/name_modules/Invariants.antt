use Rattle.std.proofs.Common.{take}
use Rattle.wc_component_file.specs.Private.Names.{AreNamed, name_pairs}
use Rattle.wc_component_file.proofs.file.name_modules.Given as goal

abbrev pub invariant-loop-named : goal.invariant-loop-named
invariant-loop-named l = AreNamed l.fn.modules l.modules (name_pairs (take l.named-index l.names))
