use Rattle.std.proofs.Common.{◌≡◌, ◌++◌, take}
use Rattle.std.specs.List.{flat_map}
use Rattle.wc_write.specs.Modules.{global_text_of}
use Rattle.wc_write.proofs.module_sections.put_globals.Given as goal

abbrev pub invariant-loop-global : goal.invariant-loop-global
invariant-loop-global g l = l.out.items ≡ l.fn.out.items ++ flat_map (global_text_of g.I.InitText.init) (take l.global-index l.globals)
