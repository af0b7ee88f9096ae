use Rattle.std.proofs.Common.{◌≡◌, ◌++◌, take}
use Rattle.std.specs.List.{flat_map}
use Rattle.wc_write.specs.Modules.{code_text_of}
use Rattle.wc_write.proofs.module_sections.put_code.Given as goal

abbrev pub invariant-loop-func : goal.invariant-loop-func
invariant-loop-func g l = l.out.items ≡ l.fn.out.items ++ flat_map (code_text_of g.C.BodyText.body) (take l.func-index l.funcs)
