use Rattle.std.proofs.Common.{◌≡◌, ◌++◌, map, drop}
use Rattle.wc_write.proofs.module_sections.types_of.Given as goal

abbrev pub invariant-loop-func : goal.invariant-loop-func
invariant-loop-func g l = l.types.items ++ map (λ f. f.ty) (drop l.func-index l.funcs) ≡ map (λ f. f.ty) l.fn.funcs
