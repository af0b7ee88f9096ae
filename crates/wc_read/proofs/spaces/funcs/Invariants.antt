use Rattle.std.proofs.Common.{◌≡◌, ◌++◌, map}
use Rattle.wc_read.specs.Imports.{import_value}
use Rattle.wc_read.specs.Items.{func_value}
use Rattle.wc_read.specs.Spaces.{func_of, imported_items, local_funcs}
use Rattle.wc_read.proofs.spaces.funcs.Given as goal

abbrev pub invariant-loop-ty : goal.invariant-loop-ty
invariant-loop-ty l = map func_value l.funcs.items ++ local_funcs l.ty-iterator.a.rest.now (map (λ b. b.now) l.ty-iterator.b.rest.now) ≡ imported_items func_of (map import_value l.fn.imports) ++ local_funcs l.fn.types (map (λ b. b.now) l.fn.bodies)
