use Rattle.std.proofs.Common.{◌≡◌, map, take}
use Rattle.wc_module_ways.specs.Adapters.{given_view}
use Rattle.wcwhy.specs.Private.Inputs.{file_view}
use Rattle.wcwhy.proofs.module_ways.given_adapters.Given as goal

abbrev pub invariant-loop-name : goal.invariant-loop-name
invariant-loop-name l = map given_view l.given.items ≡ map file_view (take l.name-index l.files)
