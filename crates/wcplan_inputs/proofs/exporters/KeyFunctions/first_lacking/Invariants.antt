use Rattle.std.proofs.Common.{◌≡◌, drop, find, map, not}
use Rattle.wc_maps.specs.Texts.{text_of}
use Rattle.wcplan_inputs.specs.Exporters.{first_lacking, is_exported}
use Rattle.wcplan_inputs.specs.Private.Exporters.{key_functions_view}
use Rattle.wcplan_inputs.proofs.exporters.KeyFunctions.first_lacking.Given as goal

abbrev pub invariant-loop-function : goal.invariant-loop-function
invariant-loop-function l =
    find (λ function. not (is_exported (map text_of l.names.keys) l.rejects_legacy (key_functions_view l.self) function)) (map text_of (drop l.function-index l.functions))
    ≡ first_lacking (map text_of l.names.keys) l.rejects_legacy (key_functions_view l.self)
