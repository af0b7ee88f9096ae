use Rattle.std.proofs.Common.{◌≡◌, map, string_bytes, take}
use Rattle.wc_maps.specs.Texts.{text_pair}
use Rattle.wc_world.specs.WorldViews.{adapters_view}
use Rattle.wcplan_inputs.specs.AdapterNames.{names_of}
use Rattle.wcplan.specs.Warnings.{adapter_warnings}
use Rattle.wcplan.proofs.warnings.adapter_warnings.Given as goal

abbrev pub invariant-loop-name : goal.invariant-loop-name
invariant-loop-name l = string_bytes l.text ≡ adapter_warnings (names_of (adapters_view l.adapters)) (map text_pair (take l.name-index l.given))
