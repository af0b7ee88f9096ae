use Rattle.std.proofs.Common.{◌≡◌, ◌++◌, map}
use Rattle.std.specs.List.{filter_map}
use Rattle.wc_read.specs.Exports.{export_value}
use Rattle.wc_read.specs.Modules.{module_value}
use Rattle.wc_validate.specs.Exports.Iter.{exports_left}
use Rattle.wc_validate.specs.Validate.{module_record}
use Rattle.wc_ways.specs.Parts.{always_of}
use Rattle.wc_ways.proofs.ModuleLemmas.{always_by}
use Rattle.wc_ways.proofs.parts.always_of.Given as goal

abbrev pub invariant-loop-name : goal.invariant-loop-name
invariant-loop-name l =
    map export_value l.always.items ++ filter_map (always_by (module_value l.adapter.code)) (exports_left l.name-iterator)
    ≡ always_of (module_record l.adapter.info.now) (module_value l.adapter.code)
