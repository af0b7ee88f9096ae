use Rattle.std.proofs.Common.{◌∙◌, [], Option, ap, option_map, sym}
use Rattle.std.specs.Option.{option_map_or}
use Rattle.wc_ways.specs.Asked.{WorldImport, asked_by}
use Rattle.wc_ways.specs.Private.Imported.{imported_view}
use Rattle.wc_ways.proofs.asked_keys.AskedKeys.interfaces.Goals as goal

pub returns-in-Some : goal.returns-in-Some
returns-in-Some c w key h =
    c.interfaces_by.ensures w key h
    ∙ ap (λ (o : Option WorldImport). option_map_or (asked_by w key) o []) (sym (ap (option_map imported_view) c.in-Some.is) ∙ c.world_import.ensures)

pub returns-in-None : goal.returns-in-None
returns-in-None c w key h =
    ap (λ (o : Option WorldImport). option_map_or (asked_by w key) o []) (sym (ap (option_map imported_view) c.in-None.is) ∙ c.world_import.ensures)
