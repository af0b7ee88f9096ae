use Rattle.std.proofs.Common.{◌∙◌, ap, sym}
use Rattle.wc_ways.specs.Asked.{asked_by}
use Rattle.wc_ways.specs.Private.Imported.{imported_view}
use Rattle.wc_ways.specs.declared.asked.Imported.{Imported}
use Rattle.wc_ways.proofs.AskedKeyLemmas.{found_texts}
use Rattle.wc_ways.proofs.asked_keys.AskedKeys.interfaces_by.Goals as goal

pub returns-in-Interface : goal.returns-in-Interface
returns-in-Interface c w key h =
    found_texts c.args.self.now.names.entries c.in-Interface.id c.get.result c.get.ensures.value ∙ h.names c.in-Interface.id.0
    ∙ ap (λ (i : Imported). asked_by w key (imported_view i)) (sym c.in-Interface.is)

pub returns-in-Own : goal.returns-in-Own
returns-in-Own c w key h = c.own_names.ensures w key h ∙ ap (λ (i : Imported). asked_by w key (imported_view i)) (sym c.in-Own.is)
