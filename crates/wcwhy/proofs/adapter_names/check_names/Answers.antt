use Rattle.std.proofs.Common.{◌∙◌, ap, map}
use Rattle.wc_maps.specs.Texts.{text_of}
use Rattle.wcwhy.proofs.AdapterNameLemmas.{cause_as, named_as}
use Rattle.wcwhy.proofs.adapter_names.check_names.Goals as goal

pub returns-clause-named : goal.returns-clause-named
returns-clause-named c =
    named_as c.check_listed.result _ _ _ _ (ap (map text_of) c.deref.ensures.value ∙ c.in_ok-names.ensures)
    (ap (map text_of) c.deref-2.ensures.value ∙ c.in_ok-asked.ensures) c.check_listed.ensures.named

pub returns-clause-fault : goal.returns-clause-fault
returns-clause-fault c =
    cause_as c.check_listed.result _ _ _ _ (ap (map text_of) c.deref.ensures.value ∙ c.in_ok-names.ensures)
    (ap (map text_of) c.deref-2.ensures.value ∙ c.in_ok-asked.ensures) c.check_listed.ensures.fault
