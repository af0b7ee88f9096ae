use Rattle.std.proofs.Common.{◌≡◌, ◌∙◌, IfOk, ap, map, subst, sym}
use Rattle.wc_resolve.specs.Views.{key_view}
use Rattle.wc_selection.proofs.KeyIndexLemmas.{required_under}
use Rattle.wc_selection.proofs.TextListLemmas.{listed_none, listed_there}
use Rattle.wc_selection.proofs.key_index.AdapterKeys.required.Goals as goal
use Rattle.wc_selection.specs.KeyIndex.{keys_under}
use Rattle.wc_maps.specs.Texts.{text_of}

pub returns-in-Some : goal.returns-in-Some
returns-in-Some c q keys are =
    let name = c.args.name.now in
    let entries = c.args.self.now.texts.entries in
    let texts = ap (map text_of) (c.deref.ensures.value ∙ sym (listed_there entries name c.in-Some.texts.now (sym c.in-Some.ensures.value)))
    ∙ are.texts_are name in
    subst (λ found. IfOk c.keys_under.result (λ set. map key_view set.keys ≡ found))
    ((λ i. keys_under (texts i) (are.keys_are i)) ∙ required_under q name keys) c.keys_under.ensures

pub returns-in-None : goal.returns-in-None
returns-in-None c q keys are =
    let name = c.args.name.now in
    let entries = c.args.self.now.texts.entries in
    let texts = ap (map text_of) (sym (listed_none entries name (sym c.in-None.ensures.value))) ∙ are.texts_are name in
    subst (λ found. IfOk c.keys_under-in-None.result (λ set. map key_view set.keys ≡ found))
    ((λ i. keys_under (texts i) (are.keys_are i)) ∙ required_under q name keys) c.keys_under-in-None.ensures
