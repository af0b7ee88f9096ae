use Rattle.std.proofs.Common.{map, subst, IfErr}
use Rattle.wc_maps.specs.Texts.{text_pair}
use Rattle.wc_component_file.specs.Files.{core_module_view}
use Rattle.wc_component_file.specs.Private.Adapters.{IsServedRefusal}
use Rattle.wc_component_file.specs.Roles.{AreAsked}
use Rattle.wc_component_file.specs.Told.{told_view}
use Rattle.wc_component_file.proofs.RoleLemmas.{served_err}
use Rattle.wc_component_file.proofs.roles.roles_with.Goals as goal

pub returns-clause-refused : goal.returns-clause-refused
returns-clause-refused c =
    let modules = map core_module_view c.args.modules.now in
    let told = map told_view c.in_ok-told.told.items in
    let asked = map text_pair c.in_ok-asked.asked.items in
    let are = subst (λ l. AreAsked c.args.main modules (map told_view l) asked) c.deref.ensures.value c.in_ok-asked.ensures.asked in
    let one = subst (λ l. IfErr c.served_roles.result (IsServedRefusal (map text_pair l) (map told_view c.deref-2.result.now))) c.deref-3.ensures.value
    c.served_roles.ensures.refused in
    served_err c.args.main modules told asked c.served_roles.result c.in_ok-told.ensures.told are
    (subst (λ l. IfErr c.served_roles.result (IsServedRefusal asked (map told_view l))) c.deref-2.ensures.value one)
