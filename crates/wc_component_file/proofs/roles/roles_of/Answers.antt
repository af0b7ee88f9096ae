use Rattle.std.proofs.Common.{map, subst, inl, IfErr}
use Rattle.std.proofs.lemmas.Result.{err_from_is_err_and}
use Rattle.wc_component_file.specs.Files.{core_module_view, file_view}
use Rattle.wc_component_file.specs.MainModules.{IsMain}
use Rattle.wc_component_file.specs.Roles.{IsMainRefusal, IsToldRefusal}
use Rattle.wc_component_file.proofs.RoleLemmas.{told_err}
use Rattle.wc_component_file.proofs.roles.roles_of.Goals as goal

pub returns-in_err-main-clause-refused : goal.returns-in_err-main-clause-refused
returns-in_err-main-clause-refused c =
    let p = err_from_is_err_and c.from_residual.result c.from_residual.ensures.1 in
    rw (p.1, p.2) (inl (subst (λ l. IsMainRefusal (map core_module_view l) c.args.main c.in_err-main.field-0.0) c.deref.ensures.value c.in_err-main.ensures.refused))

pub returns-clause-refused : goal.returns-clause-refused
returns-clause-refused c =
    told_err (file_view c.args.file.now) c.args.main c.in_ok-main.main c.roles_with.result
    (subst (λ l. IsMain (map core_module_view l) c.args.main c.in_ok-main.main) c.deref.ensures.value c.in_ok-main.ensures.main)
    (subst (λ l. IfErr c.roles_with.result (IsToldRefusal c.in_ok-main.main (map core_module_view l))) c.deref-2.ensures.value c.roles_with.ensures.refused)
