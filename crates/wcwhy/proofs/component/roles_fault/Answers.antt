use Rattle.std.proofs.Common.{◌∙◌, ap, refl, subst}
use Rattle.std.specs.Option.{unwrap_or}
use Rattle.wc_component_file.specs.Files.{file_view}
use Rattle.wc_component_file.specs.Roles.{IsRolesRefusal}
use Rattle.wcwhy.specs.Arguments.{command_view}
use Rattle.wcwhy.proofs.ComponentLemmas.{missing_fault, none_fault}
use Rattle.wcwhy.proofs.component.roles_fault.Goals as goal

pub returns-in-NoModule : goal.returns-in-NoModule
returns-in-NoModule c =
    let file = file_view c.args.file.now in
    none_fault (command_view c.args.command.now) file _ (subst (IsRolesRefusal file c.args.command.now.core) c.in-NoModule.is c.requires) refl

pub returns-in-NoSuchModule : goal.returns-in-NoSuchModule
returns-in-NoSuchModule c =
    let file = file_view c.args.file.now in
    missing_fault (command_view c.args.command.now) file c.missing_module.result
    (subst (IsRolesRefusal file c.args.command.now.core) c.in-NoSuchModule.is c.requires) c.unwrap_or.result
    (λ k e. c.unwrap_or.ensures ∙ ap (λ o. unwrap_or o 0) e) c.missing_module.ensures
