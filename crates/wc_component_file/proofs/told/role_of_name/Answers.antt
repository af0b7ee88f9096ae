use Rattle.std.proofs.Common.{ℕ, List, ap, sym, ◌∙◌, option_map}
use Rattle.std.specs.Borrow.{Bor}
use Rattle.wc_component_file.specs.Told.{role_of_name, role_with}
use Rattle.wc_component_file.proofs.told.role_of_name.Goals as goal

pub returns-in-None : goal.returns-in-None
returns-in-None c =
    c.fixed_role.ensures
    ∙ (ap (role_with c.args.is_named c.in_ok-name.name.now) c.in-None.ensures.rest
    ∙ ap (λ o. role_of_name c.args.is_named (option_map (λ (n : Bor (List ℕ)). n.now) o)) (sym c.in_ok-name.was))
