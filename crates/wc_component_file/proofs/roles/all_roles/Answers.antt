use Rattle.std.proofs.Common.{◌<◌, length, map, ap, ◌∙◌, subst, arith}
use Rattle.std.proofs.lemmas.List.{map_push}
use Rattle.std.proofs.lemmas.Result.{err_from_is_err_and}
use Rattle.wc_maps.specs.Texts.{text_pair}
use Rattle.wc_component_file.specs.Roles.{IsRole}
use Rattle.wc_component_file.specs.Told.{role_view, told_view}
use Rattle.wc_component_file.specs.declared.told.Told.{Told}
use Rattle.wc_component_file.proofs.EachLemmas.{each_more}
use Rattle.wc_component_file.proofs.RoleLemmas.{one_refused, told_contains}
use Rattle.wc_component_file.proofs.roles.all_roles.Goals as goal

pub returns-in_err-role-clause-refused : goal.returns-in_err-role-clause-refused
returns-in_err-role-clause-refused c =
    let p = err_from_is_err_and c.from_residual.result c.from_residual.ensures.1 in
    let within : c.loop-one.one-index < length c.args.told.now = omega arith in
    rw (p.1, p.2) (one_refused (map text_pair c.args.asked.now) (map told_view c.args.told.now) (told_view c.one-item.result) _
    (told_contains c.args.told.now c.loop-one.one-index c.one-item.result within c.one-item.is) c.in_err-role.ensures.refused)

pub loop-one-preserved : goal.loop-one-preserved
loop-one-preserved c =
    let within : c.loop-one.one-index < length c.args.told.now = omega arith in
    let asked = map text_pair c.args.asked.now in
    let role = role_view c.in_ok-role.role in
    each_more (λ k. IsRole asked) told_view c.args.told.now c.loop-one.one-index c.one-item.result (map role_view c.loop-one.roles.items)
    (map role_view c.push.new.self.items) role within c.loop-one.invariant
    (subst (λ (t : Told). IsRole asked (told_view t) role) c.one-item.is c.in_ok-role.ensures.role)
    (ap (map role_view) c.in_ok-push.ensures.items ∙ map_push role_view c.loop-one.roles.items c.in_ok-role.role)
