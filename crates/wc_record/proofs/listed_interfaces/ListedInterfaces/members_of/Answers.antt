use Rattle.std.proofs.Common.{◌≡◌, ◌∙◌, IfOk, ap, filter, subst}
use Rattle.wc_resolve.specs.Dependencies.{interface_ids}
use Rattle.wc_world.specs.Used.{has_interface}
use Rattle.wc_record.proofs.ListedInterfaceLemmas.{ids_found, positions_below}
use Rattle.wc_record.proofs.listed_interfaces.ListedInterfaces.members_of.Goals as goal

pub interfaces_at-requires : goal.interfaces_at-requires
interfaces_at-requires c =
    let ids = c.self.inside.interfaces.now in
    positions_below (has_interface c.args.set.now) ids c.deref.result.now
    (c.deref.ensures.value ∙ c.in_ok-positions.ensures (interface_ids ids) c.self.invariant)

pub returns : goal.returns
returns c =
    let ids = c.self.inside.interfaces.now in
    let test = has_interface c.args.set.now in
    subst (λ found. IfOk c.interfaces_at.result (λ v. interface_ids v.items ≡ found))
    (ids_found test (interface_ids ids) c.deref.result.now
    (c.deref.ensures.value ∙ c.in_ok-positions.ensures (interface_ids ids) c.self.invariant)
    ∙ ap (filter test) c.self.view_is) c.interfaces_at.ensures
