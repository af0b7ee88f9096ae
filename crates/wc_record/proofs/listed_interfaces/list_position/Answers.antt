use Rattle.std.proofs.Common.{sym}
use Rattle.wc_record.proofs.ListedInterfaceLemmas.{listed_after, listed_first}
use Rattle.wc_record.proofs.listed_interfaces.list_position.Goals as goal

pub returns-in-Some : goal.returns-in-Some
returns-in-Some c =
    listed_after c.args.positions.now.entries (c.get_mut.follows.lender c.push.new.self).entries c.args.id c.push.new.self c.args.position
    c.in-Some.others.now (c.get_mut.follows.holds c.push.new.self).0 (sym c.in-Some.ensures.value) c.in_ok-push.ensures.items

pub returns : goal.returns
returns c =
    listed_first c.args.positions.now.entries c.insert.new.self.entries c.args.id c.push-2.new.self c.args.position
    (rw c.get_mut.follows.holds-at-none at c.in_ok-insert.ensures.updates).0 (sym c.in_default.ensures.value)
    (let e = c.in_ok-push-2.ensures.items in let f = c.new-first.ensures.items in rw f at e)
