use Rattle.std.proofs.Common.{sym}
use Rattle.wc_selection.proofs.TextListLemmas.{listed_after, listed_first}
use Rattle.wc_selection.proofs.key_index.list_under.Goals as goal

pub returns-in-Some : goal.returns-in-Some
returns-in-Some g c =
    listed_after c.args.lists.now.entries (c.get_mut.follows.lender c.push.new.self).entries c.args.text c.in-Some.others.now c.push.new.self c.args.value
    (c.get_mut.follows.holds c.push.new.self).0 (sym c.in-Some.ensures.value) c.in_ok-push.ensures.items

pub returns : goal.returns
returns g c =
    listed_first c.args.lists.now.entries c.insert.new.self.entries c.args.text c.push-2.new.self c.args.value
    (rw c.get_mut.follows.holds-at-none at c.in_ok-insert.ensures.updates).0 (sym c.in_default.ensures.value)
    (let e = c.in_ok-push-2.ensures.items in let f = c.new-first.ensures.items in rw f at e)
