use Rattle.std.proofs.Common.{sym}
use Rattle.wc_module_ways.proofs.NameListLemmas.{listed_after, listed_first}
use Rattle.wc_module_ways.proofs.name_lists.list_name.Goals as goal

pub returns-in-Some : goal.returns-in-Some
returns-in-Some c =
    listed_after c.args.lists.now.entries (c.get_mut.follows.lender c.push.new.self).entries c.args.key c.args.name c.in-Some.others.now c.push.new.self
    (c.get_mut.follows.holds c.push.new.self).0 (sym c.in-Some.ensures.value) c.in_ok-push.ensures.items

pub returns : goal.returns
returns c =
    listed_first c.args.lists.now.entries c.insert.new.self.entries c.args.key c.args.name c.push-2.new.self
    (rw c.get_mut.follows.holds-at-none at c.in_ok-insert.ensures.updates).0 (sym c.in_default.ensures.value)
    (let e = c.in_ok-push-2.ensures.items in let f = c.new-first.ensures.items in rw f at e)
