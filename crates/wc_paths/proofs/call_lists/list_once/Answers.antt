use Rattle.std.proofs.Common.{sym}
use Rattle.wc_paths.proofs.CallListLemmas.{list_begun, list_put}
use Rattle.wc_paths.proofs.call_lists.list_once.Goals as goal

pub returns : goal.returns
returns c =
    list_put c.args.lists.now.entries c.insert.new.self.entries c.args.key c.args.function c.push.new.self
    (rw c.get_mut.follows.holds-at-none at c.in_ok-insert.ensures.updates.0)
    (list_begun c.args.lists.now.entries c.args.key c.push.new.self c.args.function (sym c.in_default.ensures.value)
    (let e = c.in_ok-push.ensures.items in let f = c.new-functions.ensures.items in rw f at e))
