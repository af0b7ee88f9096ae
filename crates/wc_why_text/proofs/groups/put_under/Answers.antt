use Rattle.std.proofs.Common.{sym}
use Rattle.wc_why_text.proofs.GroupLemmas.{put_after, put_first}
use Rattle.wc_why_text.proofs.groups.put_under.Goals as goal

pub returns-in-Some : goal.returns-in-Some
returns-in-Some g c =
    put_after c.args.groups.now.entries (c.get_mut.follows.lender c.push.new.self).entries c.args.name c.in-Some.others.now c.push.new.self c.args.value
    (c.get_mut.follows.holds c.push.new.self).0 (sym c.in-Some.ensures.value) c.in_ok-push.ensures.items

pub returns : goal.returns
returns g c =
    put_first c.args.groups.now.entries c.insert.new.self.entries c.args.name c.push-2.new.self c.args.value
    (rw c.get_mut.follows.holds-at-none at c.in_ok-insert.ensures.entries)
    (rw c.get_mut.follows.holds-at-none at c.in_ok-insert.ensures.updates).0 (sym c.in_default.ensures.value)
    (let e = c.in_ok-push-2.ensures.items in let f = c.new-first.ensures.items in rw f at e)
