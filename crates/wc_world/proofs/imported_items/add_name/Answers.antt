use Rattle.std.proofs.Common.{[], ap, is_some, sym}
use Rattle.wc_world.proofs.ImportedItemLemmas.{call_put, has}
use Rattle.wc_world.proofs.imported_items.add_name.Goals as goal

pub returns-in-Some : goal.returns-in-Some
returns-in-Some c = λ abi imports same i call.
    call_put c.args.names.now.entries (c.get_mut.follows.lender c.insert.new.self).entries c.args.interface c.in_ok-owned.owned c.insert.new.self c.in-Some.others.now.keys
    ((c.get_mut.follows.holds c.insert.new.self).3 (ap is_some (sym c.in-Some.ensures.value))).0
    c.in_ok-insert.ensures.keys (λ n. ap (λ o. has o n) (sym c.in-Some.ensures.value)) abi imports i c.args.name.now c.in_ok-owned.ensures.ok call same

pub returns : goal.returns
returns c = λ abi imports same i call.
    call_put c.args.names.now.entries c.insert-3.new.self.entries c.args.interface c.in_ok-owned.owned c.insert-2.new.self []
    (rw c.get_mut.follows.holds-at-none at c.in_ok-insert-3.ensures.updates.0)
    (let e = c.in_ok-insert-2.ensures.keys in let f = c.with_hasher-first.ensures.empty in rw f at e) (λ n. ap (λ o. has o n) (sym c.in_default.ensures.value)) abi imports i c.args.name.now c.in_ok-owned.ensures.ok call same
