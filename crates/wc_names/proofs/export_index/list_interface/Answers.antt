use Rattle.std.proofs.Common.{◌≡◌, Some, None, string_bytes, sym, subst}
use Rattle.std.specs.Map.{lookup, set_value}
use Rattle.wc_names.proofs.ExportIndexLemmas.{is_called, listed_after, listed_first}
use Rattle.wc_names.proofs.export_index.list_interface.Goals as goal

pub returns-in-Some : goal.returns-in-Some
returns-in-Some c =
    listed_after c.args.interfaces.now.entries (c.get_mut.follows.lender c.push.new.self).entries
    (string_bytes c.args.text) c.in-Some.others.now c.push.new.self c.args.interface
    (subst (λ z. (c.get_mut.follows.lender c.push.new.self).entries ≡ set_value
    (is_called z) c.args.interfaces.now.entries c.push.new.self) c.as_str.ensures.value (c.get_mut.follows.holds c.push.new.self).0)
    (subst (λ z. lookup (is_called z) c.args.interfaces.now.entries ≡ Some c.in-Some.others.now) c.as_str.ensures.value
    (sym c.in-Some.ensures.value)) c.in_ok-push.ensures.items

pub returns : goal.returns
returns c =
    listed_first c.args.interfaces.now.entries c.insert.new.self.entries c.args.text c.push-2.new.self c.args.interface
    (rw c.get_mut.follows.holds-at-none at c.in_ok-insert.ensures.entries)
    (subst (λ z. lookup (is_called z) c.args.interfaces.now.entries ≡ None) c.as_str.ensures.value (sym c.in_default.ensures.value))
    (let e = c.in_ok-push-2.ensures.items in let f = c.new-first.ensures.items in rw f at e)
