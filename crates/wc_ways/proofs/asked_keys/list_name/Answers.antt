use Rattle.std.proofs.Common.{◌∙◌, ◌++◌, ◌∷◌, [], ap, map, sym}
use Rattle.wc_why.specs.Texts.{text_of}
use Rattle.wc_ways.proofs.AskedKeyLemmas.{listed_after, listed_first, pushed}
use Rattle.wc_ways.proofs.asked_keys.list_name.Goals as goal

pub returns-in-Some : goal.returns-in-Some
returns-in-Some c =
    listed_after c.args.names.now.entries (c.get_mut.follows.lender c.push.new.self).entries c.args.id c.push.new.self c.args.name.now
    c.in-Some.others.now (c.get_mut.follows.holds c.push.new.self).0 (sym c.in-Some.ensures.value)
    (pushed c.in-Some.others.now c.push.new.self c.args.name c.in_ok-push.ensures.items)

pub returns : goal.returns
returns c =
    listed_first c.args.names.now.entries c.insert.new.self.entries c.args.id c.push-2.new.self c.args.name.now
    (rw c.get_mut.follows.holds-at-none at c.in_ok-insert.ensures.updates).0 (sym c.in_default.ensures.value)
    (pushed c.new-first.result c.push-2.new.self c.args.name c.in_ok-push-2.ensures.items
    ∙ ap (λ z. map text_of z ++ c.args.name.now ∷ []) c.new-first.ensures.items)
