use Rattle.std.proofs.Common.{sym, ◌∙◌}
use Rattle.wc_why.proofs.ListLemmas.{root_none, root_put}
use Rattle.wc_why.proofs.lists.put_root.Goals as goal

pub returns-in_ok-push-in-Some : goal.returns-in_ok-push-in-Some
returns-in_ok-push-in-Some c = λ parts view numbered at.
    root_put parts c.args.numbers.now numbered c.args.part view at c.args.item c.in-Some.number c.args.out.now.items c.push.new.self.items
    (sym c.number.ensures.number ∙ c.in-Some.is) c.in_ok-push-in-Some.ensures.items

pub returns-in-None : goal.returns-in-None
returns-in-None c = λ parts view numbered at.
    root_none parts c.args.numbers.now numbered c.args.part view at c.args.item c.args.out.now.items (sym c.number.ensures.number ∙ c.in-None.is)
