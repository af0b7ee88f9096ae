use Rattle.wc_why.specs.Part.{begin_view}
use Rattle.wc_why.proofs.ListLemmas.{begin_of_list}
use Rattle.wc_why.proofs.ViewLemmas.{on_ok}
use Rattle.wc_why.proofs.lists.put_begin.Goals as goal

pub returns-then-begin-list : goal.returns-then-begin-list
returns-then-begin-list c =
    on_ok c.put_root.result (λ put parts view numbered at.
    begin_of_list parts c.args.numbers.now numbered c.args.part view at c.args.list (begin_view c.args.begin) c.args.out.now.items c.put_root.new.out.items
    c.if-begin-list.true (put parts view numbered at)) c.put_root.ensures
