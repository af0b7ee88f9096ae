use Rattle.std.proofs.Common.{◌≡◌, arith, length, map, sym, subst, take}
use Rattle.std.proofs.lemmas.List.{take_all}
use Rattle.wc_why.specs.Part.{begin_view}
use Rattle.wc_why.specs.Private.Lists.{PutsNumbers, begins_of}
use Rattle.wc_why.proofs.ListLemmas.{begins_put}
use Rattle.wc_why.proofs.ViewLemmas.{view_more}
use Rattle.wc_why.proofs.lists.put_roots.Goals as goal

pub loop-begin-preserved : goal.loop-begin-preserved
loop-begin-preserved c = λ parts view numbered at.
    let begins = c.args.begins.now in
    let i = c.loop-begin.begin-index in
    subst (λ bs. PutsNumbers c.args.numbers.now (begins_of c.args.part view c.args.list bs) c.args.out.now.items c.put_begin.new.out.items)
    (sym (view_more begin_view begins i _ c.loop-begin-test.true))
    (begins_put c.args.numbers.now c.args.part view c.args.list (map begin_view (take i begins)) _ c.args.out.now.items c.loop-begin.out.items c.put_begin.new.out.items
    (c.loop-begin.invariant parts view numbered at) (c.in_ok-put_begin.ensures parts view numbered at))

pub returns : goal.returns
returns c = λ parts view numbered at is.
    let begins = c.args.begins.now in
    let i = c.loop-begin.begin-index in
    let end : length begins ≡ i = omega (arith, c.loop-begin-test.false, c.loop-begin.auto.begin-index-end) in
    subst (λ bs. PutsNumbers c.args.numbers.now (begins_of c.args.part view c.args.list bs) c.args.out.now.items c.loop-begin.out.items) (sym is)
    (subst (λ bs. PutsNumbers c.args.numbers.now (begins_of c.args.part view c.args.list (map begin_view bs)) c.args.out.now.items c.loop-begin.out.items)
    (take_all i begins (omega (arith, end))) (c.loop-begin.invariant parts view numbered at))
