use Rattle.std.proofs.Common.{List, subst, sym}
use Rattle.wc_read.specs.Decoded.{ItemIndex, decoded_module}
use Rattle.wc_read.specs.Entries.{present}
use Rattle.wc_gc.specs.Private.Search.{FindsItems}
use Rattle.wc_gc.proofs.ReachLemmas.{init_index_refs}
use Rattle.wc_gc.proofs.search.Search.reach_init.Goals as goal

pub returns-in_ok-reach_index-in-Some : goal.returns-in_ok-reach_index-in-Some
returns-in_ok-reach_index-in-Some g c =
    subst (λ (z : List ItemIndex). FindsItems g.L.LiveSet.has c.args.self.now c.reach_index.new.self (present (decoded_module c.args.adapter.now) z))
    (sym (init_index_refs _ c.in-Some.named c.in-Some.ensures)) c.in_ok-reach_index-in-Some.ensures.found
