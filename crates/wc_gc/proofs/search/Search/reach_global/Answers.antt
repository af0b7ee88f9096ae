use Rattle.std.proofs.Common.{rules, OnOk}
use Rattle.wc_read.specs.Decoded.{decoded_module, global_code}
use Rattle.wc_read.specs.Entries.{def_refs, init_refs, present}
use Rattle.wc_gc.specs.Private.Search.{FindsItems}
use Rattle.wc_gc.proofs.ReachLemmas.{finds_global_then}
use Rattle.wc_gc.proofs.search.Search.reach_global.Goals as goal

pub returns-in-Local : goal.returns-in-Local
returns-in-Local g c =
    let refs = def_refs init_refs (global_code c.args.global).def in
    let found : OnOk c.reach_init.result (FindsItems g.L.LiveSet.has c.reach_type.new.self c.reach_init.new.self (present (decoded_module c.args.adapter.now) refs)) = search rules in
    finds_global_then g.L.LiveSet.has (decoded_module c.args.adapter.now) c.args.self.now c.reach_type.new.self c.reach_init.new.self c.args.global.ty.content_type refs c.reach_init.result
    c.in_ok-reach_type.ensures.found found
