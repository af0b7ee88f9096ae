use Rattle.std.proofs.Common.{refl, Some, None}
use Rattle.std.proofs.lemmas.Option.{slice_get_read}
use Rattle.wc_read.proofs.EntryLemmas.{type_at, table_at, global_at, no_global_at}
use Rattle.wc_graph.proofs.ListLemmas.{no_item}
use Rattle.wc_gc.proofs.ReachLemmas.{finds_none}
use Rattle.wc_gc.proofs.search.Search.reach_and_cut.Goals as goal

pub returns-in_ok-reach_func_type-in-Some-clause-found : goal.returns-in_ok-reach_func_type-in-Some-clause-found
returns-in_ok-reach_func_type-in-Some-clause-found g c =
    let at = rw c.deref.ensures.value at (slice_get_read _ _ _ _ refl c.in-Some.ensures.lookup.3.0 c.in-Some.ensures.lookup.1) in
    rw (type_at c.args.adapter.now c.args.item (Some c.in-Some.ty.now) c.in-Types.is at) c.in_ok-reach_func_type-in-Some.ensures

pub returns-in-None-clause-found : goal.returns-in-None-clause-found
returns-in-None-clause-found g c =
    let past = rw c.deref.ensures.value at c.in-None.ensures.lookup.0 in
    rw (type_at c.args.adapter.now c.args.item None c.in-Types.is (no_item _ _ past)) (finds_none g.L.LiveSet.has c.args.self.now)

pub returns-in_ok-reach_table-in-Some-get-clause-found : goal.returns-in_ok-reach_table-in-Some-get-clause-found
returns-in_ok-reach_table-in-Some-get-clause-found g c =
    let at = rw c.deref-in-Tables.ensures.value at (slice_get_read _ _ _ _ refl c.in-Some-get.ensures.lookup.3.0 c.in-Some-get.ensures.lookup.1) in
    rw (table_at c.args.adapter.now c.args.item (Some c.in-Some-get.table.now) c.in-Tables.is at) c.in_ok-reach_table-in-Some-get.ensures

pub returns-in-None-get-clause-found : goal.returns-in-None-get-clause-found
returns-in-None-get-clause-found g c =
    let past = rw c.deref-in-Tables.ensures.value at c.in-None-get.ensures.lookup.0 in
    rw (table_at c.args.adapter.now c.args.item None c.in-Tables.is (no_item _ _ past)) (finds_none g.L.LiveSet.has c.args.self.now)

pub returns-in_ok-reach_global-in-Some-get-2-clause-found : goal.returns-in_ok-reach_global-in-Some-get-2-clause-found
returns-in_ok-reach_global-in-Some-get-2-clause-found g c =
    let at = rw c.deref-in-Globals.ensures.value at (slice_get_read _ _ _ _ refl c.in-Some-get-2.ensures.lookup.3.0 c.in-Some-get-2.ensures.lookup.1) in
    rw (global_at c.args.adapter.now c.args.item c.in-Some-get-2.global.now c.in-Globals.is at) c.in_ok-reach_global-in-Some-get-2.ensures

pub returns-in-None-get-2-clause-found : goal.returns-in-None-get-2-clause-found
returns-in-None-get-2-clause-found g c =
    let past = rw c.deref-in-Globals.ensures.value at c.in-None-get-2.ensures.lookup.0 in
    rw (no_global_at c.args.adapter.now c.args.item c.in-Globals.is (no_item _ _ past)) (finds_none g.L.LiveSet.has c.args.self.now)

pub returns-in-Funcs-clause-found : goal.returns-in-Funcs-clause-found
returns-in-Funcs-clause-found g c = rw c.in-Funcs.is c.reach_func_at.ensures.found

pub returns-in-Funcs-clause-in_range : goal.returns-in-Funcs-clause-in_range
returns-in-Funcs-clause-in_range g c = rw c.in-Funcs.is c.reach_func_at.ensures.in_range

pub returns-in-Funcs-clause-fault : goal.returns-in-Funcs-clause-fault
returns-in-Funcs-clause-fault g c = rw c.in-Funcs.is c.reach_func_at.ensures.fault
