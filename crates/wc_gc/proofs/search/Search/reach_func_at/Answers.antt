use Rattle.std.proofs.Common.{ap, refl}
use Rattle.std.proofs.lemmas.Option.{slice_get_read}
use Rattle.wc_read.specs.declared.operators.Space.TheVariants.{Funcs}
use Rattle.wc_read.specs.Decoded.{decoded_module}
use Rattle.std.proofs.lemmas.Result.{err_from_is_err_and}
use Rattle.wc_gc.proofs.BodyCutLemmas.{open_at}
use Rattle.wc_gc.specs.InRange.{is_entry_in_range}
use Rattle.wc_read.proofs.EntryLemmas.{func_at, no_func_at}
use Rattle.wc_graph.proofs.ListLemmas.{no_item}
use Rattle.wc_gc.proofs.ReachLemmas.{finds_none}
use Rattle.wc_gc.proofs.search.Search.reach_func_at.Goals as goal

pub returns-in_ok-keep-in-Some-clause-found : goal.returns-in_ok-keep-in-Some-clause-found
returns-in_ok-keep-in-Some-clause-found g c =
    let at = rw c.deref.ensures.value at (slice_get_read _ _ _ _ refl c.in-Some.ensures.lookup.3.0 c.in-Some.ensures.lookup.1) in
    rw (func_at c.args.adapter.now (Funcs, c.args.index) c.in-Some.func.now refl at) c.in_ok-reach_func-in-Some.ensures.found

pub returns-in_ok-keep-in-Some-clause-in_range : goal.returns-in_ok-keep-in-Some-clause-in_range
returns-in_ok-keep-in-Some-clause-in_range g c =
    let at = rw c.deref.ensures.value at (slice_get_read _ _ _ _ refl c.in-Some.ensures.lookup.3.0 c.in-Some.ensures.lookup.1) in
    rw (func_at c.args.adapter.now (Funcs, c.args.index) c.in-Some.func.now refl at) (λ _. c.in_ok-reach_func-in-Some.ensures.in_range refl)

pub returns-in_ok-keep-in-Some-clause-cut : goal.returns-in_ok-keep-in-Some-clause-cut
returns-in_ok-keep-in-Some-clause-cut g c =
    let at = rw c.deref.ensures.value at (slice_get_read _ _ _ _ refl c.in-Some.ensures.lookup.3.0 c.in-Some.ensures.lookup.1) in
    λ cut. c.in_ok-keep-in-Some.ensures c.args.adapter.now.funcs.items
    (open_at c.args.adapter.now.funcs.items c.args.index c.in-Some.func.now c.reach_func.new.cut at (c.in_ok-reach_func-in-Some.ensures.cut refl)) cut

pub returns-in_err-reach_func-in-Some-clause-fault : goal.returns-in_err-reach_func-in-Some-clause-fault
returns-in_err-reach_func-in-Some-clause-fault g c =
    let at = rw c.deref.ensures.value at (slice_get_read _ _ _ _ refl c.in-Some.ensures.lookup.3.0 c.in-Some.ensures.lookup.1) in
    let p = err_from_is_err_and c.from_residual.result c.from_residual.ensures.1 in
    rw (p.1, p.2) (rw (func_at c.args.adapter.now (Funcs, c.args.index) c.in-Some.func.now refl at) c.in_err-reach_func-in-Some.ensures.fault)

pub returns-in-None-clause-found : goal.returns-in-None-clause-found
returns-in-None-clause-found g c =
    let past = rw c.deref.ensures.value at c.in-None.ensures.lookup.0 in
    rw (no_func_at c.args.adapter.now (Funcs, c.args.index) refl (no_item _ _ past)) (finds_none g.L.LiveSet.has c.args.self.now)

pub returns-in-None-clause-in_range : goal.returns-in-None-clause-in_range
returns-in-None-clause-in_range g c =
    let past = rw c.deref.ensures.value at c.in-None.ensures.lookup.0 in
    λ _. ap (is_entry_in_range (decoded_module c.args.adapter.now)) (no_func_at c.args.adapter.now (Funcs, c.args.index) refl (no_item _ _ past))
