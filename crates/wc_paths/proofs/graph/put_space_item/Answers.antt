use Rattle.std.proofs.Common.{refl, sym, append-nil, Some, None}
use Rattle.std.proofs.lemmas.Option.{slice_get_read}
use Rattle.wc_read.proofs.EntryLemmas.{func_at, global_at, no_func_at, no_global_at, table_at, type_at}
use Rattle.wc_graph.proofs.ListLemmas.{no_item}
use Rattle.wc_paths.proofs.graph.put_space_item.Goals as goal

pub returns-in_ok-put_func_type-in-Some-clause-names : goal.returns-in_ok-put_func_type-in-Some-clause-names
returns-in_ok-put_func_type-in-Some-clause-names c =
    let at = rw c.deref.ensures.value at (slice_get_read _ _ _ _ refl c.in-Some.ensures.lookup.3.0 c.in-Some.ensures.lookup.1) in
    rw (type_at c.args.«module».now (c.args.space, c.args.index) (Some c.in-Some.ty.now) c.in-Types.is at) c.in_ok-put_func_type-in-Some.ensures

pub returns-in-None-clause-names : goal.returns-in-None-clause-names
returns-in-None-clause-names c =
    let past = rw c.deref.ensures.value at c.in-None.ensures.lookup.0 in
    rw (type_at c.args.«module».now (c.args.space, c.args.index) None c.in-Types.is (no_item _ _ past)) (sym (append-nil c.args.names.now.items))

pub returns-in-Some-get-clause-names : goal.returns-in-Some-get-clause-names
returns-in-Some-get-clause-names c =
    let at = rw c.deref-in-Funcs.ensures.value at (slice_get_read _ _ _ _ refl c.in-Some-get.ensures.lookup.3.0 c.in-Some-get.ensures.lookup.1) in
    rw (func_at c.args.«module».now (c.args.space, c.args.index) c.in-Some-get.func.now c.in-Funcs.is at) c.put_func.ensures.names

pub returns-in-Some-get-clause-code : goal.returns-in-Some-get-clause-code
returns-in-Some-get-clause-code c =
    let at = rw c.deref-in-Funcs.ensures.value at (slice_get_read _ _ _ _ refl c.in-Some-get.ensures.lookup.3.0 c.in-Some-get.ensures.lookup.1) in
    rw (func_at c.args.«module».now (c.args.space, c.args.index) c.in-Some-get.func.now c.in-Funcs.is at) c.put_func.ensures.code

pub returns-in-None-get-clause-names : goal.returns-in-None-get-clause-names
returns-in-None-get-clause-names c =
    let past = rw c.deref-in-Funcs.ensures.value at c.in-None-get.ensures.lookup.0 in
    rw (no_func_at c.args.«module».now (c.args.space, c.args.index) c.in-Funcs.is (no_item _ _ past)) (sym (append-nil c.args.names.now.items))

pub returns-in-None-get-clause-code : goal.returns-in-None-get-clause-code
returns-in-None-get-clause-code c =
    let past = rw c.deref-in-Funcs.ensures.value at c.in-None-get.ensures.lookup.0 in
    rw (no_func_at c.args.«module».now (c.args.space, c.args.index) c.in-Funcs.is (no_item _ _ past)) refl

pub returns-in_ok-put_type-in-Some-get-2-clause-names : goal.returns-in_ok-put_type-in-Some-get-2-clause-names
returns-in_ok-put_type-in-Some-get-2-clause-names c =
    let at = rw c.deref-in-Tables.ensures.value at (slice_get_read _ _ _ _ refl c.in-Some-get-2.ensures.lookup.3.0 c.in-Some-get-2.ensures.lookup.1) in
    rw (table_at c.args.«module».now (c.args.space, c.args.index) (Some c.in-Some-get-2.table.now) c.in-Tables.is at) c.in_ok-put_type-in-Some-get-2.ensures

pub returns-in-None-get-2-clause-names : goal.returns-in-None-get-2-clause-names
returns-in-None-get-2-clause-names c =
    let past = rw c.deref-in-Tables.ensures.value at c.in-None-get-2.ensures.lookup.0 in
    rw (table_at c.args.«module».now (c.args.space, c.args.index) None c.in-Tables.is (no_item _ _ past)) (sym (append-nil c.args.names.now.items))

pub returns-in_ok-put_global-in-Some-get-3-clause-names : goal.returns-in_ok-put_global-in-Some-get-3-clause-names
returns-in_ok-put_global-in-Some-get-3-clause-names c =
    let at = rw c.deref-in-Globals.ensures.value at (slice_get_read _ _ _ _ refl c.in-Some-get-3.ensures.lookup.3.0 c.in-Some-get-3.ensures.lookup.1) in
    rw (global_at c.args.«module».now (c.args.space, c.args.index) c.in-Some-get-3.global.now c.in-Globals.is at) c.in_ok-put_global-in-Some-get-3.ensures

pub returns-in-None-get-3-clause-names : goal.returns-in-None-get-3-clause-names
returns-in-None-get-3-clause-names c =
    let past = rw c.deref-in-Globals.ensures.value at c.in-None-get-3.ensures.lookup.0 in
    rw (no_global_at c.args.«module».now (c.args.space, c.args.index) c.in-Globals.is (no_item _ _ past)) (sym (append-nil c.args.names.now.items))
