use Rattle.std.proofs.Common.{◌+◌, ◌^◌, ◌<◌, ◌≤◌, length, sym, subst, arith}
use Rattle.std.proofs.lemmas.List.{length-map}
use Rattle.wc_read.specs.Imports.{import_value, import_values}
use Rattle.wc_paths.proofs.ImportLemmas.{AreCounted, counted_all, counted_fits, counted_next}
use Rattle.wc_paths.proofs.roots.import_items.Goals as goal

pub count-requires : goal.count-requires
count-requires c =
    let fits : c.loop-import.import-index + 1 < 2 ^ 64 = omega arith in
    counted_fits (import_values c.args.imports.now) c.loop-import.import-index c.loop-import.counts c.loop-import.items.items c.loop-import.invariant fits

pub loop-import-preserved : goal.loop-import-preserved
loop-import-preserved c =
    let next = c.loop-import.import-index in
    let within : next < length c.args.imports.now = omega arith in
    subst (AreCounted (import_values c.args.imports.now) (next + 1) c.count.new.self) (sym c.in_ok-push.ensures.items)
    (counted_next c.args.imports.now next _ c.loop-import.counts c.count.new.self c.loop-import.items.items c.count.result within c.loop-import.invariant
    c.count.ensures.item c.count.ensures.counts)

pub returns : goal.returns
returns c =
    let l = length-map c.args.imports.now import_value in
    let over : length c.args.imports.now ≤ c.loop-import.import-index = omega arith in
    counted_all (import_values c.args.imports.now) c.loop-import.import-index c.loop-import.counts c.loop-import.items.items (omega (arith, over, l))
    c.loop-import.invariant
