use Rattle.std.proofs.Common.{◌≡◌, ◌<◌, arith, length, map, rules}
use Rattle.wc_paths.specs.Counts.{counts_value}
use Rattle.wc_read.specs.Imports.{import_values}
use Rattle.wc_ways.specs.Private.Wanted.{wanted_view}
use Rattle.wc_ways.proofs.FoundLemmas.{file_next, import_read, in_items, item_read}
use Rattle.wc_ways.proofs.found.put_imports.Goals as goal

pub index-requires : goal.index-requires
index-requires c =
    let within : c.loop-position.position < length c.args.imports.now = omega arith in
    let there = in_items c.args.imports.now c.in_ok-items.items.items c.loop-position.position c.in_ok-items.ensures within in
    let sized : c.in_ok-items.items.len ≡ length c.in_ok-items.items.items = search rules in
    omega (arith, there, sized)

pub loop-position-preserved : goal.loop-position-preserved
loop-position-preserved c w key asked =
    let a = c.args.asking in
    let imports = c.args.imports.now in
    let items = c.in_ok-items.items.items in
    let k = c.loop-position.position in
    let within : k < length imports = omega arith in
    file_next w key a.part (counts_value a.rows.now.counts) (import_values imports) c.args.records.now k _ c.index.result.now
    (map wanted_view c.args.wanted.now.items) (map wanted_view c.loop-position.wanted.items) (map wanted_view c.put_from_file.new.wanted.items)
    (import_read imports items k c.in_ok-items.ensures within _, item_read imports items k c.in_ok-items.ensures within _ c.index.result.now _ c.index.ensures)
    (c.loop-position.invariant w key asked) (c.in_ok-put_from_file.ensures w key asked)
