use Rattle.std.proofs.Common.{◌≡◌, ◌<◌, arith, length, map, rules}
use Rattle.wc_paths.specs.Counts.{counts_value}
use Rattle.wc_import_paths.specs.Shown.{end_view}
use Rattle.wc_module_ways.specs.Modules.{is_core_shown}
use Rattle.wc_module_ways.proofs.EndLemmas.{all_ends, end_more, item_there}
use Rattle.wc_module_ways.proofs.core_tree.push_one.Goals as goal

pub index-item-requires : goal.index-item-requires
index-item-requires c =
    let lt : c.loop-position.position < length c.args.imports.now = omega arith in
    let small : c.loop-position.position < length c.in_ok-items.items.items =
    item_there c.args.imports.now c.in_ok-items.items.items c.loop-position.position c.in_ok-items.ensures lt in
    search (rules, small)

pub loop-position-preserved : goal.loop-position-preserved
loop-position-preserved c given names =
    let lt : c.loop-position.position < length c.args.imports.now = omega arith in
    end_more c.args.part.0 (counts_value c.args.part.1.now) (is_core_shown given c.args.of.is_library c.args.of.asked.now) c.args.imports.now
    c.in_ok-items.items.items c.loop-position.position _ c.index-item.result.now _ lt c.in_ok-items.ensures c.index-item.ensures c.is_core_shown-is_wanted.result
    (c.is_core_shown-is_wanted.ensures given names) (map end_view c.args.shown.now.items) (map end_view c.loop-position.shown.items)
    (map end_view c.push_shown.new.shown.items) (c.loop-position.invariant given names) c.in_ok-push_shown.ensures

pub returns : goal.returns
returns c given names =
    let all : c.loop-position.position ≡ length c.args.imports.now = omega arith in
    all_ends c.args.part.0 (counts_value c.args.part.1.now) (is_core_shown given c.args.of.is_library c.args.of.asked.now) c.args.imports.now
    c.loop-position.position (map end_view c.args.shown.now.items) (map end_view c.loop-position.shown.items) all (c.loop-position.invariant given names)
