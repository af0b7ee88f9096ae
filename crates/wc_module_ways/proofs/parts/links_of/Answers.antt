use Rattle.std.proofs.Common.{◌≡◌, ◌<◌, ◌≤◌, arith, length, map, rules}
use Rattle.std.proofs.lemmas.List.{length-map}
use Rattle.wc_read.specs.Imports.{import_value, import_values}
use Rattle.wc_paths.specs.Counts.{counts_value}
use Rattle.wc_why.specs.Part.{link_view}
use Rattle.wc_module_ways.proofs.EndLemmas.{item_there}
use Rattle.wc_module_ways.proofs.LinkLemmas.{all_links, link_more, no_links}
use Rattle.wc_module_ways.proofs.parts.links_of.Goals as goal

pub loop-position-init : goal.loop-position-init
loop-position-init c servers are =
    no_links (import_values c.args.imports.now) (counts_value c.args.counts.now) servers c.args.places.now.entries are _ (search rules)

pub index-requires : goal.index-requires
index-requires c =
    let lt : c.loop-position.position < length c.args.imports.now = omega arith in
    let small : c.loop-position.position < length c.in_ok-items.items.items =
    item_there c.args.imports.now c.in_ok-items.items.items c.loop-position.position c.in_ok-items.ensures lt in
    search (rules, small)

pub loop-position-preserved : goal.loop-position-preserved
loop-position-preserved c servers are =
    let k = c.loop-position.position in
    let lt : k < length c.args.imports.now = omega arith in
    link_more c.args.imports.now (counts_value c.args.counts.now) servers c.args.places.now.entries are c.in_ok-items.items.items k _ c.index.result.now _ lt
    c.in_ok-items.ensures c.index.ensures (map link_view c.loop-position.links.items) (map link_view c.push_link.new.links.items)
    (c.loop-position.invariant servers are) c.in_ok-push_link.ensures

pub returns : goal.returns
returns c servers are =
    let all : c.loop-position.position ≡ length c.args.imports.now = omega arith in
    let over : length (import_values c.args.imports.now) ≤ c.loop-position.position =
    (let e = length-map c.args.imports.now import_value in omega (arith, all, e)) in
    all_links (import_values c.args.imports.now) (counts_value c.args.counts.now) servers c.args.places.now.entries are c.loop-position.position
    (map link_view c.loop-position.links.items) over (c.loop-position.invariant servers are)
