use Rattle.std.proofs.Common.{◌≡◌, ◌<◌, ◌∙◌, arith, length, rules, sym}
use Rattle.std.proofs.lemmas.List.{length-map}
use Rattle.wc_read.specs.Imports.{import_value, import_values}
use Rattle.wc_ways.proofs.FirstLemmas.{places_all, places_start}
use Rattle.wc_ways.proofs.FoundLemmas.{import_read, in_items, item_read}
use Rattle.wc_ways.proofs.modules.import_places.Goals as goal

pub loop-position-init : goal.loop-position-init
loop-position-init c = places_start (import_values c.args.imports.now) _ (search rules)

pub index-requires : goal.index-requires
index-requires c =
    let imports = c.args.imports.now in
    let within : c.loop-position.position < length imports = omega arith in
    let there = in_items imports c.in_ok-items.items.items c.loop-position.position c.in_ok-items.ensures within in
    let sized : c.in_ok-items.items.len ≡ length c.in_ok-items.items.items = search rules in
    omega (arith, there, sized)

pub loop-position-preserved : goal.loop-position-preserved
loop-position-preserved c =
    let imports = c.args.imports.now in
    let items = c.in_ok-items.items.items in
    let k = c.loop-position.position in
    let within : k < length imports = omega arith in
    c.in_ok-put_place.ensures (import_values imports) k
    (import_read imports items k c.in_ok-items.ensures within _, item_read imports items k c.in_ok-items.ensures within _ c.index.result.now _ c.index.ensures)
    c.loop-position.invariant

pub returns : goal.returns
returns c =
    let imports = c.args.imports.now in
    let all : c.loop-position.position ≡ length imports = omega arith in
    places_all (import_values imports) c.loop-position.position c.loop-position.places.entries (all ∙ sym (length-map imports import_value)) c.loop-position.invariant
