use Rattle.std.proofs.Common.{◌≡◌, ◌<◌, ◌∙◌, Some, ap, arith, length, map, rules, sym}
use Rattle.std.proofs.lemmas.List.{length-map}
use Rattle.wc_module_ways.specs.Private.Servers.{server_view}
use Rattle.wc_module_ways.specs.declared.server.Server.{Server}
use Rattle.wc_import_paths.proofs.ShownLemmas.{at_view}
use Rattle.wc_module_ways.proofs.PlaceLemmas.{all_places, no_places}
use Rattle.wc_module_ways.proofs.servers.export_places.Goals as goal

pub loop-index-init : goal.loop-index-init
loop-index-init c = no_places (map server_view c.args.servers.now) _ (search rules)

pub put_exports-requires : goal.put_exports-requires
put_exports-requires c =
    record { fits = c.index-servers-index.result.fits; room = omega arith }

pub loop-index-preserved : goal.loop-index-preserved
loop-index-preserved c =
    let servers = c.args.servers.now in
    let k = c.loop-index.index in
    let lt : k < length servers = omega arith in
    let s = c.index-servers-index.result in
    c.in_ok-put_exports.ensures (map server_view servers)
    (at_view server_view servers k s lt ∙ ap (λ (z : Server). Some (server_view z)) (sym c.index-servers-index.is)) c.loop-index.invariant

pub returns : goal.returns
returns c =
    let servers = c.args.servers.now in
    let all : c.loop-index.index ≡ length servers = omega arith in
    all_places (map server_view servers) c.loop-index.index c.loop-index.places.entries (all ∙ sym (length-map servers server_view)) c.loop-index.invariant
