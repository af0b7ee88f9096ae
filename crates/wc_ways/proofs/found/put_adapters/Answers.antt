use Rattle.std.proofs.Common.{◌≡◌, ◌<◌, ◌∙◌, Some, ap, arith, length, map, sym}
use Rattle.std.proofs.lemmas.Option.{slice_get-get_or}
use Rattle.wc_ways.specs.Private.Wanted.{wanted_view}
use Rattle.wc_ways.proofs.FoundLemmas.{adapter_next, adapters_all}
use Rattle.wc_ways.proofs.found.put_adapters.Goals as goal

pub loop-index-preserved : goal.loop-index-preserved
loop-index-preserved c w key asked are =
    let adapters = c.args.adapters.now in
    let k = c.loop-index.index in
    let a = c.index-adapters-index.result in
    let within : k < length adapters = omega arith in
    adapter_next w key adapters k a (map wanted_view c.args.wanted.now.items) (map wanted_view c.loop-index.wanted.items)
    (map wanted_view c.put_adapter.new.wanted.items) (slice_get-get_or adapters k a within ∙ ap Some (sym c.index-adapters-index.is)) are (c.loop-index.invariant w key asked are)
    (c.in_ok-put_adapter.ensures w key asked)

pub returns : goal.returns
returns c w key asked are =
    let all : c.loop-index.index ≡ length c.args.adapters.now = omega arith in
    adapters_all w key c.args.adapters.now c.loop-index.index (map wanted_view c.args.wanted.now.items) (map wanted_view c.loop-index.wanted.items) all are
    (c.loop-index.invariant w key asked are)
