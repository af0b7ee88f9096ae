use Rattle.std.proofs.Common.{refl, arith}
use Rattle.wc_read.specs.declared.operators.Space.TheVariants.{Types}
use Rattle.wc_gc.specs.Bits.{bit_of}
use Rattle.wc_read.specs.Decoded.{decoded_module}
use Rattle.wc_read.specs.Entries.{refs_in}
use Rattle.wc_gc.specs.LiveItems.{names_of}
use Rattle.wc_gc.specs.Private.Search.{finds}
use Rattle.wc_gc.proofs.LiveChainLemmas.{chains_are, live_in_range, live_reached, names_bounded, roots_in, same_positions}
use Rattle.wc_gc.proofs.TrimPlaceLemmas.{stop_refusal}
use Rattle.wc_graph.proofs.ShortestLemmas.{finders}
use Rattle.wc_gc.proofs.live_chains.chains_in.Goals as goal

pub find_all-requires-clause-there : goal.find_all-requires-clause-there
find_all-requires-clause-there c =
    roots_in c.args.adapter.now (names_of c.args.required.now.keys) c.in_ok-roots.roots.search.order.items (finds (λ b. bit_of b.words.items) c.in_ok-roots.roots.search)
    c.requires c.in_ok-roots.ensures.found

pub returns-in-Err-clause-refusal : goal.returns-in-Err-clause-refusal
returns-in-Err-clause-refusal c =
    stop_refusal c.args.adapter.now (names_of c.args.required.now.keys) c.in_ok-roots.roots.search.order.items
    (λ x r. (live_reached c.args.adapter.now (names_of c.args.required.now.keys) c.in_ok-roots.roots.search.order.items
    (finds (λ b. bit_of b.words.items) c.in_ok-roots.roots.search) c.requires c.in_ok-roots.ensures.found x).0 r)
    (c.in_ok-roots.ensures.supported refl) c.in-Err.stop _ c.in-Err.ensures.stop c.stopped.ensures

pub invariant_of-result : goal.invariant_of-result
invariant_of-result c =
    let found = c.in-Ok.ensures in
    let sized = c.in_ok-roots.ensures.named.sized in
    record {
      finders = finders (refs_in (decoded_module c.args.adapter.now)) c.in_ok-roots.roots.search.order.items c.in-Ok.found.order.items c.in-Ok.found.finder.items
          (Types, 0) found.found;
      named = names_bounded c.in_ok-roots.roots.search.order.items c.in-Ok.found.order.items found.begins.0 c.in_ok-roots.roots.exports.items sized found.begins.1;
      roots = λ k h e. let l = found.own k h e in omega (arith, l, sized);
    }

pub returns-clause-chains : goal.returns-clause-chains
returns-clause-chains c =
    let found = c.in-Ok.ensures in
    chains_are c.args.adapter.now (names_of c.args.required.now.keys) c.in_ok-roots.roots.search.order.items (finds (λ b. bit_of b.words.items) c.in_ok-roots.roots.search)
    c.requires c.in_ok-roots.ensures.found _ c.in_ok-roots.ensures.named found.found found.begins.0 found.begins.1 found.reached
    (same_positions c.deref.result.now c.args.adapter.now.imports.items c.deref-2.result.now c.in-Ok.found.order.items c.in_ok-imports.imports.items
    c.deref.ensures.value c.deref-2.ensures.value (c.in_ok-imports.ensures.each, c.in_ok-imports.ensures.at))

pub returns-clause-in_range : goal.returns-clause-in_range
returns-clause-in_range c =
    λ _. live_in_range c.args.adapter.now (names_of c.args.required.now.keys) c.in_ok-roots.roots.search.order.items
    (finds (λ b. bit_of b.words.items) c.in_ok-roots.roots.search) c.requires c.in_ok-roots.ensures.found (c.in-Ok.ensures.in_range refl)
