use Rattle.std.proofs.Common.{◌≡◌, ◌<◌, ◌≤◌, ◌-◌, length, get_or, vec_len, sym, ◌∙◌, refl, arith, inl, inr, rules}
use Rattle.std.proofs.lemmas.List.{get_or_default}
use Rattle.wc_gc.specs.Bits.{bit_of}
use Rattle.wc_read.specs.Decoded.{ItemIndex, decoded_module}
use Rattle.wc_read.specs.Entries.{refs_in}
use Rattle.wc_gc.specs.Private.Search.{finds}
use Rattle.wc_gc.proofs.ReachLemmas.{all_there, reached_in_range, step_at}
use Rattle.wc_graph.proofs.ListLemmas.{falls_by}
use Rattle.wc_gc.proofs.TrimPlaceLemmas.{refused_at}
use Rattle.wc_gc.proofs.ItemCountLemmas.{bounded_found, total}
use Rattle.wc_graph.proofs.ListLemmas.{resized}
use Rattle.wc_gc.proofs.FinderSearchLemmas.{all_found, finders_start, finders_step, found_reached}
use Rattle.wc_graph.proofs.ShortestLemmas.{grown_longer}
use Rattle.wc_gc.proofs.finders.find_all.Goals as goal

pub loop-next-init : goal.loop-next-init
loop-next-init c =
    let n : vec_len c.args.roots.order ≡ length c.args.roots.order.items = search rules in
    let sized : length c.in_ok-finder.finder.items ≡ length c.args.roots.order.items = c.in_ok-finder.ensures.each ∙ (c.len.ensures ∙ n) in
    finders_start (decoded_module c.args.adapter.now) (finds (λ b. bit_of b.words.items) c.args.roots) c.args.roots.order.items c.in_ok-finder.finder.items
    c.requires.consistent sized (λ k h. c.in_ok-finder.ensures.own k (let e = c.len.ensures in omega (arith, h, e, n)))

pub loop-next-preserved : goal.loop-next-preserved
loop-next-preserved c =
    let m = decoded_module c.args.adapter.now in
    let has = finds (λ b. bit_of b.words.items) c.loop-next.search in
    let has' = finds (λ b. bit_of b.words.items) c.reach_from.new.self in
    let found = c.loop-next.search.order.items in
    let found' = c.reach_from.new.self.order.items in
    let within : c.loop-next.next < length found = search rules in
    let grown = c.in-Ok.ensures.found c.loop-next.invariant.at.searched.tied in
    let n : vec_len c.reach_from.new.self.order ≡ length found' = search rules in
    let held : vec_len c.loop-next.finder ≡ length c.loop-next.finder.items = search rules in
    let z : length c.loop-next.finder.items ≡ length found = c.loop-next.invariant.tree.1.sized in
    let read : (d : ItemIndex) → get_or found c.loop-next.next d ≡ c.index-item.result.now =
    (λ d. get_or_default found c.loop-next.next d c.index-item.result.now within ∙ sym c.index-item.ensures) in
    finders_step m c.args.roots.order.items has found c.loop-next.finder.items c.loop-next.next has' found' c.resize.new.self.items c.index-item.result.now within read
    c.loop-next.invariant grown
    (step_at m c.args.roots.order.items has found c.loop-next.next has' found' c.index-item.result.now within read c.loop-next.invariant.at c.in-Ok.ensures.found
    (c.in-Ok.ensures.in_range refl))
    (resized c.loop-next.finder.items c.resize.new.self.items c.len-in-Ok.result (vec_len c.loop-next.finder) (length found') (length found) c.loop-next.next
    c.in_ok-resize-in-Ok.ensures.items (c.len-in-Ok.ensures ∙ n) (held ∙ z) z (grown_longer found has' found' (refs_in m c.index-item.result.now) grown))

pub returns-clause-found : goal.returns-clause-found
returns-clause-found c =
    let over : length c.loop-next.search.order.items ≤ c.loop-next.next = search rules in
    all_found (decoded_module c.args.adapter.now) c.args.roots.order.items (finds (λ b. bit_of b.words.items) c.loop-next.search) c.loop-next.search.order.items
    c.loop-next.finder.items c.loop-next.next over c.loop-next.invariant

pub returns-clause-begins : goal.returns-clause-begins
returns-clause-begins c = c.loop-next.invariant.begins

pub returns-clause-own : goal.returns-clause-own
returns-clause-own c = c.loop-next.invariant.own

pub returns-clause-reached : goal.returns-clause-reached
returns-clause-reached c =
    let over : length c.loop-next.search.order.items ≤ c.loop-next.next = search rules in
    found_reached (decoded_module c.args.adapter.now) c.args.roots.order.items (finds (λ b. bit_of b.words.items) c.loop-next.search) c.loop-next.search.order.items
    c.loop-next.next over c.loop-next.invariant.at

pub returns-clause-in_range : goal.returns-clause-in_range
returns-clause-in_range c =
    let over : length c.loop-next.search.order.items ≤ c.loop-next.next = search rules in
    λ _. reached_in_range (decoded_module c.args.adapter.now) c.args.roots.order.items (finds (λ b. bit_of b.words.items) c.loop-next.search) c.loop-next.search.order.items
    c.loop-next.next over c.loop-next.invariant.at

pub returns-in-LiveBody-clause-stop : goal.returns-in-LiveBody-clause-stop
returns-in-LiveBody-clause-stop c =
    let within : c.loop-next.next < length c.loop-next.search.order.items = search rules in
    inr (
      c.index-item.result.now.1,
      refl,
      refused_at (decoded_module c.args.adapter.now) c.args.roots.order.items (finds (λ b. bit_of b.words.items) c.loop-next.search) c.loop-next.search.order.items
          c.loop-next.next c.loop-next.invariant.at within c.index-item.result.now (sym c.index-item.ensures)
          (elim c.in-Err.ensures.fault [ inl e ↦ absurd (cc (e, c.in-LiveBody.is)) | inr b ↦ b.1 ]),
    )

pub loop-next-smaller : goal.loop-next-smaller
loop-next-smaller c =
    let within : c.loop-next.next < length c.loop-next.search.order.items = search rules in
    let bounded = bounded_found (decoded_module c.args.adapter.now) c.loop-next.search.order.items c.loop-next.invariant.at.searched.tied.distinct
    (all_there (decoded_module c.args.adapter.now) c.args.roots.order.items
    (finds (λ b. bit_of b.words.items) c.loop-next.search) c.loop-next.search.order.items c.loop-next.next c.requires.there c.loop-next.invariant.at) in
    falls_by (total (decoded_module c.args.adapter.now)) c.loop-next.next (length c.loop-next.search.order.items) within bounded
