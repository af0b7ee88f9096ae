use Rattle.std.proofs.Common.{List, ◌∙◌, refl, map, ap, subst}
use Rattle.wc_read.specs.Exports.{export_value}
use Rattle.wc_read.specs.Modules.{module_value}
use Rattle.wc_read.specs.Decoded.{ItemIndex, decode, exported_item}
use Rattle.wc_read.specs.Entries.{refs_in}
use Rattle.wc_graph.specs.Reached.{IsReachedFrom}
use Rattle.wc_gc.specs.Bits.{bit_of}
use Rattle.wc_gc.specs.Live.{has_item}
use Rattle.wc_gc.specs.LiveItems.{names_of}
use Rattle.wc_gc.proofs.LivenessLemmas.{roots_there, roots_seen, liveness_is, same_live}
use Rattle.wc_gc.proofs.TrimPlaceLemmas.{stop_refusal}
use Rattle.wc_gc.proofs.live_items.find_live_in.Goals as goal

pub reach_all-requires-clause-there : goal.reach_all-requires-clause-there
reach_all-requires-clause-there g c =
    let kept = ap (map export_value) c.deref.ensures.value ∙ c.in_ok-exports.ensures.kept in
    let same = c.deref-2.ensures.value ∙ (c.in_ok-roots.ensures ∙ (roots_seen c.deref.result.now ∙ ap (map exported_item) kept)) in
    roots_there c.args.adapter.now (names_of c.args.required.now.keys) c.deref-2.result.now c.requires same

pub returns-in-Err-clause-refusal : goal.returns-in-Err-clause-refusal
returns-in-Err-clause-refusal g c =
    let kept = ap (map export_value) c.deref.ensures.value ∙ c.in_ok-exports.ensures.kept in
    let same = c.deref-2.ensures.value ∙ (c.in_ok-roots.ensures ∙ (roots_seen c.deref.result.now ∙ ap (map exported_item) kept)) in
    stop_refusal c.args.adapter.now (names_of c.args.required.now.keys) c.deref-2.result.now
    (λ x r. subst (λ (z : List ItemIndex). IsReachedFrom (refs_in (decode (module_value c.args.adapter.now))) z x) same r)
    (c.in_ok-exports.ensures.supported refl) c.in-Err.stop _ c.in-Err.ensures.stop c.stopped.ensures

pub returns-clause-live : goal.returns-clause-live
returns-clause-live g c =
    let kept = ap (map export_value) c.deref.ensures.value ∙ c.in_ok-exports.ensures.kept in
    let same = c.deref-2.ensures.value ∙ (c.in_ok-roots.ensures ∙ (roots_seen c.deref.result.now ∙ ap (map exported_item) kept)) in
    same_live (names_of c.args.required.now.keys) (module_value c.args.adapter.now) (has_item g.L.LiveSet.has c.in_ok-live.live) (has_item (λ b. bit_of b.words.items) c.reach_all.new.self.live) c.in-Ok.turns c.in_ok-live.ensures
    (liveness_is c.args.adapter.now (names_of c.args.required.now.keys) c.deref-2.result.now (has_item (λ b. bit_of b.words.items) c.reach_all.new.self.live) c.in-Ok.turns same
    (c.in-Ok.ensures.reached refl) c.in-Ok.ensures.counted (c.in-Ok.ensures.in_range refl) (c.in_ok-exports.ensures.supported refl))

pub returns-clause-cut : goal.returns-clause-cut
returns-clause-cut g c = c.finish.ensures c.args.adapter.now.funcs.items (c.in-Ok.ensures.cut (c.in_ok-cuts.ensures c.args.adapter.now.funcs.items))
