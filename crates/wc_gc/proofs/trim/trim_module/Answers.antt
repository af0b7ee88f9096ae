use Rattle.std.proofs.Common.{refl}
use Rattle.std.proofs.lemmas.Result.{err_from_is_err_and}
use Rattle.wc_read.specs.Modules.{module_value}
use Rattle.wc_read.specs.Decoded.{decoded_module}
use Rattle.wc_gc.specs.Live.{has_item}
use Rattle.wc_gc.specs.Parts.{settings_view}
use Rattle.wc_gc.specs.LiveItems.{names_of, trim_input}
use Rattle.wc_gc.proofs.LivenessLemmas.{fault_of}
use Rattle.wc_gc.proofs.TrimLemmas.{fault_trims, live_in_range}
use Rattle.wc_gc.proofs.TrimmedLemmas.{trimmed_of, later_of}
use Rattle.wc_gc.proofs.TrimPlaceLemmas.{explained, later_explained}
use Rattle.wc_gc.proofs.trim.trim_module.Goals as goal

pub returns-in_err-reached-clause-fault : goal.returns-in_err-reached-clause-fault
returns-in_err-reached-clause-fault g c =
    let p = err_from_is_err_and c.from_residual.result c.from_residual.ensures.1 in
    rw (p.1, p.2) (λ bytes spelled.
    let w = trim_input bytes c.args.required.now.keys in
    fault_trims (settings_view c.args.settings) w _ (fault_of w (module_value c.args.adapter) spelled _ c.in_err-reached.ensures.refusal.0))

pub returns-in_err-reached-clause-place : goal.returns-in_err-reached-clause-place
returns-in_err-reached-clause-place g c =
    let p = err_from_is_err_and c.from_residual.result c.from_residual.ensures.1 in
    rw (p.1, p.2) (λ bytes spelled. explained (trim_input bytes c.args.required.now.keys) (module_value c.args.adapter) spelled _ _ c.in_err-reached.ensures.refusal.1)

pub image_text-requires-clause-in_range : goal.image_text-requires-clause-in_range
image_text-requires-clause-in_range g c =
    live_in_range c.args.adapter (names_of c.args.required.now.keys) (has_item g.L.LiveSet.has c.in_ok-reached.reached.found.live) c.in_ok-reached.reached.found.turns c.in_ok-reached.ensures.live

pub returns-in-Ok-clause-trimmed : goal.returns-in-Ok-clause-trimmed
returns-in-Ok-clause-trimmed g c =
    let same = c.in_ok-reached.ensures.kept in
    trimmed_of (settings_view c.args.settings) c.args.adapter (names_of c.args.required.now.keys) (has_item g.L.LiveSet.has c.in_ok-reached.reached.found.live) c.in_ok-reached.reached.found.turns c.in_ok-reached.ensures.live _
    c.settings_are_valid.ensures (rw same at c.in-Ok.ensures.written) (rw same at c.in-Ok.ensures.none refl)

pub returns-clause-fault : goal.returns-clause-fault
returns-clause-fault g c =
    let same = c.in_ok-reached.ensures.kept in
    rw c.without_place.ensures.fault
    (later_of (settings_view c.args.settings) c.args.adapter (names_of c.args.required.now.keys) (has_item g.L.LiveSet.has c.in_ok-reached.reached.found.live) c.in_ok-reached.reached.found.turns c.in_ok-reached.ensures.live _
    (rw same at c.in-Err.ensures.fault))

pub returns-clause-place : goal.returns-clause-place
returns-clause-place g c =
    rw (c.without_place.ensures.fault, c.without_place.ensures.place) (λ bytes spelled.
    later_explained (settings_view c.args.settings) (trim_input bytes c.args.required.now.keys) (decoded_module c.args.adapter) _
    (has_item g.L.LiveSet.has c.in_ok-reached.reached.found.live) _ c.in-Err.ensures.fault)
