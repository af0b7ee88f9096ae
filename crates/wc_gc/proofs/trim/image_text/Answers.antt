use Rattle.std.proofs.Common.{refl, map, inr}
use Rattle.std.proofs.lemmas.Result.{err_from_is_err_and}
use Rattle.wc_read.specs.Exports.{export_value}
use Rattle.wc_read.specs.Decoded.{decoded_module}
use Rattle.wc_gc.specs.Found.{found_view}
use Rattle.wc_gc.specs.Live.{has_item}
use Rattle.wc_gc.specs.Parts.{settings_view}
use Rattle.wc_gc.proofs.TrimLemmas.{found_fault, text_fault, none_later}
use Rattle.wc_gc.proofs.trim.image_text.Goals as goal

pub returns-in_err-check_found-clause-fault : goal.returns-in_err-check_found-clause-fault
returns-in_err-check_found-clause-fault g c =
    let p = err_from_is_err_and c.from_residual-in_err-check_found.result c.from_residual-in_err-check_found.ensures.1 in
    rw (p.1, p.2) (inr (found_fault (settings_view c.args.settings) (decoded_module c.args.adapter) (map export_value c.args.reached.now.exports.items) (has_item g.L.LiveSet.has c.args.reached.now.found.live)
    (found_view c.in_ok-found.found) c.in_ok-found.ensures _ c.in_err-check_found.ensures.fault))

pub returns-clause-fault : goal.returns-clause-fault
returns-clause-fault g c =
    text_fault (settings_view c.args.settings) (decoded_module c.args.adapter) (map export_value c.args.reached.now.exports.items) (has_item g.L.LiveSet.has c.args.reached.now.found.live)
    (found_view c.in_ok-found.found) c.in_ok-found.ensures (c.in_ok-check_found.ensures.none refl) c.edited_text.result c.edited_text.ensures.fault

pub returns-clause-none : goal.returns-clause-none
returns-clause-none g c =
    λ ok. none_later (settings_view c.args.settings) (decoded_module c.args.adapter) (map export_value c.args.reached.now.exports.items) (has_item g.L.LiveSet.has c.args.reached.now.found.live)
    (found_view c.in_ok-found.found) c.in_ok-found.ensures (c.in_ok-check_found.ensures.none refl) (c.edited_text.ensures.fits ok)
