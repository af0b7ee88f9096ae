use Rattle.std.proofs.Common.{◌<◌, ◌∙◌, length, ap, sym, arith, string_bytes}
use Rattle.std.proofs.lemmas.List.{get_or-map, length-map}
use Rattle.wc_gc.specs.LiveItems.{names_of}
use Rattle.wc_summary.specs.CoreModules.{core_value}
use Rattle.wc_summary.specs.Entries.{entries_view}
use Rattle.wc_summary.specs.Private.CoreModules.{core_part_at}
use Rattle.wc_summary.specs.Summary.{part_view}
use Rattle.wc_summary.proofs.UseLemmas.{far_all, far_next}
use Rattle.wc_summary.proofs.core_modules.push_core_uses.Goals as goal

pub loop-position-preserved : goal.loop-position-preserved
loop-position-preserved c =
    let all = c.args.interfaces.now in
    let k = c.loop-position.position in
    let n = length-map all string_bytes in
    let within : k < length all = omega arith in
    far_next (core_part_at (core_value c.args.core.now) c.args.uses.now) (names_of all)
    c.requires k c.deref.result.now (part_view c.in_ok-part.part) (entries_view c.args.entries.now.entries) (entries_view c.loop-position.entries.entries)
    (entries_view c.push_one.new.entries.entries) (omega (arith, n, within))
    (get_or-map string_bytes all k c.index-interfaces-position.result c.deref.result.now within ∙ (ap string_bytes (sym c.index-interfaces-position.is) ∙ sym c.deref.ensures))
    c.in_ok-part.ensures c.in_ok-push_one.ensures c.loop-position.invariant

pub returns : goal.returns
returns c =
    let n = length-map c.args.interfaces.now string_bytes in
    far_all (core_part_at (core_value c.args.core.now) c.args.uses.now) (names_of c.args.interfaces.now) c.loop-position.position
    (entries_view c.args.entries.now.entries) (entries_view c.loop-position.entries.entries) (omega (arith, n)) c.loop-position.invariant
