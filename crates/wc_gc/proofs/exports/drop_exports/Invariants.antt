use Rattle.std.proofs.Common.{◌≡◌, ℕ, ◌≤◌, ◌<◌, map, drop, length}
use Rattle.std.specs.Prelude.{AllPairs, string_bytes}
use Rattle.wc_read.specs.Exports.{export_value}
use Rattle.wc_gc.specs.Exports.{kept_exports}
use Rattle.wc_gc.specs.Private.KeptOrder.{HasPosition}
use Rattle.wc_gc.proofs.ExportLemmas.{kept_from}
use Rattle.wc_gc.proofs.KeptOrderLemmas.{Differ, export_at}
use Rattle.wc_gc.proofs.exports.drop_exports.Given as goal

abbrev pub invariant-loop-export : goal.invariant-loop-export
invariant-loop-export l = record {
  counted : l.index ≡ l.export-index;
  same : l.kept.items ≡ map (export_at l.exports) l.positions.order.items;
  noted : (n : ℕ) → l.export-index ≤ n → n < length l.exports → HasPosition l.positions n;
  distinct : AllPairs Differ (map export_value l.kept.items);
  rest : kept_from (map string_bytes l.required.keys) (map export_value (drop l.export-index l.exports)) (map export_value l.kept.items)
      ≡ kept_exports (map string_bytes l.required.keys) (map export_value l.exports);
}
