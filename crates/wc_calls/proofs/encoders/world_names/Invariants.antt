use Rattle.std.proofs.Common.{◌≡◌, map, string_bytes}
use Rattle.std.specs.List.{range_with_len}
use Rattle.wc_json.specs.Document.{document_view}
use Rattle.wc_selection.specs.Worlds.{world_name}
use Rattle.wc_calls.proofs.encoders.world_names.Given as goal

abbrev pub invariant-loop-index : goal.invariant-loop-index
invariant-loop-index l = map string_bytes l.names.items ≡ map (world_name (document_view l.document)) (range_with_len 0 l.index)
