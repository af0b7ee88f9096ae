use Rattle.std.proofs.Common.{◌≡◌}
use Rattle.std.specs.List.{filter, range_with_len}
use Rattle.wc_json.specs.Document.{document_view}
use Rattle.wc_selection.specs.Worlds.{is_named}
use Rattle.wc_selection.proofs.worlds.worlds_named.Given as goal

abbrev pub invariant-loop-index : goal.invariant-loop-index
invariant-loop-index l = l.indices.items ≡ filter (is_named (document_view l.document) l.form l.name) (range_with_len 0 l.index)
