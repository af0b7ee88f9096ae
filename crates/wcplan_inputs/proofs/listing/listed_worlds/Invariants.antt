use Rattle.std.proofs.Common.{◌≡◌, string_bytes}
use Rattle.wc_json.specs.Document.{document_view}
use Rattle.wcplan_inputs.specs.Listing.{listed_worlds}
use Rattle.wcplan_inputs.proofs.listing.listed_worlds.Given as goal

abbrev pub invariant-loop-index : goal.invariant-loop-index
invariant-loop-index l = string_bytes l.text ≡ listed_worlds (document_view l.document) l.index
