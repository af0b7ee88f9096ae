use Rattle.std.proofs.Common.{codes, string_bytes}
use Rattle.json.specs.Json.{string}
use Rattle.wc_why_text.specs.Private.Tokens.{Puts}
use Rattle.wc_why_text.proofs.TokenLemmas.{so_far}
use Rattle.wc_component_calls.proofs.places.put_list.Given as goal

abbrev pub invariant-loop-import : goal.invariant-loop-import
invariant-loop-import l = Puts l.fn.out l.out (so_far (codes "imports") string string_bytes l.imports l.import-index)
