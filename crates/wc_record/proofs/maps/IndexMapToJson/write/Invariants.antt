use Rattle.std.proofs.Common.{map}
use Rattle.wc_record.proofs.ShapeLemmas.{PutsRest}
use Rattle.wc_record.proofs.maps.IndexMapToJson.write.Given as goal

abbrev pub invariant-loop-key : goal.invariant-loop-key
invariant-loop-key g l =
    PutsRest l.fn.out l.out (map g.V.EntryToJson.entry_json (map (λ e. g.V.EntryToJson.entry_view e.0 e.1) l.self.entries))
    (map g.V.EntryToJson.entry_json (map (λ e. g.V.EntryToJson.entry_view e.0 e.1) l.key-iterator))
