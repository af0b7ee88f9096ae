use Rattle.std.proofs.Common.{◌∙◌}
use Rattle.wc_record.proofs.ShapeLemmas.{rest_begun_at, rest_done, rest_next}
use Rattle.wc_record.proofs.maps.IndexMapToJson.write.Goals as goal

pub loop-key-init : goal.loop-key-init
loop-key-init g c =
    rest_begun_at c.args.self.now.entries c.into_iter-key-iterator.result (λ e. g.V.EntryToJson.entry_view e.0 e.1) g.V.EntryToJson.entry_json
    (c.into_iter-key-iterator.ensures.into_iter_gives ∙ c.iter-key-items.ensures.rest) c.in_ok-begin_array.ensures

pub loop-key-preserved : goal.loop-key-preserved
loop-key-preserved g c =
    rest_next (c.in-Some.key.now, c.in-Some.value.now) c.loop-key.key-iterator c.next.new.self
    (λ e. g.V.EntryToJson.entry_view e.0 e.1) g.V.EntryToJson.entry_json
    c.in-Some.ensures.steps c.loop-key.invariant c.in_ok-write_entry.ensures

pub returns : goal.returns
returns g c =
    rest_done c.loop-key.key-iterator (λ e. g.V.EntryToJson.entry_view e.0 e.1) g.V.EntryToJson.entry_json _ _
    c.in-None.ensures.steps.0 c.loop-key.invariant c.end_array.ensures
