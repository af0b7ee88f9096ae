use Rattle.std.proofs.Common.{map, ◌∙◌, sym}
use Rattle.wc_maps.specs.Texts.{text_of}
use Rattle.wc_ways.proofs.WantedLemmas.{wanted_kept, wanted_put}
use Rattle.wc_ways.proofs.summary_adapters.note_wanted.Goals as goal

pub returns-then-is_in_set : goal.returns-then-is_in_set
returns-then-is_in_set c = wanted_kept (map text_of c.args.always.now.keys) c.args.name.now c.args.wanted.now.entries (sym c.is_in_set.ensures ∙ c.if-is_in_set.true)

pub returns : goal.returns
returns c =
    wanted_put (map text_of c.args.always.now.keys) c.args.name.now c.args.wanted.now.entries c.in_ok-own.own _ c.insert.new.self.entries c.in_ok-own.ensures.ok
    c.in_ok-insert.ensures.entries (sym c.is_in_set.ensures ∙ c.if-is_in_set.false)
