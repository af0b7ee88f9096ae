use Rattle.std.proofs.Common.{◌∙◌, ap, map, rules, string_bytes, subst}
use Rattle.wc_maps.specs.Texts.{text_of}
use Rattle.wc_read.specs.Types.{func_type_value}
use Rattle.wc_validate.specs.Imports.Map.{required_entry}
use Rattle.wc_ways.specs.Private.SummaryAdapters.{NotesWanted}
use Rattle.wc_ways.proofs.WantedLemmas.{wanted_all, wanted_next, wanted_none}
use Rattle.wc_ways.proofs.summary_adapters.wanted_among.Goals as goal

pub loop-name-init : goal.loop-name-init
loop-name-init c =
    let is = ap (map required_entry) c.into_iter-name-iterator.ensures.into_iter_gives in
    let all = ap (map required_entry) c.iter-name-items.ensures.rest in
    wanted_none (map text_of c.args.always.now.keys) (map required_entry c.args.imported.now.entries) _ c.with_hasher-wanted.result.entries (is ∙ all) (search rules)

pub loop-name-preserved : goal.loop-name-preserved
loop-name-preserved c =
    let always = map text_of c.args.always.now.keys in
    wanted_next always (map required_entry c.args.imported.now.entries) (map required_entry c.loop-name.name-iterator) (map required_entry c.next.new.self)
    (string_bytes c.in-Some.name.now, func_type_value c.in-Some._ty.now) c.loop-name.wanted.entries c.note_wanted.new.wanted.entries
    (ap (map required_entry) c.in-Some.ensures.steps)
    (subst (λ z. NotesWanted always z c.loop-name.wanted.entries c.note_wanted.new.wanted.entries) c.deref.ensures c.in_ok-note_wanted.ensures) c.loop-name.invariant

pub returns : goal.returns
returns c =
    wanted_all (map text_of c.args.always.now.keys) (map required_entry c.args.imported.now.entries) (map required_entry c.loop-name.name-iterator) c.loop-name.wanted.entries
    (ap (map required_entry) c.in-None.ensures.steps.0) c.loop-name.invariant
