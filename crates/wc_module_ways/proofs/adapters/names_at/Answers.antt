use Rattle.std.proofs.Common.{◌∙◌, ap, map, sym}
use Rattle.wc_why.specs.Texts.{text_of}
use Rattle.wc_module_ways.proofs.NameListLemmas.{listed_none, listed_there}
use Rattle.wc_module_ways.proofs.adapters.names_at.Goals as goal

pub returns-in-Some : goal.returns-in-Some
returns-in-Some c =
    ap (map text_of) c.as_slice.ensures.value
    ∙ sym (listed_there c.args.lists.now.entries c.args.key.now c.in-Some.names.now (sym c.in-Some.ensures.value))

pub returns-in-None : goal.returns-in-None
returns-in-None c = ap (map text_of) c.requires ∙ sym (listed_none c.args.lists.now.entries c.args.key.now (sym c.in-None.ensures.value))
