use Rattle.std.proofs.Common.{◌∙◌, ap, append-nil, map, sym}
use Rattle.std.proofs.lemmas.Result.{on_ok_weaker}
use Rattle.wc_names.specs.Views.{import_view}
use Rattle.wc_why.specs.Texts.{text_of}
use Rattle.wc_ways.specs.Private.AskedKeys.{texts_at}
use Rattle.wc_ways.specs.Private.Wanted.{wanted_view}
use Rattle.wc_ways.proofs.FoundLemmas.{found_none, found_put}
use Rattle.wc_ways.proofs.found.put_import.Goals as goal

pub returns-in-Some-interfaces : goal.returns-in-Some-interfaces
returns-in-Some-interfaces c w key asked =
    rw c.in-Some.is (on_ok_weaker c.put_under.result
    (found_put w key c.args.asking.part c.args.import.«module».now c.args.import.name.now (import_view c.args.recorded.now) c.in-Some.item
    (map wanted_view c.args.wanted.now.items) c.own_name-name.result.now (map text_of c.deref.result.now) (map wanted_view c.put_under.new.wanted.items)
    c.own_name-name.ensures
    (ap (map text_of) c.deref.ensures.value ∙ sym (ap texts_at c.in-Some-interfaces.is) ∙ c.interfaces.ensures w key asked))
    c.put_under.ensures)

pub returns-in-None-interfaces : goal.returns-in-None-interfaces
returns-in-None-interfaces c w key asked =
    rw c.in-Some.is (found_none w key c.args.asking.part c.args.import.«module».now c.args.import.name.now (import_view c.args.recorded.now) c.in-Some.item
    (map wanted_view c.args.wanted.now.items) (sym (ap texts_at c.in-None-interfaces.is) ∙ c.interfaces.ensures w key asked))

pub returns-in-None : goal.returns-in-None
returns-in-None c w key asked = rw c.in-None.is (sym (append-nil (map wanted_view c.args.wanted.now.items)))
