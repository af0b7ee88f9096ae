use Rattle.std.proofs.Common.{map}
use Rattle.std.proofs.lemmas.Result.{on_ok_weaker}
use Rattle.wc_read.specs.Modules.{module_value}
use Rattle.wc_ways.specs.Private.Wanted.{wanted_view}
use Rattle.wc_ways.proofs.FoundLemmas.{found_alone, found_trimmed}
use Rattle.wc_ways.proofs.found.put_adapter.Goals as goal

pub returns-then-adapter : goal.returns-then-adapter
returns-then-adapter c w key asked y bytes is =
    on_ok_weaker c.put_records.result
    (found_alone w key c.args.part y bytes c.args.adapter.now is c.if-adapter.true (map wanted_view c.args.wanted.now.items)
    (map wanted_view c.put_records.new.wanted.items))
    (c.put_records.ensures w key asked (module_value c.args.adapter.now.code).imports is.places)

pub returns-else-adapter : goal.returns-else-adapter
returns-else-adapter c w key asked y bytes is =
    on_ok_weaker c.put_imports.result
    (found_trimmed w key c.args.part y bytes c.args.adapter.now is c.if-adapter.false (map wanted_view c.args.wanted.now.items)
    (map wanted_view c.put_imports.new.wanted.items) c.deref.result.now c.deref.ensures.value)
    (c.put_imports.ensures w key asked)
