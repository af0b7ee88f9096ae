use Rattle.wc_gc.specs.Edit.{memory_of}
use Rattle.wc_gc.specs.Found.{found_view}
use Rattle.wc_gc.specs.NewIndices.{new_of}
use Rattle.wc_gc.proofs.EditLemmas.{growing_new}
use Rattle.wc_gc.proofs.edit.Edit.growing_body.Goals as goal

pub returns : goal.returns
returns c =
    growing_new (new_of c.args.self.new.now) c.args.self.settings.page_size_log2 (memory_of (found_view c.args.self.found.now)) c.args.self.memory
