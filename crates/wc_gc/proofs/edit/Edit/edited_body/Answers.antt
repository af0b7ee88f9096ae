use Rattle.std.proofs.Common.{None}
use Rattle.std.specs.Prelude.{cond}
use Rattle.wc_read.specs.BodyOperators.{body_in}
use Rattle.wc_gc.specs.NewIndices.{new_of}
use Rattle.wc_gc.proofs.EditLemmas.{called_if, old_new}
use Rattle.wc_gc.proofs.edit.Edit.edited_body.Goals as goal

pub returns : goal.returns
returns c =
    let new = new_of c.args.self.new.now in
    let funcs = c.args.self.new.now.counts.funcs in
    rw c.args.self.same (old_new new funcs c.args.self.parts c.args.exported (body_in c.args.bytes.now) (cond c.args.exported c.args.self.bodies.now.call None) c.requires.code
    (called_if new funcs c.args.self.parts c.args.exported c.args.self.bodies.now.call c.args.self.called))
