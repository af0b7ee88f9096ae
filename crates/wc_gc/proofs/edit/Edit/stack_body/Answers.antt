use Rattle.wc_gc.specs.Edit.{called_realloc, stack_of, state_of}
use Rattle.wc_gc.specs.Private.Edit.{found_of, funcs_of, new_indices}
use Rattle.wc_gc.proofs.EditLemmas.{stack_new}
use Rattle.wc_gc.proofs.edit.Edit.stack_body.Goals as goal

pub returns : goal.returns
returns c =
    rw (c.called_realloc.ensures, c.stack.ensures, c.state.ensures) (stack_new (new_indices c.args.self)
    (called_realloc (funcs_of c.args.self) c.args.self.parts (found_of c.args.self)) (stack_of (found_of c.args.self)) (state_of (found_of c.args.self)))
