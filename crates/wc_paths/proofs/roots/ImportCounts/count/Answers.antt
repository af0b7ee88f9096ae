use Rattle.std.proofs.Common.{arith}
use Rattle.wc_read.specs.declared.operators.Space.TheVariants.{Funcs, Tables, Memories, Globals}
use Rattle.wc_paths.proofs.roots.ImportCounts.count.Goals as goal

pub overflow_add-self : goal.overflow_add-self
overflow_add-self c = let less = c.requires Funcs in omega (arith, less)

pub overflow_add-self-in-Table : goal.overflow_add-self-in-Table
overflow_add-self-in-Table c = let less = c.requires Tables in omega (arith, less)

pub overflow_add-self-in-Memory : goal.overflow_add-self-in-Memory
overflow_add-self-in-Memory c = let less = c.requires Memories in omega (arith, less)

pub overflow_add-self-in-Global : goal.overflow_add-self-in-Global
overflow_add-self-in-Global c = let less = c.requires Globals in omega (arith, less)
