use Rattle.std.proofs.Common.{arith}
use Rattle.wc_validate.proofs.ExportedItemLemmas.{func_item, func_typed, global_item, memory_item, table_item}
use Rattle.wc_validate.proofs.exports.record.exported_type.Goals as goal

pub index-requires-in-Func : goal.index-requires-in-Func
index-requires-in-Func c =
    omega (
      arith,
      c.args.module.now.types.ok.0,
      func_typed c.args.module.now c.args.kind c.args.index c.requires.item c.index.result.now c.in-Func.is
          c.index.ensures c.requires.typed,
    )

pub returns-in-Func : goal.returns-in-Func
returns-in-Func c =
    func_item c.args.module.now c.args.kind c.args.index c.requires.item c.index.result.now c.index-in-Func.result.now c.in-Func.is c.index.ensures
    c.requires.typed c.index-in-Func.ensures

pub returns-in-Table : goal.returns-in-Table
returns-in-Table c = table_item c.args.module.now c.args.kind c.args.index c.requires.item c.index-in-Table.result.now c.in-Table.is c.index-in-Table.ensures

pub returns-in-Memory : goal.returns-in-Memory
returns-in-Memory c =
    memory_item c.args.module.now c.args.kind c.args.index c.requires.item c.index-in-Memory.result.now c.in-Memory.is c.index-in-Memory.ensures

pub returns-in-Global : goal.returns-in-Global
returns-in-Global c =
    global_item c.args.module.now c.args.kind c.args.index c.requires.item c.index-in-Global.result.now c.in-Global.is c.index-in-Global.ensures
