-- The type of an item, as the code has it.
use Rattle.wc_read.specs.Types.{func_type_value}
use Rattle.wc_record.specs.Scans.{ItemTypeValue, of_func, of_global, of_memory, of_table}
use Rattle.wc_record.specs.declared.scans.ItemType.{ItemType}
use Rattle.wc_record.specs.declared.scans.ItemType.TheVariants.{Func, Global, Memory, Table}

abbrev pub item_type_value : ItemType → ItemTypeValue
item_type_value (Func f) = of_func (func_type_value f.now)
item_type_value (Table t) = of_table t
item_type_value (Memory m) = of_memory m
item_type_value (Global g) = of_global g
