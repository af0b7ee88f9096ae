use Rattle.std.proofs.Common.{◌≡◌, ◌++◌, map, subst, sym}
use Rattle.std.specs.Result.{OnOk}
use Rattle.wc_resolve.specs.Views.{item_view}
use Rattle.wc_record.specs.ExportOptions.{lifted_item}
use Rattle.wc_record.specs.Private.ExportOptions.{lifted_view}
use Rattle.wc_record.proofs.export_options.push_item.Goals as goal

pub returns-in-Interface : goal.returns-in-Interface
returns-in-Interface c =
    subst (λ z. OnOk c.push_interface.result (map lifted_view c.push_interface.new.list.items ≡ map lifted_view c.args.list.now.items
    ++ lifted_item c.args.resolve.now (item_view z))) (sym c.in-Interface.is) c.push_interface.ensures

pub returns-in-Function : goal.returns-in-Function
returns-in-Function c =
    subst (λ z. OnOk c.push_function.result (map lifted_view c.push_function.new.list.items ≡ map lifted_view c.args.list.now.items
    ++ lifted_item c.args.resolve.now (item_view z))) (sym c.in-Function.is) c.push_function.ensures
