use Rattle.wc_adapters.specs.Adapters.{instance_view}
use Rattle.wc_validate.proofs.ArgumentLemmas.{argument_added, argument_passed}
use Rattle.wc_validate.proofs.imports.arguments.add_argument.Goals as goal

pub returns-then-contains_key : goal.returns-then-contains_key
returns-then-contains_key c = λ entries same.
    argument_passed c.args.index.now.entries c.args.name.now (instance_view c.args.instance.now)
    c.contains_key.result entries c.contains_key.ensures c.if-contains_key.true same

pub returns : goal.returns
returns c = let h = c.in_ok-insert.ensures.entries in λ entries same.
    argument_added c.args.index.now.entries c.insert.new.self.entries c.args.name c.in_ok-argument.argument (instance_view c.args.instance.now)
    c.contains_key.result entries
    c.in_ok-insert.ensures.entries c.contains_key.ensures c.if-contains_key.false c.in_ok-argument.ensures same
