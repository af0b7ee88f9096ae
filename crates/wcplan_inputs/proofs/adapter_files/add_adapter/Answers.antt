use Rattle.wcplan_inputs.proofs.adapter_files.add_adapter.Goals as goal

pub returns : goal.returns
returns c = λ q keys are. (c.in_ok-name.name, c.in_ok-name.adapter, c.in_ok-name.ensures q keys are, c.in_ok-insert_adapter.ensures)
