use Rattle.wc_module_ways.proofs.core_parts.part_of_core.Goals as goal

pub returns-in-Followed : goal.returns-in-Followed
returns-in-Followed c = rw c.in-Followed.is c.part_of_followed.ensures
