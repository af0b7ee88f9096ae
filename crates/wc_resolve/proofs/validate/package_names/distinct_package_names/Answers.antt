use Rattle.wc_resolve.proofs.validate.package_names.distinct_package_names.Goals as goal

pub returns-clause-names : goal.returns-clause-names
returns-clause-names c = rw c.deref.ensures.value at c.distinct_names.ensures.names

pub returns-clause-refusal : goal.returns-clause-refusal
returns-clause-refusal c = rw c.deref.ensures.value at c.distinct_names.ensures.refusal
