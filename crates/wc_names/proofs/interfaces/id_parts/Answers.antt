use Rattle.wc_names.proofs.InterfaceLemmas.{no_colon, no_slash, no_version}
use Rattle.wc_names.proofs.interfaces.id_parts.Goals as goal

pub returns-in_default : goal.returns-in_default
returns-in_default c = λ p n. no_colon c.args.text.now p n c.in_default.ensures

pub returns-in_default-split_at_first : goal.returns-in_default-split_at_first
returns-in_default-split_at_first c =
    λ p n. no_slash c.args.text.now c.in-Some.namespace.now c.in-Some.rest.now p n c.in-Some.ensures c.in_default-split_at_first.ensures

pub returns-in-None-2 : goal.returns-in-None-2
returns-in-None-2 c =
    λ p n. no_version c.args.text.now c.in-Some.namespace.now c.in-Some.rest.now c.in-Some-split_at_first.name.now c.in-Some-split_at_first.rest.now
    c.in-Some-split_at_first-2.interface.now c.in-Some-split_at_first-2.version.now p n
    c.in-Some.ensures c.in-Some-split_at_first.ensures c.in-Some-split_at_first-2.ensures
    (rw c.in-None-2.is at c.in_ok-version-in-Some-split_at_first-2.ensures)
