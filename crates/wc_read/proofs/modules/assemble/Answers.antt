use Rattle.std.proofs.Common.{refl}
use Rattle.wc_read.proofs.ModulesLemmas.{same_ids}
use Rattle.wc_read.proofs.modules.assemble.Goals as goal

pub returns-clause-found : goal.returns-clause-found
returns-clause-found c =
    let funcs = rw (c.deref.ensures.value, c.deref-2.ensures.value, c.deref-3.ensures.value) at c.in_ok-funcs.ensures in
    let tables = rw (c.deref-4.ensures.value, c.deref-5.ensures.value) at c.in_ok-tables.ensures in
    let memories = rw (c.deref-6.ensures.value, c.deref-7.ensures.value) at c.in_ok-memories.ensures in
    let globals = rw (c.deref-8.ensures.value, c.deref-9.ensures.value) at c.in_ok-globals.ensures in
    let names = c.in_ok-global_names.ensures.found in
    record {
      custom = record { global_names = _; producers = _ };
      has_custom = record { pairs = names.0; has_pairs = names.1; has_names = names.2; has_producers = c.in_ok-producers.ensures.found };
      is = rw (funcs, tables, memories, globals, c.in_ok-ids.ensures, same_ids c.args.sections.now) refl;
    }
