use Rattle.std.proofs.Common.{rules}
use Rattle.wc_write.specs.Modules.{built_value_by}
use Rattle.wc_write.proofs.ModuleSectionLemmas.{each_size_fits, all_sizes_fit, sections_written}
use Rattle.wc_write.proofs.modules.append_sections.Goals as goal

pub returns-in_err-append_types-clause-too_large : goal.returns-in_err-append_types-clause-too_large
returns-in_err-append_types-clause-too_large g c = λ e s. c.in_err-append_types.ensures (search rules) ((rw c.deref.ensures.value ((each_size_fits (built_value_by g.C.BodyText.body g.I.InitText.init c.args.built.now) s).types)))

pub returns-in_err-append_imports-clause-too_large : goal.returns-in_err-append_imports-clause-too_large
returns-in_err-append_imports-clause-too_large g c = λ e s. c.in_err-append_imports.ensures (search rules) ((each_size_fits (built_value_by g.C.BodyText.body g.I.InitText.init c.args.built.now) s).imports)

pub returns-in_err-append_func_types-clause-too_large : goal.returns-in_err-append_func_types-clause-too_large
returns-in_err-append_func_types-clause-too_large g c = λ e s. c.in_err-append_func_types.ensures (search rules) ((rw c.deref-2.ensures.value ((each_size_fits (built_value_by g.C.BodyText.body g.I.InitText.init c.args.built.now) s).func_types)))

pub returns-in_err-append_tables-clause-too_large : goal.returns-in_err-append_tables-clause-too_large
returns-in_err-append_tables-clause-too_large g c = λ e s. c.in_err-append_tables.ensures (search rules) ((rw c.deref-3.ensures.value ((each_size_fits (built_value_by g.C.BodyText.body g.I.InitText.init c.args.built.now) s).tables)))

pub returns-in_err-append_memories-clause-too_large : goal.returns-in_err-append_memories-clause-too_large
returns-in_err-append_memories-clause-too_large g c = λ e s. c.in_err-append_memories.ensures (search rules) ((rw c.deref-4.ensures.value ((each_size_fits (built_value_by g.C.BodyText.body g.I.InitText.init c.args.built.now) s).memories)))

pub returns-in_err-append_globals-clause-too_large : goal.returns-in_err-append_globals-clause-too_large
returns-in_err-append_globals-clause-too_large g c = λ e s. c.in_err-append_globals.ensures (search rules) ((rw c.deref-5.ensures.value ((each_size_fits (built_value_by g.C.BodyText.body g.I.InitText.init c.args.built.now) s).globals)))

pub returns-in_err-append_exports-clause-too_large : goal.returns-in_err-append_exports-clause-too_large
returns-in_err-append_exports-clause-too_large g c = λ e s. c.in_err-append_exports.ensures (search rules) ((rw c.deref-6.ensures.value ((each_size_fits (built_value_by g.C.BodyText.body g.I.InitText.init c.args.built.now) s).exports)))

pub returns-in_err-append_start-clause-too_large : goal.returns-in_err-append_start-clause-too_large
returns-in_err-append_start-clause-too_large g c = λ e s. c.in_err-append_start.ensures (search rules) ((each_size_fits (built_value_by g.C.BodyText.body g.I.InitText.init c.args.built.now) s).start)

pub returns-in_err-append_code-clause-too_large : goal.returns-in_err-append_code-clause-too_large
returns-in_err-append_code-clause-too_large g c = λ e s. c.in_err-append_code.ensures (search rules) ((rw c.deref-7.ensures.value ((each_size_fits (built_value_by g.C.BodyText.body g.I.InitText.init c.args.built.now) s).code)))

pub returns-in_err-append_producers-clause-too_large : goal.returns-in_err-append_producers-clause-too_large
returns-in_err-append_producers-clause-too_large g c = λ e s. c.in_err-append_producers.ensures (search rules) ((each_size_fits (built_value_by g.C.BodyText.body g.I.InitText.init c.args.built.now) s).producers)

pub returns-clause-written : goal.returns-clause-written
returns-clause-written g c =
    sections_written (built_value_by g.C.BodyText.body g.I.InitText.init c.args.built.now) _ _ _ _ _ _ _ _ _ _ _
    (rw c.deref.ensures.value at c.in_ok-append_types.ensures.0)
    c.in_ok-append_imports.ensures.0
    (rw c.deref-2.ensures.value at c.in_ok-append_func_types.ensures.0)
    (rw c.deref-3.ensures.value at c.in_ok-append_tables.ensures.0)
    (rw c.deref-4.ensures.value at c.in_ok-append_memories.ensures.0)
    (rw c.deref-5.ensures.value at c.in_ok-append_globals.ensures.0)
    (rw c.deref-6.ensures.value at c.in_ok-append_exports.ensures.0)
    c.in_ok-append_start.ensures.0
    (rw c.deref-7.ensures.value at c.in_ok-append_code.ensures.0)
    c.in_ok-append_producers.ensures.0

pub returns-clause-fits : goal.returns-clause-fits
returns-clause-fits g c = λ _. all_sizes_fit (built_value_by g.C.BodyText.body g.I.InitText.init c.args.built.now) (record {
  types = (rw c.deref.ensures.value at c.in_ok-append_types.ensures.1);
  imports = c.in_ok-append_imports.ensures.1;
  func_types = (rw c.deref-2.ensures.value at c.in_ok-append_func_types.ensures.1);
  tables = (rw c.deref-3.ensures.value at c.in_ok-append_tables.ensures.1);
  memories = (rw c.deref-4.ensures.value at c.in_ok-append_memories.ensures.1);
  globals = (rw c.deref-5.ensures.value at c.in_ok-append_globals.ensures.1);
  exports = (rw c.deref-6.ensures.value at c.in_ok-append_exports.ensures.1);
  start = c.in_ok-append_start.ensures.1;
  code = (rw c.deref-7.ensures.value at c.in_ok-append_code.ensures.1);
  producers = c.in_ok-append_producers.ensures.1;
})
