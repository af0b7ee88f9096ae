use Rattle.std.proofs.Common.{ap, ◌∙◌}
use Rattle.std.specs.Option.{option_map}
use Rattle.wc_adapters.specs.Adapters.{library_view}
use Rattle.wc_validate.specs.Validate.{module_record}
use Rattle.wc_world.specs.Trimming.{trim_page_size_log2}
use Rattle.wc_world.proofs.FaultLemmas.{page_size_log2_small, some_names, input_trimmed_text, trim_refused}
use Rattle.wc_world.proofs.adapters.trim_to.Goals as goal

pub run_explained-requires-clause-some : goal.run_explained-requires-clause-some
run_explained-requires-clause-some c =
    some_names c.args.input.now c.requires.needed (module_record c.args.first.now) c.main_realloc-realloc.result c.trim_page_size_log2-page_size_log2.result c.deref-wasm.result.now c.args.names.now.keys c.main_realloc-realloc.ensures (c.trim_page_size_log2-page_size_log2.ensures ∙ ap trim_page_size_log2 c.imported_memory.ensures) c.deref-wasm.ensures.value c.requires.names
    (ap (option_map library_view) c.requires.trims) c.requires.original

pub run_explained-requires-clause-paged : goal.run_explained-requires-clause-paged
run_explained-requires-clause-paged c = page_size_log2_small c.imported_memory.result c.trim_page_size_log2-page_size_log2.result c.trim_page_size_log2-page_size_log2.ensures

pub returns-in-Ok-clause-trimmed : goal.returns-in-Ok-clause-trimmed
returns-in-Ok-clause-trimmed c =
    input_trimmed_text c.args.input.now c.requires.needed (module_record c.args.first.now) c.main_realloc-realloc.result c.trim_page_size_log2-page_size_log2.result c.deref-wasm.result.now c.args.names.now.keys c.main_realloc-realloc.ensures (c.trim_page_size_log2-page_size_log2.ensures ∙ ap trim_page_size_log2 c.imported_memory.ensures) c.deref-wasm.ensures.value c.requires.names
    c.in-Ok.bytes.items (ap (option_map library_view) c.requires.trims) c.requires.original c.slices_are_bytes.ensures c.in-Ok.ensures.trimmed

pub returns-in-Err-clause-refusal : goal.returns-in-Err-clause-refusal
returns-in-Err-clause-refusal c =
    trim_refused c.args.input.now c.requires.needed (module_record c.args.first.now) c.main_realloc-realloc.result c.trim_page_size_log2-page_size_log2.result c.deref-wasm.result.now c.args.names.now.keys c.main_realloc-realloc.ensures (c.trim_page_size_log2-page_size_log2.ensures ∙ ap trim_page_size_log2 c.imported_memory.ensures) c.deref-wasm.ensures.value c.requires.names
    c.in-Err.refused.fault c.in-Err.refused.place c.trim_refusal.result (ap (option_map library_view) c.requires.trims) c.requires.original c.in-Err.ensures.fault c.in-Err.ensures.place c.trim_refusal.ensures
