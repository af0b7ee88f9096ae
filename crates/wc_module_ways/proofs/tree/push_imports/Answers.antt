use Rattle.std.proofs.Common.{◌≡◌, ◌+◌, ◌++◌, ◌∙◌, ap, get_or, length, map, rules, subst, sym}
use Rattle.std.proofs.lemmas.Result.{on_ok_weaker}
use Rattle.wc_read.specs.Imports.{import_value}
use Rattle.wc_read.specs.Modules.{ModuleValue}
use Rattle.wc_paths.specs.Counts.{counts_value}
use Rattle.wc_why.specs.Part.{part_view}
use Rattle.wc_import_paths.specs.MainModules.{bytes_in, main_view}
use Rattle.wc_import_paths.specs.Shown.{end_view}
use Rattle.wc_module_ways.specs.Adapters.{adapter_view}
use Rattle.wc_module_ways.specs.CoreModules.{core_view}
use Rattle.wc_module_ways.specs.Tree.{all_adapter_ends}
use Rattle.wc_module_ways.specs.Private.Parts.{HasAdapterParts}
use Rattle.wc_module_ways.proofs.EndLemmas.{first_counted, first_fits, first_there, others_in, parts_many}
use Rattle.wc_module_ways.proofs.TreeLemmas.{imports_shown}
use Rattle.wc_module_ways.proofs.tree.push_imports.Goals as goal

pub bounds-parts-0 : goal.bounds-parts-0
bounds-parts-0 c =
    let m = c.args.modules.now in
    first_there (main_view m.main) (bytes_in m.main) (map adapter_view m.adapters.items) (map core_view m.core.items) c.args.parts.now c.requires

pub push_main-requires : goal.push_main-requires
push_main-requires c =
    let m = c.args.modules.now in
    first_fits (main_view m.main) (bytes_in m.main) (map adapter_view m.adapters.items) (map core_view m.core.items) c.args.parts.now c.requires c.index-parts-0.result

pub push_adapters-requires : goal.push_adapters-requires
push_adapters-requires c =
    let m = c.args.modules.now in
    subst (λ z. HasAdapterParts (map adapter_view z) (map part_view c.args.parts.now)) (sym c.deref-2.ensures.value)
    (others_in (main_view m.main) (bytes_in m.main) (map adapter_view m.adapters.items) (map core_view m.core.items) (map part_view c.args.parts.now) c.requires)

pub returns : goal.returns
returns c w v =
    let m = c.args.modules.now in
    let same = ap (map import_value) c.deref.ensures.value ∙ ap (λ (z : ModuleValue). z.imports) c.code.ensures in
    let counted = first_counted (main_view m.main) (bytes_in m.main) (map adapter_view m.adapters.items) (map core_view m.core.items) c.args.parts.now c.requires c.index-parts-0.result in
    let many : c.len.result ≡ length m.adapters.items = search rules in
    on_ok_weaker c.push_core.result
    (λ put. imports_shown m w v c.args.asked.now (counts_value (get_or c.args.parts.now 0 c.index-parts-0.result).counts) counted _ same (map end_view c.args.shown.now.items)
    (map end_view c.push_main.new.shown.items) (map end_view c.push_adapters.new.shown.items) (map end_view c.push_core.new.shown.items)
    (c.in_ok-push_main.ensures w.given v.names)
    (c.in_ok-push_adapters.ensures ∙ ap (λ z. map end_view c.push_main.new.shown.items ++ all_adapter_ends c.args.asked.now 1 (map adapter_view z)) c.deref-2.ensures.value)
    (c.len.result + 1) (ap (λ n. n + 1) many) put)
    (c.push_core.ensures w.given v.names)

pub push_core-requires : goal.push_core-requires
push_core-requires c =
    let m = c.args.modules.now in
    let many = parts_many (main_view m.main) (bytes_in m.main) m.adapters.items m.core.items c.args.parts.now c.requires in
    search (rules, many)
