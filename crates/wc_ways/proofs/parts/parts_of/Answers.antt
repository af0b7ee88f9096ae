use Rattle.std.proofs.Common.{◌∙◌, All, List, ap, map, subst, sym}
use Rattle.wc_why.specs.Part.{part_view}
use Rattle.wc_read.specs.Imports.{import_values}
use Rattle.wc_read.specs.Modules.{ModuleValue}
use Rattle.wc_import_paths.specs.MainModules.{main_view}
use Rattle.wc_world.specs.WorldViews.{world_view}
use Rattle.wc_ways.specs.Parts.{counts_in, links_of}
use Rattle.wc_ways.specs.Private.Modules.{IsRead, codes_in}
use Rattle.wc_ways.specs.Private.Parts.{AreAdapterParts}
use Rattle.wc_ways.specs.declared.modules.AdapterModule.{AdapterModule}
use Rattle.wc_ways.proofs.ModuleLemmas.{all_read}
use Rattle.wc_ways.proofs.PartLemmas.{all_parts}
use Rattle.wc_ways.proofs.parts.parts_of.Goals as goal

pub part-requires : goal.part-requires
part-requires c = c.requires.main.has_main

pub adapter_parts-requires : goal.adapter_parts-requires
adapter_parts-requires c =
    let m = c.args.modules.now in
    subst (All IsRead) (sym c.deref.ensures.value) (all_read (world_view c.args.world.now) m.adapters.items c.requires.adapters)

pub links_of-requires : goal.links_of-requires
links_of-requires c = record { modules = c.requires; rows = c.main_rows.ensures }

pub returns : goal.returns
returns c =
    let w = world_view c.args.world.now in
    let m = c.args.modules.now in
    let codes = codes_in m in
    all_parts w m c.requires (part_view c.in_ok-main.main) (map part_view c.in_ok-parts.parts.items) c.in_ok-main.ensures
    (subst (λ (xs : List AdapterModule). AreAdapterParts xs (map part_view c.in_ok-parts.parts.items)) c.deref.ensures.value c.in_ok-parts.ensures)
    (map part_view c.insert.new.self.items) _
    (c.in_ok-main-2.ensures
    ∙ (λ t. links_of w codes (c.main_rows.ensures.counted t) (import_values (c.deref-2.ensures.value t)))
    ∙ ap (λ (v : ModuleValue). links_of w codes (counts_in (main_view m.main)) v.imports) c.code.ensures)
    (ap (map part_view) c.in_ok-insert.ensures.items)
