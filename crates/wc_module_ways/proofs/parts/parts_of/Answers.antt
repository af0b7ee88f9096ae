use Rattle.std.proofs.Common.{◌∙◌, ◌∷◌, All, List, ap, map, subst, sym}
use Rattle.wc_why.specs.Part.{PartView, link_view, part_view}
use Rattle.wc_import_paths.specs.MainModules.{bytes_in, code_of, main_view}
use Rattle.wc_import_paths.proofs.MainModuleLemmas.{main_fits}
use Rattle.wc_module_ways.specs.Adapters.{IsRead, adapter_view}
use Rattle.wc_module_ways.specs.CoreModules.{HasCore, core_view}
use Rattle.wc_module_ways.specs.Parts.{AreAdapterParts, with_links}
use Rattle.wc_module_ways.specs.Private.CoreParts.{PutsCoreParts}
use Rattle.wc_module_ways.proofs.parts.parts_of.Goals as goal

pub part-requires : goal.part-requires
part-requires c = c.requires.main

pub links_in-requires : goal.links_in-requires
links_in-requires c =
    let p = c.args.modules.now.main in main_fits (bytes_in p) (main_view p) (part_view c.in_ok-main.main) c.in_ok-main.ensures

pub adapter_parts-requires : goal.adapter_parts-requires
adapter_parts-requires c = subst (λ z. All IsRead (map adapter_view z)) (sym c.deref.ensures.value) c.requires.adapters

pub push_core_parts-requires : goal.push_core_parts-requires
push_core_parts-requires c = subst (All HasCore) (sym c.deref-2.ensures.value) c.requires.core

pub returns : goal.returns
returns c =
    let p = c.args.modules.now in
    let imports = (code_of (main_view p.main)).imports in
    let main = part_view c.in_ok-main.main in
    let links = map link_view c.in_ok-links.links.items in
    let adapters = map part_view c.in_ok-parts.parts.items in
    let core = subst (λ z. PutsCoreParts imports (map core_view z) adapters (map part_view c.push_core_parts.new.parts.items)) c.deref-2.ensures.value
    (c.in_ok-push_core_parts.ensures imports c.requires.functions) in
    record {
      first = main;
      is_first = c.in_ok-main.ensures;
      links = links;
      are_links = c.in_ok-links.ensures;
      others = adapters;
      are_others = subst (λ z. AreAdapterParts (map adapter_view z) adapters) c.deref.ensures.value c.in_ok-parts.ensures;
      core = core.parts;
      are_core = core.are_parts;
      are = ap (map part_view) c.in_ok-insert.ensures.items ∙ ap (λ (z : List PartView). with_links main links ∷ z) core.put;
    }
