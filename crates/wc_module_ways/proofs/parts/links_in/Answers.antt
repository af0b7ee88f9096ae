use Rattle.std.proofs.Common.{◌∙◌, ap, map, subst}
use Rattle.std.proofs.lemmas.Result.{IfOk-weaker}
use Rattle.wc_read.specs.Imports.{import_value}
use Rattle.wc_read.specs.Modules.{ModuleValue}
use Rattle.wc_paths.specs.Counts.{counts_value}
use Rattle.wc_why.specs.Part.{link_view}
use Rattle.wc_module_ways.specs.Adapters.{adapter_view}
use Rattle.wc_module_ways.specs.CoreModules.{core_view}
use Rattle.wc_module_ways.specs.Parts.{AreLinks}
use Rattle.wc_module_ways.specs.Private.Places.{ArePlaces}
use Rattle.wc_module_ways.specs.Private.Servers.{server_view}
use Rattle.wc_module_ways.specs.Servers.{servers_of}
use Rattle.wc_module_ways.proofs.parts.links_in.Goals as goal

pub returns : goal.returns
returns c =
    let p = c.args.modules.now in
    let servers = servers_of (map adapter_view p.adapters.items) (map core_view p.core.items) in
    let places = subst (λ z. ArePlaces z c.in_ok-places.places.entries) (ap (map server_view) c.deref.ensures.value ∙ c.in_ok-servers.ensures) c.in_ok-places.ensures in
    let imports = ap (map import_value) c.deref-2.ensures.value ∙ ap (λ (m : ModuleValue). m.imports) c.code.ensures in
    IfOk-weaker c.links_of.result _ _
    (λ v are. subst (λ z. AreLinks z (counts_value c.args.counts.now) servers (map link_view v.items)) imports (are servers places))
    c.links_of.ensures
