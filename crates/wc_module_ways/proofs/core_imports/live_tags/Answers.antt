use Rattle.std.proofs.Common.{◌≡◌, ◌<◌, ◌∙◌, ◌∷◌, ◌+◌, ◌&&◌, [], ℕ, ap, false, length, rules}
use Rattle.std.proofs.Math.ListN.{length-append}
use Rattle.wc_read.specs.Imports.{import_value}
use Rattle.wc_read.specs.declared.types.Import.{Import}
use Rattle.wc_summary.specs.Leads.{tags_view}
use Rattle.wc_module_ways.specs.CoreImports.{is_live}
use Rattle.wc_module_ways.specs.Modules.{is_of_core}
use Rattle.wc_module_ways.specs.Tags.{tag_if}
use Rattle.wc_module_ways.proofs.CoreImportLemmas.{live_all, live_next}
use Rattle.wc_module_ways.proofs.EndLemmas.{item_there}
use Rattle.wc_module_ways.proofs.core_imports.live_tags.Goals as goal

pub loop-index-init : goal.loop-index-init
loop-index-init c = record { sized = search rules; are = λ given has. search rules }

pub index-requires : goal.index-requires
index-requires c =
    let imports = c.args.followed.now.code.imports.items in
    let items = c.args.followed.now.items.items in
    let lt : c.loop-index.index < length imports = search rules in
    let small : c.loop-index.index < length items = item_there imports items c.loop-index.index c.requires.items lt in
    search (rules, small)

pub loop-index-preserved : goal.loop-index-preserved
loop-index-preserved c =
    let imports = c.args.followed.now.code.imports.items in
    let items = c.args.followed.now.items.items in
    let k = c.loop-index.index in
    let lt : k < length imports = search rules in
    record {
      sized = ap length c.in_ok-push.ensures.items ∙ (length-append c.loop-index.tags.items (_ ∷ []) ∙ ap (λ (n : ℕ). n + 1) c.loop-index.invariant.sized);
      are = λ given has. live_next given c.args.followed.now.reached.items imports items k c.index-import.result.now c.index.result.now _ lt c.requires.items
          c.index.ensures c.is_counted-is_one.result
          (c.is_counted-is_one.ensures given has
          ∙ (λ t. is_of_core given false (import_value (c.index-import.ensures t)) && is_live (c.deref.ensures.value t) c.index.result.now))
          c.loop-index.tags.items c.push.new.self.items _
          (c.in_ok-tag_if.ensures ∙ ap (λ (z : Import). tag_if c.is_counted-is_one.result (import_value z)) c.index-import.ensures) c.in_ok-push.ensures.items
          (c.loop-index.invariant.are given has);
    }

pub returns-clause-sized : goal.returns-clause-sized
returns-clause-sized c =
    let all : c.loop-index.index ≡ length c.args.followed.now.code.imports.items = search rules in
    c.loop-index.invariant.sized ∙ all

pub returns-clause-tags : goal.returns-clause-tags
returns-clause-tags c given has =
    let imports = c.args.followed.now.code.imports.items in
    let all : c.loop-index.index ≡ length imports = search rules in
    live_all given c.args.followed.now.reached.items imports c.loop-index.index (tags_view c.loop-index.tags.items) all (c.loop-index.invariant.are given has)
