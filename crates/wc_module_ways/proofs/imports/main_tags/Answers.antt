use Rattle.std.proofs.Common.{◌≡◌, ◌<◌, ◌≤◌, ◌∙◌, ◌+◌, ◌∷◌, [], List, ap, arith, length, ℕ}
use Rattle.std.proofs.Math.ListN.{length-append}
use Rattle.std.proofs.lemmas.List.{take_all}
use Rattle.wc_read.specs.Imports.{ImportValue, import_values}
use Rattle.wc_read.specs.declared.types.Import.{Import}
use Rattle.wc_module_ways.specs.Imports.{main_tags}
use Rattle.wc_module_ways.specs.Tags.{tag_if}
use Rattle.wc_module_ways.specs.Modules.{is_of_main}
use Rattle.wc_module_ways.proofs.ImportLemmas.{tags_next}
use Rattle.wc_module_ways.proofs.imports.main_tags.Goals as goal

pub loop-import-preserved : goal.loop-import-preserved
loop-import-preserved c =
    let within : c.loop-import.import-index < length c.args.imports.now = omega arith in
    record {
      sized = ap length c.in_ok-push.ensures.items ∙ (length-append c.loop-import.tags.items (_ ∷ []) ∙ ap (λ (n : ℕ). n + 1) c.loop-import.invariant.sized);
      are = λ given has. tags_next (λ (i : ImportValue). tag_if (is_of_main given i) i) c.args.imports.now c.loop-import.import-index _ c.loop-import.tags.items
          c.push.new.self.items _ within (c.in_ok-main_tag.ensures given has) c.in_ok-push.ensures.items
          (c.loop-import.invariant.are given has);
    }

pub returns-clause-sized : goal.returns-clause-sized
returns-clause-sized c =
    let all : c.loop-import.import-index ≡ length c.args.imports.now = omega arith in
    c.loop-import.invariant.sized ∙ all

pub returns-clause-tags : goal.returns-clause-tags
returns-clause-tags c given has =
    let over : length c.args.imports.now ≤ c.loop-import.import-index = omega arith in
    c.loop-import.invariant.are given has
    ∙ ap (λ (l : List Import). main_tags given (import_values l)) (take_all c.loop-import.import-index c.args.imports.now over)
