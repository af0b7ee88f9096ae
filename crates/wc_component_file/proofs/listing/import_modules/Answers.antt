use Rattle.std.proofs.Common.{◌≡◌, ◌<◌, length, map, ap, ◌∙◌, subst, arith, refl, IfOk}
use Rattle.std.proofs.lemmas.List.{take_all}
use Rattle.wc_maps.specs.Texts.{text_of}
use Rattle.wc_read.specs.Imports.{import_value}
use Rattle.wc_component_file.specs.Listing.{import_modules}
use Rattle.wc_component_file.proofs.ListingLemmas.{key, once_more}
use Rattle.wc_component_file.proofs.listing.import_modules.Goals as goal

pub loop-import-preserved : goal.loop-import-preserved
loop-import-preserved c =
    let within : c.loop-import.import-index < length c.args.imports.now = omega arith in
    once_more c.args.imports.now c.loop-import.import-index _ c.loop-import.seen.entries c.insert.new.self.entries tt _ within refl c.loop-import.invariant
    c.in_ok-insert.ensures.entries

pub returns : goal.returns
returns c =
    let all = ap (λ l. import_modules (map import_value l)) (take_all c.loop-import.import-index c.args.imports.now c.loop-import-test.false) in
    subst (λ t. IfOk c.keys.result (λ v. map text_of v.items ≡ t)) (ap (map key) c.entries.ensures ∙ (c.loop-import.invariant ∙ all)) c.keys.ensures
