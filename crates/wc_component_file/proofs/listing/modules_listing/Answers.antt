use Rattle.std.proofs.Common.{◌≡◌, ◌++◌, length, map, take, ap, ◌∙◌, sym, subst, string_bytes, rules}
use Rattle.std.proofs.lemmas.List.{length-map, take-map}
use Rattle.wc_component_file.specs.Files.{core_module_view}
use Rattle.wc_component_file.specs.Listing.{AreLines, more_modules}
use Rattle.wc_component_file.proofs.listing.modules_listing.Goals as goal

pub returns : goal.returns
returns c =
    let items = c.args.file.now.modules.items in
    let text = string_bytes c.in_ok-text.text in
    let first = subst (λ l. AreLines (map core_module_view (take 16 l)) text) c.deref.ensures.value c.in_ok-text.ensures in
    let put : string_bytes c.push_more_modules.new.out ≡ text ++ more_modules (length items) = search rules in
    (text, subst (λ l. AreLines l text) (sym (take-map core_module_view 16 items)) first, put ∙ ap (λ n. text ++ more_modules n) (sym (length-map items core_module_view)))
