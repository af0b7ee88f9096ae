use Rattle.std.proofs.Common.{◌≡◌, ◌↔◌, All, IsTrue, length, map, subst, sym, ◌∙◌}
use Rattle.std.proofs.lemmas.List.{length-map}
use Rattle.std.specs.Option.{option_map}
use Rattle.wc_resolve.specs.Views.{package_view}
use Rattle.wc_resolve.proofs.ViewedLemmas.{viewed}
use Rattle.wc_selection.specs.Worlds.{IsPackageIn}
use Rattle.wc_selection.proofs.WorldLemmas.{id_of}
use Rattle.wc_selection.proofs.worlds.are_packages_in.Goals as goal

pub returns : goal.returns
returns c =
    let ids = c.args.document.now.world_packages.items in
    let is_in = c.are_ids_in.result in
    let here = subst (λ xs. IsTrue is_in ↔ All (λ x. IsPackageIn c.len.result (option_map id_of x)) xs) c.deref.ensures.value c.are_ids_in.ensures in
    let counted : c.len.result ≡ length (map package_view c.args.document.now.parts.packages.items) =
    c.len.ensures ∙ c.args.document.now.parts.packages.ok.0 ∙ sym (length-map c.args.document.now.parts.packages.items package_view) in
    subst (λ n. IsTrue is_in ↔ All (IsPackageIn n) (map (option_map id_of) ids)) counted (viewed (option_map id_of) (IsPackageIn c.len.result) ids is_in here)
