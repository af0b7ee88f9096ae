-- Documents that are written are read back.
use Rattle.std.proofs.Common.{◌≡◌, Ok, refl}
use Rattle.std.specs.List.{zip}
use Rattle.std.proofs.lemmas.Slice.Zip.{firsts-zip, seconds-zip}
use Rattle.wc_json.specs.Document.{DocumentView, document_of}
use Rattle.wc_json.specs.Fits.{DefinedTypeFits, DocumentFits, InterfaceFits, PackageFits, WorldFits}
use Rattle.wc_json.specs.Interfaces.{interface}
use Rattle.wc_json.specs.Packages.{package_and_worlds}
use Rattle.wc_json.specs.ToJson.{document_json, interface_json, package_json, type_json, world_json}
use Rattle.wc_json.specs.Types.{defined_type}
use Rattle.wc_json.specs.Worlds.{world}
use Rattle.wc_json.proofs.MapRoundTripLemmas.{interface-interface_json}
use Rattle.wc_json.proofs.PackageRoundTripLemmas.{package_and_worlds-package_json}
use Rattle.wc_json.proofs.TypeRoundTripLemmas.{defined_type-type_json, items_from-items_json}
use Rattle.wc_json.proofs.WorldRoundTripLemmas.{world-world_json}

pub document_of-document_json : (d : DocumentView) → DocumentFits d → document_of (document_json d) ≡ Ok d
document_of-document_json d fits =
    let ws = d.parts.worlds in
    let ps = d.parts.packages in
    rw (
      items_from-items_json world_json world WorldFits world-world_json 0 (zip ws d.world_packages) fits.worlds,
      items_from-items_json interface_json interface InterfaceFits interface-interface_json 0 d.parts.interfaces fits.interfaces,
      items_from-items_json type_json defined_type DefinedTypeFits defined_type-type_json 0 d.parts.types fits.types,
      items_from-items_json package_json package_and_worlds PackageFits package_and_worlds-package_json 0 (zip ps d.package_worlds) fits.packages,
      firsts-zip ws d.world_packages fits.world_packages,
      seconds-zip ws d.world_packages fits.world_packages,
      firsts-zip ps d.package_worlds fits.package_worlds,
      seconds-zip ps d.package_worlds fits.package_worlds,
    ) refl
