-- What is recorded of imports, by their modules and names.
use Rattle.std.proofs.Common.{◌≡◌, ℕ, List, map, Option, String, string_bytes, option_map, sym, ◌∙◌, ap}
use Rattle.std.specs.Borrow.{Bor}
use Rattle.std.specs.Map.{lookup}
use Rattle.std.specs.Option.{option_copied}
use Rattle.std.specs.Str.{bytes_eq}
use Rattle.std.specs.declared.alloc.Global.{Global}
use Rattle.wc_names.specs.Views.{import_view}
use Rattle.wc_names.specs.declared.imports.Import.{Import}
use Rattle.wc_resolve.proofs.LookupLemmas.{copied_viewed}
use Rattle.wc_maps.proofs.LookupLemmas.{name_viewed}
use Rattle.wc_validate.specs.Imports.Instances.{import_entry}

-- what was looked up in maps

pub viewed_found : {X B : Type 0} (g : X → B) (entries : List (String Global × X)) (all : List (List ℕ × B)) (name : List ℕ) (r : Option (Bor X))
    → map (λ e. (string_bytes e.0, g e.1)) entries ≡ all → option_copied r ≡ lookup (λ k. bytes_eq name (string_bytes k)) entries
    → lookup (bytes_eq name) all ≡ option_map (λ (x : Bor X). g x.now) r
viewed_found g entries all name r is e =
    sym (ap (lookup (bytes_eq name)) is) ∙ (sym (name_viewed g entries name) ∙ (ap (option_map g) (sym e) ∙ sym (copied_viewed g r)))

pub name_found : (names : List (String Global × Import)) (name : List ℕ) (r : Option (Bor Import))
    → option_copied r ≡ lookup (λ k. bytes_eq name (string_bytes k)) names
    → option_map (λ (x : Bor Import). import_view x.now) r ≡ lookup (bytes_eq name) (map import_entry names)
name_found names name r e = copied_viewed import_view r ∙ (ap (option_map import_view) e ∙ name_viewed import_view names name)
