-- The main module, when modules are gone through for its name.
use Rattle.std.proofs.Common.{◌≡◌, ℕ, ◌+◌, ◌<◌, suc, true, false, List, length, map, take, drop, get_or, None, ◌∙◌, subst, arith}
use Rattle.std.proofs.lemmas.List.{length-map, length-take-le}
use Rattle.std.specs.List.{list_any}
use Rattle.wc_maps.proofs.ListLemmas.{cut_at}
use Rattle.wc_component_file.specs.Files.{core_module_view}
use Rattle.wc_component_file.specs.MainModules.{AreTwoNamed, IsFirstNamed, IsMain, is_named_main}
use Rattle.wc_component_file.specs.declared.file.CoreModule.{CoreModule}
use Rattle.wc_component_file.specs.declared.main_module.MainModule.{MainModule}

module _ (modules : List CoreModule) (k : ℕ) (d : CoreModule) (lt : k < length modules)
    (before : list_any is_named_main (map core_module_view (take k modules)) ≡ false) (named : is_named_main (core_module_view (get_or modules k d)) ≡ true) where
  abbrev first_named : IsFirstNamed (map core_module_view modules) k
  first_named = record {
    front = map core_module_view (take k modules);
    core = core_module_view (get_or modules k d);
    back = map core_module_view (drop (suc k) modules);
    cut = cut_at core_module_view modules k d lt;
    is_at = length-map (take k modules) core_module_view ∙ length-take-le k modules (omega arith);
    named = named;
    before = before;
  }

  pub only_named : (main : MainModule) → main.position ≡ k → main.is_named ≡ true
      → list_any is_named_main (map core_module_view (drop (k + 1) modules)) ≡ false → IsMain (map core_module_view modules) None main
  only_named main at is after =
      let next : k + 1 ≡ suc k = omega arith in
      rw (is, at) (first_named, subst (λ n. list_any is_named_main (map core_module_view (drop n modules)) ≡ false) next after)

  pub two_named : list_any is_named_main (map core_module_view (drop (k + 1) modules)) ≡ true → AreTwoNamed (map core_module_view modules)
  two_named after =
      let next : k + 1 ≡ suc k = omega arith in
      (k, first_named, subst (λ n. list_any is_named_main (map core_module_view (drop n modules)) ≡ true) next after)
