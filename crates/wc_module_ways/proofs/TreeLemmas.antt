-- What is shown of modules, and the tree of the paths to it.
use Rattle.std.proofs.Common.{◌≡◌, ◌∙◌, ℕ, ◌+◌, Bool, false, not, ◌||◌, List, [], ◌++◌, cond, length, map, ap, append_assoc, arith, subst}
use Rattle.wc_read.specs.Imports.{ImportValue}
use Rattle.wc_paths.specs.Items.{CountsValue, counts_of}
use Rattle.wc_why.specs.Part.{PartView}
use Rattle.wc_why.specs.Tree.{TreeCallerView, TreeView}
use Rattle.wc_import_paths.specs.MainModules.{AreMainReached, HasMain, bytes_in, code_of, main_graph, main_view, reached_in}
use Rattle.wc_import_paths.specs.Patterns.{PatternView, are_asked}
use Rattle.wc_import_paths.specs.Shown.{EndView, IsTreeTo, are_functions, function_ends, import_ends}
use Rattle.wc_import_paths.proofs.MainModuleLemmas.{main_reached}
use Rattle.std.proofs.lemmas.List.{length-map}
use Rattle.wc_module_ways.specs.Adapters.{adapter_view}
use Rattle.wc_module_ways.specs.CoreModules.{core_view}
use Rattle.wc_module_ways.specs.Modules.{AreView, ModulesView, is_main_shown}
use Rattle.wc_module_ways.specs.Parts.{AreParts}
use Rattle.wc_module_ways.specs.Tree.{IsTreeIn, all_adapter_ends, all_core_ends, import_ends_of, main_counts, shown_ends}
use Rattle.wc_module_ways.specs.declared.modules.Modules.{Modules}

module _ (p : Modules) (w : ModulesView) (v : AreView p w) (patterns : List PatternView) (c : CountsValue) (counted : c ≡ counts_of (main_graph (main_view p.main))) where
  counts : c ≡ main_counts w
  counts = counted ∙ ap (λ z. counts_of (main_graph z)) v.main

  -- the imports of the main module, those of adapters after them, and then those of core modules
  pub imports_shown : (imports : List ImportValue) → imports ≡ (code_of (main_view p.main)).imports → (old one two new : List EndView)
      → one ≡ old ++ import_ends 0 c (is_main_shown w.given patterns) imports
      → two ≡ one ++ all_adapter_ends patterns 1 (map adapter_view p.adapters.items) → (n : ℕ) → n ≡ length p.adapters.items + 1
      → new ≡ two ++ all_core_ends w.given patterns n (map core_view p.core.items) → new ≡ old ++ import_ends_of w patterns
  imports_shown imports is old one two new main adapters n at cores =
      let same : imports ≡ (code_of w.main).imports = is ∙ ap (λ z. (code_of z).imports) v.main in
      let first = import_ends 0 c (is_main_shown w.given patterns) imports in
      let next = all_adapter_ends patterns 1 (map adapter_view p.adapters.items) in
      let last = all_core_ends w.given patterns n (map core_view p.core.items) in
      let from : n ≡ 1 + length w.adapters =
      (let l = length-map p.adapters.items adapter_view in let k = ap length v.adapters in omega (arith, at, l, k)) in
      cores
      ∙ ((λ t. (adapters ∙ ap (λ z. z ++ next) main) t ++ last)
      ∙ (append_assoc (old ++ first) next last
      ∙ (append_assoc old first (next ++ last)
      ∙ (λ t. old ++ (import_ends 0 (counts t) (is_main_shown w.given patterns) (same t)
      ++ (all_adapter_ends patterns 1 (v.adapters t) ++ all_core_ends w.given patterns (from t) (v.core t)))))))

  -- and functions after them
  pub all_shown : (reached : List Bool) (fs : List TreeCallerView) (b : Bool) (first new : List EndView) → b ≡ (are_asked patterns || not (are_functions fs))
      → first ≡ cond b (import_ends_of w patterns) [] → new ≡ first ++ function_ends c reached fs → new ≡ shown_ends w patterns reached fs
  all_shown reached fs b first new is imports put =
      put ∙ (ap (λ z. z ++ function_ends c reached fs) imports ∙ (λ t. cond (is t) (import_ends_of w patterns) [] ++ function_ends (counts t) reached fs))

pub tree_is : (p : Modules) (patterns : List PatternView) (fs : List TreeCallerView) (t : TreeView) (parts : List PartView) (shown : List EndView) (marked : Bool)
    → AreParts (main_view p.main) (bytes_in p.main) (map adapter_view p.adapters.items) (map core_view p.core.items) parts
    → HasMain p.main → ((w : ModulesView) → AreView p w → shown ≡ shown_ends w patterns (reached_in p.main) fs)
    → marked ≡ (are_asked patterns || are_functions fs) → IsTreeTo parts shown marked false t
    → IsTreeIn p patterns fs t
tree_is p patterns fs t parts shown marked are has is on tree w v = record {
  parts = parts;
  are_parts = subst (λ z. AreParts w.main w.bytes w.adapters z parts) v.core
      (subst (λ z. AreParts w.main w.bytes z (map core_view p.core.items) parts) v.adapters
      (subst (λ z. AreParts w.main z (map adapter_view p.adapters.items) (map core_view p.core.items) parts) v.bytes
      (subst (λ z. AreParts z (bytes_in p.main) (map adapter_view p.adapters.items) (map core_view p.core.items) parts) v.main are)));
  reached = reached_in p.main;
  are_reached = subst (λ z. AreMainReached z (reached_in p.main)) v.main (main_reached p.main has);
  tree = subst (λ z. IsTreeTo parts z (are_asked patterns || are_functions fs) false t) (is w v)
      (subst (λ b. IsTreeTo parts shown b false t) on tree);
}
