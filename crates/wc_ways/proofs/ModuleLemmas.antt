-- The modules of a component's world, one after another.
use Rattle.std.proofs.Common.{◌≡◌, ◌⊎◌, ℕ, ◌<◌, ◌≤◌, All, List, [], ◌∷◌, ◌++◌, ◌+◌, Contains, Option, Some, None, get_or, length, refl, sym, ap, ◌∙◌, subst, append-nil, append_assoc, zero, arith, inl, inr}
use Rattle.std.proofs.lemmas.List.{length_push}
use Rattle.std.proofs.lemmas.List.Elements.{Contains-append_right}
use Rattle.std.proofs.lemmas.Option.{slice_get_cases, slice_get_within}
use Rattle.std.specs.List.{slice_get}
use Rattle.std.specs.Map.{lookup}
use Rattle.std.specs.Option.{option_map_or}
use Rattle.std.specs.Str.{bytes_eq}
use Rattle.wc_adapters.specs.Adapters.{AdapterView, LibraryView}
use Rattle.wc_names.specs.ExportViews.{ExportView}
use Rattle.wc_read.specs.Exports.{ExportValue}
use Rattle.wc_read.specs.Modules.{ModuleValue}
use Rattle.wc_world.specs.Views.{ComponentWorldView, NamedWorldAdapter}
use Rattle.wc_ways.specs.Parts.{bytes_of, export_named, original_bytes}
use Rattle.wc_ways.specs.Private.Modules.{AreAdapterModules, AreModulesOf, IsAdapterModule, IsModuleWith, IsRead}
use Rattle.wc_ways.specs.Private.TypedFound.{AreAllRead, IsPlaced}
use Rattle.wc_ways.specs.declared.modules.AdapterModule.{AdapterModule}
use Rattle.wc_ways.specs.declared.modules.Modules.{Modules}
use Rattle.wc_ways.proofs.LoopLemmas.{all_of_each, pair_more, pair_none}

pub record ModulesSoFar (w : ComponentWorldView) (rest : List NamedWorldAdapter) (modules : List AdapterModule) : Type 0 where
  pub passed : List NamedWorldAdapter
  pub split : passed ++ rest ≡ w.adapters
  pub are : AreAdapterModules w passed modules

pub so_far_none : (w : ComponentWorldView) (rest : List NamedWorldAdapter) (modules : List AdapterModule) → rest ≡ w.adapters → modules ≡ [] → ModulesSoFar w rest modules
so_far_none w rest modules e none = record {
  passed = [];
  split = e;
  are = record {
    each = ap length none;
    at = subst (λ (ms : List AdapterModule). (k : ℕ) (y : NamedWorldAdapter) (a : AdapterModule) → slice_get [] k ≡ Some y → slice_get ms k ≡ Some a → IsAdapterModule w y a) (sym none) (pair_none (IsAdapterModule w));
  };
}

pub so_far_next : (w : ComponentWorldView) (left rest : List NamedWorldAdapter) (y : NamedWorldAdapter) (old new : List AdapterModule) (a : AdapterModule) → left ≡ y ∷ rest
    → IsAdapterModule w y a → new ≡ old ++ a ∷ [] → ModulesSoFar w left old → ModulesSoFar w rest new
so_far_next w left rest y old new a e is put s = record {
  passed = s.passed ++ y ∷ [];
  split = append_assoc s.passed (y ∷ []) rest ∙ (ap (λ (z : List NamedWorldAdapter). s.passed ++ z) (sym e) ∙ s.split);
  are = subst (AreAdapterModules w (s.passed ++ y ∷ [])) (sym put) (record {
    each = length_push old a ∙ (ap (λ n. n + 1) s.are.each ∙ sym (length_push s.passed y));
    at = pair_more (IsAdapterModule w) s.passed old y a s.are.each s.are.at is;
  });
}

pub so_far_all : (w : ComponentWorldView) (left : List NamedWorldAdapter) (now : List AdapterModule) → left ≡ [] → ModulesSoFar w left now → AreAdapterModules w w.adapters now
so_far_all w left now none s =
    subst (λ (z : List NamedWorldAdapter). AreAdapterModules w z now)
    (sym (append-nil s.passed) ∙ (ap (λ (z : List NamedWorldAdapter). s.passed ++ z) (sym none) ∙ s.split)) s.are

pub so_far_in : (w : ComponentWorldView) (left rest : List NamedWorldAdapter) (y : NamedWorldAdapter) (now : List AdapterModule) → left ≡ y ∷ rest → ModulesSoFar w left now
    → Contains w.adapters y
so_far_in w left rest y now e s =
    subst (λ (z : List NamedWorldAdapter). Contains z y) (ap (λ (z : List NamedWorldAdapter). s.passed ++ z) (sym e) ∙ s.split)
    (Contains-append_right s.passed (y ∷ rest) y (zero, omega arith, refl))

-- ---- the bytes of a module

module _ (w : ComponentWorldView) (y : NamedWorldAdapter) where
  adapter_bytes : y.1.library_info ≡ None → original_bytes w y ≡ bytes_of w y
  adapter_bytes e = ap (λ (o : Option LibraryView). option_map_or (λ (k : LibraryView). y.1.wasm) o (original_bytes w y)) (sym e)

  pub given_bytes : (a : AdapterView) → y.1.library_info ≡ None → lookup (bytes_eq y.0) w.encoder.adapters ≡ Some a → a.wasm ≡ bytes_of w y
  given_bytes a e at = ap (λ (o : Option AdapterView). option_map_or (λ (b : AdapterView). b.wasm) o y.1.wasm) (sym at) ∙ adapter_bytes e

  pub missing_bytes : y.1.library_info ≡ None → lookup (bytes_eq y.0) w.encoder.adapters ≡ None → y.1.wasm ≡ bytes_of w y
  missing_bytes e at = ap (λ (o : Option AdapterView). option_map_or (λ (b : AdapterView). b.wasm) o y.1.wasm) (sym at) ∙ adapter_bytes e

  pub as_module : (a : AdapterModule) (bytes : List ℕ) → bytes ≡ bytes_of w y → IsModuleWith y bytes a → IsAdapterModule w y a
  as_module a bytes e is = subst (λ (b : List ℕ). IsModuleWith y b a) e is

-- ---- all modules

pub is_read : (y : NamedWorldAdapter) (bytes : List ℕ) (a : AdapterModule) → IsModuleWith y bytes a → IsRead a
is_read y bytes a is = record { exports = is.exports; rows = is.rows }

pub is_placed : (y : NamedWorldAdapter) (bytes : List ℕ) (a : AdapterModule) → IsModuleWith y bytes a → IsPlaced a
is_placed y bytes a is = record { places = is.places; rows = is.rows }

-- the module of the world that is at a position
pub module_at : (w : ComponentWorldView) (modules : List AdapterModule) (k : ℕ) (a : AdapterModule) → AreAdapterModules w w.adapters modules → slice_get modules k ≡ Some a
    → (y : NamedWorldAdapter) × (slice_get w.adapters k ≡ Some y) × IsAdapterModule w y a
module_at w modules k a are at = by (slice_get_cases w.adapters k).1
  where
    by : ((y : NamedWorldAdapter) × (k < length w.adapters) × (slice_get w.adapters k ≡ Some y) × (get_or w.adapters k y ≡ y)) ⊎ ((length w.adapters ≤ k) × (slice_get w.adapters k ≡ None))
        → (y : NamedWorldAdapter) × (slice_get w.adapters k ≡ Some y) × IsAdapterModule w y a
    by (inl (y, lt, e, same)) = (y, e, are.at k y a e at)
    by (inr (over, e)) =
        let lt = slice_get_within modules k a at in
        let each = are.each in
        absurd (omega (arith, lt, each, over))

pub all_read : (w : ComponentWorldView) (modules : List AdapterModule) → AreAdapterModules w w.adapters modules → All IsRead modules
all_read w modules are =
    all_of_each IsRead modules (λ k a at. let (y, there, is) = module_at w modules k a are at in is_read y (bytes_of w y) a is)

pub all_placed : (w : ComponentWorldView) (m : Modules) → AreModulesOf w m → AreAllRead m
all_placed w m are = record {
  has_main = are.main.has_main;
  main = are.places;
  others = λ k a at. let (y, there, is) = module_at w m.adapters.items k a are.adapters at in is_placed y (bytes_of w y) a is;
}

-- a recorded export of a module
abbrev pub always_by : ModuleValue → List ℕ × ExportView → Option ExportValue
always_by m x = export_named m.exports x.0
