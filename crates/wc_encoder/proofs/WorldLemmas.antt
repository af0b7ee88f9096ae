-- The world of an encoder: what it imports and exports.
use Rattle.std.proofs.Common.{◌≡◌, ◌↔◌, ◌∙◌, Bool, true, false, IsTrue, sym, [], Option, ap, subst}
use Rattle.std.specs.Option.{option_map_or}
use Rattle.std.proofs.lemmas.Option.{slice_get_within}
use Rattle.wc_resolve.specs.Views.{WorldView}
use Rattle.wc_encoder.specs.EncoderParts.{EncoderView, HasWorld, IsWorldOf, world_exports, world_imports}
use Rattle.wc_adapters.specs.Entries.{Entries}

module _ (e : EncoderView) (w : WorldView) (there : IsWorldOf e w) where
  pub exports_are : world_exports e ≡ w.exports
  exports_are = ap (λ (o : Option WorldView). option_map_or (λ (v : WorldView). v.exports) o []) there

  pub imports_are : world_imports e ≡ w.imports
  imports_are = ap (λ (o : Option WorldView). option_map_or (λ (v : WorldView). v.imports) o []) there

  pub has_world : HasWorld e
  has_world = slice_get_within e.resolve.worlds e.world w there

  -- what a test of the world's exports says of the encoder's
  pub holds : (P : Entries → Type 0) (b : Bool) → IsTrue b ↔ P w.exports → b ≡ true → P (world_exports e)
  holds P b test t = subst P (sym exports_are) (test.0 t)

  pub fails : (P : Entries → Type 0) (b : Bool) → IsTrue b ↔ P w.exports → b ≡ false → P (world_exports e) → ⊥
  fails P b test f h = let t : true ≡ false = sym (test.1 (subst P exports_are h)) ∙ f in let bad : ⊥ = cc t in bad

  -- and of its imports
  pub imports_hold : (P : Entries → Type 0) (b : Bool) → IsTrue b ↔ P w.imports → b ≡ true → P (world_imports e)
  imports_hold P b test t = subst P (sym imports_are) (test.0 t)

  pub imports_fail : (P : Entries → Type 0) (b : Bool) → IsTrue b ↔ P w.imports → b ≡ false → P (world_imports e) → ⊥
  imports_fail P b test f h = let t : true ≡ false = sym (test.1 (subst P imports_are h)) ∙ f in let bad : ⊥ = cc t in bad
