-- The causes of faults of trimming, and their order.
use Rattle.std.proofs.Common.{◌≡◌, ℕ, ◌<◌, ◌≤◌, ◌^◌, List, [], length, map, refl, sym, subst, Bool, true, false, Option, Some, None, ◌⊎◌, inl}
use Rattle.std.proofs.Common.{inr, arith}
use Rattle.std.specs.Prelude.{IsTrue, MatchOption, IfSome, Result, Ok, Err, IfErr}
use Rattle.std.proofs.Math.Path.{fun_ext}
use Rattle.std.proofs.lemmas.List.{length-map}
use Rattle.wc_read.specs.Exports.{ExportValue}
use Rattle.wc_read.specs.Contents.{SpellsFuncTypes}
use Rattle.wc_read.specs.Types.{FuncTypeValue}
use Rattle.wc_read.specs.Order.{content_of}
use Rattle.wc_read.specs.Sections.{type_id}
use Rattle.wc_read.specs.Modules.{ModuleValue, module_value, SpellsModule}
use Rattle.wc_read.specs.declared.core_module.Module.{Module}
use Rattle.wc_read.specs.declared.operators.Space.TheVariants.{Funcs}
use Rattle.wc_read.proofs.ModulesLemmas.{modules_one}
use Rattle.wc_write.specs.Values.{AreBytes}
use Rattle.wc_write.proofs.ByteLemmas.{front_bytes}
use Rattle.wc_write.proofs.ValueLemmas.{number_fits}
use Rattle.wc_write.proofs.WritableModuleLemmas.{all_bytes, content_bytes}
use Rattle.wc_gc.specs.Causes.{IsFoundCause, DecidesLive}
use Rattle.wc_read.specs.Decoded.{DecodedModule, ItemIndex, decode, decoded_module}
use Rattle.wc_gc.specs.Private.ItemCounts.{ItemCountsFitU32}
use Rattle.wc_gc.specs.Found.{FoundView, found_in}
use Rattle.wc_gc.specs.Edit.{edit}
use Rattle.wc_gc.specs.EditedImage.{FitsBits, edited_image}
use Rattle.wc_gc.specs.Parts.{SettingsView}
use Rattle.wc_gc.specs.Exports.{kept_exports}
use Rattle.wc_gc.specs.LiveItems.{IsLivenessCause, IsFault, IsLivenessOf, TrimInput, order_of}
use Rattle.wc_gc.specs.InRange.{is_item_in_range}
use Rattle.wc_gc.specs.Trim.{IsLaterCause, IsLaterCauseIn, IsLaterFault, IsTrimFault}
use Rattle.wc_gc.specs.declared.fault.GcFault.{GcFault}
use Rattle.wc_gc.specs.declared.fault.GcFault.TheVariants.{Memory, Read, MissingExport, UnsupportedSection, LiveBody, SeveralNamed, LiveTable, SeveralMemories}
use Rattle.wc_gc.specs.declared.fault.GcFault.TheVariants.{LocalMemory, ReallocType, ReallocMemory, TooLarge}

-- causes of what is found, and the one after them

found_small : (s : SettingsView) (m : DecodedModule) (x : FoundView) (f : GcFault) → IsFoundCause s m x f → order_of f < 11
found_small s m x SeveralNamed c = omega arith
found_small s m x LiveTable c = omega arith
found_small s m x SeveralMemories c = omega arith
found_small s m x LocalMemory c = omega arith
found_small s m x ReallocType c = omega arith
found_small s m x ReallocMemory c = omega arith
found_small s m x f c = absurd c

module _ (s : SettingsView) (m : DecodedModule) (exports : List ExportValue) (live : ItemIndex → Bool) where
  found_later : (f : GcFault) → order_of f < 11 → IsFoundCause s m (found_in m live) f → IsLaterCause s m exports live f
  found_later TooLarge h c = absurd (omega arith)
  found_later f h c = c

  later_found : (f : GcFault) → order_of f < 11 → IsLaterCause s m exports live f → IsFoundCause s m (found_in m live) f
  later_found TooLarge h c = absurd (omega arith)
  later_found f h c = c

  -- of what was found

  pub found_fault : (x : FoundView) → x ≡ found_in m live → (f : GcFault) → IsFoundCause s m x f × ((g : GcFault) → order_of g < order_of f
      → ¬ (IsFoundCause s m x g)) → IsLaterFault s m exports live f
  found_fault x is f c =
      let small = found_small s m x f c.0 in (
        found_later f small (subst (λ (z : FoundView). IsFoundCause s m z f) is c.0),
        λ g h k. c.1 g h (subst (λ (z : FoundView). IsFoundCause s m z g) (sym is) (later_found g (omega arith) k)),
      )

  large_fault : (x : FoundView) → x ≡ found_in m live → ((f : GcFault) → ¬ (IsFoundCause s m x f))
      → ¬ (FitsBits (edited_image (edit s m exports live))) → IsLaterFault s m exports live TooLarge
  large_fault x is none large = (large, λ g small k. none g (subst (λ (z : FoundView). IsFoundCause s m z g) (sym is) (later_found g small k)))

  one_large : (x : FoundView) → x ≡ found_in m live → ((f : GcFault) → ¬ (IsFoundCause s m x f)) → (f : GcFault)
      → (f ≡ Memory) ⊎ ((f ≡ TooLarge) × ¬ (FitsBits (edited_image (edit s m exports live)))) → (f ≡ Memory) ⊎ IsLaterFault s m exports live f
  one_large x is none f (inl e) = inl e
  one_large x is none f (inr k) = inr (subst (IsLaterFault s m exports live) (sym k.0) (large_fault x is none k.1))

  pub text_fault : {T : Type 0} (x : FoundView) → x ≡ found_in m live → ((f : GcFault) → ¬ (IsFoundCause s m x f)) → (r : Result T GcFault)
      → IfErr r (λ f. (f ≡ Memory) ⊎ ((f ≡ TooLarge) × ¬ (FitsBits (edited_image (edit s m exports live)))))
      → IfErr r (λ f. (f ≡ Memory) ⊎ IsLaterFault s m exports live f)
  text_fault x is none (Ok v) h = h
  text_fault x is none (Err f) h = one_large x is none f h

  pub none_later : (x : FoundView) → x ≡ found_in m live → ((f : GcFault) → ¬ (IsFoundCause s m x f))
      → FitsBits (edited_image (edit s m exports live)) → (f : GcFault) → ¬ (IsLaterCause s m exports live f)
  none_later x is none fits TooLarge c = c fits
  none_later x is none fits f c = none f (subst (λ (z : FoundView). IsFoundCause s m z f) (sym is) c)

  pub later_large : (f : GcFault) → IsLaterCause s m exports live f → 5 ≤ order_of f
  later_large SeveralNamed c = omega arith
  later_large LiveTable c = omega arith
  later_large SeveralMemories c = omega arith
  later_large LocalMemory c = omega arith
  later_large ReallocType c = omega arith
  later_large ReallocMemory c = omega arith
  later_large TooLarge c = omega arith
  later_large f c = absurd c

-- what liveness says of a module that was read

pub live_in_range : (a : Module) (required : List (List ℕ)) (live : ItemIndex → Bool) (turns : ℕ) → IsLivenessOf required (module_value a) live turns
    → (n : ℕ) → IsTrue (live (Funcs, n)) → is_item_in_range (decoded_module a) (Funcs, n) ≡ true
unfolding decoded_module
live_in_range a required live turns l n h = by (is_item_in_range (decode (module_value a)) (Funcs, n)) refl
  where
    by : (b : Bool) → is_item_in_range (decode (module_value a)) (Funcs, n) ≡ b → b ≡ true
    by true e = refl
    by false e = absurd (l.in_range ((Funcs, n), (l.is_live (Funcs, n)).0 h, e))

-- a fault of liveness is one of trimming

cause_small : (w : TrimInput) (f : GcFault) → IsLivenessCause w f → order_of f < 5
cause_small w Memory c = omega arith
cause_small w (Read r) c = omega arith
cause_small w (MissingExport name) c = omega arith
cause_small w UnsupportedSection c = omega arith
cause_small w LiveBody c = omega arith
cause_small w f c = absurd c.2

pub fault_trims : (s : SettingsView) (w : TrimInput) (f : GcFault) → IsFault w f → IsTrimFault s w f
fault_trims s w f (inl e) = inl e
fault_trims s w f (inr c) =
    let small = cause_small w f c.0 in
    inr (
      inl c.0,
      λ g h k. elim k [
        | inl a ↦ c.1 g h a
        | inr b ↦ (let large = later_large s (decode b.0) (kept_exports w.required b.0.exports) b.1 g b.4 in absurd (omega (arith, small, h, large)))
      ],
    )

-- a module has one test that decides what is live

pub bools : (a b : Bool) → (IsTrue a → IsTrue b) → (IsTrue b → IsTrue a) → a ≡ b
bools true true f g = refl
bools true false f g = sym (f refl)
bools false true f g = g refl
bools false false f g = refl

pub tests_one : (required : List (List ℕ)) (m : ModuleValue) (a b : ItemIndex → Bool) → DecidesLive required m a → DecidesLive required m b → a ≡ b
tests_one required m a b ta tb = fun_ext (λ x. bools (a x) (b x) (λ h. (tb x).1 ((ta x).0 h)) (λ h. (ta x).1 ((tb x).0 h)))

module _ (settings : SettingsView) (w : TrimInput) (m : ModuleValue) (s : SpellsModule w.bytes m) where
  pub same_later : (live : ItemIndex → Bool) → DecidesLive w.required m live → (f : GcFault) → IsLaterCauseIn settings w f
      → IsLaterCause settings (decode m) (kept_exports w.required m.exports) live f
  same_later live decides f (m', live', s', decides', c) =
      let one : m' ≡ m = modules_one w.bytes m' m s' s in
      let decided = subst (λ (z : ModuleValue). DecidesLive w.required z live') one decides' in
      let cause = subst (λ (z : ModuleValue). IsLaterCause settings (decode z) (kept_exports w.required z.exports) live' f) one c in
      subst (λ (z : ItemIndex → Bool). IsLaterCause settings (decode m) (kept_exports w.required m.exports) z f)
      (tests_one w.required m live' live decided decides) cause

-- each item of a module that was read has an index of 32 bits

bounded_types : (content : Option (List ℕ)) (types : List FuncTypeValue) → IfSome content AreBytes
    → MatchOption content (types ≡ []) (λ c. SpellsFuncTypes c types) → length types < 2 ^ 32
bounded_types None types all h = rw h (omega arith)
bounded_types (Some c) types all h = number_fits h.3 (front_bytes h.0 h.1 (rw h.2 at all))

below : {A B : Type 0} (f : A → B) (xs : List A) → length (map f xs) < 2 ^ 32 → length xs < 2 ^ 32
below f xs h = let e = length-map xs f in omega arith

pub bounded_items : (bytes : List ℕ) (a : Module) → AreBytes bytes → SpellsModule bytes (module_value a) → ItemCountsFitU32 a
bounded_items bytes a all s =
    let types = bounded_types (content_of type_id s.sections) s.has_sections.parts.types
    (content_bytes type_id s.sections (all_bytes bytes s.sections s.has_frames all)) s.has_sections.has_contents.has_types in
    let bounded = s.has_sections.valid.bounded in
    record {
      types = below _ a.types.items (subst (λ (m : ModuleValue). length m.types < 2 ^ 32) (sym s.has_sections.assembled.is) types);
      funcs = below _ a.funcs.items bounded.funcs;
      tables = below _ a.tables.items bounded.tables;
      memories = below _ a.memories.items bounded.memories;
      globals = below _ a.globals.items bounded.globals;
    }
