-- Where there is a world, no fault but those of memory has a cause.
use Rattle.std.proofs.Common.{◌≡◌, ◌≢◌, ◌↔◌, ℕ, List, ◌∷◌, [], ◌++◌, Bool, true, false, Option, Some, None, IsTrue, refl, sym, ap, subst, ◌∙◌, inl, inr}
use Rattle.std.specs.List.{AllZip}
use Rattle.std.specs.Option.{IfSome}
use Rattle.wc_read.specs.declared.types.MemoryType.{MemoryType}
use Rattle.wc_read.specs.Laws.{HasOneValue}
use Rattle.wc_read.specs.Modules.{ModuleValue, SpellsModule}
use Rattle.wc_write.specs.Modules.{built_text}
use Rattle.wc_adapters.specs.Adapters.{LibraryView}
use Rattle.wc_encoder.specs.EncoderParts.{EncoderView}
use Rattle.wc_gc.specs.Causes.{DecidesLive}
use Rattle.wc_read.specs.Decoded.{ItemIndex, decode}
use Rattle.wc_gc.specs.Edit.{edit}
use Rattle.wc_gc.specs.EditedImage.{edited_image}
use Rattle.wc_gc.specs.Exports.{kept_exports}
use Rattle.wc_gc.specs.LiveItems.{IsLive, TrimInput}
use Rattle.wc_gc.specs.Parts.{SettingsView}
use Rattle.wc_gc.specs.Trim.{IsImageText, IsTrimCause, IsTrimFault}
use Rattle.wc_gc.specs.declared.fault.GcFault.{GcFault}
use Rattle.wc_gc.specs.declared.fault.GcFault.TheVariants.{Memory as trim_memory}
use Rattle.wc_validate.specs.Imports.Map.{memory_in}
use Rattle.wc_validate.specs.Laws.{RecordsExcludeFaults, RecordsUnique}
use Rattle.wc_validate.specs.Validate.{IsRecordOf, ValidationInput, ModuleRecord, main_input}
use Rattle.wc_validate.specs.declared.fault.ValidateFault.{ValidateFault}
use Rattle.wc_world.specs.Trimming.{NamedAdapter, validation_input_of, main_page_size, page_size}
use Rattle.wc_world.specs.Causes.{IsAdaptersCause, IsFaultOf, IsFirstFault, IsMinimizedFault, IsPageFault, IsRefused, IsUntrimmed}
use Rattle.wc_world.specs.Laws.{WorldsExcludeFaults}
use Rattle.wc_world.specs.Options.{OptionsOf}
use Rattle.wc_world.specs.Views.{ComponentWorldView, NamedWorldAdapter, WorldAdapterView}
use Rattle.wc_world.specs.World.{IsAdapterOf, IsTrimmedOrLibrary, IsTrimmedAdapter, IsWorldOf, settings_of, adapter_trim_input}
use Rattle.wc_world.specs.declared.fault.WorldFault.{WorldFault}
use Rattle.wc_world.specs.declared.fault.WorldFault.TheVariants.{Memory, Main, Adapter, Trim, Minimized, PageSize}

pub same_test : (a b : Bool) (P : Type 0) → IsTrue a ↔ P → IsTrue b ↔ P → a ≡ b
same_test true true P p q = refl
same_test false false P p q = refl
same_test true false P p q = absurd (let holds : IsTrue false = q.1 (p.0 refl) in let bad : ⊥ = cc holds in bad)
same_test false true P p q = absurd (let holds : IsTrue false = p.1 (q.0 refl) in let bad : ⊥ = cc holds in bad)

zip_at : {A B : Type 0} (R : A → B → Type 0) (front back : List A) (x : A) (ys : List B) → AllZip R (front ++ x ∷ back) ys → (y : B) × R x y
zip_at R [] back x [] h = absurd h
zip_at R [] back x (y ∷ ys) h = (y, h.0)
zip_at R (a ∷ front) back x [] h = absurd h
zip_at R (a ∷ front) back x (y ∷ ys) h = zip_at R front back x ys h.1

if_some : {X : Type 0} (o : Option X) (x : X) (P : X → Type 0) → o ≡ Some x → IfSome o P → P x
if_some o x P is h = let here : IfSome (Some x) P = subst (λ z. IfSome z P) is h in here

-- an adapter is trimmed to one text
abbrev image_text : SettingsView → List (List ℕ) → ModuleValue → (ItemIndex → Bool) → List ℕ
image_text s required m live = built_text (edited_image (edit s (decode m) (kept_exports required m.exports) live))

same_live : (required : List (List ℕ)) (m n : ModuleValue) (a b : ItemIndex → Bool) → m ≡ n → DecidesLive required m a → DecidesLive required n b → a ≡ b
same_live required m n a b same p q =
    let at : (x : ItemIndex) → a x ≡ b x = λ x. same_test (a x) (b x) (IsLive required n x) (subst (λ z. IsTrue (a x) ↔ IsLive required z x) same (p x)) (q x) in
    λ k x. at x k

same_text : HasOneValue SpellsModule → (s : SettingsView) (w : TrimInput) (text other : List ℕ) → IsImageText s w text → IsImageText s w other → text ≡ other
same_text one s w text other p q =
    let values = one w.bytes p.value q.value p.spelled q.spelled in
    p.written ∙ (ap (λ m. image_text s w.required m p.live) values ∙ (ap (image_text s w.required q.value) (same_live w.required p.value q.value p.live q.live values p.decides q.decides) ∙ sym q.written))

-- where no fault of trimming has a cause, there is none but Memory
no_trim_fault : (s : SettingsView) (w : TrimInput) (f : GcFault) → IsTrimFault s w f → f ≢ trim_memory → ¬ ((g : GcFault) → ¬ IsTrimCause s w g)
no_trim_fault s w f (inl memory) other never = other memory
no_trim_fault s w f (inr cause) other never = never f cause.0

module _ (e : EncoderView) (unique : RecordsUnique e) (excludes : RecordsExcludeFaults e) (one : HasOneValue SpellsModule) where
  not_refused : (j : ValidationInput) (bytes : List ℕ) (r : ModuleRecord) (f : ValidateFault) → j.encoder ≡ e → IsRecordOf j bytes r → ¬ IsRefused j bytes f
  not_refused j bytes r f at p h = excludes j bytes r at p f h.0 h.1

  module _ (main : ModuleRecord) (x : NamedAdapter) where
    same_record : (bytes other : List ℕ) (p q : ModuleRecord) → bytes ≡ other → IsRecordOf (validation_input_of e main x) bytes p → IsRecordOf (validation_input_of e main x) other q → p ≡ q
    same_record bytes other p q same a b =
        unique (validation_input_of e main x) other p q refl (subst (λ z. IsRecordOf (validation_input_of e main x) z p) same a) b

    -- what is recorded of the bytes that the encoder has
    input_record : (y : WorldAdapterView) (o : Option LibraryView) → IsTrimmedOrLibrary e main x y o → (r : ModuleRecord)
        × IsRecordOf (validation_input_of e main x) x.1.wasm r
    input_record y None h = (h.first, h.original)
    input_record y (Some library) h = (y.info, subst (λ z. IsRecordOf (validation_input_of e main x) z y.info) h.same_bytes h.recorded)

    -- an adapter that is trimmed
    module _ (y : WorldAdapterView) (a : IsTrimmedAdapter e main x y) where
      text_of : (first : ModuleRecord) (text : List ℕ) → IsRecordOf (validation_input_of e main x) x.1.wasm first → IsImageText (settings_of e main first) (adapter_trim_input main x first) text → text ≡ y.wasm
      text_of first text original h =
          let same = same_record x.1.wasm x.1.wasm first a.first refl original a.original in
          same_text one (settings_of e main a.first) (adapter_trim_input main x a.first) text y.wasm (subst (λ z. IsImageText (settings_of e main z) (adapter_trim_input main x z) text) same h) a.trimmed.image

      not_untrimmed : (f : GcFault) → ¬ IsUntrimmed e main x f
      not_untrimmed f h =
          let same = same_record x.1.wasm x.1.wasm h.valid.first a.first refl h.valid.original a.original in
          let stopped = subst (λ z. IsTrimFault (settings_of e main z) (adapter_trim_input main x z) f) same h.stopped in
          no_trim_fault (settings_of e main a.first) (adapter_trim_input main x a.first) f stopped h.no_memory a.trimmed.no_cause

      not_minimized : (f : ValidateFault) → ¬ IsMinimizedFault e main x f
      not_minimized f h = not_refused (validation_input_of e main x) y.wasm y.info f refl a.last (subst (λ z. IsRefused (validation_input_of e main x) z f) (text_of h.reached.valid.first h.reached.text h.reached.valid.original h.reached.trimmed.image) h.refused)

    same_info : (y z : WorldAdapterView) (o : Option LibraryView) → IsTrimmedOrLibrary e main x y o → IsTrimmedOrLibrary e main x z o → y.info ≡ z.info
    same_info y z None a b = same_record y.wasm z.wasm y.info z.info (text_of z b a.first y.wasm a.original a.trimmed.image) a.last b.last
    same_info y z (Some library) a b = same_record y.wasm z.wasm y.info z.info (a.same_bytes ∙ sym b.same_bytes) a.recorded b.recorded

    not_other_pages : (y : NamedWorldAdapter) (own mains : ℕ) → IsAdapterOf e main x y → ¬ IsPageFault e main x own mains
    not_other_pages y own mains a h =
        let imported = ap (λ (z : ModuleRecord). memory_in z.imports) (same_info y.1 h.adapter x.1.library_info a.is_adapter h.is_adapter) ∙ h.imported in
        let same = if_some (memory_in y.1.info.imports) h.memory (λ (t : MemoryType). page_size t ≡ main_page_size main.exports) imported a.paged in
        h.differ (h.is_own ∙ (same ∙ sym h.is_main))

    no_fault_of : (y : NamedWorldAdapter) (f : WorldFault) → IsAdapterOf e main x y → ¬ IsFaultOf e main x f
    no_fault_of y Memory a h = h
    no_fault_of y (Main f) a h = h
    no_fault_of y (Adapter name f) a h = let same_bytes = input_record y.1 x.1.library_info a.is_adapter in not_refused (validation_input_of e main x) x.1.wasm same_bytes.0 f refl same_bytes.1 h.1
    no_fault_of y (Trim name f) a h = not_untrimmed y.1 (subst (IsTrimmedOrLibrary e main x y.1) h.1.valid.trims a.is_adapter) f h.1
    no_fault_of y (Minimized name f) a h = not_minimized y.1 (subst (IsTrimmedOrLibrary e main x y.1) h.1.reached.valid.trims a.is_adapter) f h.1
    no_fault_of y (PageSize name own mains) a h = not_other_pages y own mains a h.1

  no_adapters_cause : (options : OptionsOf) (w : ComponentWorldView) (f : WorldFault) → IsWorldOf options e w → ¬ IsAdaptersCause e f
  no_adapters_cause options w f p h =
      let same = unique (main_input e e.module_import_map) e.module_bytes h.main w.info refl h.recorded p.main in
      let first = subst (λ z. IsFirstFault e z f) same h.first in
      let found = zip_at (IsAdapterOf e w.info) first.front first.back first.adapter w.adapters (subst (λ z. AllZip (IsAdapterOf e w.info) z w.adapters) first.cut p.adapters) in
      no_fault_of w.info first.adapter found.0 f found.1 first.here

  pub worlds_exclude : WorldsExcludeFaults e
  worlds_exclude options w p (Main f) h = not_refused (main_input e e.module_import_map) e.module_bytes w.info f refl p.main h
  worlds_exclude options w p f h = no_adapters_cause options w f p h
