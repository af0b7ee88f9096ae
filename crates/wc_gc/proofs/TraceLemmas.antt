-- Two adapters of one cut are trimmed to the same: the text and the causes of each are those of the cut.
use Rattle.std.proofs.Common.{◌≡◌, ℕ, List, sym, ◌∙◌, ap, subst, Bool, ltb-true, inl, inr}
use Rattle.std.specs.Prelude.{◌↔◌, Contains, IsTrue}
use Rattle.std.specs.List.{AllByRecursion}
use Rattle.std.proofs.lemmas.List.Elements.{All-contains_itself, recursion_from_All}
use Rattle.wc_read.specs.Exports.{ExportValue}
use Rattle.wc_read.specs.Modules.{ModuleValue, SpellsModule}
use Rattle.wc_read.proofs.ModulesLemmas.{modules_one}
use Rattle.wc_write.specs.Modules.{built_text}
use Rattle.wc_write.specs.Values.{AreBytes}
use Rattle.wc_write.proofs.WritableModuleLemmas.{spelled_writable}
use Rattle.wc_gc.specs.Causes.{DecidesLive}
use Rattle.wc_read.specs.Decoded.{DecodedModule, ItemIndex, decode, exported_item, size_of}
use Rattle.wc_gc.specs.Edit.{edit}
use Rattle.wc_gc.specs.EditedImage.{edited_image}
use Rattle.wc_read.specs.Entries.{entry_at, entry_refs}
use Rattle.wc_gc.specs.Exports.{kept_exports}
use Rattle.wc_gc.specs.LiveItems.{HasLiveBody, TrimInput}
use Rattle.wc_gc.specs.Parts.{SettingsView}
use Rattle.wc_gc.specs.TraceLaws.{AreClosed, AreTrimmedToTheSame, HasCut, HasLiveness, NoTrace, all_items}
use Rattle.wc_gc.specs.Trim.{IsImageText, IsLaterCause, IsTrimCause, IsTrimFault}
use Rattle.wc_gc.specs.declared.fault.GcFault.{GcFault}
use Rattle.wc_gc.specs.declared.fault.GcFault.TheVariants.{LiveBody}
use Rattle.wc_gc.proofs.BuiltPartLemmas.{each_weaker}
use Rattle.wc_gc.proofs.CutCauseLemmas.{causes_are_of_cut}
use Rattle.wc_gc.proofs.CutImageLemmas.{image_is_of_cut}
use Rattle.wc_gc.proofs.LiveItemLemmas.{live_named, live_root}
use Rattle.wc_gc.proofs.TrimLemmas.{tests_one}
use Rattle.wc_gc.proofs.UntouchedLiveLemmas.{live_there, named_present}

-- what holds of all that a list contains holds of all of it
pub each_in : {A : Type 0} (P : A → Type 0) (xs : List A) → ((x : A) → Contains xs x → P x) → AllByRecursion P xs
each_in P xs h = each_weaker (Contains xs) P xs h (recursion_from_All (Contains xs) xs (All-contains_itself xs))

-- what is live in an adapter that was read

pub live_closed : (required : List (List ℕ)) (bytes : List ℕ) (m : ModuleValue) (live : ItemIndex → Bool) → AreBytes bytes → SpellsModule bytes m
    → DecidesLive required m live → ¬ (HasLiveBody required m)
    → AreClosed (decode m) (kept_exports required m.exports) live
live_closed required bytes m live all s decides in_range =
    let writable = spelled_writable bytes m all s in
    let valid = s.has_sections.valid in
    record {
      there = λ x h. ltb-true x.1 (size_of (decode m) x.0) (live_there required m valid x ((decides x).0 h));
      named = λ x h. each_in (λ y. IsTrue (live y)) (entry_refs (entry_at (decode m) x))
          (λ y c. live_named required m live decides x y h (named_present required m writable valid in_range x y ((decides x).0 h) c));
      exported = each_in (λ e. IsTrue (live (exported_item e))) (kept_exports required m.exports) (live_root required m live decides);
    }

module _ (s : SettingsView) (w : TrimInput) (c : DecodedModule) (all : AreBytes w.bytes) (no_cause : HasLiveness w) (h : HasCut w c) where
  abbrev exports : List ExportValue
  exports = kept_exports w.required h.value.exports

  closed : AreClosed (decode h.value) exports h.live
  closed = live_closed w.required w.bytes h.value h.live all h.spelled h.decides (λ k. no_cause LiveBody (h.value, h.spelled, k))

  abbrev cut_text : List ℕ
  cut_text = built_text (edited_image (edit s c c.exports all_items))

  text_is : cut_text ≡ built_text (edited_image (edit s (decode h.value) exports h.live))
  text_is =
      ap (λ (d : DecodedModule). built_text (edited_image (edit s d d.exports all_items))) h.is_cut
      ∙ ap built_text (sym (image_is_of_cut s (decode h.value) exports h.live closed))

  -- the bytes spell no other module, and no other test decides what is live
  same_in : (P : ModuleValue → (ItemIndex → Bool) → Type 0) (m : ModuleValue) (live : ItemIndex → Bool) → SpellsModule w.bytes m
      → DecidesLive w.required m live → P m live → P h.value h.live
  same_in P m live spelled decides k =
      let one : m ≡ h.value = modules_one w.bytes m h.value spelled h.spelled in
      let decided = subst (λ z. DecidesLive w.required z live) one decides in
      subst (λ z. P h.value z) (tests_one w.required h.value live h.live decided h.decides) (subst (λ z. P z live) one k)

  trimmed_to : (text : List ℕ) → IsImageText s w text → text ≡ cut_text
  trimmed_to text t =
      same_in (λ m live. text
      ≡ built_text (edited_image (edit s (decode m) (kept_exports w.required m.exports) live))) t.value t.live t.spelled t.decides t.written
      ∙ sym text_is

  cut_cause : (f : GcFault) → IsLaterCause s (decode h.value) exports h.live f ↔ IsLaterCause s c c.exports all_items f
  cut_cause f =
      subst (λ (d : DecodedModule). IsLaterCause s (decode h.value) exports h.live f ↔ IsLaterCause s d d.exports all_items f) (sym h.is_cut)
      (causes_are_of_cut s (decode h.value) exports h.live closed f)

  cause_to : (f : GcFault) → IsTrimCause s w f → IsLaterCause s c c.exports all_items f
  cause_to f (inl a) = absurd (no_cause f a)
  cause_to f (inr b) =
      (cut_cause f).0 (same_in (λ m live. IsLaterCause s (decode m) (kept_exports w.required m.exports) live f) b.0 b.1 b.2 b.3 b.4)

  cause_back : (f : GcFault) → IsLaterCause s c c.exports all_items f → IsTrimCause s w f
  cause_back f k = inr (h.value, h.live, h.spelled, h.decides, (cut_cause f).1 k)

-- from one adapter to the other

module _ (s : SettingsView) (c : DecodedModule) where
  record Given (w : TrimInput) : Type 0 where
    bytes : AreBytes w.bytes
    no_cause : HasLiveness w
    cut : HasCut w c

  one_text : (v w : TrimInput) → Given v → Given w → (x y : List ℕ) → IsImageText s v x → IsImageText s w y → x ≡ y
  one_text v w a b x y t u = trimmed_to s v c a.bytes a.no_cause a.cut x t ∙ sym (trimmed_to s w c b.bytes b.no_cause b.cut y u)

  cause_from : (v w : TrimInput) → Given v → Given w → (f : GcFault) → IsTrimCause s v f → IsTrimCause s w f
  cause_from v w a b f t = cause_back s w c b.bytes b.no_cause b.cut f (cause_to s v c a.bytes a.no_cause a.cut f t)

  fault_from : (v w : TrimInput) → Given v → Given w → (f : GcFault) → IsTrimFault s v f → IsTrimFault s w f
  fault_from v w a b f (inl e) = inl e
  fault_from v w a b f (inr t) = inr (cause_from v w a b f t.0, λ g less x. t.1 g less (cause_from w v b a g x))

  but_indices : (v w : TrimInput) → Given v → Given w → AreTrimmedToTheSame s v w
  but_indices v w a b = record {
    texts = one_text v w a b;
    causes = λ f. (cause_from v w a b f, cause_from w v b a f);
    faults = λ f. (fault_from v w a b f, fault_from w v b a f);
  }

pub no_trace : NoTrace
no_trace s v w c all bytes none free cut other =
    but_indices s c v w (record { bytes = all; no_cause = none; cut = cut }) (record { bytes = bytes; no_cause = free; cut = other })
