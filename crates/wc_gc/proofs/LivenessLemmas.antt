-- The causes of faults of liveness, and their order.
use Rattle.std.proofs.Common.{◌≡◌, ◌≢◌, ℕ, ◌<◌, List, [], ◌∷◌, map, refl, sym, ◌∙◌, ap, subst, Bool, true, Option, Some, None, ◌⊎◌, inl, inr, arith}
use Rattle.std.proofs.Common.{String, Global}
use Rattle.std.specs.Prelude.{IsTrue, All, ◌↔◌, Err, IsErrOf, string_bytes, nat_lt}
use Rattle.std.proofs.lemmas.Bool.{lt-ltb, both_ways}
use Rattle.std.proofs.lemmas.List.Elements.{All-map, All-weaker}
use Rattle.std.proofs.lemmas.List.{length-map}
use Rattle.wc_read.specs.Fault.{SpellsNothing}
use Rattle.wc_read.specs.Sections.{IsComponent}
use Rattle.wc_read.specs.Exports.{ExportValue, export_value}
use Rattle.wc_read.specs.Modules.{ModuleValue, module_value, IsModule, SpellsModule, count_of}
use Rattle.wc_read.specs.declared.exports.ExportKind.{ExportKind}
use Rattle.wc_read.specs.declared.exports.ExportKind.TheVariants.{Func, Table, Memory as MemoryKind, Global as GlobalKind}
use Rattle.wc_read.specs.declared.exports.Export.{Export}
use Rattle.wc_read.specs.declared.core_module.Module.{Module}
use Rattle.wc_read.specs.declared.fault.ReadFault.{ReadFault}
use Rattle.wc_read.specs.declared.fault.ReadFault.TheVariants.{Memory as read_memory, Component}
use Rattle.wc_read.proofs.ModulesLemmas.{modules_one}
use Rattle.wc_read.specs.Decoded.{ItemIndex, decode, decoded_module, exported_item, is_in, size_of, space_of}
use Rattle.wc_read.specs.Entries.{refs_in}
use Rattle.wc_gc.specs.Fault.{of_read}
use Rattle.wc_gc.specs.Exports.{kept_exports, missing_name}
use Rattle.wc_graph.specs.Reached.{IsReachedFrom}
use Rattle.wc_gc.specs.InRange.{is_item_in_range}
use Rattle.wc_gc.specs.LiveItems.{IsCount, HasLiveBody, HasUnsupported, IsSupported, IsLive, IsLivenessOf, IsFaultOf, TrimInput, IsLivenessCause, IsFault}
use Rattle.wc_gc.specs.LiveItems.{order_of}
use Rattle.wc_gc.specs.declared.fault.GcFault.{GcFault}
use Rattle.wc_gc.specs.declared.fault.GcFault.TheVariants.{Memory, Read, MissingExport, UnsupportedSection, LiveBody}
use Rattle.wc_gc.proofs.ExportLemmas.{all_kept}

-- roots

pub roots_seen : (es : List Export) → map (λ e. exported_item (export_value e)) es ≡ map exported_item (map export_value es)
roots_seen [] = refl
roots_seen (e ∷ es) = ap (λ xs. exported_item (export_value e) ∷ xs) (roots_seen es)

size_is : (m : ModuleValue) (k : ExportKind) → count_of m k ≡ size_of (decode m) (space_of k)
size_is m Func = sym (length-map m.funcs _)
size_is m Table = refl
size_is m MemoryKind = refl
size_is m GlobalKind = sym (length-map m.globals _)

pub export_there : (m : ModuleValue) (e : ExportValue) → e.index < count_of m e.kind → IsTrue (is_in (decode m) (exported_item e))
export_there m e h = ap (nat_lt e.index) (sym (size_is m e.kind)) ∙ lt-ltb e.index (count_of m e.kind) h

pub roots_there : (a : Module) (required : List (List ℕ)) (roots : List ItemIndex) → IsModule (module_value a)
    → roots ≡ map exported_item (kept_exports required (module_value a).exports)
    → All (λ (x : ItemIndex). IsTrue (is_in (decoded_module a) x)) roots
unfolding decoded_module
roots_there a required roots valid e =
    let m = module_value a in
    subst (All (λ (x : ItemIndex). IsTrue (is_in (decode m) x))) (sym e)
    (All-map (λ (x : ItemIndex). IsTrue (is_in (decode m) x)) exported_item (kept_exports required m.exports)
    (all_kept (λ (v : ExportValue). IsTrue (is_in (decode m) (exported_item v))) required m.exports
    (All-weaker (λ (v : ExportValue). v.index < count_of m v.kind) (λ (v : ExportValue). IsTrue (is_in (decode m) (exported_item v)))
    (export_there m) m.exports valid.exported)))

-- what a search of these roots says of a module

module _ (a : Module) (required : List (List ℕ)) (roots : List ItemIndex) where
  pub liveness_is : (live : ItemIndex → Bool) (turns : ℕ) → roots ≡ map exported_item (kept_exports required (module_value a).exports)
      → ((x : ItemIndex) → IsTrue (live x) ↔ IsReachedFrom (refs_in (decoded_module a)) roots x)
      → IsCount (IsReachedFrom (refs_in (decoded_module a)) roots) turns
      → ((x : ItemIndex) → IsReachedFrom (refs_in (decoded_module a)) roots x → is_item_in_range (decoded_module a) x ≡ true)
      → IsSupported required (module_value a) → IsLivenessOf required (module_value a) live turns
  unfolding decoded_module
  liveness_is live turns e reached counted in_range supported =
      let m = module_value a in
      record {
        is_live = λ x. subst (λ (z : List ItemIndex). IsTrue (live x) ↔ IsReachedFrom (refs_in (decode m)) z x) e (reached x);
        counted = subst (λ (z : List ItemIndex). IsCount (IsReachedFrom (refs_in (decode m)) z) turns) e counted;
        supported = supported;
        in_range = λ bad. absurd (both_ways _ bad.2 (subst (λ (z : List ItemIndex). (x : ItemIndex) → IsReachedFrom (refs_in (decode m)) z x
            → is_item_in_range (decode m) x ≡ true) e in_range bad.0 bad.1));
      }

pub missing_fault : (required : List (List ℕ)) (m : ModuleValue) (exports : List ExportValue) (f : GcFault) → exports ≡ m.exports
    → (f ≡ Memory) ⊎ ((name : String Global) × (f ≡ MissingExport name) × (missing_name exports required ≡ Some (string_bytes name))) → IsFaultOf required m f
missing_fault required m exports f e (inl is) = subst (IsFaultOf required m) (sym is) refl
missing_fault required m exports f e (inr is) =
    subst (IsFaultOf required m) (sym is.1) (subst (λ (z : List ExportValue). missing_name z required ≡ Some (string_bytes is.0)) e is.2)

-- the order of faults

some_or_none : {A : Type 0} {o : Option A} {x : A} → o ≡ None → o ≡ Some x → ⊥
some_or_none p q = absurd (cc (p, q))

module _ (w : TrimInput) (m : ModuleValue) (s : SpellsModule w.bytes m) where
  not_missing : missing_name m.exports w.required ≡ None → (name : String Global) → ¬ (IsLivenessCause w (MissingExport name))
  not_missing none name c = some_or_none none (subst (λ (v : ModuleValue). missing_name v.exports w.required ≡ Some (string_bytes name))
      (modules_one w.bytes c.0 m c.1 s) c.2)

  not_unsupported : ¬ (HasUnsupported m) → ¬ (IsLivenessCause w UnsupportedSection)
  not_unsupported none c = none (subst HasUnsupported (modules_one w.bytes c.0 m c.1 s) c.2)

  not_live : ¬ (HasLiveBody w.required m) → ¬ (IsLivenessCause w LiveBody)
  not_live none c = none (subst (HasLiveBody w.required) (modules_one w.bytes c.0 m c.1 s) c.2)

  before_missing : (g : GcFault) → order_of g < 2 → ¬ (IsLivenessCause w g)
  before_missing Memory h c = c.2
  before_missing (Read r) h c = c.0 m s
  before_missing (MissingExport name) h c = absurd (omega arith)
  before_missing UnsupportedSection h c = absurd (omega arith)
  before_missing LiveBody h c = absurd (omega arith)
  before_missing g h c = c.2

  before_unsupported : missing_name m.exports w.required ≡ None → (g : GcFault) → order_of g < 3 → ¬ (IsLivenessCause w g)
  before_unsupported none Memory h c = c.2
  before_unsupported none (Read r) h c = c.0 m s
  before_unsupported none (MissingExport name) h c = not_missing none name c
  before_unsupported none UnsupportedSection h c = absurd (omega arith)
  before_unsupported none LiveBody h c = absurd (omega arith)
  before_unsupported none g h c = c.2

  before_live : IsSupported w.required m → (g : GcFault) → order_of g < 4 → ¬ (IsLivenessCause w g)
  before_live none Memory h c = c.2
  before_live none (Read r) h c = c.0 m s
  before_live none (MissingExport name) h c = not_missing none.0 name c
  before_live none UnsupportedSection h c = not_unsupported none.1 c
  before_live none LiveBody h c = absurd (omega arith)
  before_live none g h c = c.2

  pub fault_of : (f : GcFault) → IsFaultOf w.required m f → IsFault w f
  fault_of Memory h = inl refl
  fault_of (Read r) h = inl h
  fault_of (MissingExport name) h = inr ((m, s, h), before_missing)
  fault_of UnsupportedSection h = inr ((m, s, h.1), before_unsupported h.0)
  fault_of LiveBody h = inr ((m, s, h.1), before_live h.0)
  fault_of f h = inl h

  pub no_cause_of : IsSupported w.required m → ¬ (HasLiveBody w.required m) → (f : GcFault) → ¬ (IsLivenessCause w f)
  no_cause_of none in_range Memory c = c.2
  no_cause_of none in_range (Read r) c = c.0 m s
  no_cause_of none in_range (MissingExport name) c = not_missing none.0 name c
  no_cause_of none in_range UnsupportedSection c = not_unsupported none.1 c
  no_cause_of none in_range LiveBody c = not_live in_range c
  no_cause_of none in_range f c = c.2

-- bytes that are no module

pub not_read : (w : TrimInput) (g : GcFault) → order_of g < 1 → ¬ (IsLivenessCause w g)
not_read w Memory h c = c.2
not_read w (Read r) h c = absurd (omega arith)
not_read w (MissingExport name) h c = absurd (omega arith)
not_read w UnsupportedSection h c = absurd (omega arith)
not_read w LiveBody h c = absurd (omega arith)
not_read w g h c = c.2

pub read_fault : {T : Type 0} (w : TrimInput) (f : ReadFault) → (f ≢ read_memory → SpellsNothing SpellsModule w.bytes)
    → (IsErrOf {T = T} (Err f) Component ↔ IsComponent w.bytes) → IsFault w (of_read f)
read_fault w read_memory nothing component = inl refl
read_fault w f nothing component = inr (
  (
    nothing (λ e. absurd cc),
    (λ e. absurd cc),
    ((λ e. component.0 (ap Err e)), (λ h. let is = component.1 h in cc)),
  ),
  not_read w,
)

-- what is live is live by any test of the same answers
pub same_live : (required : List (List ℕ)) (m : ModuleValue) (live other : ItemIndex → Bool) (turns : ℕ) → ((x : ItemIndex) → live x ≡ other x)
    → IsLivenessOf required m other turns → IsLivenessOf required m live turns
same_live required m live other turns same h = record {
  is_live = λ x. subst (λ (b : Bool). IsTrue b ↔ IsLive required m x) (sym (same x)) (h.is_live x);
  counted = h.counted;
  supported = h.supported;
  in_range = h.in_range;
}
