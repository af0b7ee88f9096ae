-- Adapters and libraries gone through, and those that are needed.
use Rattle.std.proofs.Common.{◌≡◌, ◌≢◌, ◌⊎◌, ℕ, List, [], ◌∷◌, ◌++◌, Bool, true, false, cond, map, filter, All, Option, Some, String, string_bytes, string_eq, true≢false, refl, sym, ap, ◌∙◌, subst, append_assoc, append-nil, inl, inr}
use Rattle.std.specs.Prelude.{if◌then◌else◌}
use Rattle.std.specs.Borrow.{Bor}
use Rattle.std.specs.List.{AllByRecursion, AllZip, IsDistinct}
use Rattle.std.specs.Map.{keys_of, lookup}
use Rattle.std.specs.Option.{option_map}
use Rattle.std.specs.declared.alloc.Global.{Global}
use Rattle.std.specs.Str.{bytes_eq}
use Rattle.std.proofs.lemmas.List.{map-append}
use Rattle.std.proofs.lemmas.List.Elements.{All-from_recursion, filter-append, recursion_from_All}
use Rattle.std.proofs.lemmas.Slice.Eq.{bytes_eq-Decides}
use Rattle.indexmap.specs.IndexMap.{insert_entry}
use Rattle.wc_graph.proofs.ListLemmas.{all_filter}
use Rattle.wc_read.specs.Types.{FuncTypeValue}
use Rattle.wc_resolve.specs.Kinds.{ResolveView}
use Rattle.wc_resolve.proofs.KeyLemmas.{texts_law}
use Rattle.wc_maps.proofs.LookupLemmas.{name_viewed}
use Rattle.wc_adapters.specs.declared.adapters.Adapter.{Adapter}
use Rattle.wc_adapters.specs.Adapters.{AdapterView, adapter_entry as input_entry, adapter_view as input_view}
use Rattle.wc_encoder.specs.EncoderParts.{EncoderView, world_exports}
use Rattle.wc_adapters.specs.Entries.{Entries}
use Rattle.wc_validate.specs.Imports.Map.{required_in}
use Rattle.wc_validate.specs.Validate.{IsRecordOf, ModuleRecord, main_input}
use Rattle.wc_validate.specs.Refused.{RefusedModule}
use Rattle.wc_world.specs.Trimming.{HasOtherName, NamedAdapter, is_adapter_needed, is_needed, needed_adapters}
use Rattle.wc_world.specs.Causes.{IsComponentWorldCause, IsFaultOf, IsFirst, IsFirstFault, IsMemory, IsMemoryOf, IsReachedMemory, IsStopOf, IsValidAdapter}
use Rattle.wc_world.specs.Private.Refused.{IsFirstRefusal, IsMainRefusal, IsNeededStopAt, IsRefusalOfMain}
use Rattle.wc_world.specs.Refused.{IsMemoryRefusal, IsRefusedAt, RefusedWorld}
use Rattle.wc_world.specs.Views.{NamedWorldAdapter}
use Rattle.wc_world.specs.World.{AreAdaptersAmong, IsAdapterOf, IsMainRecord}
use Rattle.wc_world.specs.WorldViews.{adapter_entry}
use Rattle.wc_world.specs.declared.adapter.WorldAdapter.{WorldAdapter}
use Rattle.wc_world.specs.declared.fault.WorldFault.{WorldFault}
use Rattle.wc_world.specs.declared.fault.WorldFault.TheVariants.{Main, Memory}
use Rattle.wc_world.proofs.FaultLemmas.{refused_or_memory}
use Rattle.wc_world.proofs.RefusedLemmas.{adapter_placed, memory_placed}

pub zip_push : {A B : Type 0} (R : A → B → Type 0) (xs : List A) (ys : List B) (x : A) (y : B) → AllZip R xs ys → R x y → AllZip R (xs ++ x ∷ []) (ys ++ y ∷ [])
zip_push R [] [] x y h r = (r, tt)
zip_push R [] (b ∷ ys) x y h r = absurd h
zip_push R (a ∷ xs) [] x y h r = absurd h
zip_push R (a ∷ xs) (b ∷ ys) x y h r = (h.0, zip_push R xs ys x y h.1 r)

-- one more, which passes the test or does not
kept_push : {X : Type 0} (test : X → Bool) (xs : List X) (x : X) (b : Bool) → test x ≡ b → filter test (xs ++ x ∷ []) ≡ filter test xs ++ cond b (x ∷ []) []
kept_push test xs x b is = filter-append test xs (x ∷ []) ∙ ap (λ z. filter test xs ++ cond z (x ∷ []) []) is

kept_cut : {X : Type 0} (test : X → Bool) (xs : List X) (x : X) (rest : List X) → test x ≡ true → filter test (xs ++ x ∷ rest) ≡ filter test xs ++ x ∷ filter test rest
kept_cut test xs x rest is = filter-append test xs (x ∷ rest) ∙ ap (λ z. filter test xs ++ cond z (x ∷ filter test rest) (filter test rest)) is

module _ (e : EncoderView) (main : ModuleRecord) where
  all_valid : (xs : List NamedAdapter) (ys : List NamedWorldAdapter) → AllZip (IsAdapterOf e main) xs ys → AllByRecursion (IsValidAdapter e main) xs
  all_valid [] ys h = tt
  all_valid (x ∷ xs) [] h = absurd h
  all_valid (x ∷ xs) (y ∷ ys) h = ((y, h.0), all_valid xs ys h.1)

  other_names : (name : List ℕ) (xs : List NamedAdapter) (ys : List NamedWorldAdapter) → AllByRecursion (HasOtherName name) xs → AllZip (IsAdapterOf e main) xs ys → AllByRecursion (λ (y : NamedWorldAdapter). y.0 ≢ name) ys
  other_names name [] [] others h = tt
  other_names name [] (y ∷ ys) others h = absurd h
  other_names name (x ∷ xs) [] others h = absurd h
  other_names name (x ∷ xs) (y ∷ ys) others h = ((λ same. others.0 (sym h.0.named ∙ same)), other_names name xs ys others.1 h.1)

-- a new name goes last
abbrev pub RawAdapter : Type 0
RawAdapter = Bor (List ℕ) × WorldAdapter

put_at : (old e : RawAdapter) (es : List RawAdapter) (b : Bool) → (b ≡ true → ⊥) → insert_entry (λ (a c : Bor (List ℕ)). bytes_eq a.now c.now) es e.0 e.1 ≡ es ++ e ∷ []
    → (if b then (old.0, e.1) ∷ es else old ∷ insert_entry (λ (a c : Bor (List ℕ)). bytes_eq a.now c.now) es e.0 e.1) ≡ old ∷ (es ++ e ∷ [])
put_at old e es true never later = absurd (never refl)
put_at old e es false never later = ap (λ z. old ∷ z) later

put_last : (es : List RawAdapter) (e : RawAdapter) → AllByRecursion (λ (y : NamedWorldAdapter). y.0 ≢ e.0.now) (map adapter_entry es) → insert_entry (λ (a c : Bor (List ℕ)). bytes_eq a.now c.now) es e.0 e.1 ≡ es ++ e ∷ []
put_last [] e others = refl
put_last (old ∷ es) e others = put_at old e es (bytes_eq e.0.now old.0.now) (λ same. others.0 (sym ((bytes_eq-Decides e.0.now old.0.now).0 same))) (put_last es e others.1)

module _ (e : EncoderView) (main : ModuleRecord) (x : NamedAdapter) (passed : List NamedAdapter) where
  -- one that is
  pub adapter_last : (old new : List RawAdapter) (key : Bor (List ℕ)) (a : WorldAdapter) → is_adapter_needed e main x ≡ true → key.now ≡ x.0 → new ≡ insert_entry (λ (a c : Bor (List ℕ)). bytes_eq a.now c.now) old key a
      → IsAdapterOf e main x (adapter_entry (key, a)) → All (HasOtherName x.0) passed → AreAdaptersAmong e main passed (map adapter_entry old) → AreAdaptersAmong e main (passed ++ x ∷ []) (map adapter_entry new)
  adapter_last old new key a needed is put is_adapter others h =
      let differs : AllByRecursion (λ (y : NamedWorldAdapter). y.0 ≢ key.now) (map adapter_entry old) =
      subst (λ n. AllByRecursion (λ (y : NamedWorldAdapter). y.0 ≢ n) (map adapter_entry old)) (sym is)
      (other_names e main x.0 (filter (is_adapter_needed e main) passed) (map adapter_entry old) (all_filter (HasOtherName x.0) (is_adapter_needed e main) passed (recursion_from_All (HasOtherName x.0) passed others)) h) in
      let more : map adapter_entry new ≡ map adapter_entry old ++ adapter_entry (key, a) ∷ [] = ap (map adapter_entry) (put ∙ put_last old (key, a) differs) ∙ map-append adapter_entry old ((key, a) ∷ []) in
      subst (λ z. AreAdaptersAmong e main (passed ++ x ∷ []) z) (sym more)
      (subst (λ z. AllZip (IsAdapterOf e main) z (map adapter_entry old ++ adapter_entry (key, a) ∷ []))
      (sym (kept_push (is_adapter_needed e main) passed x true needed))
      (zip_push (IsAdapterOf e main) (filter (is_adapter_needed e main) passed) (map adapter_entry old) x (adapter_entry (key, a)) h is_adapter))

-- names of a map are distinct
abbrev pub RawInput : Type 0
RawInput = String Global × Adapter

test_in : (test : String Global → Bool) (front rest : List RawInput) (x : RawInput) → AllByRecursion (λ y. test y ≡ false) (keys_of (front ++ x ∷ rest)) → test x.0 ≡ false
test_in test [] rest x h = h.0
test_in test (p ∷ front) rest x h = test_in test front rest x h.1

others_before : (front rest : List RawInput) (x : RawInput) → IsDistinct string_eq (keys_of (front ++ x ∷ rest)) → AllByRecursion (HasOtherName (string_bytes x.0)) (map input_entry front)
unfolding IsDistinct
others_before [] rest x h = tt
others_before (p ∷ front) rest x h = (
  (λ same. true≢false (sym ((texts_law p.0 x.0).1 same) ∙ test_in (string_eq p.0) front rest x h.0)),
  others_before front rest x h.1,
)

-- the first of a name is the one that is found
passed_over : (b : Bool) (a : AdapterView) (rest : Option AdapterView) → (b ≡ true → ⊥) → cond b (Some a) rest ≡ rest
passed_over true a rest never = absurd (never refl)
passed_over false a rest never = refl

found_at : (name : List ℕ) (front back : List NamedAdapter) (a : AdapterView) → AllByRecursion (HasOtherName name) front → lookup (bytes_eq name) (front ++ (name, a) ∷ back) ≡ Some a
found_at name [] back a others = ap (λ b. cond b (Some a) (lookup (bytes_eq name) back)) ((bytes_eq-Decides name name).1 refl)
found_at name (p ∷ front) back a others =
    passed_over (bytes_eq name p.0) p.1 (lookup (bytes_eq name) (front ++ (name, a) ∷ back)) (λ same. others.0 (sym ((bytes_eq-Decides name p.0).0 same)))
    ∙ found_at name front back a others.1

-- the adapter of a name, among those that are read
pub adapter_found : (e : EncoderView) (es : List RawInput) (name : List ℕ) (o : Option Adapter) → map input_entry es ≡ e.adapters
    → o ≡ lookup (λ k. bytes_eq name (string_bytes k)) es → lookup (bytes_eq name) e.adapters ≡ option_map input_view o
adapter_found e es name o are is = sym (ap (option_map input_view) is ∙ (name_viewed input_view es name ∙ ap (lookup (bytes_eq name)) are))

-- adapters that are gone through, and those that are left
pub record AdaptersWalk (e : EncoderView) (main : ModuleRecord) (left : List RawInput) (ys : List NamedWorldAdapter) : Type 0 where
  pub front : List RawInput
  pub split : map input_entry (front ++ left) ≡ e.adapters
  pub distinct : IsDistinct string_eq (keys_of (front ++ left))
  pub is_adapter : AreAdaptersAmong e main (map input_entry front) ys

module _ (e : EncoderView) (main : ModuleRecord) (left : List RawInput) where
  pub walk_start : (all : List RawInput) (ys : List NamedWorldAdapter) → left ≡ all → map input_entry all ≡ e.adapters → IsDistinct string_eq (keys_of all) → ys ≡ [] → AdaptersWalk e main left ys
  walk_start all ys is are distinct none = record {
    front = [];
    split = ap (map input_entry) is ∙ are;
    distinct = subst (λ z. IsDistinct string_eq (keys_of z)) (sym is) distinct;
    is_adapter = subst (AreAdaptersAmong e main []) (sym none) tt;
  }

  pub walk_next : (rest : List RawInput) (x : RawInput) (old new : List NamedWorldAdapter) → left ≡ x ∷ rest
      → ((passed : List NamedAdapter) → All (HasOtherName (string_bytes x.0)) passed → AreAdaptersAmong e main passed old → AreAdaptersAmong e main (passed ++ input_entry x ∷ []) new)
      → AdaptersWalk e main left old → AdaptersWalk e main rest new
  walk_next rest x old new is put w =
      let same : w.front ++ left ≡ (w.front ++ x ∷ []) ++ rest = ap (λ z. w.front ++ z) is ∙ sym (append_assoc w.front (x ∷ []) rest) in
      record {
        front = w.front ++ x ∷ [];
        split = ap (map input_entry) (sym same) ∙ w.split;
        distinct = subst (λ z. IsDistinct string_eq (keys_of z)) same w.distinct;
        is_adapter = subst (λ z. AreAdaptersAmong e main z new) (sym (map-append input_entry w.front (x ∷ [])))
            (put (map input_entry w.front) (All-from_recursion (HasOtherName (string_bytes x.0)) (map input_entry w.front) (others_before w.front rest x (subst (λ z. IsDistinct string_eq (keys_of (w.front ++ z))) is w.distinct))) w.is_adapter);
      }

  pub walk_end : (ys : List NamedWorldAdapter) → left ≡ [] → AdaptersWalk e main left ys → AreAdaptersAmong e main e.adapters ys
  walk_end ys none w =
      subst (λ z. AreAdaptersAmong e main z ys) (ap (map input_entry) (sym (append-nil w.front) ∙ ap (λ z. w.front ++ z) (sym none)) ∙ w.split) w.is_adapter

  pub walk_refusal : (rest : List RawInput) (x : RawInput) (ys : List NamedWorldAdapter) (r : RefusedWorld) → left ≡ x ∷ rest → IsNeededStopAt e main (input_entry x) r → AdaptersWalk e main left ys → IsFirstRefusal e main r
  walk_refusal rest x ys r is h w =
      let cut : e.adapters ≡ map input_entry w.front ++ input_entry x ∷ map input_entry rest = sym w.split ∙ (ap (λ z. map input_entry (w.front ++ z)) is ∙ map-append input_entry w.front (x ∷ rest)) in
      let others = others_before w.front rest x (subst (λ z. IsDistinct string_eq (keys_of (w.front ++ z))) is w.distinct) in
      let there : lookup (bytes_eq (string_bytes x.0)) e.adapters ≡ Some (input_entry x).1 = ap (lookup (bytes_eq (string_bytes x.0))) cut ∙ found_at (string_bytes x.0) (map input_entry w.front) (map input_entry rest) (input_entry x).1 others in
      record {
        front = filter (is_adapter_needed e main) (map input_entry w.front);
        adapter = input_entry x;
        back = filter (is_adapter_needed e main) (map input_entry rest);
        cut = ap (filter (is_adapter_needed e main)) cut
            ∙ kept_cut (is_adapter_needed e main) (map input_entry w.front) (input_entry x) (map input_entry rest) h.0;
        are_valid = All-from_recursion (IsValidAdapter e main) (filter (is_adapter_needed e main) (map input_entry w.front)) (all_valid e main (filter (is_adapter_needed e main) (map input_entry w.front)) ys w.is_adapter);
        here = ((there, h.0), h.1);
      }

-- what is required of an adapter decides whether it is needed
pub needed_by : (e : EncoderView) (main : ModuleRecord) (x : NamedAdapter) (r : ResolveView) (exports : Entries) (required : List (List ℕ × FuncTypeValue)) → r ≡ e.resolve → world_exports e ≡ exports → required ≡ required_in main.imports x.0
    → is_adapter_needed e main x ≡ is_needed r exports x.1 required
needed_by e main x r exports required same are is =
    ap (λ z. is_needed e.resolve (world_exports e) x.1 z) (sym is) ∙ (ap (λ z. is_needed e.resolve z x.1 required) are ∙ ap (λ z. is_needed z exports x.1 required) (sym same))

-- the fault of the adapters has its cause, the main module being valid
pub adapters_cause : (e : EncoderView) (main : ModuleRecord) (f : WorldFault) → IsRecordOf (main_input e e.module_import_map) e.module_bytes main → IsFirstFault e main f → IsComponentWorldCause e f
adapters_cause e main (Main v) h first = absurd first.here
adapters_cause e main f h first = record { main = main; recorded = h; first = first }

adapters_memory : (e : EncoderView) (main : ModuleRecord) (f : WorldFault) → IsRecordOf (main_input e e.module_import_map) e.module_bytes main → IsReachedMemory e main f → IsMemory e f
adapters_memory e main Memory h first = tt
adapters_memory e main (Main v) h first = absurd first.here
adapters_memory e main f h first = record { main = main; recorded = h; first = first }

-- what is so of the first is one of two
first_cases : (e : EncoderView) (main : ModuleRecord) (xs : List NamedAdapter) (P Q : NamedAdapter → Type 0) → IsFirst e main xs (λ x. P x ⊎ Q x) → IsFirst e main xs P ⊎ IsFirst e main xs Q
first_cases e main xs P Q h =
    elim h.here [
      | inl p ↦ inl (record { front = h.front; adapter = h.adapter; back = h.back; cut = h.cut; are_valid = h.are_valid; here = p })
      | inr q ↦ inr (record { front = h.front; adapter = h.adapter; back = h.back; cut = h.cut; are_valid = h.are_valid; here = q })
    ]

first_stop : (e : EncoderView) (main : ModuleRecord) (x : RefusedWorld) → IsFirstRefusal e main x → IsFirst e main (needed_adapters e main) (λ a. IsStopOf e main a x.fault)
first_stop e main x h = record { front = h.front; adapter = h.adapter; back = h.back; cut = h.cut; are_valid = h.are_valid; here = h.here.1.0 }

pub first_or_memory : (e : EncoderView) (main : ModuleRecord) (x : RefusedWorld) → IsRecordOf (main_input e e.module_import_map) e.module_bytes main → IsMemoryRefusal x ⊎ IsFirstRefusal e main x
    → IsMemory e x.fault ⊎ IsComponentWorldCause e x.fault
first_or_memory e main x h (inl memory) = inl (subst (IsMemory e) (sym memory.0) tt)
first_or_memory e main x h (inr first) =
    elim (first_cases e main (needed_adapters e main) (λ a. IsFaultOf e main a x.fault) (λ a. IsMemoryOf e main a x.fault) (first_stop e main x first)) [
      | inl first ↦ inr (adapters_cause e main x.fault h first)
      | inr first ↦ inl (adapters_memory e main x.fault h first)
    ]

-- and its place
pub first_placed : (e : EncoderView) (main : ModuleRecord) (x : RefusedWorld) → IsMainRecord e main → IsMemoryRefusal x ⊎ IsFirstRefusal e main x → IsRefusedAt e x
first_placed e main x h (inl memory) = memory_placed e x memory
first_placed e main x h (inr first) = adapter_placed e main h first.adapter first.here.0 x.fault x.place first.here.1.0 first.here.1.1

-- the main module is refused
pub main_refused : (e : EncoderView) (m : RefusedModule) (x : RefusedWorld) → IsRefusalOfMain e m → IsMainRefusal m x → IsMemory e x.fault ⊎ IsComponentWorldCause e x.fault
main_refused e m x h is = subst (λ f. IsMemory e f ⊎ IsComponentWorldCause e f) (sym is.0) (refused_or_memory (main_input e e.module_import_map) e.module_bytes m.fault h.0)

-- of an adapter that the walk has come to, under the name that was read
pub first_by_walk : (e : EncoderView) (main : ModuleRecord) (left rest : List RawInput) (x : RawInput) (ys : List NamedWorldAdapter) (r : RefusedWorld) (name : List ℕ) → left ≡ x ∷ rest → name ≡ string_bytes x.0
    → IsMemoryRefusal r ⊎ IsNeededStopAt e main (name, (input_entry x).1) r → AdaptersWalk e main left ys → IsMemoryRefusal r ⊎ IsFirstRefusal e main r
first_by_walk e main left rest x ys r name is same (inl memory) w = inl memory
first_by_walk e main left rest x ys r name is same (inr stop) w = inr (walk_refusal e main left rest x ys r is (subst (λ n. IsNeededStopAt e main (n, (input_entry x).1) r) same stop) w)
