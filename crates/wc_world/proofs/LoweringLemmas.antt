-- Lowerings that are added to others.
use Rattle.std.proofs.Common.{◌≡◌, ℕ, List, [], ◌∷◌, ◌++◌, Bool, true, false, cond, Option, Some, map, All, String, sym, ap, subst, ◌∙◌, append-nil, append_assoc}
use Rattle.std.specs.List.{flat_map, list_any}
use Rattle.std.proofs.lemmas.List.Elements.{All-tail}
use Rattle.std.specs.Option.{option_map_or}
use Rattle.std.specs.declared.alloc.Global.{Global}
use Rattle.std.proofs.lemmas.List.{map-append}
use Rattle.wc_resolve.specs.declared.functions.AbiVariant.{AbiVariant}
use Rattle.wc_resolve.specs.Views.{FunctionView}
use Rattle.wc_world.specs.declared.imported.Lowering.{Lowering}
use Rattle.wc_world.specs.Lowering.{KeyedLowering, Lowerer, called_lowering, drop_key, is_drop_of, is_import_of, lowered_function, resource_lowerings, resource_name, type_lowerings}
use Rattle.wc_world.specs.Views.{resource_drop}
use Rattle.wc_world.specs.WorldViews.{lowering_entry}

-- one more
pub pushed : (old new : List ((String Global × AbiVariant) × Lowering)) (x : (String Global × AbiVariant) × Lowering) → new ≡ old ++ x ∷ [] → map lowering_entry new ≡ map lowering_entry old ++ lowering_entry x ∷ []
pushed old new x is = ap (map lowering_entry) is ∙ map-append lowering_entry old (x ∷ [])

pub call_pushed : (l : Lowerer) (interface : Option ℕ) (f : FunctionView) (abi : AbiVariant) (old new : List KeyedLowering) (e : KeyedLowering) (t : Bool)
    → t ≡ list_any (is_import_of interface f.name abi) l.imports → t ≡ true → e ≡ ((f.name, abi), lowered_function l f abi) → new ≡ old ++ e ∷ [] → new ≡ old ++ called_lowering l interface f abi
call_pushed l interface f abi old new e t same has is put =
    put ∙ ap (λ z. old ++ z) (ap (λ z. z ∷ []) is ∙ ap (λ b. cond b (((f.name, abi), lowered_function l f abi) ∷ []) []) (sym (sym same ∙ has)))

module _ (l : Lowerer) (t : ℕ) (name : List ℕ) (test : Bool) (named : Some name ≡ resource_name l.resolve t) (same : test ≡ list_any (is_drop_of t) l.imports) (old : List KeyedLowering) where
  type_is : (b : Bool) → test ≡ b → type_lowerings l t ≡ cond b ((drop_key name, resource_drop t) ∷ []) []
  type_is b is = ap (λ o. option_map_or (resource_lowerings l t) o []) (sym named) ∙ ap (λ c. cond c ((drop_key name, resource_drop t) ∷ []) []) (sym same ∙ is)

  pub drop_missing : test ≡ false → old ≡ old ++ type_lowerings l t
  drop_missing none = sym (ap (λ z. old ++ z) (type_is false none) ∙ append-nil old)

  pub drop_pushed : test ≡ true → (new : List KeyedLowering) (e : KeyedLowering) → e ≡ (drop_key name, resource_drop t) → new ≡ old ++ e ∷ [] → new ≡ old ++ type_lowerings l t
  drop_pushed has new e is put = put ∙ ap (λ z. old ++ z) (ap (λ z. z ∷ []) is ∙ sym (type_is true has))

-- what elements add, one after another
pub joined_next : {X Y : Type 0} (f : X → List Y) (all left rest : List X) (x : X) (old before after : List Y) → left ≡ x ∷ rest → before ++ flat_map f left ≡ old ++ flat_map f all → after ≡ before ++ f x → after ++ flat_map f rest ≡ old ++ flat_map f all
joined_next f all left rest x old before after is same put =
    ap (λ z. z ++ flat_map f rest) put ∙ (append_assoc before (f x) (flat_map f rest) ∙ (ap (λ z. before ++ flat_map f z) (sym is) ∙ same))

pub joined_end : {X Y : Type 0} (f : X → List Y) (all left : List X) (old after : List Y) → left ≡ [] → after ++ flat_map f left ≡ old ++ flat_map f all → after ≡ old ++ flat_map f all
joined_end f all left old after none same = sym (append-nil after) ∙ (ap (λ z. after ++ flat_map f z) (sym none) ∙ same)

pub all_rest : {X : Type 0} (P : X → Type 0) (left rest : List X) (x : X) → left ≡ x ∷ rest → All P left → All P rest
all_rest P left rest x is h = All-tail P x rest (subst (All P) is h)
