-- Loops that push, for each element, some indices.
use Rattle.std.proofs.Common.{◌≡◌, ℕ, String, List, [], ◌∷◌, ◌++◌, map, refl, sym, ap, ◌∙◌, append-nil, append_assoc}
use Rattle.std.specs.List.{flat_map}
use Rattle.std.specs.declared.alloc.Global.{Global}
use Rattle.std.proofs.lemmas.Grind.{flat_map-append}
use Rattle.std.proofs.lemmas.List.Concat.{flat_map_single}
use Rattle.std.proofs.lemmas.List.Folds.{flat_map-map}
use Rattle.wc_resolve.specs.declared.functions.Function.{Function}
use Rattle.wc_resolve.specs.declared.ids.TypeId.{TypeId}
use Rattle.wc_resolve.specs.declared.types.WitType.{WitType}
use Rattle.wc_resolve.specs.Roots.{function_roots, type_roots}
use Rattle.wc_resolve.specs.Views.{FunctionView, function_entry, function_view, type_entry}
use Rattle.wc_texts.specs.Names.{named_view}

pub record IsPushed {E : Type 0} (f : E → List ℕ) (full left : List E) (old new : List ℕ) : Type 0 where
  pub front : List E
  pub split : full ≡ front ++ left
  pub pushed : new ≡ old ++ flat_map f front

pub push_step : {E : Type 0} (f : E → List ℕ) (full left rest : List E) (e : E) (old mid new : List ℕ) → IsPushed f full left old mid → left ≡ e ∷ rest → new ≡ mid ++ f e → IsPushed f full rest old new
push_step f full left rest e old mid new p at more = record {
  front = p.front ++ e ∷ [];
  split = p.split ∙ ap (λ z. p.front ++ z) at ∙ sym (append_assoc p.front (e ∷ []) rest);
  pushed = more ∙ ap (λ z. z ++ f e) p.pushed ∙ append_assoc old (flat_map f p.front) (f e) ∙ ap (λ z. old ++ z) (sym (flat_map-append f p.front (e ∷ []) ∙ ap (λ z. flat_map f p.front ++ z) (append-nil (f e))));
}

pub push_end : {E : Type 0} (f : E → List ℕ) (full left : List E) (old new : List ℕ) → IsPushed f full left old new → left ≡ [] → new ≡ old ++ flat_map f full
push_end f full left old new p none = p.pushed ∙ ap (λ z. old ++ flat_map f z) (sym (p.split ∙ ap (λ z. p.front ++ z) none ∙ append-nil p.front))

pub passed : (params : List (String Global × WitType)) (deref : List (String Global × WitType)) (back old mid new : List ℕ) → deref ≡ params → mid ≡ old ++ flat_map (λ (p : String Global × WitType). type_roots p.1) deref → new ≡ mid ++ back
    → new ≡ old ++ (flat_map (λ (p : List ℕ × WitType). type_roots p.1) (map named_view params) ++ back)
passed params deref back old mid new same first second =
    let seen : flat_map (λ (p : List ℕ × WitType). type_roots p.1) (map named_view params) ≡ flat_map (λ (p : String Global × WitType). type_roots p.1) params = flat_map-map (λ (p : List ℕ × WitType). type_roots p.1) named_view params in
    second ∙ ap (λ z. z ++ back) (first ∙ ap (λ z. old ++ flat_map (λ (p : String Global × WitType). type_roots p.1) z) same ∙ ap (λ z. old ++ z) (sym seen))
    ∙ append_assoc old (flat_map (λ (p : List ℕ × WitType). type_roots p.1) (map named_view params)) back

named_indices : (types : List (String Global × TypeId)) → map (λ (e : List ℕ × ℕ). e.1) (map type_entry types) ≡ map (λ (e : String Global × TypeId). e.1.0) types
named_indices [] = refl
named_indices (e ∷ types) = ap (λ rest. e.1.0 ∷ rest) (named_indices types)

pub interface_pushed : (types : List (String Global × TypeId)) (functions : List (String Global × Function)) (old mid new : List ℕ) → old ≡ []
    → mid ≡ old ++ flat_map (λ (e : String Global × TypeId). e.1.0 ∷ []) types → new ≡ mid ++ flat_map (λ (e : String Global × Function). function_roots (function_view e.1)) functions
    → new ≡ map (λ (e : List ℕ × ℕ). e.1) (map type_entry types) ++ flat_map (λ (e : List ℕ × FunctionView). function_roots e.1) (map function_entry functions)
interface_pushed types functions old mid new none first second =
    let one : flat_map (λ (e : String Global × TypeId). e.1.0 ∷ []) types ≡ map (λ (e : String Global × TypeId). e.1.0) types = flat_map_single (λ (e : String Global × TypeId). e.1.0) types in
    let named : map (λ (e : List ℕ × ℕ). e.1) (map type_entry types) ≡ map (λ (e : String Global × TypeId). e.1.0) types = named_indices types in
    let seen : flat_map (λ (e : List ℕ × FunctionView). function_roots e.1) (map function_entry functions) ≡ flat_map (λ (e : String Global × Function). function_roots (function_view e.1)) functions =
    flat_map-map (λ (e : List ℕ × FunctionView). function_roots e.1) function_entry functions in
    second ∙ ap (λ z. z ++ flat_map (λ (e : String Global × Function). function_roots (function_view e.1)) functions) (first ∙ ap (λ z. z ++ flat_map (λ (e : String Global × TypeId). e.1.0 ∷ []) types) none ∙ one ∙ sym named)
    ∙ ap (λ z. map (λ (e : List ℕ × ℕ). e.1) (map type_entry types) ++ z) (sym seen)
