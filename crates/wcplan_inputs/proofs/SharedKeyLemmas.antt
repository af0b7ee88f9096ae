-- Which module has to export which key: one more adapter, one more key, and why a key is not shared.
use Rattle.std.proofs.Common.{◌≡◌, ◌≢◌, ℕ, ◌+◌, ◌<◌, ◌==◌, ◌||◌, zero, suc, Bool, true, false, if◌then◌else◌, List, [], ◌∷◌, ◌++◌, map, length, take, drop, get_or, All, IsTrue, Option, Result, Ok, Err, IfOk, IfErr, OnOk, refl, sym, ◌∙◌, ap, subst, append-nil, inl, inr, arith}
use Rattle.std.specs.Borrow.{Bor}
use Rattle.std.specs.List.{flat_map}
use Rattle.std.specs.Option.{option_map, option_to_list}
use Rattle.std.proofs.lemmas.Bool.Decides.{eqb_tells}
use Rattle.std.proofs.lemmas.List.{length-map}
use Rattle.std.proofs.lemmas.List.Concat.{flat_map-append}
use Rattle.wc_selection.specs.Keys.{NamedKey}
use Rattle.wc_maps.specs.Texts.{text_of}
use Rattle.wc_maps.proofs.ListLemmas.{cut_at, passed_more}
use Rattle.wcplan_inputs.specs.Arguments.{CommandView}
use Rattle.wcplan_inputs.specs.SharedKeys.{AreGiven, AreGivenIf, AreNamesOf, AreSharedAmong, AreUnshared, AskedKey, ExportScope, IsUnshared, IsUnsharedAmong, IsUnsharedKey, ModuleNames, asked_key, exporters, has_all, is_open, is_shared, named_pairs, shared_pairs}
use Rattle.wcplan_inputs.specs.declared.exporter_fault.ExporterFault.{ExporterFault}
use Rattle.wcplan_inputs.specs.declared.exporter_fault.ExporterFault.TheVariants.{Memory, NoExporter, SeveralExporters}

-- texts, by references
abbrev Words : Type 0
Words = List (Bor (List ℕ))

flat_push : {A B : Type 0} (f : A → List B) (xs : List A) (x : A) → flat_map f (xs ++ x ∷ []) ≡ flat_map f xs ++ f x
flat_push f xs x = flat_map-append f xs (x ∷ []) ∙ ap (λ l. flat_map f xs ++ l) (append-nil (f x))

-- what one more gives
pub flat_more : {A B C : Type 0} (f : B → List C) (v : A → B) (xs : List A) (k : ℕ) (d : A) (found after : List C) → k < length xs
    → found ≡ flat_map f (map v (take k xs)) → after ≡ found ++ f (v (get_or xs k d)) → after ≡ flat_map f (map v (take (k + 1) xs))
flat_more f v xs k d found after lt before grown =
    grown ∙ ap (λ l. l ++ f (v (get_or xs k d))) before
    ∙ sym (ap (flat_map f) (passed_more v xs k d lt) ∙ flat_push f (map v (take k xs)) (v (get_or xs k d)))

-- a key that is not shared, after those that are
pub unshared_at : (s : ExportScope) (x : ModuleNames) {K : Type 0} (v : K → NamedKey) (keys : List K) (k : ℕ) (d : K) (f : ExporterFault) → k < length keys
    → All (λ k. IsTrue (is_shared x (asked_key s k))) (map v (take k keys)) → IsUnsharedKey x (asked_key s (v (get_or keys k d))) f
    → IsUnshared s x (map v keys) f
unshared_at s x v keys k d f lt shared here = record {
  front = map v (take k keys);
  back = map v (drop (suc k) keys);
  key = v (get_or keys k d);
  cut = cut_at v keys k d lt;
  shared = shared;
  unshared = here;
}

-- what decides of a key which module has to export it
pub main_pairs : (x : ModuleNames) (q : AskedKey) → has_all q x.main ≡ true → [] ≡ shared_pairs x q
main_pairs x q has = ap (λ b. if b then [] else named_pairs q.text (exporters q x.adapters)) (sym has)

adapter_pairs : (x : ModuleNames) (q : AskedKey) → has_all q x.main ≡ false → named_pairs q.text (exporters q x.adapters) ≡ shared_pairs x q
adapter_pairs x q lacks = ap (λ b. if b then [] else named_pairs q.text (exporters q x.adapters)) (sym lacks)

-- an adapter by its name, with the text of a key
abbrev pair_of : List ℕ → Bor (List ℕ) → List ℕ × List ℕ
pair_of text name = (name.now, text)

pub adapter_named : {E : Type 0} (x : ModuleNames) (q : AskedKey) (r : Result (Option (Bor (List ℕ))) E) → has_all q x.main ≡ false
    → IfOk r (λ o. option_to_list (option_map (pair_of q.text) o) ≡ named_pairs q.text (exporters q x.adapters))
    → IfOk r (λ o. option_to_list (option_map (pair_of q.text) o) ≡ shared_pairs x q)
adapter_named x q (Ok o) lacks is = is ∙ adapter_pairs x q lacks
adapter_named x q (Err e) lacks is = tt

pub main_shared : (x : ModuleNames) (q : AskedKey) → has_all q x.main ≡ true → is_shared x q ≡ true
main_shared x q has = ap (λ b. b || length (exporters q x.adapters) == 1) has

pub adapter_shared : {V E : Type 0} (x : ModuleNames) (q : AskedKey) (r : Result V E) → has_all q x.main ≡ false
    → OnOk r (length (exporters q x.adapters) ≡ 1) → OnOk r (is_shared x q ≡ true)
adapter_shared x q (Ok v) lacks one =
    ap (λ b. b || length (exporters q x.adapters) == 1) lacks ∙ subst (λ (n : ℕ). (n == 1) ≡ true) (sym one) refl
adapter_shared x q (Err e) lacks one = tt

-- one adapter, none, and several
pub single_name : (xs : Words) (w : Bor (List ℕ)) → length xs ≡ 1 → w ≡ get_or xs 0 w → w.now ∷ [] ≡ map text_of xs
single_name [] w h e = absurd (omega (arith, h))
single_name (x ∷ []) w h e = ap (λ (z : Bor (List ℕ)). z.now ∷ []) e
single_name (x ∷ y ∷ xs) w h e = absurd (omega (arith, h))

pub none_left : (found : Words) (all : List (List ℕ)) (b : Bool) → map text_of found ≡ all → b ≡ (length found == 0) → b ≡ true → length all ≡ 0
none_left found all b same is on =
    ap length (sym same) ∙ length-map found text_of ∙ elim (eqb_tells (length found) 0) [
      | inl e ↦ e.1
      | inr e ↦ absurd (let bad : false ≡ true = sym e.0 ∙ (sym is ∙ on) in cc)
    ]

more_than_one : (n : ℕ) → (n ≡ 0 → ⊥) → (n ≡ 1 → ⊥) → 1 < n
more_than_one zero none one = absurd (none refl)
more_than_one (suc zero) none one = absurd (one refl)
more_than_one (suc (suc n)) none one = omega arith

pub several_left : (found : Words) (all : List (List ℕ)) (b : Bool) → map text_of found ≡ all → (length all ≡ 1 → ⊥) → b ≡ (length found == 0) → b ≡ false
    → 1 < length all
several_left found all b same one is off =
    more_than_one (length all) (λ none. elim (eqb_tells (length found) 0) [
      | inl e ↦ (let bad : true ≡ false = sym e.0 ∙ (sym is ∙ off) in cc)
      | inr e ↦ e.1 (sym (length-map found text_of) ∙ ap length same ∙ none)
    ]) one

-- keys that are shared among modules with these names, and one that is not
module _ (s : ExportScope) (main : List ℕ) (files : List (List ℕ × List ℕ)) (keys : List NamedKey) (x : ModuleNames) (named : AreNamesOf main files x) where
  pub shared_among : {V E : Type 0} (view : V → List (List ℕ × List ℕ)) (r : Result V E)
      → IfOk r (λ v. view v ≡ flat_map (λ k. shared_pairs x (asked_key s k)) keys)
      → OnOk r (All (λ k. IsTrue (is_shared x (asked_key s k))) keys) → IfOk r (λ v. AreSharedAmong s main files keys (view v))
  shared_among view (Ok v) pairs each = inr (record { names = x; named = named; each = each; pairs_are = pairs })
  shared_among view (Err e) pairs each = tt

  pub unshared_among : {V : Type 0} (r : Result V ExporterFault) → IfErr r (λ f. f ≢ Memory → IsUnshared s x keys f)
      → IfErr r (λ f. f ≢ Memory → IsUnsharedAmong s main files keys f)
  unshared_among (Ok v) fault = tt
  unshared_among (Err f) fault = λ other. record { names = x; named = named; unshared = fault other }

module _ (c : CommandView) (s : ExportScope) (main : List ℕ) (files : List (List ℕ × List ℕ)) (keys : List NamedKey) where
  -- a command says the keys of adapters
  pub given_closed : (pairs : List (List ℕ × List ℕ)) → is_open c ≡ false → pairs ≡ c.adapter_exports → AreGiven c s main files keys pairs
  given_closed pairs closed is = subst (λ b. AreGivenIf b c s main files keys pairs) (sym closed) is

  -- or leaves them to its modules
  pub given_open : (pairs : List (List ℕ × List ℕ)) → is_open c ≡ true → AreSharedAmong s main files keys pairs → AreGiven c s main files keys pairs
  given_open pairs leaves is = subst (λ b. AreGivenIf b c s main files keys pairs) (sym leaves) is

  pub unshared_open : {V : Type 0} (r : Result V ExporterFault) → is_open c ≡ true → IfErr r (λ f. f ≢ Memory → IsUnsharedAmong s main files keys f)
      → IfErr r (AreUnshared c s main files keys)
  unshared_open (Ok v) leaves fault = tt
  unshared_open (Err Memory) leaves fault = tt
  unshared_open (Err (NoExporter key lines)) leaves fault = (leaves, fault (λ e. cc))
  unshared_open (Err (SeveralExporters key listing)) leaves fault = (leaves, fault (λ e. cc))
