-- Items from which no references lead to an edited function unfold as they did; functions that begin with a call keep
-- their code.
use Rattle.std.proofs.Common.{◌≡◌, ℕ, zero, suc, ◌+◌, ◌<◌, List, [], ◌∷◌, ◌++◌, length, map, refl, sym, ◌∙◌, ap, Bool, true, false, ◌&&◌, not, cond, Option}
use Rattle.std.proofs.Common.{Some, ltb-true}
use Rattle.std.specs.Prelude.{IsTrue, Contains}
use Rattle.std.specs.List.{AllByRecursion, enumerate_from, slice_get}
use Rattle.std.specs.Option.{option_map, option_map_or}
use Rattle.std.proofs.lemmas.List.{length-map}
use Rattle.std.proofs.lemmas.List.Elements.{recursion_from_All, All-contains_itself}
use Rattle.std.proofs.lemmas.List.FromFn.{length-enumerate_from}
use Rattle.std.proofs.lemmas.Bool.{and_parts, or_parts}
use Rattle.wc_read.specs.Bodies.{BodyValue}
use Rattle.wc_read.specs.Items.{DefValue, imported, local}
use Rattle.wc_read.specs.declared.operators.Space.TheVariants.{Types, Funcs, Tables, Memories, Globals}
use Rattle.wc_write.specs.BuiltValues.{is_defined, is_import}
use Rattle.wc_read.specs.Decoded.{FuncCode, ItemIndex}
use Rattle.wc_gc.specs.Edit.{added_funcs, added_imports, edit, edited_def, edited_func, edited_funcs, import_func, is_exported_func, lazy_func, lazy_position}
use Rattle.wc_gc.specs.Edit.{one_if, only_if, replaced, with_call}
use Rattle.wc_read.specs.Entries.{Entry, no_entry, type_entry, func_entry, entry_at, entry_refs}
use Rattle.wc_gc.specs.Found.{FoundView, found_in, is_realloc, is_realloc_at}
use Rattle.wc_gc.specs.Parts.{SettingsView}
use Rattle.wc_gc.specs.Unfolding.{Tree, blank, unfolding_of}
use Rattle.wc_gc.specs.UntouchedLaws.{Original, parts, edited, begins_with_call, is_edited, IsUnedited, UntouchedUnfold, NamesUnedited, UneditedUnfold, lazy_index}
use Rattle.wc_gc.specs.UntouchedLaws.{KeepsCode, CallsKeepCode}
use Rattle.wc_gc.specs.declared.parts.Parts.{Parts}
use Rattle.wc_gc.proofs.BuiltPartLemmas.{each_weaker}
use Rattle.wc_gc.proofs.ImageLemmas.{enumerated_read}
use Rattle.wc_graph.proofs.ListLemmas.{back_at}
use Rattle.wc_graph.proofs.ListLemmas.{get_some}
use Rattle.wc_graph.proofs.ListLemmas.{get_front as front_at}

-- a function that is not edited

pub drop_true : (x y : Bool) → (x && (y && true)) ≡ (x && y)
drop_true true true = refl
drop_true true false = refl
drop_true false y = refl

def_same : (funcs : ℕ) (s : SettingsView) (p : Parts) (f : FoundView) (reached exported : Bool) (d : DefValue (Option BodyValue))
    → (reached && is_realloc d) ≡ false → (p.lazy && (exported && not (is_import d))) ≡ false
    → edited_def funcs s p f reached exported d ≡ d
def_same funcs s p f reached exported (imported m n) h k = ap (λ b. cond b (replaced s f) (imported m n)) h
def_same funcs s p f reached exported (local b) h k =
    ap (λ c. local (cond c (option_map (with_call (funcs + lazy_position p)) b) b)) (sym (drop_true p.lazy exported) ∙ k)

-- one that begins with a call
def_called : (funcs : ℕ) (s : SettingsView) (p : Parts) (f : FoundView) (reached exported : Bool) (b : BodyValue)
    → (p.lazy && (exported && true)) ≡ true
    → edited_def funcs s p f reached exported (local (Some b)) ≡ local (Some (with_call (funcs + lazy_position p) b))
def_called funcs s p f reached exported b h =
    ap (λ c. local (cond c (option_map (with_call (funcs + lazy_position p)) (Some b)) (Some b))) (sym (drop_true p.lazy exported) ∙ h)

abbrev pub func_with : FuncCode → DefValue (Option BodyValue) → FuncCode
func_with f d = record { ty = f.ty; def = d }

module _ (a : Original) where
  abbrev olds : List FuncCode
  olds = a.value.funcs

  abbrev found : FoundView
  found = found_in a.value a.live

  abbrev added : List FuncCode
  added = added_imports (length a.value.types) a.settings (parts a) ++ added_funcs (length a.value.types) (length olds) a.settings (parts a) found

  abbrev editeds : List FuncCode
  editeds = edited_funcs a.exports a.live a.settings (parts a) found olds

  abbrev one : ℕ → FuncCode → FuncCode
  one n f = edited_func (length olds) a.settings (parts a) found (a.live (Funcs, n)) (is_exported_func a.exports n) f

  -- each function is edited where it was
  func_edited : (n : ℕ) (f : FuncCode) → slice_get olds n ≡ Some f → entry_at (edited a) (Funcs, n) ≡ func_entry (one n f)
  unfolding edit
  func_edited n f at =
      ap (λ o. option_map_or func_entry o no_entry)
      (front_at editeds added n (one n f) (enumerated_read (λ x. one x.0 x.1) olds n f at))

  func_same : (n : ℕ) → n < length olds → is_edited a (Funcs, n) ≡ false → entry_at (edited a) (Funcs, n) ≡ entry_at a.value (Funcs, n)
  func_same n below h =
      let f = get_some olds n below in
      let reached : Bool = a.live (Funcs, n) in
      let none = or_parts (reached && is_realloc_at a.value n) (begins_with_call a n) h in
      let kept : (reached && is_realloc f.0.def) ≡ false =
      sym (ap (λ o. reached && option_map_or (λ (g : FuncCode). is_realloc g.def) o false) f.1) ∙ none.0 in
      let free : ((parts a).lazy && (is_exported_func a.exports n && not (is_import f.0.def))) ≡ false =
      sym (ap (λ o. (parts a).lazy && (is_exported_func a.exports n && option_map_or (λ (g : FuncCode). is_defined g) o false)) f.1)
      ∙ none.1 in
      func_edited n f.0 f.1
      ∙ (ap (λ d. func_entry (func_with f.0 d)) (def_same (length olds) a.settings (parts a) found reached (is_exported_func a.exports n) f.0.def kept free)
      ∙ sym (ap (λ o. option_map_or func_entry o no_entry) f.1))

  same_at : (x : ItemIndex) → IsUnedited a x → entry_at (edited a) x ≡ entry_at a.value x
  unfolding edit
  same_at (Types, n) h =
      let t = get_some a.value.types n (ltb-true n (length a.value.types) h.there) in
      ap (λ o. option_map_or type_entry o no_entry) (front_at a.value.types _ n t.0 t.1 ∙ sym t.1)
  same_at (Funcs, n) h = func_same n (ltb-true n (length olds) h.there) h.same
  same_at (Tables, n) h = refl
  same_at (Memories, n) h = refl
  same_at (Globals, n) h = refl

  -- trees of items that are not edited, and name such items alone
  module _ (P : ItemIndex → Type 0) (unedited : (x : ItemIndex) → P x → IsUnedited a x) (closed : (x y : ItemIndex) → P x
      → Contains (entry_refs (entry_at a.value x)) y → P y) where
    map_same : {T : Type 0} (f g : ItemIndex → T) (xs : List ItemIndex) → AllByRecursion (λ x. f x ≡ g x) xs → map f xs ≡ map g xs
    map_same f g [] e = refl
    map_same f g (x ∷ xs) e = ap (λ y. y ∷ map f xs) e.0 ∙ ap (λ ys. g x ∷ ys) (map_same f g xs e.1)

    pub trees_same : (n : ℕ) (x : ItemIndex) → P x → unfolding_of n (edited a) x ≡ unfolding_of n a.value x
    trees_same zero x k = refl
    trees_same (suc n) x k =
        let T : Type 0 = Entry × List (Tree n) in
        let refs = entry_refs (entry_at a.value x) in
        let each : AllByRecursion (λ y. unfolding_of n (edited a) y ≡ unfolding_of n a.value y) refs =
        each_weaker (Contains refs) (λ y. unfolding_of n (edited a) y ≡ unfolding_of n a.value y) refs (λ y c. trees_same n y (closed x y k c))
        (recursion_from_All (Contains refs) refs (All-contains_itself refs)) in
        ap (λ (e : Entry). let t : T = (blank e, map (unfolding_of n (edited a)) (entry_refs e)) in t) (same_at x (unedited x k))
        ∙ ap (λ (ts : List (Tree n)). let t : T = (blank (entry_at a.value x), ts) in
        t) (map_same (unfolding_of n (edited a)) (unfolding_of n a.value) refs each)

  -- the lazy code comes first of what is added but an import
  lazy_at : (lazy import_realloc : Bool) (x y : FuncCode) (ys : List FuncCode) → lazy ≡ true
      → slice_get (only_if import_realloc x ++ (only_if lazy y ++ ys)) (one_if import_realloc) ≡ Some y
  lazy_at true true x y ys h = refl
  lazy_at true false x y ys h = refl
  lazy_at false b x y ys h = absurd cc

  callee_at : (parts a).lazy ≡ true → entry_at (edited a) (Funcs, lazy_index a) ≡ func_entry (lazy_func (length a.value.types) (length olds) (parts a) found)
  unfolding edit
  callee_at h =
      let long : length editeds ≡ length olds = length-map (enumerate_from 0 olds) (λ x. one x.0 x.1) ∙ length-enumerate_from 0 olds in
      ap (λ o. option_map_or func_entry o no_entry)
      (ap (λ k. slice_get (editeds ++ added) (k + lazy_position (parts a))) (sym long)
      ∙ (back_at editeds added (lazy_position (parts a))
      ∙ lazy_at (parts a).lazy (parts a).import_realloc (import_func (length a.value.types) a.settings)
      (lazy_func (length a.value.types) (length olds) (parts a) found) _ h))

  keeps_code : (n : ℕ) (f : FuncCode) (b : BodyValue) → begins_with_call a n ≡ true → slice_get olds n ≡ Some f → f.def ≡ local (Some b) → KeepsCode a n f b
  keeps_code n f b h at is =
      let reached = a.live (Funcs, n) in
      let exported = is_exported_func a.exports n in
      let calls : ((parts a).lazy && (is_exported_func a.exports n && true)) ≡ true =
      sym (ap (λ o. (parts a).lazy && (is_exported_func a.exports n && option_map_or (λ (g : FuncCode). is_defined g) o false)) at
      ∙ ap (λ (d : DefValue (Option BodyValue)). (parts a).lazy && (is_exported_func a.exports n && not (is_import d))) is) ∙ h in
      record {
        code = func_edited n f at
            ∙ (ap (λ d. func_entry (func_with f (edited_def (length olds) a.settings (parts a) found reached exported d))) is
            ∙ ap (λ d. func_entry (func_with f d)) (def_called (length olds) a.settings (parts a) found reached exported b calls));
        callee = callee_at (and_parts (parts a).lazy (is_exported_func a.exports n && true) calls).0;
      }

pub untouched_unfold : UntouchedUnfold
untouched_unfold a has h x k = λ n. trees_same a (λ y. IsTrue (has y)) h.unedited h.closed n x k

pub unedited_unfold : UneditedUnfold
unedited_unfold a x h = λ n. trees_same a (NamesUnedited a) (λ y k. k [] y refl) (λ y z k c. λ path w p. k (z ∷ path) w (c, p)) n x h

pub calls_keep_code : CallsKeepCode
calls_keep_code a n f b h at is = keeps_code a n f b h at is
