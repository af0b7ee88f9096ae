-- Lists that are appended part by part.
use Rattle.std.proofs.Common.{◌≡◌, ℕ, ◌+◌, ◌<◌, List, [], ◌∷◌, ◌++◌, length, map, take, get_or, sym, ◌∙◌, ap, append_assoc, append-nil}
use Rattle.std.specs.List.{flat_map}
use Rattle.std.proofs.lemmas.List.{map-append, take_more}
use Rattle.std.proofs.lemmas.List.Elements.{filter_map-append}
use Rattle.std.proofs.lemmas.Grind.{flat_map-append}
use Rattle.wc_read.specs.Bodies.{local_types}
use Rattle.wc_read.specs.Operators.{InstrValue, instr_value, instr_values}
use Rattle.wc_read.specs.Types.{type_index, type_indices}
use Rattle.wc_read.specs.declared.bodies.Locals.{Locals}
use Rattle.wc_read.specs.declared.operators.Instr.{Instr}
use Rattle.wc_read.specs.declared.types.ValType.{ValType}
use Rattle.wc_read.specs.Entries.{type_items, val_type_refs}
use Rattle.wc_read.specs.declared.operators.Space.TheVariants.{Types}
use Rattle.wc_segments.specs.declared.elements.Expression.{Expression}
use Rattle.wc_paths.specs.Items.{code_items, init_items, operator_items, space_item, space_items}
use Rattle.wc_paths.specs.declared.items.PathItem.{PathItem}

module _ {A B : Type 0} (parts : List A → List B) (join : (xs ys : List A) → parts (xs ++ ys) ≡ parts xs ++ parts ys) where
  -- what one more item has comes after what those before it have
  pub appended : (xs : List A) (i : ℕ) (d : A) (old now new one : List B) → i < length xs → now ≡ old ++ parts (take i xs) → new ≡ now ++ one
      → one ≡ parts (get_or xs i d ∷ []) → new ≡ old ++ parts (take (i + 1) xs)
  appended xs i d old now new one lt e f k =
      f ∙ (ap (λ z. z ++ one) e ∙ (append_assoc old (parts (take i xs)) one
      ∙ ap (λ z. old ++ z) (ap (λ z. parts (take i xs) ++ z) k ∙ sym (ap parts (take_more xs i d lt) ∙ join (take i xs) (get_or xs i d ∷ [])))))

abbrev pub types_parts : List ValType → List PathItem
types_parts ts = space_items (val_type_refs ts)

pub types_join : (xs ys : List ValType) → types_parts (xs ++ ys) ≡ types_parts xs ++ types_parts ys
types_join xs ys =
    ap (λ z. space_items (type_items z)) (filter_map-append type_index xs ys)
    ∙ (ap (map space_item) (map-append (λ (n : ℕ). (Types, n)) (type_indices xs) (type_indices ys))
    ∙ map-append space_item (val_type_refs xs) (val_type_refs ys))

abbrev pub locals_parts : List Locals → List PathItem
locals_parts ls = types_parts (local_types ls)

pub locals_join : (xs ys : List Locals) → locals_parts (xs ++ ys) ≡ locals_parts xs ++ locals_parts ys
locals_join xs ys = ap types_parts (map-append (λ (l : Locals). l.ty) xs ys) ∙ types_join (local_types xs) (local_types ys)

abbrev pub code_parts : List Instr → List PathItem
code_parts is = code_items (instr_values is)

pub code_join : (xs ys : List Instr) → code_parts (xs ++ ys) ≡ code_parts xs ++ code_parts ys
code_join xs ys = ap code_items (map-append instr_value xs ys) ∙ flat_map-append (λ (i : InstrValue). operator_items i.immediates) (instr_values xs) (instr_values ys)

-- of one operator
pub code_one : (i : Instr) → operator_items (instr_value i).immediates ≡ code_parts (i ∷ [])
code_one i = sym (append-nil (operator_items (instr_value i).immediates))

abbrev pub expressions_parts : List Expression → List PathItem
expressions_parts es = flat_map init_items (map (λ (e : Expression). e.bytes.now) es)

-- what one more expression names, by its bytes
pub expressions_more : (view : Expression → List ℕ) (es : List Expression) (i : ℕ) (d : Expression) (old now new : List PathItem) → i < length es
    → now ≡ old ++ flat_map init_items (map view (take i es)) → new ≡ now ++ init_items (view (get_or es i d))
    → new ≡ old ++ flat_map init_items (map view (take (i + 1) es))
expressions_more view es i d old now new lt e f =
    appended (λ xs. flat_map init_items (map view xs))
    (λ xs ys. ap (flat_map init_items) (map-append view xs ys) ∙ flat_map-append init_items (map view xs) (map view ys)) es i d old now new
    (init_items (view (get_or es i d))) lt e f (sym (append-nil (init_items (view (get_or es i d)))))
