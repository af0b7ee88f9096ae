-- A global under new indices, read again, leaves one value of its type.
use Rattle.std.proofs.Common.{◌≡◌, ℕ, List, [], ◌∷◌, ◌++◌, sym, ◌∙◌, ap, subst, Option, Some}
use Rattle.std.specs.List.{AllByRecursion}
use Rattle.std.proofs.lemmas.List.Elements.{recursion_from_All}
use Rattle.std.proofs.lemmas.List.{map-append}
use Rattle.wc_read.specs.Items.{DefValue, imported, local}
use Rattle.wc_read.specs.Operators.{InstrValue}
use Rattle.wc_read.specs.Inits.{end_value}
use Rattle.wc_read.specs.InitTypes.{InitScope, IsTyped, IsTypedDef}
use Rattle.wc_read.specs.BodyOperators.{init_in}
use Rattle.wc_read.specs.Renumbering.{Renumbering, renumber_instr, renumber_val_type}
use Rattle.wc_read.specs.declared.types.ValType.{ValType}
use Rattle.wc_read.proofs.DecodingLemmas.{init_found}
use Rattle.wc_read.proofs.OptionsLemmas.{some_same}
use Rattle.wc_write.specs.Text.{FitsSize}
use Rattle.wc_write.specs.Values.{IsInstr}
use Rattle.wc_write.specs.Modules.{operators_text}
use Rattle.wc_read.specs.Items.{def_seen}
use Rattle.wc_write.specs.BuiltValues.{IsInitialiser, HasInitialiser}
use Rattle.wc_write.proofs.ContentLemmas.{init_spelled}
use Rattle.wc_read.specs.Decoded.{ItemIndex}
use Rattle.wc_read.specs.Entries.{instr_refs, code_refs, init_refs, def_refs}
use Rattle.wc_gc.specs.Image.{new_init, renumber_code}
use Rattle.wc_gc.proofs.InitTypeLemmas.{Follows, NamesOnly, leaves_stays, all-left, all-right}
use Rattle.wc_gc.proofs.SpelledItemLemmas.{IfLocal}

-- what holds of all that some code names holds of what each operator names
each_instr : (may : ItemIndex → Type 0) (is : List InstrValue) → AllByRecursion may (code_refs is) → AllByRecursion IsInstr is → AllByRecursion (NamesOnly may) is
each_instr may [] refs all = tt
each_instr may (i ∷ is) refs all =
    ((all-left may (instr_refs i) (code_refs is) refs, all.0), each_instr may is (all-right may (instr_refs i) (code_refs is) refs) all.1)

module _ (may : ItemIndex → Type 0) (old after : InitScope) (new : Renumbering) (f : Follows may old after new) (t : ValType) where
  code_moves : (bytes : List ℕ) (is : List InstrValue) → init_in bytes ≡ Some is → IsInitialiser is → AllByRecursion may (code_refs is) → IsInitialiser (renumber_code new is) → FitsSize (operators_text (renumber_code new is))
      → IsTyped old t bytes → IsTyped after (renumber_val_type new t) (operators_text (renumber_code new is))
  code_moves bytes is found can refs can' fits typed =
      let same : typed.operators ≡ is = some_same typed.operators is (sym (init_found bytes typed.operators typed.has_operators) ∙ found) in
      let cut : is ≡ typed.front ++ (end_value ∷ []) = sym same ∙ typed.cut in
      let names = subst (AllByRecursion (NamesOnly may)) cut (each_instr may is refs (recursion_from_All IsInstr is can.can_be_spelled)) in
      record {
        operators = renumber_code new is;
        front = renumber_code new typed.front;
        has_operators = init_spelled (renumber_code new is) can' fits;
        cut = ap (renumber_code new) cut ∙ map-append (renumber_instr new) typed.front (end_value ∷ []);
        leaves = leaves_stays may after new f typed.leaves (all-left (NamesOnly may) typed.front (end_value ∷ []) names);
      }

  -- initialisers that can be spelled, before and after
  pub def_moves : (d : DefValue (List ℕ)) → HasInitialiser d → AllByRecursion may (def_refs init_refs (def_seen init_in d)) → IfLocal IsInitialiser (def_seen (new_init new) (def_seen init_in d))
      → IfLocal (λ is. FitsSize (operators_text is)) (def_seen (new_init new) (def_seen init_in d)) → IsTypedDef old t d
      → IsTypedDef after (renumber_val_type new t) (def_seen operators_text (def_seen (new_init new) (def_seen init_in d)))
  def_moves (imported m n) can refs can' fits typed = tt
  def_moves (local bytes) can refs can' fits typed =
      let found : init_in bytes ≡ Some can.0 = init_found bytes can.0 can.1 in
      subst (λ (o : Option (List InstrValue)). IsTyped after (renumber_val_type new t) (operators_text (new_init new o))) (sym found)
      (code_moves bytes can.0 found can.2 (subst (λ (o : Option (List InstrValue)). AllByRecursion may (init_refs o)) found refs)
      (subst (λ (o : Option (List InstrValue)). IsInitialiser (new_init new o)) found can') (subst (λ (o : Option (List InstrValue)). FitsSize (operators_text (new_init new o))) found fits) typed)
