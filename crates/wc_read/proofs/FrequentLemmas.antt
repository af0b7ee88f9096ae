-- The reader of frequent operators.
use Rattle.std.proofs.Common.{◌≡◌, ◌≢◌, ℕ, List, [], ◌∷◌, Bool, true, false, Option, Some, None, Result, Ok, Err, refl, sym, ◌∙◌, ap, eqb-true}
use Rattle.std.specs.Prelude.{◌==◌, IsOkAnd, IsSomeAnd}
use Rattle.wc_read.specs.Operators.{byte_form, ImmediatesValue, InstrValue, instr_value}
use Rattle.wc_read.specs.Reading.Instructions.{immediates_at, instr_after, instr_at, instr_of, opcode_after, opcode_at}
use Rattle.wc_read.specs.Reading.Frequent.{GivesFrequent}
use Rattle.wc_read.specs.declared.fault.ReadFault.{ReadFault}
use Rattle.wc_read.specs.declared.operators.Form.{Form}
use Rattle.wc_read.specs.declared.operators.Instr.{Instr}
use Rattle.wc_read.specs.declared.operators.Opcode.TheVariants.{Byte}
use Rattle.wc_read.proofs.OptionsLemmas.{bind_none, bind_some, some_none}

-- a code that has a form is no prefix
no_prefix : (b prefix : ℕ) (form : Form) → byte_form prefix ≡ None → byte_form b ≡ Some form → (t : Bool) → (b == prefix) ≡ t → t ≡ false
no_prefix b prefix form none has false e = refl
no_prefix b prefix form none has true e = some_none form (sym has ∙ ap byte_form (eqb-true b prefix e) ∙ none)

by_itself : (b : ℕ) (rest : List ℕ) (form : Form) → byte_form b ≡ Some form → opcode_after b rest ≡ Some (Byte b, rest)
unfolding byte_form
by_itself b rest form has =
    rw (no_prefix b 0xfc form refl has (b == 0xfc) refl, no_prefix b 0xfd form refl has (b == 0xfd) refl, no_prefix b 0xfe form refl has (b == 0xfe) refl) refl

by_form : (b : ℕ) (rest : List ℕ) (form : Form) → byte_form b ≡ Some form → instr_at (b ∷ rest) ≡ instr_after (Byte b) form rest
unfolding instr_at opcode_at
by_form b rest form has = bind_some (opcode_after b rest) _ (Byte b, rest) (by_itself b rest form has) ∙ bind_some (byte_form b) _ form has

pub frequent_read : (b : ℕ) (rest : List ℕ) (form : Form) (v : ImmediatesValue) (left : List ℕ) → byte_form b ≡ Some form → immediates_at form rest ≡ Some (v, left)
    → instr_at (b ∷ rest) ≡ Some (instr_of (Byte b) v, left)
frequent_read b rest form v left has e = by_form b rest form has ∙ bind_some (immediates_at form rest) _ (v, left) e

pub frequent_fails : (b : ℕ) (rest : List ℕ) (form : Form) → byte_form b ≡ Some form → immediates_at form rest ≡ None → instr_at (b ∷ rest) ≡ None
frequent_fails b rest form has e = by_form b rest form has ∙ bind_none (immediates_at form rest) _ e

pub some_first : (b : ℕ) (rest : List ℕ) → b ∷ rest ≢ []
some_first b rest e = absurd cc

pub gives_frequent : (result : Result (Option Instr) ReadFault) (b : ℕ) (bytes : List ℕ) (v : ImmediatesValue) (left : List ℕ) → IsOkAnd result (λ r. IsSomeAnd r (λ i. instr_value i ≡ instr_of (Byte b) v))
    → instr_at bytes ≡ Some (instr_of (Byte b) v, left) → GivesFrequent result bytes left
gives_frequent (Ok (Some i)) b bytes v left is e = e ∙ ap (λ (x : InstrValue). Some (x, left)) (sym is)
gives_frequent (Ok None) b bytes v left is e = absurd is
gives_frequent (Err f) b bytes v left is e = absurd is
