-- Which functions of a key a module has: the names of its exports, and tests one after another.
use Rattle.std.proofs.Common.{◌≡◌, ◌≢◌, ℕ, Bool, true, false, not, ◌&&◌, ◌||◌, List, [], ◌∷◌, ◌++◌, map, codes, Option, None, Result, Ok, Err, IfOk, OnOk, refl, sym, ◌∙◌, ap, subst, string_bytes}
use Rattle.std.specs.Option.{option_map}
use Rattle.wc_read.specs.Exports.{export_value}
use Rattle.wc_read.specs.Fault.{SpellsNothing}
use Rattle.wc_read.specs.Modules.{SpellsModule}
use Rattle.wc_read.specs.declared.exports.Export.{Export}
use Rattle.wc_read.specs.declared.fault.ReadFault.{ReadFault}
use Rattle.wc_read.specs.declared.fault.ReadFault.TheVariants.{Memory}
use Rattle.wc_maps.specs.Texts.{is_in, text_of}
use Rattle.wcplan_inputs.specs.Exporters.{AreExportNames, KeyFunctions, export_name, is_legacy_in}
use Rattle.wcplan_inputs.specs.Private.Exporters.{key_functions_view}
use Rattle.wcplan_inputs.specs.declared.exporters.KeyFunctions.{KeyFunctions as Functions}

-- the names of exports, seen twice
pub names_same : (es : List Export) → map (λ (e : Export). e.name.now) es ≡ map export_name (map export_value es)
names_same [] = refl
names_same (e ∷ es) = ap (λ l. e.name.now ∷ l) (names_same es)

-- bytes that are no module have none
pub unread_names : {S E : Type 0} (v : S → List (List ℕ)) (bytes : List ℕ) (f : ReadFault) (r : Result (Option S) E)
    → IfOk r (λ n. option_map v n ≡ None) → OnOk r (f ≢ Memory) → (f ≢ Memory → SpellsNothing SpellsModule bytes)
    → IfOk r (λ n. AreExportNames bytes (option_map v n))
unread_names v bytes f (Ok n) none other refused = subst (AreExportNames bytes) (sym none) (refused other)
unread_names v bytes f (Err e) none other refused = tt

-- functions of a key, by their parts
pub functions_are : (k : Functions) (x y : KeyFunctions) → option_map text_of k.interface ≡ x.interface → option_map string_bytes k.canonical ≡ x.canonical
    → map text_of k.functions.items ≡ x.functions → x ≡ y → key_functions_view k ≡ y
functions_are k x y a b d same = (λ j. record { interface = a j; canonical = b j; functions = d j }) ∙ same

pub functions_made : {E : Type 0} (x y : KeyFunctions) (r : Result Functions E) → IfOk r (λ k. option_map text_of k.interface ≡ x.interface)
    → IfOk r (λ k. option_map string_bytes k.canonical ≡ x.canonical) → IfOk r (λ k. map text_of k.functions.items ≡ x.functions) → x ≡ y
    → IfOk r (λ k. key_functions_view k ≡ y)
functions_made x y (Ok k) a b d same = functions_are k x y a b d same
functions_made x y (Err e) a b d same = tt

-- the first of two tests is passed
pub passed_first : (s l b : Bool) → b ≡ s → b ≡ true → true ≡ (s || l)
passed_first true l b is on = refl
passed_first false l b is on = let bad : true ≡ false = sym on ∙ is in absurd cc

-- the second doesn't count
pub passed_none : (s r l b : Bool) → b ≡ s → b ≡ false → r ≡ true → false ≡ (s || (not r && l))
passed_none true r l b is off on = let bad : false ≡ true = sym off ∙ is in absurd cc
passed_none false true l b is off on = refl
passed_none false false l b is off on = absurd cc

-- the second decides
pub passed_second : (s r l b : Bool) → b ≡ s → b ≡ false → r ≡ false → l ≡ (s || (not r && l))
passed_second true r l b is off counts = let bad : false ≡ true = sym off ∙ is in absurd cc
passed_second false true l b is off counts = absurd cc
passed_second false false l b is off counts = refl

last_of : (a b c : Bool) → a ≡ false → b ≡ false → c ≡ (a || (b || c))
last_of true b c first second = absurd cc
last_of false true c first second = absurd cc
last_of false false c first second = refl

-- of three names of the older scheme the last decides
pub last_legacy : (names : List (List ℕ)) (n d e f : List ℕ) (a b : Bool) → d ≡ n → e ≡ n → f ≡ n → a ≡ is_in names d → a ≡ false
    → b ≡ is_in names (codes "[async-lift]" ++ e) → b ≡ false → is_in names (codes "[async-lift-stackful]" ++ f) ≡ is_legacy_in names n
last_legacy names n d e f a b is also same first off second out =
    subst (λ z. is_in names (codes "[async-lift-stackful]" ++ z) ≡ is_legacy_in names n) (sym same)
    (last_of (is_in names n) (is_in names (codes "[async-lift]" ++ n)) (is_in names (codes "[async-lift-stackful]" ++ n))
    (subst (λ z. is_in names z ≡ false) is (sym first ∙ off))
    (subst (λ z. is_in names (codes "[async-lift]" ++ z) ≡ false) also (sym second ∙ out)))
