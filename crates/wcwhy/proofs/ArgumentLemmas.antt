-- What arguments are read as, by how many texts are no options and which options are given.
use Rattle.std.proofs.Common.{◌≡◌, ◌<◌, ◌∙◌, ℕ, suc, Bool, true, false, cond, List, [], ◌∷◌, ◌++◌, filter, length, map, nat_eq, nat_lt, Result, Ok, Err, sym, subst, ap, arith, Option, Some, None}
use Rattle.std.proofs.lemmas.Bool.{le-ltb}
use Rattle.std.specs.Option.{option_to_list}
use Rattle.std.specs.Prelude.{⊤}
use Rattle.std.specs.Borrow.{Bor}
use Rattle.wc_options.specs.Adapters.{is_standard}
use Rattle.wc_options.proofs.AdapterLemmas.{Pairs, none_more, standard_paths}
use Rattle.wc_options.specs.Reading.{TokenView}
use Rattle.wc_options.specs.Wrong.{IsRead, Reading, WrongView, wrong}
use Rattle.wc_options.specs.declared.wrong.NoCommand.{NoCommand}
use Rattle.wc_options.specs.declared.wrong.NoCommand.TheVariants.{Memory, Help, Version, Wrong}
use Rattle.wc_maps.specs.Texts.{second_parts, text_pair}
use Rattle.wcwhy.specs.Arguments.{CommandView, command_view}
use Rattle.wcwhy.specs.Private.Arguments.{is_once, is_standard_path}
use Rattle.wcwhy.specs.Reading.{IsCommand, and_apart, apart, command_by, command_with, finish_with, misfit, unless_misfit}
use Rattle.wcwhy.specs.declared.arguments.Command.{Command}

-- what is wrong is named
pub misfit_is : (tokens : List TokenView) (texts : List (List ℕ)) (w : WrongView) → 0 < length texts → misfit tokens ≡ Some w
    → finish_with tokens texts ≡ Err (wrong w)
misfit_is tokens [] w some is = absurd (omega (arith, some))
misfit_is tokens (source ∷ exports) w some is = ap (λ (o : Option WrongView). unless_misfit o (command_with tokens source exports)) is

command_is : (tokens : List TokenView) (texts : List (List ℕ)) → 0 < length texts → misfit tokens ≡ None
    → finish_with tokens texts ≡ Ok (command_by tokens texts)
command_is tokens [] some fit = absurd (omega (arith, some))
command_is tokens (source ∷ exports) some fit = ap (λ (o : Option WrongView). unless_misfit o (command_with tokens source exports)) fit

-- what is read where memory may run out for a reason is read where it may for another
pub read_for : (A B : Type 0) (f : A → B) (r : Result Command NoCommand) (reading : Reading CommandView) → IsRead command_view A r reading
    → IsRead command_view B r reading
read_for A B f (Ok c) reading h = h
read_for A B f (Err Memory) reading h = f h
read_for A B f (Err Help) reading h = h
read_for A B f (Err Version) reading h = h
read_for A B f (Err (Wrong w)) reading h = h

-- the command of arguments that fit together is read
pub finish_is : (tokens : List TokenView) (texts : List (List ℕ)) (r : Result Command NoCommand) → 0 < length texts → misfit tokens ≡ None
    → IsRead command_view ⊤ r (apart (command_by tokens texts))
    → IsRead command_view (IsCommand (finish_with tokens texts)) r (and_apart (finish_with tokens texts))
finish_is tokens texts r some fit h =
    let is = command_is tokens texts some fit in
    read_for ⊤ (IsCommand (finish_with tokens texts)) (λ t. (command_by tokens texts, is)) r (and_apart (finish_with tokens texts))
    (subst (λ (reading : Reading CommandView). IsRead command_view ⊤ r (and_apart reading)) (sym is) h)

-- so many others are standard input, beside two
counted : (x y : Bool) (source path : List ℕ) (rest : List (List ℕ)) (n : ℕ) → n ≡ length rest
    → is_once x y n ≡ nat_lt (length (cond x (source ∷ cond y (path ∷ rest) rest) (cond y (path ∷ rest) rest))) 2
counted true true source path rest n is = sym (le-ltb (suc (suc (length rest))) 2 (omega arith))
counted true false source path rest n is = ap (λ k. nat_eq k 0) is ∙ none_more (length rest)
counted false true source path rest n is = ap (λ k. nat_eq k 0) is ∙ none_more (length rest)
counted false false source path rest n is = ap (λ k. nat_lt k 2) is

beside : (source : List ℕ) (path : Option (List ℕ)) (rest : List (List ℕ)) (n : ℕ) → n ≡ length (filter is_standard rest)
    → is_once (is_standard source) (is_standard_path path) n ≡ nat_lt (length (filter is_standard (source ∷ (option_to_list path ++ rest)))) 2
beside source None rest n is = counted (is_standard source) false source [] (filter is_standard rest) n is
beside source (Some path) rest n is = counted (is_standard source) (is_standard path) source path (filter is_standard rest) n is

-- one of the files is at most
pub inputs_apart : (source : List ℕ) (path : Option (List ℕ)) (pairs passed : Pairs) (x y : Bool) (n : ℕ) → x ≡ is_standard source
    → y ≡ is_standard_path path → passed ≡ pairs → n ≡ length (filter (λ (a : Bor (List ℕ) × Bor (List ℕ)). is_standard a.1.now) passed)
    → is_once x y n ≡ nat_lt (length (filter is_standard (source ∷ (option_to_list path ++ second_parts (map text_pair pairs))))) 2
inputs_apart source path pairs passed x y n first second same many =
    let all = ap (λ (l : Pairs). length (filter (λ (a : Bor (List ℕ) × Bor (List ℕ)). is_standard a.1.now) l)) same in
    (λ i. is_once (first i) (second i) n) ∙ beside source path (second_parts (map text_pair pairs)) n (many ∙ all ∙ sym (standard_paths pairs))
