-- Functions that are listed under what they call.
use Rattle.std.specs.Prelude.{◌≡◌, ℕ, List, [], ◌++◌, ◌∷◌, Bool, false, nat_eq, cond, length, ◌-◌, Option, None}
use Rattle.std.specs.List.{list_any, slice_get}
use Rattle.std.specs.Option.{option_map, option_map_or}
use Rattle.wc_read.specs.Bodies.{BodyValue}
use Rattle.wc_read.specs.Operators.{ImmediatesValue, InstrValue, WithIndices}
use Rattle.wc_read.specs.declared.operators.IndexKind.{IndexKind}
use Rattle.wc_read.specs.declared.operators.IndexKind.TheVariants.{In}
use Rattle.wc_read.specs.declared.operators.Space.TheVariants.{Types, Tables}
use Rattle.wc_paths.specs.CallLists.{CallKey, CallLists, is_call_key, listed}

-- whether a number is the last
abbrev pub is_last : List ℕ → ℕ → Bool
is_last xs n = option_map_or (nat_eq n) (slice_get xs (length xs - 1)) false

-- a number put last, unless it is the last already
abbrev pub with_last : ℕ → List ℕ → List ℕ
with_last n xs = cond (is_last xs n) xs (xs ++ n ∷ [])

-- what an operator calls through a table: it names a type, and then a table
abbrev pub key_by : List ℕ → IndexKind → ℕ → IndexKind → ℕ → Option CallKey
key_by firsts (In Types) ty (In Tables) table = option_map (λ first. (table, first)) (slice_get firsts ty)
key_by firsts first ty second table = None

abbrev pub call_key : List ℕ → ImmediatesValue → Option CallKey
call_key firsts (WithIndices i j) = key_by firsts i.kind i.number j.kind j.number
call_key firsts v = None

abbrev pub is_call : List ℕ → CallKey → InstrValue → Bool
is_call firsts q i = option_map_or (λ k. is_call_key k q) (call_key firsts i.immediates) false

abbrev pub have_call : List ℕ → CallKey → List InstrValue → Bool
have_call firsts q is = list_any (is_call firsts q) is

abbrev pub has_call : List ℕ → CallKey → Option BodyValue → Bool
has_call firsts q body = option_map_or (λ (b : BodyValue). have_call firsts q b.operators) body false

-- under each key that passes a test a function is put last; what is listed under others stays
abbrev pub ListsUnder : (CallKey → Bool) → ℕ → CallLists → CallLists → Type 0
ListsUnder test n old new = (q : CallKey) → listed new q ≡ cond (test q) (with_last n (listed old q)) (listed old q)
