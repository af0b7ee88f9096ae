-- Functions that are reached, and those that call.
use Rattle.std.specs.Prelude.{◌≡◌, ℕ, Bool, false, ◌&&◌, List, filter, map, Option}
use Rattle.std.specs.List.{range_with_len, slice_get}
use Rattle.std.specs.Option.{option_map_or}
use Rattle.wc_read.specs.Bodies.{BodyValue}
use Rattle.wc_read.specs.Items.{DefValue, imported, local}
use Rattle.wc_read.specs.Decoded.{FuncCode, func_code}
use Rattle.wc_paths.specs.Callers.{is_reached}
use Rattle.wc_paths.specs.CallLists.{CallKey, CallLists, listed}
use Rattle.wc_paths.specs.Private.CallLists.{has_call}
use Rattle.wc_paths.specs.declared.callers.Functions.{Functions}

-- whether a function calls
abbrev pub def_calls : List ℕ → CallKey → DefValue (Option BodyValue) → Bool
def_calls firsts q (imported m n) = false
def_calls firsts q (local body) = has_call firsts q body

abbrev pub calls_at : List ℕ → List FuncCode → CallKey → ℕ → Bool
calls_at firsts funcs q n = option_map_or (λ (f : FuncCode). def_calls firsts q f.def) (slice_get funcs n) false

-- whether a function that is reached does
abbrev pub calls_reached : List Bool → List ℕ → List FuncCode → CallKey → ℕ → Bool
calls_reached p firsts funcs q n = is_reached p n && calls_at firsts funcs q n

abbrev pub is_calling : Functions → CallKey → ℕ → Bool
is_calling f q n = calls_reached f.reached.now f.firsts.now (map func_code f.funcs.now) q n

-- the functions with an index below n that are reached are listed under what they call
abbrev pub AreListed : Functions → ℕ → CallLists → Type 0
AreListed f n lists = (q : CallKey) → listed lists q ≡ filter (is_calling f q) (range_with_len 0 n)
