-- Where a search stops, and what a refusal is about.
use Rattle.std.specs.Prelude.{◌≡◌, ◌⊎◌, ℕ, List, [], false, Option, Some, None}
use Rattle.wc_texts.specs.declared.refused.Refused.{Refused}
use Rattle.wc_read.specs.Modules.{ModuleValue}
use Rattle.wc_read.specs.declared.operators.Space.TheVariants.{Funcs}
use Rattle.wc_gc.specs.Bits.{bit_of}
use Rattle.wc_read.specs.Decoded.{DecodedModule, ItemIndex}
use Rattle.wc_read.specs.Entries.{refs_in}
use Rattle.wc_gc.specs.InRange.{is_item_in_range}
use Rattle.wc_graph.specs.Reached.{IsReachedFrom}
use Rattle.wc_gc.specs.LiveItems.{IsFaultOf}
use Rattle.wc_gc.specs.TrimPlace.{IsExplainedIn, IsOperatorPlace, body_at}
use Rattle.wc_graph.specs.Growth.{HasGrown}
use Rattle.wc_gc.specs.Private.Search.{finds}
use Rattle.wc_gc.specs.declared.fault.GcFault.{GcFault}
use Rattle.wc_gc.specs.declared.fault.GcFault.TheVariants.{Memory, LiveBody}
use Rattle.wc_gc.specs.declared.live.BitVec.{BitVec}
use Rattle.wc_gc.specs.declared.search.Search.{Search}
use Rattle.wc_gc.specs.declared.search.Stop.{Stop}
use Rattle.wc_gc.specs.declared.search.Stop.TheVariants.{Memory as stop_memory, Body as stop_body}
use Rattle.wc_gc.specs.declared.trim_place.TrimPlace.{TrimPlace}
use Rattle.wc_gc.specs.declared.trim_place.TrimPlace.TheVariants.{Body}

-- a search in bits has found these items, and no others
abbrev pub HasFound : List ItemIndex → Search BitVec → Type 0
HasFound roots s = HasGrown [] (finds (λ (b : BitVec). bit_of b.words.items) s) s.order.items roots

-- a function that roots reach, and whose body is refused
abbrev pub IsRefusedFrom : DecodedModule → List ItemIndex → ℕ → Type 0
IsRefusedFrom m roots n = IsReachedFrom (refs_in m) roots (Funcs, n) × (is_item_in_range m (Funcs, n) ≡ false)

-- why a search from roots stopped
abbrev pub IsStop : DecodedModule → List ItemIndex → Stop → Type 0
IsStop m roots s = (s ≡ stop_memory) ⊎ ((n : ℕ) × (s ≡ stop_body n) × IsRefusedFrom m roots n)

abbrev pub AdapterRefusal : Type 0
AdapterRefusal = Refused GcFault TrimPlace

-- memory ran out
abbrev pub IsMemoryRefusal : AdapterRefusal → Type 0
IsMemoryRefusal r = (r.fault ≡ Memory) × (r.place ≡ None)

-- the body of a function is refused, and this is its operator; or memory ran out
abbrev pub IsBodyRefusal : DecodedModule → ℕ → AdapterRefusal → Type 0
IsBodyRefusal m n r = IsMemoryRefusal r
    ⊎ ((k : Option ℕ) × (r.fault ≡ LiveBody) × (r.place ≡ Some (Body n k)) × IsOperatorPlace m (body_at m n) k)

abbrev pub IsStopRefusal : DecodedModule → Stop → AdapterRefusal → Type 0
IsStopRefusal m stop_memory r = IsMemoryRefusal r
IsStopRefusal m (stop_body n) r = IsBodyRefusal m n r

-- why a module is refused, and what that is about
abbrev pub IsRefusalOf : List (List ℕ) → ModuleValue → AdapterRefusal → Type 0
IsRefusalOf required m r = IsFaultOf required m r.fault × IsExplainedIn required m r.fault r.place
