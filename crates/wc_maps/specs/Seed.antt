-- The hasher of a seed.
use Rattle.std.specs.Prelude.{ℕ, fold}
use Rattle.std.specs.Hash as fed
use Rattle.std.specs.Hash.DefaultHasher as sip
use Rattle.std.specs.declared.hash.DefaultHasher.{DefaultHasher}

-- SipHash-1-3 after the eight bytes of each of two numbers, the lowest first
abbrev pub seeded : ℕ → ℕ → DefaultHasher
seeded first second = fold sip.write (fold sip.write sip.initial (fed.u64 first)) (fed.u64 second)
