-- The numbers of faults. The number of a fault is its position in its enum; where it carries another fault, that and 256
-- times the number of the other.
use Rattle.std.specs.Prelude.{ℕ, ◌+◌, ◌*◌}

-- the number of a fault that carries another
abbrev pub carrying : ℕ → ℕ → ℕ
carrying number carried = number + 256 * carried
