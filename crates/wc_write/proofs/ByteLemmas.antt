-- Parts of bytes are bytes.
use Rattle.std.proofs.Common.{ℕ, ◌<◌, List, [], ◌∷◌, ◌++◌}
use Rattle.std.proofs.lemmas.List.Elements.{All-nil, All-cons, All-head, All-tail}
use Rattle.wc_write.specs.Values.{AreBytes}

pub tail_bytes : (b : ℕ) (bytes : List ℕ) → AreBytes (b ∷ bytes) → AreBytes bytes
tail_bytes b bytes all = All-tail (λ (b : ℕ). b < 256) b bytes all

pub front_bytes : (a b : List ℕ) → AreBytes (a ++ b) → AreBytes a
front_bytes [] b all = All-nil (λ (x : ℕ). x < 256)
front_bytes (x ∷ a) b all = All-cons (λ (x : ℕ). x < 256) x a (All-head (λ (x : ℕ). x < 256) x (a ++ b) all) (front_bytes a b (tail_bytes x (a ++ b) all))

pub back_bytes : (a b : List ℕ) → AreBytes (a ++ b) → AreBytes b
back_bytes [] b all = all
back_bytes (x ∷ a) b all = back_bytes a b (tail_bytes x (a ++ b) all)
