-- Bytes that are wiped. Assumes nothing.
use Rattle.std.specs.Prelude.{ℕ, ◌-◌, List, ◌++◌, length, take, replicate}

-- zero from a place on
unfoldable pub wiped : List ℕ → ℕ → List ℕ
wiped s k = take k s ++ replicate (length s - k) 0
