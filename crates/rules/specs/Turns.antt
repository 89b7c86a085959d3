-- The turns of the pass for the tests 6 and 7 (document 02, Three): "a test counts at most one turn for each record". Assumes nothing.
use Rattle.std.specs.Prelude.{ℕ, zero, suc, ◌+◌, Bool, ◌&&◌, List, length}
use Rattle.notation.specs.Notation.{when◌then◌else◌, unless◌then◌else◌, up_to, every}
use Rattle.semantics.specs.Records.{record_at, records_in}
use Rattle.semantics.specs.Rules.{bad_rule_size, shaped_of, parts_of, inside_of, times_below, once_of}

-- record i of n stands in the tree, so far as it and the records before it say
unfoldable pub stands_of : List ℕ → ℕ → ℕ → Bool
stands_of s n i = every (inside_of i n) (parts_of (record_at s i)) && once_of i (times_below s i i)

-- the turns for the first k of n records: the pass comes to a record where all before it stand
unfoldable pub turns_of : List ℕ → ℕ → ℕ → ℕ
turns_of s n zero = 0
turns_of s n (suc k) = (when up_to k (stands_of s n) then 1 else 0) + turns_of s n k

-- for a rule of n records: none where 5 refuses it
unfoldable pub test_turns_of : List ℕ → ℕ → ℕ
test_turns_of s n = unless up_to n (λ i. shaped_of (record_at s i)) then 0 else turns_of s n n

-- for a rule: none where 4 refuses it
unfoldable pub rule_turns_of : List ℕ → ℕ
rule_turns_of s = when bad_rule_size (length s) then 0 else test_turns_of s (records_in s)
