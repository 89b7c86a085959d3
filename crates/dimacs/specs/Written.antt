-- What writing the text answers. Assumes nothing.
use Rattle.std.specs.Prelude.{ℕ}

-- 0 or the number of a refusal; and the text's length, 0 where 3 or 14 refuses
pub record Written : Type 0 where
  pub refusal : ℕ
  pub length : ℕ
