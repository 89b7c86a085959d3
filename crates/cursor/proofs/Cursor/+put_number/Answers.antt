-- `Cursor::put_number` meets its contract: the higher digits, then the lowest. Assumes nothing.
use Rattle.text.proofs.Decimals.{decimal_one, decimal_more}
use Rattle.cursor.proofs.Writing.{onward, said}
use Rattle.cursor.proofs.Cursor.+put_number.Goals as goal

pub returns-then-n-lt10 : goal.returns-then-n-lt10
returns-then-n-lt10 t c = said c.put.ensures (decimal_one _ c.if-n-lt10.true)

pub returns : goal.returns
returns t c = said (onward c.put_number.ensures c.put-2.ensures) (decimal_more _ c.if-n-lt10.false)
