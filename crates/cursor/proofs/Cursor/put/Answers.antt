-- `Cursor::put` meets its contract: where the buffer has the place, and where it has not. Assumes nothing.
use Rattle.std.proofs.Common.{rules, refl}
use Rattle.cursor.proofs.Writing.{put_in, put_past}
use Rattle.cursor.proofs.Cursor.put.Goals.{then-self, else-self}
use Rattle.cursor.proofs.Cursor.put.Goals as goal

pub returns-after-self : goal.returns-after-self
returns-after-self c =
    elim c.if-self.branch [
      | then-self w ↦ rw w.self-is (put_in (search rules) refl refl refl)
      | else-self w ↦ rw w.self-is (put_past (search rules) w.if-self.false refl refl refl)
    ]
