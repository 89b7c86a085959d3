-- Where text goes: bytes, and the place of the next one; and what code that writes text promises. Assumes nothing.
use Rattle.std.specs.Prelude.{◌≡◌, List, [], ◌∷◌, ℕ, ◌+◌, set}
use Rattle.notation.specs.Notation.{if◌below◌then◌else◌}
use Rattle.cursor.specs.declared.Cursor.{Cursor}

-- more bytes than any text has
abbrev pub most_text : ℕ
most_text = 281474976710656

pub record Sink : Type 0 where
  pub bytes : List ℕ
  pub at : ℕ

abbrev pub sink_of : List ℕ → ℕ → Sink
sink_of s n = record { bytes = s; at = n }

-- a byte more, which is stored where the bytes have its place; the place stops at the limit
unfoldable pub put_one : Sink → ℕ → Sink
put_one k b = if k.at below most_text then sink_of (set k.bytes k.at b) (k.at + 1) else k

-- a text more
unfoldable pub wrote : Sink → List ℕ → Sink
wrote k [] = k
wrote k (b ∷ bs) = wrote (put_one k b) bs

-- what a cursor writes to
abbrev pub sink_at : Cursor → Sink
sink_at c = sink_of c.buffer.now c.at

-- The text was written from the cursor's place on, into the same buffer.
pub record Writes (text : List ℕ) (entry exit : Cursor) : Type 0 where
  pub same : exit.buffer.ghost_name ≡ entry.buffer.ghost_name
  pub is : sink_at exit ≡ wrote (sink_at entry) text

-- The text was written over these bytes from their start on, up to r.
pub record Fills (text entry exit : List ℕ) (r : ℕ) : Type 0 where
  pub is : sink_of exit r ≡ wrote (sink_of entry 0) text
