-- Writing the text (document 02, Six): "It refuses by 3, then 14, then by 18 exactly when the text is longer than the lent buffer; its bytes past the
-- text stay as they were." Said of any list of numbers for the table; a lent one consists of bytes, which is what the theorems of `models` ask of it.
-- Assumes nothing.
use Rattle.std.specs.Prelude.{ℕ, List, ◌++◌, length, drop}
use Rattle.notation.specs.Notation.{with, if◌below◌then◌else◌, unless◌then◌else◌}
use Rattle.semantics.specs.declared.Session.{Session}
use Rattle.semantics.specs.declared.Result.{Result}
use Rattle.semantics.specs.declared.Goal.{Goal}
use Rattle.semantics.specs.Numbers.{misfit, bad_result, text_long}
use Rattle.semantics.specs.Terms.{terms_in}
use Rattle.semantics.specs.Fits.{fits_of}
use Rattle.semantics.specs.Reading.{result_taken}
use Rattle.dimacs.specs.Written.{Written}
use Rattle.dimacs.specs.Text.{text_for}

abbrev pub written_of : ℕ → ℕ → Written
written_of k n = record { refusal = k; length = n }

-- of a session and its table
abbrev pub text_of_call : Session → List ℕ → Result → Goal → List ℕ
text_of_call x s r g = text_for x.count (terms_in s x.count) r g

-- The answer, which says the text's length also where 18 refuses, and the buffer then: a refusal leaves it as it was.
unfoldable pub write_of : Session → List ℕ → Result → Goal → List ℕ → Written × List ℕ
write_of x s r g buffer =
    unless fits_of x s then (written_of misfit 0, buffer) else
    unless result_taken (terms_in s x.count) r then (written_of bad_result 0, buffer) else
    with (text_of_call x s r g) λ t.
    if length buffer below length t then (written_of text_long (length t), buffer) else (written_of 0 (length t), t ++ drop (length t) buffer)
