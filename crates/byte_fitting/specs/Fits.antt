-- Test 3 over byte forms, on all arguments: 0 or the number of a refusal. Assumes nothing.
use Rattle.std.specs.Prelude.{ℕ, ◌&&◌, List, eqb, length}
use Rattle.notation.specs.Notation.{when◌then◌else◌, unless◌then◌else◌}
use Rattle.semantics.specs.Numbers.{misfit}
use Rattle.semantics.specs.Fits.{fits_of}
use Rattle.forms.specs.Forms.{session_length, wrong_length, session_in, session_formed}

-- 255 of the session; then 3, which refuses a session that is not of its form too
unfoldable pub desk_fits : List ℕ → List ℕ → ℕ
desk_fits session table =
    unless eqb (length session) session_length then wrong_length else
    when session_formed session && fits_of (session_in session) table then 0 else misfit
