-- Each way out of opening over byte forms, in the order of its tests. Assumes nothing.
use mathlib.Core.Path.{◌≡◌, sym, ◌∙◌}
use mathlib.Core.Bool.{Bool, true, false}
use mathlib.Core.List.{List}
use Prim.Native.Nat.{ℕ}
use lib.ListN.{length}
use lib.Seq.{sets}
use native.Mathlib.Omega.{arith}
use lib.Dec.{eqb}
use Rattle.std.specs.declared.result.Result.{Result}
use Rattle.std.specs.declared.result.Result.TheVariants.{Ok, Err}
use Rattle.std.specs.declared.ops.ControlFlow.{ControlFlow}
use Rattle.std.specs.declared.ops.ControlFlow.TheVariants.{Break}
use Rattle.std.specs.Prelude.{⊤, IsErr, IsErrAnd}
use Rattle.std.specs.Result.{result_from_control_flow}
use Rattle.std.proofs.lemmas.Result.{err_from_is_err_and}
use borrow.Author.Tests.{eq-eqb, ne_eqb}
use Rattle.notation.specs.Notation.{when◌then◌else◌, if◌equals◌then◌else◌, unless◌then◌else◌}
use Rattle.semantics.specs.declared.Input.{Input}
use Rattle.semantics.specs.declared.Session.{Session}
use Rattle.semantics.specs.declared.refusal.Refusal.{Refusal}
use Rattle.semantics.specs.Refusals.{number_of, answer_number}
use Rattle.semantics.specs.Numbers.{table_size, bad_input}
use Rattle.semantics.specs.Opening.{bad_table_size, open_of}
use Rattle.opening.specs.Openings.{opened_of}
use Rattle.forms.specs.Forms.{session_length, wrong_length, inputs_in, inputs_formed, session_bytes}
use Rattle.forms.proofs.Written.{put_whole}
use Rattle.byte_opening.specs.Open.{desk_open}

above_zero : (k : Refusal) → eqb (number_of k) 0 ≡ false
above_zero k = grind arith

module _ (inputs table session : List ℕ) where
  pub open_length : (length session ≡ session_length → ⊥) → (wrong_length, table, session) ≡ desk_open inputs table session
  unfolding desk_open unless◌then◌else◌
  open_length n = rw (ne_eqb (length session) session_length n)

  module _ (l : length session ≡ session_length) {b : Bool} (eb : b ≡ bad_table_size (length table)) where
    pub open_size : b ≡ true → (table_size, table, session) ≡ desk_open inputs table session
    unfolding desk_open when◌then◌else◌ unless◌then◌else◌
    open_size h = rw (eq-eqb (length session) session_length l, ← eb, h)

    module _ (h : b ≡ false) {d : Bool} (ed : d ≡ inputs_formed inputs) where
      pub open_inputs : d ≡ false → (bad_input, table, session) ≡ desk_open inputs table session
      unfolding desk_open when◌then◌else◌ unless◌then◌else◌
      open_inputs k = rw (eq-eqb (length session) session_length l, ← eb, h, ← ed, k)

      module _ (k : d ≡ true) {xs : List Input} (ex : xs ≡ inputs_in inputs) {q : Result Session Refusal} {t : List ℕ} (eo : (opened_of xs q, t) ≡ open_of xs table) where
        pub open_stop : {e : Refusal} → q ≡ Err e → (number_of e, t, session) ≡ desk_open inputs table session
        unfolding desk_open when◌then◌else◌ unless◌then◌else◌ if◌equals◌then◌else◌
        open_stop {e} n =
            let o : (opened_of xs (Err e), t) ≡ open_of xs table = rw n at eo in
            rw (eq-eqb (length session) session_length l, ← eb, h, ← ed, k, ← ex, ← o, above_zero e)

        pub open_refused_lem : {b : ControlFlow _ Session} → q ≡ result_from_control_flow b → {e : _} → b ≡ Break e → (r : Result ⊤ Refusal) → IsErr r × IsErrAnd r (λ k. k ≡ e.0)
            → (answer_number r, t, session) ≡ desk_open inputs table session
        open_refused_lem i j r f = let p = err_from_is_err_and r f.1 in rw (p.1, p.2) (open_stop (rw j at i))

        pub open_whole : {v : Session} → q ≡ Ok v → length (session_bytes v) ≡ session_length → {y : List ℕ} → y ≡ sets session 0 (session_bytes v) → (0, t, y) ≡ desk_open inputs table session
        unfolding desk_open when◌then◌else◌ unless◌then◌else◌ if◌equals◌then◌else◌
        open_whole {v} n m ey =
            let o : (opened_of xs (Ok v), t) ≡ open_of xs table = rw n at eo in
            rw (eq-eqb (length session) session_length l, ← eb, h, ← ed, k, ← ex, ← o, put_whole session (session_bytes v) (l ∙ sym m) ey)
