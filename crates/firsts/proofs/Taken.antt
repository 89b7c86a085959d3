-- A call that nothing refuses. Assumes nothing.
use mathlib.Core.Path.{◌≡◌, refl}
use mathlib.Core.Bool.{Bool, true, false}
use mathlib.Core.List.{List}
use Prim.Native.Nat.{ℕ, ◌≤◌}
use native.Mathlib.Omega.{arith}
use lib.Dec.{ltb}
use borrow.Author.Tests.{ltb-false}
use Rattle.notation.specs.Notation.{pick, with, if◌below◌then◌else◌, unless◌then◌else◌}
use Rattle.semantics.specs.declared.Result.{Result}
use Rattle.semantics.specs.declared.Session.{Session}
use Rattle.semantics.specs.Numbers.{bit_limit, too_many_bits, work_short}
use Rattle.semantics.specs.Terms.{terms_in}
use Rattle.semantics.specs.Fits.{fits_of}
use Rattle.semantics.specs.Reading.{result_taken}
use Rattle.firsts.specs.Witness.{bits_of, spans_fit, witness_refusal}

pub record Taken (x : Session) (s : List ℕ) (r : Result) (spanned : Bool) (lows highs : List ℕ) (l : ℕ) : Type 0 where
  pub fits : fits_of x s ≡ true
  pub result : result_taken (terms_in s x.count) r ≡ true
  pub spans : spans_fit spanned x.inputs lows highs ≡ true
  pub enough : x.count ≤ l

pub witness_taken : (x : Session) (s : List ℕ) (r : Result) (spanned : Bool) (lows highs : List ℕ) (l : ℕ) → witness_refusal x s r spanned lows highs l ≡ 0 → Taken x s r spanned lows highs l
unfolding witness_refusal with if◌below◌then◌else◌ unless◌then◌else◌
witness_taken x s r spanned lows highs l e =
    by_number (fits_of x s) _ _ e (λ i. omega arith) λ fits e.
    by_number (result_taken (terms_in s x.count) r) _ _ e (λ i. omega arith) λ result e.
    by_number (spans_fit spanned x.inputs lows highs) _ _ e (λ i. omega arith) λ spans e.
    under_limit (ltb bit_limit (bits_of x.inputs)) _ e λ e.
    long (ltb l x.count) refl e fits result spans
  where
    -- a test that refuses by a number which is not 0
    by_number : {P : Type 0} (b : Bool) (k j : ℕ) → pick b k j ≡ 0 → (j ≡ 0 → ⊥) → (b ≡ true → k ≡ 0 → P) → P
    by_number true k j e stops go = go refl e
    by_number false k j e stops go = absurd (stops e)

    under_limit : {P : Type 0} (b : Bool) (k : ℕ) → pick b too_many_bits k ≡ 0 → (k ≡ 0 → P) → P
    under_limit true k e go = absurd (omega arith)
    under_limit false k e go = go e

    long : (b : Bool) → ltb l x.count ≡ b → pick b work_short 0 ≡ 0 → fits_of x s ≡ true → result_taken (terms_in s x.count) r ≡ true → spans_fit spanned x.inputs lows highs ≡ true → Taken x s r spanned lows highs l
    long true q e f g p = absurd (omega arith)
    long false q e f g p = record { fits = f; result = g; spans = p; enough = ltb-false l x.count q }
