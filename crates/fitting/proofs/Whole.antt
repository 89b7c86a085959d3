-- Test 3 as a whole: each way out of it, with an opening's terms made anew on 34 records of zeros. Assumes nothing.
use mathlib.Core.Path.{◌≡◌, refl, sym, ◌∙◌}
use mathlib.Core.Bool.{Bool, true, false}
use mathlib.Core.List.{List}
use Prim.Native.Nat.{ℕ}
use lib.ListN.{length, replicate}
use Rattle.std.specs.Prelude.{Option, is_some, IsOk}
use Rattle.std.specs.declared.result.Result.{Result}
use Rattle.std.specs.declared.result.Result.TheVariants.{Ok}
use Rattle.std.specs.Bool.{then_some}
use Rattle.notation.specs.Notation.{every}
use Rattle.semantics.specs.declared.Input.{Input}
use Rattle.semantics.specs.declared.Session.{Session}
use Rattle.semantics.specs.declared.refusal.Refusal.{Refusal}
use Rattle.semantics.specs.Numbers.{least_table}
use Rattle.semantics.specs.Terms.{terms_in}
use Rattle.semantics.specs.Opening.{bad_table_size, input_taken}
use Rattle.semantics.specs.Fits.{fits_of}
use Rattle.slices.specs.Wiped.{wiped}
use Rattle.terms.specs.declared.table.Table.{Table}
use Rattle.terms.specs.Gives.{Gives}
use Rattle.opening.specs.Openings.{open_all}
use Rattle.opening.proofs.Opened.{terms, answer, made_ok}
use Rattle.fitting.specs.Formed.{opening_fits}
use Rattle.fitting.specs.Opens.{Opens}

-- whether there is a value, where a test said it
pub then_given : (b : Bool) (e : ℕ) {r : Option ℕ} → r ≡ then_some b e → b ≡ is_some r
then_given true e h = rw h
then_given false e h = rw h

zeros : ◌≡◌ {A = List ℕ} (replicate least_table 0) (wiped (replicate least_table 0) 0)
unfolding wiped
zeros = refl

enough : bad_table_size (length {A = ℕ} (replicate least_table 0)) ≡ false
unfolding bad_table_size
enough = refl

ok_same : {a b : ℕ} → ◌≡◌ {A = Result ℕ Refusal} (Ok a) (Ok b) → a ≡ b
ok_same e = cc

module _ (x : Session) (s : List ℕ) {b : Bool} (eb : b ≡ bad_table_size (length s)) where
  pub misfit_size : b ≡ true → false ≡ fits_of x s
  unfolding fits_of
  misfit_size h = rw (← eb, h)

  module _ (h : b ≡ false) {d : Bool} (ed : d ≡ every input_taken x.inputs) where
    pub misfit_input : d ≡ false → false ≡ fits_of x s
    unfolding fits_of
    misfit_input k = rw (← eb, h, ← ed, k)

    pub fits_on : d ≡ true → {y : List ℕ} {c e : ℕ} → Opens x.inputs y c e → {v : Bool} → v ≡ opening_fits x s (terms_in y c) → {w : Bool} → v ≡ w → w ≡ fits_of x s
    unfolding fits_of
    fits_on k o ev ew = rw (← eb, h, ← ed, k, ← o.terms (sym ed ∙ k)) (sym ew ∙ ev)

-- the opening made on 34 records of zeros
module _ (xs : List Input) (n : length xs ≡ 16) {f z : Table} (eb : f.bytes.now ≡ replicate least_table 0) (ec : f.count ≡ 0) {r : Result ℕ Refusal} (g : Gives (open_all xs) f 0 r z) where
  pub fresh_made : IsOk r
  fresh_made = made_ok xs (replicate least_table 0) f z (eb ∙ zeros) ec enough n g

  pub fresh : {e : ℕ} → r ≡ Ok e → {c : ℕ} → c ≡ z.count → {y : List ℕ} → y ≡ z.bytes.now → Opens xs y c e
  fresh {e} er ew ey =
      let t = terms xs (replicate least_table 0) f z (eb ∙ zeros) ec enough n g in
      let a = answer xs (replicate least_table 0) f z (eb ∙ zeros) ec enough n g in
      record { terms = λ k. rw (ew, ey) t; start = record { sixteen = n; is = λ k. ok_same (sym er ∙ a) } }
