-- A table with an opening's terms alone: they are well formed, whatever the count of accepted rules. Assumes nothing.
use mathlib.Core.Path.{◌≡◌, refl, sym, ◌∙◌}
use mathlib.Core.Bool.{Bool, true, ◌&&◌}
use mathlib.Core.List.{List, [], ◌∷◌}
use Prim.Native.Nat.{ℕ, zero, suc, ◌-◌}
use native.Mathlib.Numerals.{add-one}
use native.Mathlib.Omega.{arith}
use lib.ListN.{length, take}
use Rattle.notation.specs.Notation.{every}
use Rattle.semantics.specs.declared.Term.{Term}
use Rattle.semantics.specs.declared.Input.{Input}
use Rattle.semantics.specs.declared.Session.{Session}
use Rattle.semantics.specs.Numbers.{input_count}
use Rattle.semantics.specs.Terms.{terms_in, same_of, well_formed}
use Rattle.semantics.specs.Opening.{input_taken}
use Rattle.semantics.specs.Fits.{same_terms, no_free}
use Rattle.typing.proofs.Formed.{never, both, same_true}
use Rattle.typing.proofs.Later.{formed_later}
use Rattle.opening.proofs.Begins.{Begins, begins}
use Rattle.fitting.specs.Formed.{rest_fits, records_fit}
use Rattle.fitting.specs.Opens.{Opens}

pub same_terms_lem : (ts us : List Term) → same_terms ts us ≡ true → ts ≡ us
unfolding same_terms
same_terms_lem [] [] h = refl
same_terms_lem [] (u ∷ us) h = never h
same_terms_lem (t ∷ ts) [] h = never h
same_terms_lem (t ∷ ts) (u ∷ us) h = both (same_of t u) (same_terms ts us) h λ p q. cons (same_true t u p) (same_terms_lem ts us q)
  where
    cons : {a b : Term} {l m : List Term} → a ≡ b → l ≡ m → ◌≡◌ {A = List Term} (a ∷ l) (b ∷ m)
    cons e f = rw (e, f)

-- sixteen inputs are some
pub begins_all : (xs : List Input) → length xs ≡ input_count → Begins xs
begins_all [] n = absurd (omega arith)
begins_all (x ∷ xs) n = begins x xs n

pub opened_formed : {xs : List Input} {y : List ℕ} {c e : ℕ} → Opens xs y c e → {d : Bool} → d ≡ every input_taken xs → d ≡ true → well_formed 0 (terms_in y c) ≡ true
opened_formed {xs} o ed k = rw (o.terms (sym ed ∙ k)) (begins_all xs o.start.sixteen).formed

formed_always : (n : ℕ) (ts : List Term) → well_formed 0 ts ≡ true → well_formed n ts ≡ true
formed_always zero ts h = h
formed_always (suc n) ts h = rw (← add-one n) (formed_later n ts (formed_always n ts h))

-- nothing is past the opening's terms, and these are well formed
pub nothing_past : (x : Session) (s y : List ℕ) (n : ℕ) → well_formed 0 (terms_in y n) ≡ true → x.count ≡ n → {d : Bool} → d ≡ same_terms (terms_in s n) (terms_in y n) → d ≡ true
    → {b : Bool} → b ≡ rest_fits x s → b ≡ (every no_free (take (x.count - n) (terms_in s x.count)) && records_fit x s)
unfolding every
nothing_past x s y n w e ed k eb =
    let z : x.count - n ≡ zero = omega arith in
    rw (z, formed_always x.accepted (terms_in s x.count) (rw (e, same_terms_lem _ _ (sym ed ∙ k)) w)) eb
