-- What test 3 says of a session and a table: the table is one that steps are taken on, and the session names what it should. Assumes nothing.
use mathlib.Core.Path.{◌≡◌, refl, sym, ap, ◌∙◌}
use mathlib.Core.Bool.{Bool, true, false, not}
use mathlib.Core.List.{List, []}
use Prim.Native.Nat.{ℕ, zero, suc, ◌+◌, ◌-◌, ◌*◌, ◌<◌, ◌≤◌}
use native.Mathlib.Omega.{arith}
use lib.ListN.{length, get_or, take, drop, length-drop, get_or-eq_default}
use lib.Seq.{get_or-drop}
use lib.Dec.{ltb}
use borrow.Author.Tests.{eqb-true, leb-true, ltb-true, ltb-false}
use Rattle.notation.specs.Notation.{every}
use Rattle.notation.proofs.Every.{every_at}
use Rattle.semantics.specs.declared.Session.{Session}
use Rattle.semantics.specs.Numbers.{binding_term, input_count, rule_limit}
use Rattle.semantics.specs.Records.{records_in}
use Rattle.semantics.specs.Terms.{terms_in, well_formed}
use Rattle.semantics.specs.Opening.{input_taken, opening}
use Rattle.semantics.specs.Fits.{no_free, is_zero, fits_of}
use Rattle.terms.proofs.Tables.{terms_length}
use Rattle.typing.proofs.Grown.{Grown, still, more, grown_on, at_lower, at_newest, Sort, sort_grown, truth_at}
use Rattle.typing.proofs.Formed.{never, both}
use Rattle.typing.proofs.Does.{Fit, there_grown}
use Rattle.typing.proofs.Later.{formed_later}
use Rattle.typing.proofs.States.{Stated}
use Rattle.opening.proofs.Opened.{Sized, sized}
use Rattle.opening.proofs.Begins.{constants}
use Rattle.fitting.proofs.Begun.{same_terms_lem, begins_all}

zero_at : (s : List ℕ) (n k : ℕ) → every is_zero (drop n s) ≡ true → n ≤ k → get_or s k 0 ≡ 0
unfolding is_zero
zero_at s n k h l = go (ltb k (length s)) refl
  where
    go : (b : Bool) → ltb k (length s) ≡ b → get_or s k 0 ≡ 0
    go true e =
        let i : k < length s = omega (arith, ltb-true k (length s) e) in
        let j : k - n < length (drop n s) = rw (length-drop n s) (omega arith) in
        let q : n + (k - n) ≡ k = omega arith in
        ap (λ (m : ℕ). get_or s m 0) (sym q) ∙ (sym (get_or-drop n s (k - n) 0) ∙ eqb-true _ _ (every_at is_zero 0 (drop n s) (k - n) h j))
    go false e = get_or-eq_default s 0 (omega (arith, ltb-false k (length s) e))

terms_grown : (s : List ℕ) (n d m : ℕ) → m ≡ d + n → Grown (terms_in s n) (terms_in s m)
unfolding terms_in
terms_grown s n zero m e = let f : m ≡ n = omega arith in rw f still
terms_grown s n (suc d) m e = let f : m ≡ suc (d + n) = omega arith in rw f (more (terms_grown s n d (d + n) refl))

pub record Fitting (x : Session) (s : List ℕ) : Type 0 where
  pub size : Sized (length s)
  pub taken : every input_taken x.inputs ≡ true
  pub fit : Fit (x.accepted + 1) (terms_in s x.count)
  pub state : Stated (terms_in s x.count) x.state
  pub environment : Sort binding_term (terms_in s x.count) (opening x.inputs).environment
  pub room : x.count * 8 ≤ length s
  pub tail : (k : ℕ) → x.count * 8 ≤ k → get_or s k 0 ≡ 0
  pub few : x.accepted ≤ rule_limit

module _ (x : Session) (s : List ℕ) (n : length x.inputs ≡ input_count) where
  facts : Sized (length s) → every input_taken x.inputs ≡ true → length (opening x.inputs).terms ≤ x.count → x.count ≤ records_in s
      → terms_in s (length (opening x.inputs).terms) ≡ (opening x.inputs).terms → well_formed x.accepted (terms_in s x.count) ≡ true
      → every is_zero (drop (8 * x.count) s) ≡ true → Stated (terms_in s x.count) x.state → x.accepted ≤ rule_limit → Fitting x s
  facts z t a b o f w st l =
      let g : Grown (opening x.inputs).terms (terms_in s x.count) = grows in
      let q = begins_all x.inputs n in
      let c : Grown constants (terms_in s x.count) = grown_on q.base g in
      let y = z.most in
      record {
        size = z;
        taken = t;
        fit = record {
          formed = formed_later x.accepted (terms_in s x.count) f;
          no = there_grown c (record { low = omega arith; is = at_lower _ _ 0 (omega arith) ∙ at_newest _ [] });
          yes = there_grown c (record { low = omega arith; is = at_newest _ _ });
          short = rw (terms_length s x.count) (omega arith);
        };
        state = st;
        environment = sort_grown g q.environment;
        room = omega arith;
        tail = λ k i. zero_at s (8 * x.count) k w (omega arith);
        few = l;
      }
    where
      grows : Grown (opening x.inputs).terms (terms_in s x.count)
      grows =
          let m = length (opening x.inputs).terms in
          rw o at (terms_grown s m (x.count - m) x.count (omega arith))

  pub fitting : fits_of x s ≡ true → Fitting x s
  unfolding fits_of
  fitting h =
      both _ _ h λ z h. both _ _ h λ t h. both _ _ h λ a h. both _ _ h λ b h. both _ _ h λ o h.
      both (every no_free (take (x.count - length (opening x.inputs).terms) (terms_in s x.count))) _ h λ r h. both _ _ h λ f h. both _ _ h λ w h. both _ _ h λ u h. both _ _ h λ v l.
      facts (sized (length s) (not_not _ z)) t (leb-true _ _ a) (leb-true _ _ b) (same_terms_lem _ _ o) f w
      (record { assumed = truth_at _ _ u; asserted = truth_at _ _ v }) (leb-true _ _ l)
    where
      not_not : (b : Bool) → not b ≡ true → b ≡ false
      not_not true e = never e
      not_not false e = refl
