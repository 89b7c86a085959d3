-- Each way through an operator on values, as a law on the definitions. Assumes nothing.
use Rattle.std.proofs.Common.{◌≡◌, ℕ, ◌<◌, ◌≤◌, Bool, true, false, refl, ap}
use lib.Dec.{eqb}
use borrow.Author.Tests.{ne_eqb, lt-ltb, le-ltb}
use Rattle.notation.specs.Notation.{pick, when◌then◌else◌, if◌equals◌then◌else◌, if◌below◌then◌else◌}
use Rattle.operators.specs.Operators.{operands_of}
use Rattle.semantics.specs.Numbers.{not_code, is_word_code}
use Rattle.semantics.specs.Run.{Value, truth, Ended, gives, errs, is_false, is_aword, is_aprocedure, word_in, words_run, operation_value, operator_run}
use Rattle.semantics.specs.PlainRun.{ended}
use Rattle.interpreter.specs.declared.Held.{Held}
use Rattle.interpreter.specs.declared.Held.TheVariants.{Truth, Word, Procedure, Nothing}
use Rattle.interpreter.specs.Store.{shown}

-- on words
module _ (op : ℕ) (l : op < not_code) where
  no_word : (x y : Held) → ((w : ℕ) → x ≡ Word w → ⊥) → errs ≡ operator_run op (shown x) (shown y)
  unfolding operator_run words_run is_aword when◌then◌else◌ if◌below◌then◌else◌
  no_word (Truth b) y h = rw (lt-ltb _ _ l) refl
  no_word (Word w) y h = absurd (h w refl)
  no_word (Procedure i e) y h = rw (lt-ltb _ _ l) refl
  no_word Nothing y h = rw (lt-ltb _ _ l) refl

  pub operator_no_word : (x y : Held) → ((w : ℕ) → x ≡ Word w → ⊥) → (k : ℕ) → ended errs k ≡ ended (operator_run op (shown x) (shown y)) k
  operator_no_word x y h k = ap (λ (r : Ended). ended r k) (no_word x y h)

  words : (a b : ℕ) → gives (operation_value op a b) ≡ operator_run op (shown (Word a)) (shown (Word b))
  unfolding operator_run words_run is_aword word_in when◌then◌else◌ if◌below◌then◌else◌ if◌equals◌then◌else◌
  words a b = rw (lt-ltb _ _ l) (go (eqb (operands_of op) 1))
    where
      go : (t : Bool) → gives (operation_value op a b) ≡ pick (pick t true true) (gives (operation_value op a b)) errs
      go true = refl
      go false = refl

  pub operator_words : {x y : Held} {a b : ℕ} → x ≡ Word a → y ≡ Word b → {v : Value} → v ≡ operation_value op a b
      → (k : ℕ) → ended (gives v) k ≡ ended (operator_run op (shown x) (shown y)) k
  operator_words {a = a} {b = b} p q e k = rw (p, q, e) (ap (λ (r : Ended). ended r k) (words a b))

  one : (a : ℕ) (y : Held) → ((w : ℕ) → y ≡ Word w → ⊥) → operands_of op ≡ 1 → gives (operation_value op a 0) ≡ operator_run op (shown (Word a)) (shown y)
  unfolding operator_run words_run is_aword word_in when◌then◌else◌ if◌below◌then◌else◌ if◌equals◌then◌else◌
  one a (Truth b) h o = rw (lt-ltb _ _ l, o) refl
  one a (Word w) h o = absurd (h w refl)
  one a (Procedure i e) h o = rw (lt-ltb _ _ l, o) refl
  one a Nothing h o = rw (lt-ltb _ _ l, o) refl

  pub operator_one : {x : Held} {a : ℕ} → x ≡ Word a → (y : Held) → ((w : ℕ) → y ≡ Word w → ⊥) → {n : ℕ} → n ≡ operands_of op → n ≡ 1 → {v : Value} → v ≡ operation_value op a 0
      → (k : ℕ) → ended (gives v) k ≡ ended (operator_run op (shown x) (shown y)) k
  operator_one {a = a} p y h c o e k = rw (p, e) (ap (λ (r : Ended). ended r k) (one a y h (rw c at o)))

  second : (a : ℕ) (y : Held) → ((w : ℕ) → y ≡ Word w → ⊥) → (operands_of op ≡ 1 → ⊥) → errs ≡ operator_run op (shown (Word a)) (shown y)
  unfolding operator_run words_run is_aword word_in when◌then◌else◌ if◌below◌then◌else◌ if◌equals◌then◌else◌
  second a (Truth b) h o = rw (lt-ltb _ _ l, ne_eqb _ _ o) refl
  second a (Word w) h o = absurd (h w refl)
  second a (Procedure i e) h o = rw (lt-ltb _ _ l, ne_eqb _ _ o) refl
  second a Nothing h o = rw (lt-ltb _ _ l, ne_eqb _ _ o) refl

  pub operator_second : {x : Held} {a : ℕ} → x ≡ Word a → (y : Held) → ((w : ℕ) → y ≡ Word w → ⊥) → {n : ℕ} → n ≡ operands_of op → (n ≡ 1 → ⊥)
      → (k : ℕ) → ended errs k ≡ ended (operator_run op (shown x) (shown y)) k
  operator_second {a = a} p y h c o k = rw p (ap (λ (r : Ended). ended r k) (second a y h (rw c at o)))

-- on any values
module _ (op : ℕ) (x y : Held) (l : not_code ≤ op) {b : Bool} where
  pub operator_not : op ≡ not_code → b ≡ is_false (shown x) → (k : ℕ) → ended (gives (truth b)) k ≡ ended (operator_run op (shown x) (shown y)) k
  unfolding operator_run if◌equals◌then◌else◌ if◌below◌then◌else◌
  operator_not h e k = rw (h, e)

  pub operator_is_word : op ≡ is_word_code → b ≡ is_aword (shown x) → (k : ℕ) → ended (gives (truth b)) k ≡ ended (operator_run op (shown x) (shown y)) k
  unfolding operator_run if◌equals◌then◌else◌ if◌below◌then◌else◌
  operator_is_word h e k = rw (h, e)

  pub operator_is_procedure : (op ≡ not_code → ⊥) → (op ≡ is_word_code → ⊥) → b ≡ is_aprocedure (shown x) → (k : ℕ) → ended (gives (truth b)) k ≡ ended (operator_run op (shown x) (shown y)) k
  unfolding operator_run if◌equals◌then◌else◌ if◌below◌then◌else◌
  operator_is_procedure f g e k = rw (le-ltb _ _ l, ne_eqb _ _ f, ne_eqb _ _ g, e)
