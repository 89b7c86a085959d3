-- What stands in a slice after bytes are stored one after another. Assumes nothing.
use mathlib.Core.Path.{◌≡◌, refl, ap, ◌∙◌}
use mathlib.Core.Bool.{Bool, true, false}
use mathlib.Core.List.{List, [], ◌∷◌, ◌++◌, append-nil}
use Prim.Native.Nat.{ℕ, suc, ◌+◌, ◌*◌, ◌/◌, ◌%◌, ◌<◌, ◌≤◌}
use native.Mathlib.Numerals.{add-one}
use native.Mathlib.Omega.{arith}
use lib.ListN.{get_or, set, take, length, length-append, drop_of_length-le}
use lib.Seq.{sets, sets-eq, take-suc, take_all, length-take-le}
use Rattle.words.specs.Words.{word_bytes, low_of}
use Rattle.operators.specs.Operators.{bit_of}
use Rattle.semantics.specs.declared.Input.{Input}
use Rattle.semantics.specs.declared.Session.{Session}
use Rattle.semantics.specs.Numbers.{input_count}
use Rattle.semantics.specs.Print.{input_size}
use Rattle.forms.specs.Forms.{inputs_length, session_length, pairs_of, word_bytes_of, kind_bytes, input_bytes, inputs_bytes, session_bytes}

-- a list of the length of what is stored is that
pub sets_whole : (s vs : List ℕ) → length s ≡ length vs → sets s 0 vs ≡ vs
sets_whole s vs h = sets-eq vs s 0 (omega arith) ∙ rw (drop_of_length-le s {i = 0 + length vs} (omega arith)) (append-nil vs)

pub put_whole : (s vs : List ℕ) → length s ≡ length vs → {y : List ℕ} → y ≡ sets s 0 vs → y ≡ vs
put_whole s vs h e = e ∙ sets_whole s vs h

-- stores that go on where others ended
pub sets_then : (vs ws s : List ℕ) (i j : ℕ) → j ≡ i + length vs → sets (sets s i vs) j ws ≡ sets s i (vs ++ ws)
sets_then [] ws s i j e = let q : j ≡ i = omega arith in rw q
sets_then (v ∷ vs) ws s i j e = sets_then vs ws (set s i v) (suc i) j (omega arith)

-- ---- numbers of two bytes each
pairs_length : (ns : List ℕ) → length (pairs_of ns) ≡ 2 * length ns
pairs_length [] = refl
pairs_length (n ∷ ns) = let e = pairs_length ns in omega arith

pairs_append : (ns ms : List ℕ) → pairs_of (ns ++ ms) ≡ pairs_of ns ++ pairs_of ms
pairs_append [] ms = refl
pairs_append (n ∷ ns) ms = ap (λ (l : List ℕ). n % 256 ∷ n / 256 ∷ l) (pairs_append ns ms)

-- the numbers before i, and number i
module _ (s₀ ns : List ℕ) (at i : ℕ) where
  pub pairs_more : i < length ns → {s : List ℕ} → s ≡ sets s₀ at (pairs_of (take i ns)) → {k : ℕ} → k ≡ at → {y : List ℕ} → y ≡ sets s (k + 2 * i) (pairs_of (get_or ns i 0 ∷ []))
      → y ≡ sets s₀ at (pairs_of (take (i + 1) ns))
  pairs_more h es ek ey =
      let long : at + 2 * i ≡ at + length (pairs_of (take i ns)) = rw (pairs_length, length-take-le i ns (omega arith)) refl in
      let bytes : pairs_of (take (i + 1) ns) ≡ pairs_of (take i ns) ++ pairs_of (get_or ns i 0 ∷ []) = rw (add-one, take-suc ns i 0 h, pairs_append) refl in
      ey ∙ rw (es, ek, bytes) (sets_then (pairs_of (take i ns)) (pairs_of (get_or ns i 0 ∷ [])) s₀ at (at + 2 * i) long)

  pub pairs_done : length ns ≤ i → {s : List ℕ} → s ≡ sets s₀ at (pairs_of (take i ns)) → s ≡ sets s₀ at (pairs_of ns)
  pairs_done h es = es ∙ rw (take_all i ns h)

-- a word, of its fields
pub put_word : (s : List ℕ) (i w : ℕ) {l : ℕ} → l ≡ low_of w → {y : List ℕ} → y ≡ sets s i (pairs_of (l ∷ [])) → y ≡ sets s i (word_bytes_of w)
put_word s i w el ey = ey ∙ rw el

-- a kind as a word, and a word
kind_word : {k : ℕ} → k < 256 → word_bytes_of k ≡ kind_bytes k
unfolding low_of
kind_word {k} h = let p : k % 256 ≡ k = omega arith in let q : k / 256 ≡ 0 = omega arith in rw (p, q)

pub put_input : (s : List ℕ) (i k w : ℕ) {v : ℕ} → v ≡ k → {y z : List ℕ} → y ≡ sets s i (word_bytes_of v) → k < 256 → z ≡ sets y (i + word_bytes) (word_bytes_of w) → z ≡ sets s i (kind_bytes k ++ word_bytes_of w)
put_input s i k w ev ey h ez = ez ∙ rw (ey ∙ ap (λ (n : ℕ). sets s i (word_bytes_of n)) ev ∙ ap (sets s i) (kind_word h)) (sets_then (kind_bytes k) (word_bytes_of w) s i (i + word_bytes) refl)

-- ---- inputs
inputs_length_lem : (xs : List Input) → length (inputs_bytes xs) ≡ input_size * length xs
unfolding inputs_bytes
inputs_length_lem [] = refl
inputs_length_lem (x ∷ xs) = let e = inputs_length_lem xs in omega arith

inputs_append : (xs ys : List Input) → inputs_bytes (xs ++ ys) ≡ inputs_bytes xs ++ inputs_bytes ys
unfolding inputs_bytes
inputs_append [] ys = refl
inputs_append (x ∷ xs) ys = ap (λ (l : List ℕ). input_bytes x ++ l) (inputs_append xs ys)

pub inputs_long : (xs : List Input) → length xs ≡ input_count → length (inputs_bytes xs) ≡ inputs_length
inputs_long xs long = inputs_length_lem xs ∙ rw long

-- the inputs before i, and input i
module _ (s₀ : List ℕ) (xs : List Input) (i : ℕ) where
  pub inputs_none : s₀ ≡ sets s₀ 0 (inputs_bytes (take 0 xs))
  unfolding inputs_bytes
  inputs_none = refl

  pub inputs_more : i < length xs → {s : List ℕ} → s ≡ sets s₀ 0 (inputs_bytes (take i xs)) → (d : Input) {y : List ℕ} → y ≡ sets s (input_size * i) (input_bytes (get_or xs i d))
      → y ≡ sets s₀ 0 (inputs_bytes (take (i + 1) xs))
  unfolding inputs_bytes
  inputs_more h es d ey =
      let long : input_size * i ≡ 0 + length (inputs_bytes (take i xs)) = rw (inputs_length_lem, length-take-le i xs (omega arith)) (omega arith) in
      let bytes : inputs_bytes (take (i + 1) xs) ≡ inputs_bytes (take i xs) ++ input_bytes (get_or xs i d) = rw (add-one, take-suc xs i d h, inputs_append) (simp append-nil) in
      ey ∙ rw (es, bytes) (sets_then (inputs_bytes (take i xs)) (input_bytes (get_or xs i d)) s₀ 0 (input_size * i) long)

  pub inputs_done : length xs ≡ 16 → 16 ≤ i → {s : List ℕ} → s ≡ sets s₀ 0 (inputs_bytes (take i xs)) → s ≡ sets s₀ 0 (inputs_bytes xs)
  inputs_done long h es = es ∙ rw (take_all i xs (omega arith))

-- ---- a session
module _ (x : Session) (long : length (inputs_bytes x.inputs) ≡ inputs_length) where
  pub session_length_lem : length (session_bytes x) ≡ session_length
  unfolding session_bytes
  session_length_lem = length-append (inputs_bytes x.inputs) _ ∙ rw long

  pub put_session : (s : List ℕ) {a b : List ℕ} → a ≡ sets s 0 (inputs_bytes x.inputs) → {h : ℕ} → h ≡ bit_of x.halted
      → b ≡ sets a inputs_length (pairs_of (x.count ∷ x.state.assumed ∷ x.state.asserted ∷ x.accepted ∷ h ∷ [])) → b ≡ sets s 0 (session_bytes x)
  unfolding session_bytes
  put_session s ea eh eb =
      let rest : List ℕ = pairs_of (x.count ∷ x.state.assumed ∷ x.state.asserted ∷ x.accepted ∷ []) ++ (bit_of x.halted ∷ 0 ∷ []) in
      eb ∙ rw (ea, eh, bit_low x.halted, bit_high x.halted) (sets_then (inputs_bytes x.inputs) rest s 0 inputs_length (rw long))
    where
      bit_low : (m : Bool) → bit_of m % 256 ≡ bit_of m
      bit_low true = refl
      bit_low false = refl

      bit_high : (m : Bool) → bit_of m / 256 ≡ 0
      bit_high true = refl
      bit_high false = refl
