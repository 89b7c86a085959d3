-- The words of a hit, written one after another. Assumes nothing.
use mathlib.Core.Path.{◌≡◌, refl, ap, ◌∙◌}
use mathlib.Core.Bool.{Bool}
use mathlib.Core.List.{List, [], ◌∷◌, ◌++◌}
use Prim.Native.Nat.{ℕ, ◌+◌, ◌*◌, ◌<◌, ◌≤◌}
use native.Mathlib.Numerals.{add-one}
use native.Mathlib.Omega.{arith}
use lib.ListN.{length, get_or, take, replicate}
use lib.Seq.{sets, take-suc, take_all, length-take-le}
use Rattle.std.specs.Option.{is_some, unwrap_or}
use Rattle.std.specs.declared.option.Option.{Option}
use Rattle.std.specs.declared.option.Option.TheVariants.{None, Some}
use Rattle.words.specs.Words.{word_bytes}
use Rattle.operators.specs.Operators.{bit_of}
use Rattle.semantics.specs.Numbers.{input_count}
use Rattle.witness.specs.Told.{hit_told}
use Rattle.forms.specs.Forms.{word_bytes_of, words_of}
use Rattle.forms.proofs.Written.{sets_then}
use Rattle.byte_witness.specs.Witness.{hit_bytes}

words_length : (ws : List ℕ) → length (words_of ws) ≡ word_bytes * length ws
words_length [] = refl
words_length (w ∷ ws) = let l = words_length ws in omega arith

words_append : (vs ws : List ℕ) → words_of (vs ++ ws) ≡ words_of vs ++ words_of ws
words_append [] ws = refl
words_append (v ∷ vs) ws = ap (λ us. word_bytes_of v ++ us) (words_append vs ws)

-- the numbers before i, and number i, after the first word
module _ (s₀ ns : List ℕ) (i : ℕ) where
  pub numbers_more : i < length ns → {s : List ℕ} → s ≡ sets s₀ word_bytes (words_of (take i ns)) → {y : List ℕ} → y ≡ sets s (word_bytes * (i + 1)) (word_bytes_of (get_or ns i 0))
      → y ≡ sets s₀ word_bytes (words_of (take (i + 1) ns))
  numbers_more h {s} es {y} ey =
      let taken = length-take-le i ns (omega arith) in
      let words = words_length (take i ns) in
      let long : word_bytes * (i + 1) ≡ word_bytes + length (words_of (take i ns)) = omega arith in
      let bytes : words_of (take (i + 1) ns) ≡ words_of (take i ns) ++ word_bytes_of (get_or ns i 0) = rw (add-one, take-suc ns i 0 h) (words_append (take i ns) (get_or ns i 0 ∷ [])) in
      ey ∙ rw (es, bytes) (sets_then (words_of (take i ns)) (word_bytes_of (get_or ns i 0)) s₀ word_bytes (word_bytes * (i + 1)) long)

  pub numbers_done : length ns ≤ i → {s : List ℕ} → s ≡ sets s₀ word_bytes (words_of (take i ns)) → s ≡ sets s₀ word_bytes (words_of ns)
  numbers_done h es = es ∙ rw (take_all i ns h)

-- the mark, and the numbers
found_told : (o : Option (List ℕ)) → is_some o ≡ (hit_told o).found
found_told None = refl
found_told (Some ns) = refl

numbers_told : (o : Option (List ℕ)) → unwrap_or o (replicate input_count 0) ≡ (hit_told o).numbers
numbers_told None = refl
numbers_told (Some ns) = refl

pub hit_put : (o : Option (List ℕ)) {f : Bool} → f ≡ is_some o → {b : ℕ} → b ≡ bit_of f → {ns : List ℕ} → ns ≡ unwrap_or o (replicate input_count 0) → (s : List ℕ) {y z : List ℕ} → y ≡ sets s 0 (word_bytes_of b)
    → z ≡ sets y word_bytes (words_of ns) → z ≡ sets s 0 (hit_bytes (hit_told o))
hit_put o ef {b} eb en s ey ez =
    ez ∙ rw (ey, eb, ef, en, found_told o, numbers_told o) (sets_then (word_bytes_of (bit_of (hit_told o).found)) (words_of (hit_told o).numbers) s 0 word_bytes refl)
