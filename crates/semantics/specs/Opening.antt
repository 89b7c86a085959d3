-- Opening a session (document 01, "Opening" and "Open"). Assumes nothing.
use Rattle.std.specs.Prelude.{ℕ, suc, ◌%◌, Bool, true, false, not, ◌||◌, List, [], ◌∷◌, eqb, ltb, length}
use Rattle.notation.specs.Notation.{with, when◌then◌else◌, if◌equals◌then◌else◌, unless◌then◌else◌, every}
use Rattle.semantics.specs.declared.Term.{Term}
use Rattle.semantics.specs.declared.Input.{Input}
use Rattle.semantics.specs.declared.Session.{Session}
use Rattle.semantics.specs.declared.Opened.{Opened}
use Rattle.semantics.specs.Numbers.{constant_truth, constant_word, free_truth, free_word, truth_term, free_truth_term, free_word_term, no_binding, true_number, least_table, most_table, table_size, bad_input}
use Rattle.semantics.specs.Terms.{term, word_term_of, truth_number, image_of}
use Rattle.semantics.specs.Steps.{setting_of, Got, gave, refused, Make, ◌>>=◌, ◌▹◌, give, make_of}
use Rattle.semantics.specs.Factory.{make_truth_of, make_binding_of}

-- ---- 1: "table bytes not a multiple of 8, below 272 or above 65,536"
unfoldable pub bad_table_size : ℕ → Bool
bad_table_size l = not (eqb (l % 8) 0) || (ltb l least_table || ltb most_table l)

-- ---- 2: "0 constant truth (0 or 1), 1 constant word, 2 free truth, 3 free word (value 0 for free ones)"
unfoldable pub input_taken : Input → Bool
input_taken x =
    if x.kind equals constant_truth then ltb x.value 2 else
    if x.kind equals constant_word then true else
    if x.kind equals free_truth then eqb x.value 0 else
    if x.kind equals free_word then eqb x.value 0 else
    false

-- ---- "Terms: false, true, inputs 0 to 15, then bindings from input 15 to input 0."

-- the term of input i
unfoldable pub input_term : ℕ → Input → Term
input_term i x =
    if x.kind equals constant_truth then term truth_term 0 (truth_number x.value) 0 0 else
    if x.kind equals constant_word then word_term_of x.value else
    if x.kind equals free_truth then term free_truth_term 0 i 0 0 else
    term free_word_term 0 i 0 0

-- the terms of the inputs from number i on; their numbers, in order
unfoldable pub inputs_of : ℕ → List Input → Make (List ℕ)
inputs_of i [] = give []
inputs_of i (x ∷ xs) = make_of (input_term i x) >>= λ v. inputs_of (suc i) xs ▹ λ vs. v ∷ vs

-- the bindings of these values, the last value's first; the number of the first value's
unfoldable pub chain_of : List ℕ → Make ℕ
chain_of [] = give no_binding
chain_of (v ∷ vs) = chain_of vs >>= λ e. make_binding_of v e

-- the terms of an opening; the number of input 0's binding, where every rule starts
unfoldable pub opening_of : List Input → Make ℕ
opening_of xs = make_truth_of 0 >>= λ f. make_truth_of 1 >>= λ t. inputs_of 0 xs >>= λ vs. chain_of vs

-- What opening writes. At most 34 terms, so that no table that 1 takes is too short.
pub record Opening : Type 0 where
  pub terms : List Term
  pub environment : ℕ

abbrev pub opening_from : Got ℕ → Opening
opening_from (gave ts e u) = record { terms = ts; environment = e }
opening_from (refused k) = record { terms = []; environment = no_binding }

unfoldable pub opening : List Input → Opening
opening xs = opening_from (opening_of xs (setting_of most_table) [])

-- ---- the session at the start: "Both formulas start true."
abbrev pub session_of : List Input → ℕ → Session
session_of xs n =
    record { inputs = xs; count = n; state = record { assumed = true_number; asserted = true_number }; halted = false; accepted = 0 }

-- refused: no terms, and "The table is left untouched."
abbrev pub open_refused : List Input → List ℕ → ℕ → Opened × List ℕ
open_refused xs s k = (record { refusal = k; session = session_of xs 0 }, s)

-- Open: the answer, and the table then.
unfoldable pub open_of : List Input → List ℕ → Opened × List ℕ
open_of xs s =
    when bad_table_size (length s) then open_refused xs s table_size else
    unless every input_taken xs then open_refused xs s bad_input else
    with (opening xs).terms λ ts. (record { refusal = 0; session = session_of xs (length ts) }, image_of (length s) ts)
