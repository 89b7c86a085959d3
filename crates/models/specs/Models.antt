-- What document 02's request Six promises of its clauses. It is said of `read_of` and the runs, which the operations are proved equal to, on what can
-- be lent: a table of bytes, and numbers that are words. Assumes nothing.
use Rattle.std.specs.Prelude.{◌≡◌, Bool, true, ◌||◌, ◌&&◌, List, [], ◌∷◌, ℕ, zero, suc, ◌+◌, ◌*◌, ◌≤◌, eqb, length}
use Rattle.notation.specs.Notation.{pick}
use Rattle.words.specs.Words.{width}
use Rattle.operators.specs.Operators.{bit_of}
use Rattle.semantics.specs.declared.Term.{Term}
use Rattle.semantics.specs.declared.Input.{Input}
use Rattle.semantics.specs.declared.Session.{Session}
use Rattle.semantics.specs.declared.Result.{Result}
use Rattle.semantics.specs.declared.Goal.{Goal}
use Rattle.semantics.specs.declared.Goal.TheVariants.{Errs}
use Rattle.semantics.specs.Numbers.{input_count, free_truth_term, free_word_term}
use Rattle.semantics.specs.Terms.{terms_in}
use Rattle.semantics.specs.Opening.{open_of}
use Rattle.semantics.specs.Fits.{fits_of}
use Rattle.semantics.specs.Reading.{numbers_taken, result_taken, read_of}
use Rattle.semantics.specs.Goals.{goal_outcome, NamesWord}
use Rattle.semantics.specs.History.{Call, History, begun, called_all}
use Rattle.circuits.specs.Gates.{Literal, clauses_true}
use Rattle.clauses.specs.Clauses.{own_variable, clauses_of_call}
use Rattle.certainty.specs.Certain.{Bytes, Words, WordInputs, ByteRules, NeverErrs}

-- What a call lends that 3 and 14 take: a session of sixteen inputs, a table of bytes, a result, and a goal whose word is one.
pub record Taken (x : Session) (s : List ℕ) (r : Result) (g : Goal) : Type 0 where
  pub bytes : Bytes s
  pub inputs : length x.inputs ≡ input_count
  pub named : NamesWord g
  pub fits : fits_of x s ≡ true
  pub result : result_taken (terms_in s x.count) r ≡ true

-- Sixteen numbers that 13 does not refuse, under which reading the result gives the goal.
pub record Reaches (x : Session) (s : List ℕ) (r : Result) (g : Goal) (numbers : List ℕ) : Type 0 where
  pub sixteen : length numbers ≡ input_count
  pub words : Words numbers
  pub taken : numbers_taken x.inputs numbers ≡ true
  pub reads : (work : List ℕ) → x.count ≤ length work → (read_of x s numbers r work).0 ≡ goal_outcome g

-- some numbers do
pub record Reachable (x : Session) (s : List ℕ) (r : Result) (g : Goal) : Type 0 where
  pub numbers : List ℕ
  pub reaches : Reaches x s r g numbers

-- some values of the variables make every clause true
pub record Satisfiable (cs : List (List (Literal ℕ))) : Type 0 where
  pub values : ℕ → Bool
  pub satisfied : clauses_true values cs ≡ true

-- ---- "The text can be satisfied exactly when such a reading exists"
pub record Exactly (x : Session) (s : List ℕ) (r : Result) (g : Goal) : Type 0 where
  pub satisfiable : Reachable x s r g → Satisfiable (clauses_of_call x s r g)
  pub reachable : Satisfiable (clauses_of_call x s r g) → Reachable x s r g

abbrev pub ClausesExact : Type 0
ClausesExact = (x : Session) (s : List ℕ) (r : Result) (g : Goal) → Taken x s r g → Exactly x s r g

-- ---- "and the input variables of any satisfying assignment are such a reading"

-- the word of n variables from number v on, lowest bit first
unfoldable pub word_at : (ℕ → Bool) → ℕ → ℕ → ℕ
word_at τ v zero = 0
word_at τ v (suc n) = bit_of (τ v) + 2 * word_at τ (suc v) n

-- it is the term of free input i
unfoldable pub is_input : ℕ → Term → Bool
is_input i t = (eqb t.kind free_truth_term || eqb t.kind free_word_term) && eqb t.a i

-- the bits of free input i's term; 0 where input i is a constant
unfoldable pub input_number : (ℕ → Bool) → List Term → ℕ → ℕ
input_number τ [] i = 0
input_number τ (t ∷ ts) i = let lower : ℕ = input_number τ ts i in pick (is_input i t) (word_at τ (own_variable (length ts) 2) width) lower

-- n inputs from number i on
unfoldable pub numbers_from : (ℕ → Bool) → List Term → ℕ → ℕ → List ℕ
numbers_from τ ts i zero = []
numbers_from τ ts i (suc n) = input_number τ ts i ∷ numbers_from τ ts (suc i) n

-- all sixteen
unfoldable pub numbers_of : (ℕ → Bool) → List Term → List ℕ
numbers_of τ ts = numbers_from τ ts 0 input_count

abbrev pub ModelIsReading : Type 0
ModelIsReading =
    (x : Session) (s : List ℕ) (r : Result) (g : Goal) → Taken x s r g → (τ : ℕ → Bool) → clauses_true τ (clauses_of_call x s r g) ≡ true
    → Reaches x s r g (numbers_of τ (terms_in s x.count))

-- ---- with demand 3: where the clauses for "errs" can't be satisfied, no head reading brings about an error. Of the history h that any list of calls
-- of evaluate left, refused ones included, from an accepted opening.
abbrev pub UnsatisfiedNeverErrs : Type 0
UnsatisfiedNeverErrs =
    (xs : List Input) (table : List ℕ) → length xs ≡ input_count → WordInputs xs → (open_of xs table).0.refusal ≡ 0 → (calls : List Call) → ByteRules calls
    → (h : History) → h ≡ called_all (begun (open_of xs table)) calls
    → (Satisfiable (clauses_of_call h.session h.table h.result Errs) → ⊥)
    → (numbers : List ℕ) → length numbers ≡ input_count → Words numbers → numbers_taken xs numbers ≡ true → NeverErrs xs h numbers
