-- The word constants of a table are words: of a table of bytes, and of every history from an accepted opening whose inputs' values are words and whose
-- rules are bytes, since an evaluation on such terms makes such terms. Assumes nothing.
use mathlib.Core.Path.{◌≡◌, refl, sym, ap, subst, ◌∙◌}
use mathlib.Core.Bool.{Bool, true, false}
use mathlib.Core.List.{List, [], ◌∷◌}
use Prim.Native.Nat.{ℕ, zero, suc, ◌+◌, ◌*◌, ◌^◌, ◌<◌, ◌≤◌}
use native.Mathlib.Omega.{arith}
use lib.Dec.{eqb}
use lib.ListN.{length}
use Rattle.notation.specs.Notation.{pick, with, if◌equals◌then◌else◌}
use Rattle.words.specs.Words.{word_limit}
use Rattle.words.proofs.Words.{join_word}
use Rattle.semantics.specs.declared.Term.{Term}
use Rattle.semantics.specs.declared.Input.{Input}
use Rattle.semantics.specs.declared.State.{State}
use Rattle.semantics.specs.declared.Result.{Result}
use Rattle.semantics.specs.declared.Session.{Session}
use Rattle.semantics.specs.declared.Opened.{Opened}
use Rattle.semantics.specs.declared.Evaluated.{Evaluated}
use Rattle.semantics.specs.declared.Answer.{Answer}
use Rattle.semantics.specs.declared.Answer.TheVariants.{Refused}
use Rattle.semantics.specs.Numbers.{truth_term, free_truth_term, free_word_term, constant_truth, constant_word, free_truth, input_count, least_table, most_table, call_too_wide, table_full, depth_spent}
use Rattle.semantics.specs.Records.{pair_at, record_at, datum_word}
use Rattle.semantics.specs.Terms.{term, word_term_of, truth_number, term_at, terms_in, image_of, at}
use Rattle.semantics.specs.Steps.{setting_of, Got, gave, Make, refuse, reads, up_of, up}
use Rattle.semantics.specs.Opening.{input_term, opening, open_of}
use Rattle.semantics.specs.Evaluation.{eval_of}
use Rattle.semantics.specs.Evaluate.{halted_again, evaluate_of}
use Rattle.semantics.specs.History.{Call, History, begun, called, called_all}
use Rattle.depth.proofs.Built.{Worded, worded_word, Congruence, kept_live}
use Rattle.soundness.proofs.Inputs.{All, Leaves, leaves, nothing, Keeps, keeps_give, keeps_then, keeps_make, EachIn, opening_all}
use Rattle.opening.proofs.Opened.{sized}
use Rattle.demands.specs.Demand1.{first_failed, ruling, Ends, value, halt, again, too_wide, full, spent}
use Rattle.demands.proofs.Stored.{stored_terms}
use Rattle.demands.proofs.Holds.{begun as opening-begun}
use Rattle.demands.proofs.Ruling.{again_at}
use Rattle.demands.proofs.Demand1.{demand_1}
use Rattle.demands.proofs.Demand2.{demand_2}
use Rattle.demands.proofs.Demand3.{accepts}
use Rattle.certainty.specs.Certain.{Bytes, WordInputs, ByteRules}
use Rattle.certainty.proofs.Operate.{operate_word}

-- a word
abbrev pub IsWord : ℕ → Type 0
IsWord w = w < word_limit

-- the word of each word constant is a word
abbrev pub AreWords : List Term → Type 0
AreWords ts = All (Worded IsWord) ts

-- of the term with number n, if it is one
words_at : (ts : List Term) → AreWords ts → (n : ℕ) → Worded IsWord (at ts n)
unfolding at
words_at [] h n = λ k. absurd (omega arith)
words_at (t ∷ ts) h n = go (eqb n (length ts)) (words_at ts h.1 n)
  where
    go : (b : Bool) → Worded IsWord (at ts n) → Worded IsWord (pick b t (at ts n))
    go true r = h.0
    go false r = r

-- ---- bytes

-- two of them
pair_small : (s : List ℕ) → Bytes s → (i : ℕ) → pair_at s i < 2 ^ 16
pair_small s h i = omega (arith, h i, h (i + 1))

-- the word of a datum, and of a word constant, which stands in the same two fields
datum_word_lem : (s : List ℕ) → Bytes s → (i : ℕ) → IsWord (datum_word (record_at s i))
unfolding record_at
datum_word_lem s h i = join_word (pair_small s h (8 * i + 2)) (pair_small s h (8 * i + 4))

-- the terms of a table
pub table_words : (s : List ℕ) → Bytes s → (n : ℕ) → AreWords (terms_in s n)
unfolding terms_in term_at with
table_words s h zero = tt
table_words s h (suc n) = ((λ k. datum_word_lem s h n), table_words s h n)

-- ---- an evaluation: what each form of a step keeps, it keeps

-- the relation looks at one of the two steps
abbrev Keeping : (A : Type 0) → Make A → Make A → Type 0
Keeping A m l = Keeps (Worded IsWord) m

-- an operator gives a word of words, and a step reads words alone from such terms
words_congruence : Congruence IsWord Keeping
unfolding refuse reads
words_congruence =
    record {
      nought = omega arith;
      worked_out_lem = operate_word;
      giving = keeps_give;
      refusing = record { at = λ z ts h. nothing };
      going_on = keeps_then;
      reading = λ f m l k. record { at = λ z ts h. (k ts (words_at ts h)).at z ts h };
      making = λ t n w. keeps_make t w;
    }

-- one expression deeper
leaves_up : {A : Type 0} {x : Got A} → Leaves (Worded IsWord) x → Leaves (Worded IsWord) (up_of x)
leaves_up (leaves h) = leaves h
leaves_up nothing = nothing

-- of a rule whose data are words
eval_words : (rule : List ℕ) → ((i : ℕ) → IsWord (datum_word (record_at rule i))) → (b d i e : ℕ) (y : State) → Keeps (Worded IsWord) (eval_of rule b d i e y)
unfolding eval_of refuse up
eval_words rule w b zero i e y = record { at = λ z ts h. nothing }
eval_words rule w b (suc d) i e y =
    record { at = λ z ts h. leaves_up ((kept_live Keeping words_congruence rule w b (eval_of rule b d) (eval_of rule b d) (eval_words rule w b d) i e y).at z ts h) }

-- ---- a call

-- what a call leaves has words
abbrev HasWords : Evaluated × List ℕ → Type 0
HasWords o = AreWords (terms_in o.1 o.0.session.count)

module _ (rule : List ℕ) (bytes : Bytes rule) (allowance : ℕ) (x : Session) (s : List ℕ) (h : AreWords (terms_in s x.count)) where
  -- the terms that the rules make
  ruled_words : {ts : List Term} {r : Result} {d : ℕ} → ruling rule allowance x s ≡ gave ts r d → AreWords ts
  ruled_words {ts} {r} {d} e =
      go _ ((eval_words rule (datum_word_lem rule bytes) x.accepted allowance 0 (opening x.inputs).environment x.state).at (setting_of (length s)) (terms_in s x.count) h) e
    where
      go : (g : Got Result) → Leaves (Worded IsWord) g → g ≡ gave ts r d → AreWords ts
      go g (leaves {us = us} a) q = let i : us ≡ ts = cc in subst AreWords i a
      go g nothing q = let z : ◌≡◌ {A = ℕ} 0 1 = cc in absurd (omega arith)

  -- the rules give a result: the table holds the terms that they made
  result_words : first_failed rule allowance x s ≡ 0 → x.halted ≡ false → {ts : List Term} {r : Result} {d : ℕ} → ruling rule allowance x s ≡ gave ts r d
      → HasWords (evaluate_of rule allowance x s)
  result_words z n {ts} e =
      let l = (demand_2.symbolic rule allowance x s).result z n e in
      let c : (evaluate_of rule allowance x s).0.session.count ≡ length ts = ap (λ (y : Session). y.count) l.session in
      subst AreWords (sym (ap (terms_in (evaluate_of rule allowance x s).1) c ∙ l.terms)) (ruled_words e)

  -- a halted session answers with its table as it was
  again_words : HasWords (halted_again x s)
  unfolding halted_again
  again_words = h

  -- and so does a refusal
  refused_words : (n : ℕ) → (evaluate_of rule allowance x s).0.answer ≡ Refused n → HasWords (evaluate_of rule allowance x s)
  refused_words n e = subst HasWords (sym ((demand_1 rule allowance x s).untouched n e)) h

  -- where the tests pass, however it ends
  ended_words : first_failed rule allowance x s ≡ 0 → (a : Answer) → (evaluate_of rule allowance x s).0.answer ≡ a → Ends rule allowance x s a
      → HasWords (evaluate_of rule allowance x s)
  ended_words z a q (value n e i) = result_words z n e
  ended_words z a q (halt n e i) = result_words z n e
  ended_words z a q (again n) = subst HasWords (sym (again_at rule x s allowance z n)) again_words
  ended_words z a q (too_wide n e) = refused_words call_too_wide q
  ended_words z a q (full n e) = refused_words table_full q
  ended_words z a q (spent n e) = refused_words depth_spent q

  -- and where one fails
  call_words : HasWords (evaluate_of rule allowance x s)
  call_words = go (first_failed rule allowance x s) refl
    where
      go : (n : ℕ) → first_failed rule allowance x s ≡ n → HasWords (evaluate_of rule allowance x s)
      go zero e = ended_words e _ refl ((demand_1 rule allowance x s).taken e)
      go (suc n) e = refused_words (suc n) ((demand_1 rule allowance x s).refused_by_lem (suc n) e (omega arith))

-- ---- an opening

-- the term of an input whose value is a word
input_words : (i : ℕ) (x : Input) → IsWord x.value → Worded IsWord (input_term i x)
unfolding input_term if◌equals◌then◌else◌
input_words i x h = go (eqb x.kind constant_truth) (eqb x.kind constant_word) (eqb x.kind free_truth)
  where
    go : (a b c : Bool)
        → Worded IsWord (pick a (term truth_term 0 (truth_number x.value) 0 0) (pick b (word_term_of x.value) (pick c (term free_truth_term 0 i 0 0) (term free_word_term 0 i 0 0))))
    go true b c = λ k. absurd (omega arith)
    go false true c = worded_word IsWord x.value h
    go false false true = λ k. absurd (omega arith)
    go false false false = λ k. absurd (omega arith)

-- those of all
inputs_words : (i : ℕ) (xs : List Input) → WordInputs xs → EachIn (λ j x. Worded IsWord (input_term j x)) i xs
inputs_words i [] h = tt
inputs_words i (x ∷ xs) h = (input_words i x (h 0), inputs_words (suc i) xs (λ j. h (suc j)))

-- every term
opening_words : (xs : List Input) → length xs ≡ input_count → WordInputs xs → AreWords (opening xs).terms
opening_words xs n h =
    opening_all (Worded IsWord) (λ k. absurd (omega arith)) (λ k. absurd (omega arith)) (λ v e k. absurd (omega arith)) xs (inputs_words 0 xs h)
    (setting_of most_table) (opening-begun xs n).gives

-- ---- a history

-- its table has words
abbrev pub HistoryWords : History → Type 0
HistoryWords h = AreWords (terms_in h.table h.session.count)

-- a list of calls keeps that
calls_words : (h : History) (ks : List Call) → HistoryWords h → ByteRules ks → HistoryWords (called_all h ks)
unfolding called_all called
calls_words h [] w b = w
calls_words h (k ∷ ks) w b = calls_words (called h k) ks (call_words k.rule b.0 k.allowance h.session h.table w) b.1

-- From an accepted opening on.
pub history_words : (xs : List Input) (table : List ℕ) → length xs ≡ input_count → WordInputs xs → (open_of xs table).0.refusal ≡ 0
    → (calls : List Call) → ByteRules calls → HistoryWords (called_all (begun (open_of xs table)) calls)
history_words xs table n w e calls b =
    let a = accepts xs table e in
    calls_words _ calls (subst (λ (o : Opened × List ℕ). HistoryWords (begun o)) (sym a.is) (opened (sized (length table) a.size).least)) b
  where
    opened : least_table ≤ length table → AreWords (terms_in (image_of (length table) (opening xs).terms) (length (opening xs).terms))
    opened l = let f = (opening-begun xs n).few in subst AreWords (sym (stored_terms (length table) (opening xs).terms (omega arith))) (opening_words xs n w)
