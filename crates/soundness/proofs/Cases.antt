-- The simulation, one lemma for each kind of record but the call, over any evaluation of the parts that meets the promise. Assumes nothing.
use mathlib.Core.Path.{◌≡◌, refl, sym, ap, subst, ◌∙◌}
use mathlib.Core.Bool.{Bool, true, false, not, ◌&&◌, ◌||◌}
use mathlib.Core.List.{List, [], ◌∷◌}
use Prim.Native.Nat.{ℕ, zero, suc, ◌<◌, ◌≤◌}
use native.Mathlib.Omega.{arith}
use lib.Dec.{eqb}
use borrow.Author.Tests.{eqb-true, eqb-false, eq-eqb, ne_eqb, lt-ltb, le-ltb}
use Rattle.notation.specs.Notation.{pick, with, when◌then◌else◌, if◌equals◌then◌else◌, if◌below◌then◌else◌}
use Rattle.operators.specs.Operators.{operands_of}
use Rattle.semantics.specs.declared.Term.{Term}
use Rattle.semantics.specs.declared.State.{State}
use Rattle.semantics.specs.declared.Result.{Result}
use Rattle.semantics.specs.declared.Branch.{Branch}
use Rattle.semantics.specs.Numbers.{word_datum, true_datum, not_code, is_word_code, record_limit, table_full}
use Rattle.semantics.specs.Steps.{Make, ◌▹◌, give, reads}
use Rattle.semantics.specs.States.{out_of}
use Rattle.semantics.specs.Evaluation.{Evaluator, place_of, datum_of, procedure_of, abort_of, error_of, words_of, operation_of, test_of, operator_of, second_of, under_of, let_of, Fork, fork_of, branches_of, both_of, if_of}
use Rattle.semantics.specs.Run.{Value, truth, word, procedure, binding, Ended, gives, aborts, errs, spends, Running, after, is_false, is_aword, is_aprocedure, word_in, operation_value, words_run, operator_run, datum_value}
use Rattle.typing.proofs.Formed.{never}
use Rattle.typing.proofs.Does.{Fit, stay, step_on, does_give, does_then, does_map, does_weaken, does_read, does_with, does_if, does_eq, does_below, does_refused}
use Rattle.typing.proofs.Factory.{Operands, operands_grown}
use Rattle.soundness.proofs.Means.{operator_meaning}
use Rattle.soundness.proofs.Constants.{Const, const_back, Step, Does}
use Rattle.soundness.proofs.Held.{MeansTruth, MeansValue, MeansBindings, truth_step, value_step, bindings_step, truth_is_value, false_means, true_means, known_is_false, known_is_true, unknown}
use Rattle.soundness.proofs.Factory.{not_does, and_does, truth_does, is_word_does, is_procedure_does, word_does, procedure_does, binding_does}
use Rattle.soundness.proofs.Operate.{one_value, operator_words, Second, second_step, operator_does}
use Rattle.soundness.proofs.Sim.{look_of, Seen, ends, on, assumed, asserted, StateMeans, state_step_lem, Sim, Spends, full, Sound, Sims, on_assumed, on_asserted, after_seen, on_after, on_off, on_live, ends_same, place_is, stops_dead, runs_live, assume_does, assert_does, sim_out, sim_halt, sim_step, sim_as}
use Rattle.soundness.proofs.Merging.{BranchReading, BranchesMean, no_branch_lem, also, branch_means, any, merge_does}

-- how a record is entered
pub record Entry (n : ℕ) (ns : List ℕ) (ts : List Term) (e : ℕ) (x : State) (s t : Bool) (E : Value) : Type 0 where
  pub fit : Fit n ts
  pub env : MeansBindings ns E ts e
  pub state : StateMeans ns s t ts x
  pub open_const : Const ts → (s && t) ≡ true

-- a refusal further on is one from here
pub spends_back : {n : ℕ} {ts us : List Term} {s t : Bool} {o : Ended} {k : ℕ} → Step n ts us → Spends us s t o k → Spends ts s t o k
spends_back p h = record { runs_out = λ i c l. h.runs_out i (p.keeps c) l; not_wide = λ i c l. h.not_wide i (p.keeps c) l }

assumed_false : (s t : Bool) → (assumed s t false && t) ≡ false
assumed_false true true = refl
assumed_false true false = refl
assumed_false false t = refl

asserted_false : (s t : Bool) → (s && asserted s t false) ≡ false
asserted_false true true = refl
asserted_false true false = refl
asserted_false false t = refl

pub asserted_live : (s t x : Bool) → (s && asserted s t x) ≡ true → x ≡ true
asserted_live true true x h = h
asserted_live true false x h = never h
asserted_live false t x h = never h

-- ---- operators 1 to 12
module _ (op : ℕ) (v w : Value) where
  words_one_is : operands_of op ≡ 1 → words_run op v w ≡ is_aword v
  unfolding words_run when◌then◌else◌ if◌equals◌then◌else◌
  words_one_is e = rw e (go (is_aword v))
    where
      go : (b : Bool) → pick b true false ≡ b
      go true = refl
      go false = refl

  words_two_is : (operands_of op ≡ 1 → ⊥) → words_run op v w ≡ (is_aword v && is_aword w)
  unfolding words_run when◌then◌else◌ if◌equals◌then◌else◌
  words_two_is e = rw (ne_eqb _ _ e) (go (is_aword v))
    where
      go : (b : Bool) → pick b (is_aword w) false ≡ (b && is_aword w)
      go true = refl
      go false = refl

  -- what a second operand is does not matter where there is none
  words_same : (u : Value) → ((operands_of op ≡ 1 → ⊥) → w ≡ u) → words_run op v w ≡ words_run op v u
  unfolding words_run if◌equals◌then◌else◌
  words_same u q = go (eqb (operands_of op) 1) refl
    where
      go : (b : Bool) → eqb (operands_of op) 1 ≡ b → (when is_aword v then (pick (eqb (operands_of op) 1) true (is_aword w)) else false) ≡ (when is_aword v then (pick (eqb (operands_of op) 1) true (is_aword u)) else false)
      go true e = rw e
      go false e = rw (q (eqb-false _ _ e))

abbrev pub operated : ℕ → Value → Value → Ended
operated op v w = pick (words_run op v w) (gives (operator_meaning op v w)) errs

-- what the operator gives on its operands is what the run gives, whatever is taken for a second operand that there is none of
pub operated_is : (op : ℕ) (v w u : Value) → op < not_code → ((operands_of op ≡ 1 → ⊥) → w ≡ u) → operated op v w ≡ operator_run op v u
unfolding operator_run if◌below◌then◌else◌ when◌then◌else◌
operated_is op v w u l q = rw (lt-ltb op not_code l, sym (words_same op v w u q)) (go (words_run op v w) refl)
  where
    value_same : operation_value op (word_in v) (word_in w) ≡ operation_value op (word_in v) (word_in u)
    value_same = one_or (eqb (operands_of op) 1) refl
      where
        one_or : (b : Bool) → eqb (operands_of op) 1 ≡ b → operation_value op (word_in v) (word_in w) ≡ operation_value op (word_in v) (word_in u)
        one_or true e = one_value op (word_in v) (word_in w) (word_in u) l (eqb-true _ _ e)
        one_or false e = ap (λ z. operation_value op (word_in v) (word_in z)) (q (eqb-false _ _ e))

    go : (b : Bool) → words_run op v w ≡ b → pick b (gives (operator_meaning op v w)) errs ≡ pick b (gives (operation_value op (word_in v) (word_in u))) errs
    go true e = ap gives (operator_words op v w l e ∙ value_same)
    go false e = refl

module _ {l n : ℕ} {ns : List ℕ} {ts : List Term} {x : State} {s t : Bool} (f : Fit n ts) (state : StateMeans ns s t ts x) where
  words_does : {N : ℕ → Type 0} {a b : ℕ} {v w : Value} → N table_full → (op : ℕ) → MeansValue ns v ts a → ((operands_of op ≡ 1 → ⊥) → MeansValue ns w ts b)
      → Does l n (words_of op a b) ts (MeansTruth ns (words_run op v w)) N
  unfolding words_of
  words_does {v = v} {w} room op h k =
      does_then (is_word_does room f h) (λ us g p q. does_with _ _ (does_eq _ _ (λ e. does_give _ p.fit (rw (words_one_is op v w e) q)) λ e.
      does_then (is_word_does room p.fit (value_step p (k e))) (λ ws c u r. rw (words_two_is op v w e) (and_does room u.fit (truth_step u q) r))))

  operation_sim : {op a b : ℕ} {v w : Value} → Operands ts op a b → MeansValue ns v ts a → Second ns w ts b → ((operands_of op ≡ 1 → ⊥) → MeansValue ns w ts b)
      → Sound l n ns ts s t (operated op v w) (operation_of op a b x)
  unfolding operation_of
  operation_sim {op} {a} {b} {v} {w} o hv hw two =
      does_then (words_does full op hv two) (λ us g p hg.
      does_then (assert_does full p.fit (state_step_lem p state) hg) (λ xs y q hy. let z = step_on p q in
      does_read _ _ (does_if _
      (λ i. let d = stops_dead q.fit hy i in
      does_give _ q.fit (sim_halt q.fit hy d (λ u. on_off s _ (gives u) (gives (operator_meaning op v w)) d ∙ on_asserted s t (words_run op v w) (gives (operator_meaning op v w)))))
      (λ i. does_map _ (operator_does full q.fit (operands_grown z.grown o) (value_step z hv) (second_step z hw) (λ d. value_step z (two d))
      (λ c. asserted_live s t (words_run op v w) (runs_live q.fit hy i c)))
      (λ ys c r hc. sim_out (state_step_lem r hy) hc (λ k. runs_live q.fit hy i (const_back r.grown k)) (on_asserted s t (words_run op v w) (gives (operator_meaning op v w))))))))

-- ---- operators 13 to 15
unfoldable pub test_b : ℕ → Value → Bool
test_b op v = if op equals not_code then is_false v else if op equals is_word_code then is_aword v else is_aprocedure v

module _ (op : ℕ) (v : Value) where
  test_not : op ≡ not_code → test_b op v ≡ is_false v
  unfolding test_b if◌equals◌then◌else◌
  test_not e = rw e

  test_word : (op ≡ not_code → ⊥) → op ≡ is_word_code → test_b op v ≡ is_aword v
  unfolding test_b if◌equals◌then◌else◌
  test_word d e = rw e

  test_procedure : (op ≡ not_code → ⊥) → (op ≡ is_word_code → ⊥) → test_b op v ≡ is_aprocedure v
  unfolding test_b if◌equals◌then◌else◌
  test_procedure d e = rw (ne_eqb _ _ d, ne_eqb _ _ e)

  pub test_run : (w : Value) → not_code ≤ op → gives (truth (test_b op v)) ≡ operator_run op v w
  unfolding test_b operator_run if◌equals◌then◌else◌ if◌below◌then◌else◌
  test_run w h = rw (le-ltb op not_code h) (go (eqb op not_code) (eqb op is_word_code))
    where
      go : (i j : Bool) → gives (truth (pick i (is_false v) (pick j (is_aword v) (is_aprocedure v)))) ≡ pick i (gives (truth (is_false v))) (pick j (gives (truth (is_aword v))) (gives (truth (is_aprocedure v))))
      go true j = refl
      go false true = refl
      go false false = refl

not_not : (b : Bool) → not (not b) ≡ b
not_not true = refl
not_not false = refl

test_does : {l n : ℕ} {N : ℕ → Type 0} {ns : List ℕ} {ts : List Term} {a : ℕ} {v : Value} → N table_full → Fit n ts → (op : ℕ) → MeansValue ns v ts a
    → Does l n (test_of op a) ts (MeansTruth ns (test_b op v)) N
unfolding test_of
test_does {v = v} room f op h =
    does_eq _ _ (λ e. does_then (truth_does room f h) (λ us g p q. rw (test_not op v e, sym (not_not (is_false v))) (not_does room p.fit q))) λ d.
    does_eq _ _ (λ e. rw (test_word op v d e) (is_word_does room f h)) (λ e. rw (test_procedure op v d e) (is_procedure_does room f h))

-- branches that all read as one outcome, and whether a guard holds
pub record Branches (ns : List ℕ) (o : Seen) (c : Bool) (ts : List Term) (bs : List Branch) : Type 0 where
  pub xs : List BranchReading
  pub branches : BranchesMean ns ts o bs xs
  pub covers : any xs ≡ c

if_run : (b : Bool) (f g : Running) (E : Value) → pick (not b) (f E) (g E) ≡ (when b then g else f) E
unfolding when◌then◌else◌
if_run true f g E = refl
if_run false f g E = refl

spends_after : (K : Value → Ended) → after spends K ≡ spends
unfolding after
spends_after K = refl

-- ---- expressions that have no parts
truth_number_lem : {ns : List ℕ} {n : ℕ} {ts : List Term} → Fit n ts → (op : ℕ) → op ≤ word_datum → (op ≡ word_datum → ⊥) → MeansValue ns (truth (eqb op true_datum)) ts op
truth_number_lem f zero k e = truth_is_value (false_means f)
truth_number_lem f (suc zero) k e = truth_is_value (true_means f)
truth_number_lem f (suc (suc m)) k e = absurd (e (omega arith))

module _ (op w : ℕ) where
  datum_word_lem : op ≡ word_datum → datum_value op w ≡ word w
  unfolding datum_value if◌equals◌then◌else◌
  datum_word_lem e = rw e

  datum_truth : (op ≡ word_datum → ⊥) → datum_value op w ≡ truth (eqb op true_datum)
  unfolding datum_value if◌equals◌then◌else◌
  datum_truth e = rw (ne_eqb _ _ e)

-- the second operand's value: false, the term 0, where there is none
abbrev second : ℕ → Value → Value
second op v = pick (eqb (operands_of op) 1) (truth false) v

module _ {n : ℕ} {ns : List ℕ} {ts : List Term} {e : ℕ} {E : Value} (f : Fit n ts) (h : MeansBindings ns E ts e) where
  second_is : (op q : ℕ) → Second ns (second op (look_of q E)) ts (second_of op q e ts)
  unfolding second_of with if◌equals◌then◌else◌
  second_is op q = go (eqb (operands_of op) 1)
    where
      go : (b : Bool) → Second ns (pick b (truth false) (look_of q E)) ts (pick b 0 (place_of q e ts))
      go true = record { low = (false_means {ns = ns} f).sort.low; is = (false_means {ns = ns} f).is }
      go false = let i : MeansValue ns (look_of q E) ts (place_of q e ts) = place_is q e f h in record { low = i.named.low; is = i.is }

  second_two : (op q : ℕ) → (operands_of op ≡ 1 → ⊥) → MeansValue ns (second op (look_of q E)) ts (second_of op q e ts)
  unfolding second_of with if◌equals◌then◌else◌
  second_two op q d = rw (ne_eqb _ _ d) (place_is q e f h)

  second_same : (op q : ℕ) → (operands_of op ≡ 1 → ⊥) → second op (look_of q E) ≡ look_of q E
  second_same op q d = rw (ne_eqb _ _ d)

  operands : (op p q : ℕ) → (op ≡ 0 → ⊥) → op < not_code → Operands ts op (place_of p e ts) (second_of op q e ts)
  unfolding second_of with if◌equals◌then◌else◌
  operands op p q z k =
      record {
        some = z;
        few = k;
        first = (place_is p e f h).named;
        alone = λ z. rw (eq-eqb _ _ z);
        second = λ z. rw (ne_eqb _ _ z) (place_is q e f h).named;
      }

-- a value with no change of state
value_sim : {n : ℕ} {ns : List ℕ} {ts us : List Term} {e k : ℕ} {x : State} {s t : Bool} {E v : Value} → Entry n ns ts e x s t E → Step n ts us → MeansValue ns v us k
    → Sim ns (on s t (gives v)) us (out_of x k)
value_sim entry p h = sim_out (state_step_lem p entry.state) h (λ c. entry.open_const (const_back p.grown c)) refl

module _ {l n : ℕ} {ns : List ℕ} {ts : List Term} {e : ℕ} {x : State} {s t : Bool} {E : Value} (entry : Entry n ns ts e x s t E) where
  value_does : {m : Make ℕ} {v : Value} → Does l n m ts (MeansValue ns v) (Spends ts s t (gives v)) → Sound l n ns ts s t (gives v) (m ▹ λ k. out_of x k)
  value_does d = does_map _ d (λ us a g q. value_sim entry g q)

  pub datum_sim : (op w : ℕ) → op ≤ word_datum → Sound l n ns ts s t (gives (datum_value op w)) (datum_of op w x)
  unfolding datum_of
  datum_sim op w k =
      does_eq _ _ (λ i. rw (datum_word_lem op w i) (value_does (word_does full w entry.fit)))
      (λ i. rw (datum_truth op w i) (does_give _ entry.fit (value_sim entry (stay entry.fit) (truth_number_lem entry.fit op k i))))

  pub variable_sim : (p : ℕ) → Sound l n ns ts s t (gives (look_of p E)) (reads (place_of p e) λ v. give (out_of x v))
  variable_sim p = does_read _ _ (does_give _ entry.fit (value_sim entry (stay entry.fit) (place_is p e entry.fit entry.env)))

  pub procedure_sim : (i b : ℕ) → i < record_limit → b < n → Sound l n ns ts s t (gives (procedure i E)) (procedure_of i e b x)
  unfolding procedure_of
  procedure_sim i b k o = value_does (procedure_does full entry.fit k entry.env o)

  pub abort_sim : Sound l n ns ts s t aborts (abort_of x)
  unfolding abort_of
  abort_sim =
      does_map _ (assume_does full entry.fit entry.state (false_means entry.fit)) (λ us y g h. sim_halt g.fit h (assumed_false s t) (λ v. on_assumed s t false (gives v)))

  pub error_sim : Sound l n ns ts s t errs (error_of x)
  unfolding error_of
  error_sim =
      does_map _ (assert_does full entry.fit entry.state (false_means entry.fit)) (λ us y g h. sim_halt g.fit h (asserted_false s t) (λ v. on_asserted s t false (gives v)))

  pub operator_sim : (op p q : ℕ) → (op ≡ 0 → ⊥)
      → Sound l n ns ts s t (operator_run op (look_of p E) (look_of q E)) (reads (place_of p e) λ a. reads (second_of op q e) λ b. operator_of op a b x)
  unfolding operator_of
  operator_sim op p q z =
      does_read _ _ (does_read _ _ (does_below _ _
      (λ k. subst (λ o. Sound l n ns ts s t o (operation_of op (place_of p e ts) (second_of op q e ts) x))
      (operated_is op (look_of p E) (second op (look_of q E)) (look_of q E) k (second_same entry.fit entry.env op q))
      (operation_sim entry.fit entry.state (operands entry.fit entry.env op p q z k) (place_is p e entry.fit entry.env) (second_is entry.fit entry.env op q)
      (second_two entry.fit entry.env op q)))
      (λ k. subst (λ o. Sound l n ns ts s t o (test_of op (place_of p e ts) ▹ λ v. out_of x v)) (test_run op (look_of p E) (look_of q E) k)
      (value_does (does_weaken entry.fit (λ us a g q. truth_is_value q) (test_does full entry.fit op (place_is p e entry.fit entry.env)))))))

  -- ---- expressions that have parts
  module _ {run : Evaluator} {rn : ℕ → Running} (ih : Sims l n ns run rn) where
    -- Let: what is read of the first part goes on as the run does.
    let_next : (p q : ℕ) {us : List Term} {r : Result} (h : Sim ns (on s t (rn p E)) us r)
        → on h.s h.t (rn q (binding h.v E)) ≡ on s t (after (rn p E) (λ v. rn q (binding v E)))
    unfolding after
    let_next p q h =
        sym (on_after h.s h.t (gives h.v) (λ v. rn q (binding v E))) ∙
        (ap (λ u. after_seen u (λ v. rn q (binding v E))) h.sees ∙ on_after s t (rn p E) (λ v. rn q (binding v E)))

    pub let_sim : (p q : ℕ) → Sound l n ns ts s t (after (rn p E) (λ v. rn q (binding v E))) (let_of run p q e x)
    unfolding let_of under_of
    let_sim p q =
        does_then (does_refused entry.fit first (ih p e x ts s t E entry.fit entry.env entry.state)) (λ us r z h.
        does_if r.halted
        (λ i. does_give _ z.fit (sim_as (sym h.sees ∙ (on_off h.s h.t (gives h.v) (K h.v) (h.dead i) ∙ let_next p q h)) h))
        (λ i. does_then (binding_does full z.fit h.value (bindings_step z entry.env)) (λ ws m y hm.
        does_weaken y.fit (λ xs o u ho. sim_as (let_next p q h) ho)
        (does_refused y.fit (further h i z y) (ih q m r.state ws h.s h.t (binding h.v E) y.fit hm (state_step_lem y h.state))))))
      where
        K : Value → Ended
        K v = rn q (binding v E)

        first : (k : ℕ) → Spends ts s t (rn p E) k → Spends ts s t (after (rn p E) K) k
        first k m = record { runs_out = λ i c o. ap (λ u. after u K) (m.runs_out i c o) ∙ spends_after K; not_wide = m.not_wide }

        further : {us ws : List Term} {r : Result} (h : Sim ns (on s t (rn p E)) us r) → r.halted ≡ false → Step n ts us → Step n us ws
            → (k : ℕ) → Spends ws h.s h.t (K h.v) k → Spends ts s t (after (rn p E) K) k
        further h i z y k m = record {
          runs_out = λ j c o.
              let d = z.keeps c in
              let a = h.live i d in
              ends_same (sym (on_live s t (after (rn p E) K) o) ∙ (sym (let_next p q h) ∙ (on_live h.s h.t (K h.v) a ∙ ap ends (m.runs_out j (y.keeps d) a))));
          not_wide = λ j c o. m.not_wide j (y.keeps (z.keeps c)) (h.live i (z.keeps c));
        }

    -- If: both branches, where the test is not known.
    record Forked (b : Bool) (us : List Term) (k : Fork) : Type 0 where
      guard : MeansTruth ns (not b) us k.guard
      yes : StateMeans ns (assumed s t b) t us k.yes
      no : StateMeans ns (assumed s t (not b)) t us k.no

    fork_does : {N : ℕ → Type 0} {us : List Term} {g : ℕ} {b : Bool} → N table_full → Step n ts us → MeansTruth ns b us g → Does l n (fork_of g x) us (Forked b) N
    unfolding fork_of
    fork_does room z hg =
        does_then (not_does room z.fit hg) (λ vs h y hh.
        does_then (assume_does room y.fit (state_step_lem (step_on z y) entry.state) (truth_step y hg)) (λ ws b p hb.
        does_map _ (assume_does room p.fit (state_step_lem (step_on (step_on z y) p) entry.state) (truth_step p hh)) (λ xs c w hc.
        record { guard = truth_step w (truth_step p hh); yes = state_step_lem w hb; no = hc })))

    both_sim : {us : List Term} {g : ℕ} {b : Bool} (q r : ℕ) → Step n ts us → MeansTruth ns b us g → (Const us → ⊥)
        → Does l n (both_of run g q r e x) us (Sim ns (on s t (pick b (rn q E) (rn r E)))) (Spends ts s t (pick b (rn q E) (rn r E)))
    unfolding both_of branches_of
    both_sim {us} {g} {b} q r z hg mixed =
        does_then (fork_does full z hg) (λ vs k y hk. let zy = step_on z y in
        does_then {Q = Ran} (does_then (does_refused y.fit none_const (ih q e k.yes vs (assumed s t b) t E y.fit (bindings_step zy entry.env) hk.yes)) (λ ws o u ho. let zu = step_on zy u in
        does_map _ (does_refused u.fit none_const (ih r e k.no ws (assumed s t (not b)) t E u.fit (bindings_step zu entry.env) (state_step_lem u hk.no))) (λ xs w p hw.
        record {
          xs = _ ∷ (_ ∷ []);
          branches = also (branch_means (truth_step (step_on (step_on y u) p) hg) (sim_step p ho) (left b)) (also (branch_means (truth_step (step_on u p) hk.guard) hw (right b)) no_branch_lem);
          covers = cover b;
        }))) (λ xs bs p hb. merge_does full (pick b (rn q E) (rn r E)) p.fit (state_step_lem (step_on zy p) entry.state) hb.branches (λ _. hb.covers)))
      where
        Ran : List Term → List Branch → Type 0
        Ran = Branches ns (on s t (pick b (rn q E) (rn r E))) true

        none_const : {o : Ended} {ws : List Term} {s' t' : Bool} (k : ℕ) → Spends ws s' t' o k → Spends ts s t (pick b (rn q E) (rn r E)) k
        none_const k _ = record { runs_out = λ i c l. absurd (mixed (z.keeps c)); not_wide = λ i c l. mixed (z.keeps c) }

        cover : (b : Bool) → (b || (not b || false)) ≡ true
        cover true = refl
        cover false = refl

        left : (b : Bool) → b ≡ true → on (assumed s t b) t (rn q E) ≡ on s t (pick b (rn q E) (rn r E))
        left true i = on_assumed s t true (rn q E)
        left false i = never i

        right : (b : Bool) → not b ≡ true → on (assumed s t (not b)) t (rn r E) ≡ on s t (pick b (rn q E) (rn r E))
        right true i = never i
        right false i = on_assumed s t true (rn r E)

    -- a part, with nothing done
    part : {us : List Term} → Step n ts us → (i : ℕ) → Does l n (run i e x) us (Sim ns (on s t (rn i E))) (Spends ts s t (rn i E))
    part {us} z i = does_refused z.fit (λ k m. spends_back z m) (ih i e x us s t E z.fit (bindings_step z entry.env) (state_step_lem z entry.state))

    pub if_sim : (p q r : ℕ) → Sound l n ns ts s t ((when is_false (look_of p E) then rn r else rn q) E) (if_of run p q r e x)
    unfolding if_of
    if_sim p q r =
        subst (λ o. Sound l n ns ts s t o (if_of run p q r e x)) (if_run (is_false (look_of p E)) (rn q) (rn r) E)
        (does_read _ _ (does_then (truth_does full entry.fit (place_is p e entry.fit entry.env)) (λ us g z hg.
        does_read _ _ (does_eq _ _ (λ k. rw (known_is_true z.fit hg k) (part z q)) λ d. does_eq _ _ (λ k. rw (known_is_false z.fit hg k) (part z r)) λ k.
        both_sim q r z hg (unknown z.fit hg k d)))))
