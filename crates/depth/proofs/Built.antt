-- What holds of each form of a step, between two that are built alike, holds of every step of document 01, and between two evaluations whose parts
-- it holds of. It may rest on what is known of words: the words that steps make come from those that they read, from the rule's data and by the
-- operators. Assumes nothing.
use mathlib.Core.Path.{◌≡◌, refl, sym, subst}
use mathlib.Core.Bool.{Bool, true, false}
use mathlib.Core.List.{List, [], ◌∷◌}
use Prim.Native.Nat.{ℕ, zero, suc}
use lib.Dec.{eqb, ltb}
use borrow.Author.Tests.{eqb-true, eqb-false}
use Rattle.notation.specs.Notation.{pick, with, when◌then◌else◌, if◌equals◌then◌else◌, if◌below◌then◌else◌}
use Rattle.words.proofs.Words.{join_halves}
use Rattle.operators.specs.Operators.{operate_of}
use Rattle.semantics.specs.declared.Term.{Term}
use Rattle.semantics.specs.declared.Folded.{Folded}
use Rattle.semantics.specs.declared.Record.{Record}
use Rattle.semantics.specs.declared.State.{State}
use Rattle.semantics.specs.declared.Leaf.{Leaf}
use Rattle.semantics.specs.declared.Branch.{Branch}
use Rattle.semantics.specs.Numbers.{word_term, call_too_wide, term_limit}
use Rattle.semantics.specs.Records.{record_at, datum_word}
use Rattle.semantics.specs.Terms.{word_term_of, term_word, at}
use Rattle.semantics.specs.Fits.{no_free}
use Rattle.semantics.specs.Steps.{Make, ◌>>=◌, ◌▹◌, give, refuse, each, reads, make_of}
use Rattle.semantics.specs.Factory.{make_word_of, not_of, and_of, or_of, implies_of, choice_of, truth_of, is_word_of, is_procedure_of, constant_of, zero_fold_of, operator_term_of}
use Rattle.semantics.specs.States.{merge_assumed_of, merge_asserted_of, assume_of, assert_of}
use Rattle.semantics.specs.Walk.{leaf_of, Walk, side_of, left_side_of, right_side_of, sides_of, node_of, walk_of, or_target_of, aim_of}
use Rattle.semantics.specs.Merge.{assumed_step, asserted_step, merge_states_of, value_step_of, merge_values_of, finish_of, merge_of}
use Rattle.semantics.specs.Evaluation.{Evaluator, datum_of, procedure_of, abort_of, error_of, words_of, operation_of, test_of, operator_of, fork_of, under_of, let_of, branches_of, both_of, if_of, apply_of, target_of, targets_of, call_of, expression_of, live_of}

-- What W says of words, said of a word constant.
abbrev pub Worded : (ℕ → Type 0) → Term → Type 0
Worded W t = t.kind ≡ word_term → W (term_word t)

pub worded_word : (W : ℕ → Type 0) (w : ℕ) → W w → Worded W (word_term_of w)
worded_word W w h k = subst W (sym (join_halves w)) h

-- nothing is asked of words
abbrev pub AnyWord : ℕ → Type 0
AnyWord w = Unit {0}

-- A relation between steps that each form of a step keeps, where W holds of 0 and of what the operators give where it holds of their operands. It then
-- holds of the words among the terms that are read, and of those that are made. The terms that evaluations make are no free inputs, and the one
-- refusal of their own is 10.
pub record Congruence (W : ℕ → Type 0) (R : (A : Type 0) → Make A → Make A → Type 0) : Type 1 where
  pub nought : W 0
  pub worked_out_lem : (op v w : ℕ) → W v → W w → W (operate_of op v w)
  pub giving : {A : Type 0} (a : A) → R A (give a) (give a)
  pub refusing : {A : Type 0} → R A (refuse call_too_wide) (refuse call_too_wide)
  pub going_on : {A B : Type 0} {m l : Make A} {f g : A → Make B} → R A m l → ((a : A) → R B (f a) (g a)) → R B (m >>= f) (l >>= g)
  pub reading : {A B : Type 0} (f : List Term → B) (m l : B → Make A)
      → ((ts : List Term) → ((n : ℕ) → Worded W (at ts n)) → R A (m (f ts)) (l (f ts))) → R A (reads f m) (reads f l)
  pub making : (t : Term) → no_free t ≡ true → Worded W t → R ℕ (make_of t) (make_of t)

module _ {W : ℕ → Type 0} (R : (A : Type 0) → Make A → Make A → Type 0) (kept : Congruence W R) where
  -- whatever the words are that are read
  kept_reads : {A B : Type 0} (f : List Term → B) (m l : B → Make A) → ((b : B) → R A (m b) (l b)) → R A (reads f m) (reads f l)
  kept_reads f m l h = kept.reading f m l (λ ts p. h (f ts))

  kept_map : {A B : Type 0} {m l : Make A} (f : A → B) → R A m l → R B (m ▹ f) (l ▹ f)
  unfolding ◌▹◌
  kept_map f h = kept.going_on h (λ a. kept.giving (f a))

  kept_with : {A B : Type 0} (v : B) (m l : B → Make A) → R A (m v) (l v) → R A (with v m) (with v l)
  unfolding with
  kept_with v m l h = h

  module _ {A : Type 0} {x y v w : Make A} (f : R A x v) (g : R A y w) where
    kept_pick : (b : Bool) → R A (pick b x y) (pick b v w)
    kept_pick true = f
    kept_pick false = g

    kept_if : (b : Bool) → R A (when b then x else y) (when b then v else w)
    unfolding when◌then◌else◌
    kept_if b = kept_pick b

    kept_eq : (i j : ℕ) → R A (if i equals j then x else y) (if i equals j then v else w)
    unfolding if◌equals◌then◌else◌
    kept_eq i j = kept_pick (eqb i j)

    kept_below : (i j : ℕ) → R A (if i below j then x else y) (if i below j then v else w)
    unfolding if◌below◌then◌else◌
    kept_below i j = kept_pick (ltb i j)

  -- the first is asked for only where the test holds
  kept_when : {A : Type 0} {x y v w : Make A} (i j : ℕ) → (i ≡ j → R A x v) → R A y w → R A (if i equals j then x else y) (if i equals j then v else w)
  unfolding if◌equals◌then◌else◌
  kept_when {A} {x} {y} {v} {w} i j f g = go (eqb i j) refl
    where
      go : (b : Bool) → eqb i j ≡ b → R A (pick b x y) (pick b v w)
      go true e = f (eqb-true i j e)
      go false e = g

  kept_each : {A B : Type 0} (f g : A → B → Make A) → ((a : A) (b : B) → R A (f a b) (g a b)) → (a : A) (bs : List B) → R A (each f a bs) (each g a bs)
  unfolding each
  kept_each f g h a [] = kept.giving a
  kept_each f g h a (b ∷ bs) = kept.going_on (h a b) (λ c. kept_each f g h c bs)

  abbrev Self : {A : Type 0} → Make A → Type 0
  Self {A} m = R A m m

  -- ---- the factory

  -- a term that is no word constant
  kept_plain : (t : Term) → no_free t ≡ true → eqb t.kind word_term ≡ false → Self (make_of t)
  kept_plain t n h = kept.making t n (λ k. absurd (eqb-false t.kind word_term h k))

  kept_word : (w : ℕ) → W w → Self (make_word_of w)
  unfolding no_free
  kept_word w h = kept.making _ refl (worded_word W w h)

  pub kept_not : (x : ℕ) → Self (not_of x)
  unfolding no_free not_of
  kept_not x =
      kept_reads _ _ _ (λ k. kept_eq (kept.giving _) (kept_eq (kept.giving _) (kept_reads _ _ _ (λ t.
      kept_with _ _ _ (kept_if (kept.giving _) (kept_plain _ refl refl) _))) _ _) _ _)

  kept_and : (x y : ℕ) → Self (and_of x y)
  unfolding no_free and_of
  kept_and x y =
      kept_reads _ _ _ (λ k. kept_eq (kept.giving _) (kept_eq (kept.giving _) (kept_reads _ _ _ (λ l.
      kept_eq (kept.giving _) (kept_eq (kept.giving _) (kept_eq (kept.giving _) (kept_plain _ refl refl) _ _) _ _) _ _)) _ _) _ _)

  kept_or : (x y : ℕ) → Self (or_of x y)
  unfolding no_free or_of
  kept_or x y =
      kept_reads _ _ _ (λ k. kept_eq (kept.giving _) (kept_eq (kept.giving _) (kept_reads _ _ _ (λ l.
      kept_eq (kept.giving _) (kept_eq (kept.giving _) (kept_eq (kept.giving _) (kept_plain _ refl refl) _ _) _ _) _ _)) _ _) _ _)

  kept_implies : (x y : ℕ) → Self (implies_of x y)
  unfolding implies_of
  kept_implies x y = kept.going_on (kept_not x) (λ n. kept_or n y)

  kept_choice : (g x y : ℕ) → Self (choice_of g x y)
  unfolding no_free choice_of
  kept_choice g x y = kept_reads _ _ _ (λ k. kept_eq (kept.giving _) (kept_eq (kept.giving _) (kept_eq (kept.giving _) (kept_plain _ refl refl) _ _) _ _) _ _)

  pub kept_truth : (x : ℕ) → Self (truth_of x)
  unfolding no_free truth_of
  kept_truth x = kept_reads _ _ _ (λ k. kept_eq (kept_plain _ refl refl) (kept_eq (kept.giving _) (kept.giving _) _ _) _ _)

  kept_is_word : (x : ℕ) → Self (is_word_of x)
  unfolding no_free is_word_of
  kept_is_word x = kept_reads _ _ _ (λ k. kept_eq (kept_plain _ refl refl) (kept_eq (kept.giving _) (kept.giving _) _ _) _ _)

  kept_is_procedure : (x : ℕ) → Self (is_procedure_of x)
  unfolding no_free is_procedure_of
  kept_is_procedure x = kept_reads _ _ _ (λ k. kept_eq (kept_plain _ refl refl) (kept_eq (kept.giving _) (kept.giving _) _ _) _ _)

  kept_constant : (op w : ℕ) → W w → Self (constant_of op w)
  unfolding constant_of
  kept_constant op w h = kept_with _ _ _ (kept_if (kept_with _ _ _ (kept.giving _)) (kept_word w h) _)

  kept_zero_fold : (op x y : ℕ) → Self (zero_fold_of op x y)
  unfolding no_free zero_fold_of
  kept_zero_fold op x y =
      kept_with _ _ _ (kept_if (kept_reads _ _ _ (λ t. kept_with _ _ _ (kept_if (kept_word 0 kept.nought) (kept_reads _ _ _ (λ u.
      kept_with _ _ _ (kept_if (kept_word 0 kept.nought) (kept_plain _ refl refl) _))) _))) (kept_plain _ refl refl) _)

  -- what is worked out of words that are read
  kept_operator_term : (op x y : ℕ) → Self (operator_term_of op x y)
  unfolding operator_term_of
  kept_operator_term op x y =
      kept.reading _ _ _ (λ ts p. kept_when _ _ (λ i.
      kept_with _ _ _ (kept_eq (kept_with _ _ _ (kept_with _ _ _ (kept_constant op _ (kept.worked_out_lem op _ 0 (p x i) kept.nought))))
      (kept.reading _ _ _ (λ us q. kept_when _ _ (λ j.
      kept_with _ _ _ (kept_with _ _ _ (kept_with _ _ _ (kept_constant op _ (kept.worked_out_lem op _ _ (p x i) (q y j))))))
      (kept_zero_fold op x y))) _ _)) (kept_zero_fold op x y))

  -- ---- the state
  kept_assumed : (x : State) (g s : ℕ) → Self (merge_assumed_of x g s)
  unfolding merge_assumed_of
  kept_assumed x g s = kept.going_on (kept_implies g s) (λ i. kept_map _ (kept_and _ i))

  kept_asserted : (x : State) (g t : ℕ) → Self (merge_asserted_of x g t)
  unfolding merge_asserted_of
  kept_asserted x g t = kept.going_on (kept_implies g t) (λ i. kept_map _ (kept_and _ i))

  pub kept_assume : (x : State) (g : ℕ) → Self (assume_of x g)
  unfolding assume_of
  kept_assume x g = kept_assumed x _ g

  kept_assert : (x : State) (g : ℕ) → Self (assert_of x g)
  unfolding assert_of
  kept_assert x g = kept_asserted x _ g

  -- ---- a call's walk
  kept_leaf : (found : List Leaf) (g : ℕ) (t : Term) → Self (leaf_of found g t)
  unfolding leaf_of
  kept_leaf found g t = kept_with _ _ _ (kept_below (kept.giving _) kept.refusing _ _)

  abbrev Walks : Walk → Type 0
  Walks w = (g x : ℕ) (found : List Leaf) → Self (w g x found)

  kept_side : (w : Walk) → Walks w → Walks (side_of w)
  unfolding side_of
  kept_side w h g x found = kept_reads _ _ _ (λ k. kept_eq (kept.giving _) (h g x found) _ _)

  kept_node : (w : Walk) → Walks w → Walks (node_of w)
  unfolding node_of sides_of left_side_of right_side_of
  kept_node w h g x found =
      kept_reads _ _ _ (λ t. kept_eq (kept.going_on (kept.going_on (kept_and g _) (λ l. kept_side w h l _ found)) (λ more.
      kept.going_on (kept_not _) (λ n. kept.going_on (kept_and g n) (λ r. kept_side w h r _ more)))) (kept_leaf found g t) _ _)

  kept_walk : (d : ℕ) → Walks (walk_of d)
  unfolding walk_of
  kept_walk zero g x found = kept.giving found
  kept_walk (suc d) g x found = kept_node (walk_of d) (kept_walk d) g x found

  kept_or_target : (g : ℕ) (l : Leaf) → Self (or_target_of g l)
  unfolding or_target_of
  kept_or_target g l = kept_eq (kept_or g _) (kept.giving g) _ _

  pub kept_aim : (f : ℕ) (x : State) → Self (aim_of f x)
  unfolding aim_of
  kept_aim f x = kept.going_on (kept_walk term_limit _ f []) (λ ls. kept.going_on (kept_each or_target_of or_target_of kept_or_target _ ls) (λ g. kept_map _ (kept_assert x g)))

  -- ---- merging
  kept_value : (b : Branch) (v : Folded) → Self (value_step_of b v)
  unfolding value_step_of
  kept_value b v = kept_if (kept.giving _) (kept_if (kept_map _ (kept_choice _ _ _)) (kept.giving _) _) _

  kept_values : (bs : List Branch) → Self (merge_values_of bs)
  unfolding merge_values_of
  kept_values [] = kept.giving _
  kept_values (b ∷ bs) = kept.going_on (kept_values bs) (λ v. kept_value b v)

  kept_finish : (x : State) (v : Folded) → Self (finish_of x v)
  unfolding finish_of
  kept_finish x v = kept_if (kept_reads _ _ _ (λ b. kept_if (kept.giving _) (kept.giving _) b)) (kept.giving _) _

  pub kept_merge : (x : State) (bs : List Branch) → Self (merge_of x bs)
  unfolding merge_of merge_states_of
  kept_merge x bs =
      kept.going_on (kept.going_on (kept_each assumed_step assumed_step (λ y b. kept_assumed y _ _) x bs) (λ y. kept_each asserted_step asserted_step (λ z b. kept_asserted z _ _) y bs))
      (λ y. kept.going_on (kept_values bs) (λ v. kept_finish y v))

  -- ---- expressions that have no parts
  pub kept_datum : (op w : ℕ) (x : State) → W w → Self (datum_of op w x)
  unfolding datum_of
  kept_datum op w x h = kept_eq (kept_map _ (kept_word w h)) (kept.giving _) _ _

  pub kept_procedure : (i e b : ℕ) (x : State) → Self (procedure_of i e b x)
  unfolding no_free procedure_of
  kept_procedure i e b x = kept_map _ (kept_plain _ refl refl)

  pub kept_abort : (x : State) → Self (abort_of x)
  unfolding abort_of
  kept_abort x = kept_map _ (kept_assume x _)

  pub kept_error : (x : State) → Self (error_of x)
  unfolding error_of
  kept_error x = kept_map _ (kept_assert x _)

  pub kept_operator : (op a b : ℕ) (x : State) → Self (operator_of op a b x)
  unfolding operator_of operation_of words_of test_of
  kept_operator op a b x =
      kept_below
      (kept.going_on (kept.going_on (kept_is_word a) (λ g. kept_with _ _ _ (kept_eq (kept.giving g) (kept.going_on (kept_is_word b) (λ h. kept_and g h)) _ _)))
      (λ g. kept.going_on (kept_assert x g) (λ y. kept_reads _ _ _ (λ z. kept_if (kept.giving _) (kept_map _ (kept_operator_term op a b)) z))))
      (kept_map _ (kept_eq (kept.going_on (kept_truth a) (λ t. kept_not t)) (kept_eq (kept_is_word a) (kept_is_procedure a) _ _) _ _)) _ _

  pub kept_fork : (g : ℕ) (x : State) → Self (fork_of g x)
  unfolding fork_of
  kept_fork g x = kept.going_on (kept_not g) (λ h. kept.going_on (kept_assume x g) (λ y. kept_map _ (kept_assume x h)))

  -- ---- expressions of a rule whose data W holds of, over two evaluations of the parts that the relation holds between
  module _ (rule : List ℕ) (known : (i : ℕ) → W (datum_word (record_at rule i))) (b : ℕ) (run far : Evaluator) (parts : (i e : ℕ) (x : State) → R _ (run i e x) (far i e x)) where
    kept_under : (q v e : ℕ) (x : State) → R _ (under_of run q v e x) (under_of far q v e x)
    unfolding no_free under_of
    kept_under q v e x = kept.going_on (kept_plain _ refl refl) (λ a. parts q a x)

    kept_let : (p q e : ℕ) (x : State) → R _ (let_of run p q e x) (let_of far p q e x)
    unfolding let_of
    kept_let p q e x = kept.going_on (parts p e x) (λ r. kept_if (kept.giving r) (kept_under q r.value e r.state) _)

    kept_both : (g q r e : ℕ) (x : State) → R _ (both_of run g q r e x) (both_of far g q r e x)
    unfolding both_of branches_of
    kept_both g q r e x =
        kept.going_on (kept_fork g x) (λ f. kept.going_on (kept.going_on (parts q e f.yes) (λ o. kept_map _ (parts r e f.no))) (λ bs. kept_merge x bs))

    kept_decide : (p q r e : ℕ) (x : State) → R _ (if_of run p q r e x) (if_of far p q r e x)
    unfolding if_of
    kept_decide p q r e x =
        kept_reads _ _ _ (λ v. kept.going_on (kept_truth v) (λ g. kept_reads _ _ _ (λ l. kept_eq (parts q e x) (kept_eq (parts r e x) (kept_both g q r e x) _ _) _ _)))

    kept_target : (arg : ℕ) (x : State) (bs : List Branch) (l : Leaf) → R _ (target_of run rule arg x bs l) (target_of far rule arg x bs l)
    unfolding target_of apply_of
    kept_target arg x bs l =
        kept_eq (kept_map _ (kept.going_on (kept_assume x _) (λ y. kept_with _ _ _ (kept_under _ arg _ y)))) (kept.giving bs) _ _

    kept_call : (f arg : ℕ) (x : State) → R _ (call_of run rule f arg x) (call_of far rule f arg x)
    unfolding call_of targets_of
    kept_call f arg x =
        kept.going_on (kept_aim f x) (λ m. kept_reads _ _ _ (λ h. kept_if (kept.giving _)
        (kept.going_on (kept_each _ _ (λ bs l. kept_target arg m.state bs l) [] m.leaves) (λ bs. kept_merge _ bs)) h))

    kept_expression : (x : Record) → W (datum_word x) → (i e : ℕ) (y : State) → R _ (expression_of rule b run x i e y) (expression_of rule b far x i e y)
    unfolding expression_of
    kept_expression x w i e y =
        kept_eq (kept_datum _ _ y w) (
        kept_eq (kept_reads _ _ _ (λ v. kept.giving _)) (
        kept_eq (kept_procedure i e b y) (
        kept_eq (kept_reads _ _ _ (λ f. kept_reads _ _ _ (λ v. kept_call f v y))) (
        kept_eq (kept_reads _ _ _ (λ a. kept_reads _ _ _ (λ c. kept_operator _ a c y))) (
        kept_eq (kept_let _ _ e y) (
        kept_eq (kept_decide _ _ _ e y) (
        kept_eq (kept_abort y) (kept_error y) _ _) _ _) _ _) _ _) _ _) _ _) _ _) _ _

    pub kept_live : (i e : ℕ) (y : State) → R _ (live_of rule b run i e y) (live_of rule b far i e y)
    unfolding live_of
    kept_live i e y = kept_reads _ _ _ (λ h. kept_if (kept.giving _) (kept_with _ _ _ (kept_expression (record_at rule i) (known i) i e y)) h)
