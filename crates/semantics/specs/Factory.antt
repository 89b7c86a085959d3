-- The factory (document 01, "Terms"; document 02, "One. Fold what needs no thought."). Terms are made inner first and left before right. What
-- document 01 folds comes first, then what document 02 folds. Assumes nothing.
use Rattle.std.specs.Prelude.{ℕ, Bool, true, false, eqb}
use Rattle.notation.specs.Notation.{with, when◌then◌else◌, if◌equals◌then◌else◌}
use Rattle.operators.specs.Operators.{operands_of, gives_truth_of, operate_of}
use Rattle.semantics.specs.declared.Term.{Term}
use Rattle.semantics.specs.Numbers.{truth_term, word_term, operator_term, choice_term, procedure_term, binding_term, multiply_code, bitwise_and_code, is_word_code, is_procedure_code, negation_code, conjunction_code, disjunction_code, truth_code, false_number, true_number, known_false, known_true}
use Rattle.semantics.specs.Terms.{term, word_term_of, term_word, truth_number, at, sort_of}
use Rattle.semantics.specs.Steps.{Make, ◌>>=◌, give, make_of, look, seen, reads}

-- ---- the terms by kind, as they are made where nothing is folded

-- a term of a kind that has no op
abbrev pub make_plain_of : ℕ → ℕ → ℕ → ℕ → Make ℕ
make_plain_of kind a b c = make_of (term kind 0 a b c)

abbrev pub make_truth_of : ℕ → Make ℕ
make_truth_of a = make_plain_of truth_term a 0 0

abbrev pub make_word_of : ℕ → Make ℕ
make_word_of w = make_of (word_term_of w)

-- input i, of the kind of a free truth or a free word
abbrev pub make_free_of : ℕ → ℕ → Make ℕ
make_free_of kind i = make_plain_of kind i 0 0

abbrev pub make_operator_of : ℕ → ℕ → ℕ → Make ℕ
make_operator_of op x y = make_of (term operator_term op x y 0)

-- record i under the bindings env, of the rule that was accepted after `before` others
abbrev pub make_procedure_of : ℕ → ℕ → ℕ → Make ℕ
make_procedure_of i env before = make_plain_of procedure_term i env before

-- the value v before the bindings env
abbrev pub make_binding_of : ℕ → ℕ → Make ℕ
make_binding_of v env = make_plain_of binding_term v env 0

-- ---- folded terms

-- with what the term x stands for
abbrev pub sorted : {A : Type 0} → ℕ → (ℕ → Make A) → Make A
sorted x k = reads (λ ts. sort_of (at ts x)) k

-- whether a term is itself a not
unfoldable pub is_not_of : Term → Bool
is_not_of t = if t.kind equals operator_term then eqb t.op negation_code else false

-- "Not of a constant is folded."; document 02: "the operand for not of a not"
unfoldable pub not_of : ℕ → Make ℕ
not_of x =
    seen x λ k. if k equals known_false then give true_number else if k equals known_true then give false_number else
    look x λ t. with (is_not_of t) λ twice. when twice then give t.a else make_operator_of negation_code x 0

-- "And with false is false, with true is the other side, of one term twice is that term"
unfoldable pub and_of : ℕ → ℕ → Make ℕ
and_of x y =
    seen x λ k. if k equals known_false then give false_number else if k equals known_true then give y else
    seen y λ l. if l equals known_false then give false_number else if l equals known_true then give x else
    if x equals y then give x else make_operator_of conjunction_code x y

-- "or likewise, the other way about"
unfoldable pub or_of : ℕ → ℕ → Make ℕ
or_of x y =
    seen x λ k. if k equals known_true then give true_number else if k equals known_false then give y else
    seen y λ l. if l equals known_true then give true_number else if l equals known_false then give x else
    if x equals y then give x else make_operator_of disjunction_code x y

-- "Implies(a, b) is or(not a, b)."
unfoldable pub implies_of : ℕ → ℕ → Make ℕ
implies_of x y = not_of x >>= λ n. or_of n y

-- "Choice with a constant guard is the chosen side."; document 02: "the shared side for a choice with equal sides"
unfoldable pub choice_of : ℕ → ℕ → ℕ → Make ℕ
choice_of g x y =
    seen g λ k. if k equals known_true then give x else if k equals known_false then give y else
    if x equals y then give x else make_plain_of choice_term g x y

-- "Truth, 'is a word' and 'is a procedure' are known from the kind, except on a choice, where a term is made; truth of a truth is itself."
unfoldable pub truth_of : ℕ → Make ℕ
truth_of x =
    sorted x λ k. if k equals choice_term then make_operator_of truth_code x 0 else if k equals truth_term then give x else give true_number

unfoldable pub is_word_of : ℕ → Make ℕ
is_word_of x =
    sorted x λ k. if k equals choice_term then make_operator_of is_word_code x 0 else if k equals word_term then give true_number else give false_number

unfoldable pub is_procedure_of : ℕ → Make ℕ
is_procedure_of x =
    sorted x λ k. if k equals choice_term then make_operator_of is_procedure_code x 0 else
    if k equals procedure_term then give true_number else give false_number

-- a result that is worked out: the terms false and true have a truth's number
unfoldable pub constant_of : ℕ → ℕ → Make ℕ
constant_of op w = with (gives_truth_of op) λ b. when b then (with (truth_number w) λ n. give n) else make_word_of w

-- whether a term is the word constant 0
unfoldable pub is_zero_of : Term → Bool
is_zero_of t = if t.kind equals word_term then (with (term_word t) λ w. eqb w 0) else false

-- "multiply or bitwise and": whether an operator gives 0 on 0 and any word
unfoldable pub zero_absorbs_of : ℕ → Bool
zero_absorbs_of op = if op equals multiply_code then true else eqb op bitwise_and_code

-- an operator that is not worked out; document 02: "word 0 for multiply or bitwise and when either operand is the word constant 0"
unfoldable pub zero_fold_of : ℕ → ℕ → ℕ → Make ℕ
zero_fold_of op x y =
    with (zero_absorbs_of op) λ absorbs. when absorbs then
    (look x λ t. with (is_zero_of t) λ zero. when zero then make_word_of 0 else
    look y λ u. with (is_zero_of u) λ zero. when zero then make_word_of 0 else
    make_operator_of op x y)
    else make_operator_of op x y

-- "an operator 1 to 12 on word constants is worked out"
unfoldable pub operator_term_of : ℕ → ℕ → ℕ → Make ℕ
operator_term_of op x y =
    look x λ t. if t.kind equals word_term then
    (with (operands_of op) λ n. if n equals 1 then (with (term_word t) λ v. with (operate_of op v 0) λ w. constant_of op w) else
    look y λ u. if u.kind equals word_term then (with (term_word t) λ v. with (term_word u) λ s. with (operate_of op v s) λ w. constant_of op w) else
    zero_fold_of op x y)
    else zero_fold_of op x y
