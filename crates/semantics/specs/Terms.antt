-- Terms and tables (document 01, "Terms"). The terms of a table are a list, newest first: a term's number is how many stand after it.
-- Assumes nothing.
use Rattle.std.specs.Prelude.{ℕ, zero, suc, ◌*◌, Bool, true, false, not, ◌&&◌, ◌||◌, List, [], ◌∷◌, ◌++◌, eqb, ltb, take, drop, length, replicate}
use Rattle.notation.specs.Notation.{pick, with, when◌then◌else◌, if◌equals◌then◌else◌, if◌below◌then◌else◌}
use Rattle.words.specs.Words.{word_fields, low_of, high_of, join_of}
use Rattle.operators.specs.Operators.{operands_of, gives_truth_of}
use Rattle.semantics.specs.declared.Term.{Term}
use Rattle.semantics.specs.declared.Found.{Found}
use Rattle.semantics.specs.Numbers.{truth_term, word_term, free_truth_term, free_word_term, operator_term, choice_term, procedure_term, binding_term, not_code, is_word_code, is_procedure_code, negation_code, conjunction_code, disjunction_code, truth_code, false_number, true_number, known_false, known_true, unknown, no_binding, input_count, record_limit}
use Rattle.semantics.specs.Records.{record_at, record_bytes, field_of}

abbrev pub term : ℕ → ℕ → ℕ → ℕ → ℕ → Term
term k o x y z = record { kind = k; op = o; a = x; b = y; c = z }

-- "2 word constant a": the term of a word, and the word of such a term
abbrev pub word_term_of : ℕ → Term
word_term_of w = term word_term 0 (low_of w) (high_of w) 0

abbrev pub term_word : Term → ℕ
term_word t = join_of t.a t.b

-- "1 truth constant a": the a of a truth that is kept as a word, 1 for true. The terms false and true have it as their number.
unfoldable pub truth_number : ℕ → ℕ
truth_number w = if w equals 1 then true_number else false_number

-- no term: 8 bytes of zero, as past the count
abbrev pub blank : Term
blank = term 0 0 0 0 0

-- ---- a table's bytes: "records of 8 bytes: kind, op, a, b, c, cut as above"
unfoldable pub term_at : List ℕ → ℕ → Term
term_at s i = with (record_at s i) λ x. term x.kind x.op x.p x.q x.r

unfoldable pub bytes_of : Term → List ℕ
bytes_of t = record_bytes t.kind t.op t.a t.b t.c

-- the first n terms of a table
unfoldable pub terms_in : List ℕ → ℕ → List Term
terms_in s zero = []
terms_in s (suc n) = term_at s n ∷ terms_in s n

-- a term put at place n of a table
unfoldable pub put : List ℕ → ℕ → Term → List ℕ
put s n t = take (n * 8) s ++ (bytes_of t ++ drop 8 (drop (n * 8) s))

-- the table of l bytes that holds these terms: "bytes past the count are zero"
unfoldable pub image_of : ℕ → List Term → List ℕ
image_of l [] = replicate l 0
image_of l (t ∷ ts) = put (image_of l ts) (length ts) t

-- ---- a table's terms

-- term n; blank where there is none
unfoldable pub at : List Term → ℕ → Term
at [] n = blank
at (t ∷ ts) n = let lower : Term = at ts n in pick (eqb n (length ts)) t lower

-- two terms are equal: every field is. The others are compared only where a is the same.
unfoldable pub same_of : Term → Term → Bool
same_of x y =
    let others : Bool = eqb x.kind y.kind && (eqb x.op y.op && (eqb x.b y.b && eqb x.c y.c)) in
    pick (eqb x.a y.a) others false

-- where "a term equal to one present" stands
unfoldable pub find_of : List Term → Term → Found
find_of [] t = record { is = false; at = 0 }
find_of (u ∷ us) t =
    let here : Found = record { is = true; at = length us } in
    let lower : Found = find_of us t in
    pick (same_of u t) here lower

-- ---- what a term stands for, by its kind: a truth ("kinds 1 and 3, or an operator giving a truth"), a word, a choice, a procedure, a binding;
-- 0 for what is no term
unfoldable pub sort_of : Term → ℕ
sort_of t =
    if t.kind equals truth_term then truth_term else
    if t.kind equals word_term then word_term else
    if t.kind equals free_truth_term then truth_term else
    if t.kind equals free_word_term then word_term else
    if t.kind equals operator_term then (when gives_truth_of t.op then truth_term else word_term) else
    if t.kind equals choice_term then choice_term else
    if t.kind equals procedure_term then procedure_term else
    if t.kind equals binding_term then binding_term else
    0

-- whether a term is a truth constant, and which
unfoldable pub known_of : Term → ℕ
known_of t = if t.kind equals truth_term then (if t.a equals 0 then known_false else known_true) else unknown

-- ---- the layout of a term over the terms below it. "A term names only lower terms": a number that is not lower names the blank term, of no sort.
unfoldable pub names_truth : List Term → ℕ → Bool
names_truth ts x = eqb (sort_of (at ts x)) truth_term

unfoldable pub names_choice : List Term → ℕ → Bool
names_choice ts x = eqb (sort_of (at ts x)) choice_term

unfoldable pub names_binding : List Term → ℕ → Bool
names_binding ts x = eqb (sort_of (at ts x)) binding_term

-- "anything but bindings"
unfoldable pub names_value : List Term → ℕ → Bool
names_value ts x = with (sort_of (at ts x)) λ k. if k equals 0 then false else not (eqb k binding_term)

-- "Operands of codes 32 to 34 [...] are truths [...]; operands of 14, 15 and 35 are choices; operands of 1 to 12 [...] are anything but bindings";
-- "Code 13 makes no term of its own"; a second operand that there is none of is zero
unfoldable pub operands_laid_out : List Term → ℕ → ℕ → ℕ → Bool
operands_laid_out ts op a b =
    if op equals 0 then false else
    if op below not_code then (names_value ts a && (if operands_of op equals 1 then eqb b 0 else names_value ts b)) else
    if op equals is_word_code then (names_choice ts a && eqb b 0) else
    if op equals is_procedure_code then (names_choice ts a && eqb b 0) else
    if op equals negation_code then (names_truth ts a && eqb b 0) else
    if op equals conjunction_code then (names_truth ts a && names_truth ts b) else
    if op equals disjunction_code then (names_truth ts a && names_truth ts b) else
    if op equals truth_code then (names_choice ts a && eqb b 0) else
    false

-- the fields of a word constant that no word uses are zero
abbrev pub word_laid : Term → Bool
word_laid t = field_of word_fields 1 t.b && eqb t.c 0

-- "1 truth constant a; 2 word constant a; 3 free truth input a; 4 free word input a; 5 operator term on a, b; 6 choice: b if a, else c;
-- 7 procedure: a its record, b its bindings, c the count of rules accepted before its own; 8 binding: value a, next b, or 65,535";
-- "Unused fields are zero"; and of 3: "a procedure's c is not below the accepted count or its a is over 4,095"
unfoldable pub laid_out : ℕ → List Term → Term → Bool
laid_out accepted ts t =
    if t.kind equals operator_term then (operands_laid_out ts t.op t.a t.b && eqb t.c 0) else
    if t.op equals 0 then (
    if t.kind equals truth_term then (ltb t.a 2 && (eqb t.b 0 && eqb t.c 0)) else
    if t.kind equals word_term then word_laid t else
    if t.kind equals free_truth_term then (ltb t.a input_count && (eqb t.b 0 && eqb t.c 0)) else
    if t.kind equals free_word_term then (ltb t.a input_count && (eqb t.b 0 && eqb t.c 0)) else
    if t.kind equals choice_term then (names_truth ts t.a && (names_value ts t.b && names_value ts t.c)) else
    if t.kind equals procedure_term then (ltb t.a record_limit && (names_binding ts t.b && ltb t.c accepted)) else
    if t.kind equals binding_term then (names_value ts t.a && ((eqb t.b no_binding || names_binding ts t.b) && eqb t.c 0)) else
    false) else
    false

-- every term is laid out and none is repeated
unfoldable pub well_formed : ℕ → List Term → Bool
well_formed accepted [] = true
well_formed accepted (t ∷ ts) = laid_out accepted ts t && (not (find_of ts t).is && well_formed accepted ts)
