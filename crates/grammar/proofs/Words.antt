-- The lines and words of a text of clauses. Assumes nothing.
use mathlib.Core.Path.{◌≡◌, refl, sym, ap, ◌∙◌, subst}
use mathlib.Core.Bool.{Bool, true, false}
use mathlib.Core.List.{List, [], ◌∷◌, ◌++◌, append_assoc}
use mathlib.Core.Option.{some}
use Prim.Native.Nat.{ℕ, ◌≤◌}
use native.Mathlib.Omega.{arith}
use borrow.Author.Tests.{ne_eqb}
use Rattle.notation.specs.Notation.{when◌then◌else◌, if◌equals◌then◌else◌}
use Rattle.text.proofs.Decimals.{decimal_one}
use Rattle.text.specs.Text.{ascii, space, line_feed, digit, decimal_of}
use Rattle.circuits.specs.Gates.{Literal, pos, neg, wire}
use Rattle.dimacs.specs.Text.{minus, literal_text, clause_text, clauses_text, header_text}
use Rattle.grammar.specs.Dimacs.{pieces, is_line_feed, is_blank, not_empty, words_of, is_comment, words_in, integer, before, clauses_from}
use Rattle.grammar.proofs.Decimal.{Digits, decimal, positive_is, negative_is}

-- ---- pieces
abbrev None : (ℕ → Bool) → List ℕ → Type 0
None p [] = Unit {0}
None p (b ∷ s) = (p b ≡ false) × None p s

module _ (p : ℕ → Bool) where
  none_append : (s t : List ℕ) → None p s → None p t → None p (s ++ t)
  none_append [] t h k = k
  none_append (b ∷ s) t h k = (h.0, none_append s t h.1 k)

  pieces_cut : (s : List ℕ) (x : ℕ) (t : List ℕ) → None p s → p x ≡ true → pieces p (s ++ (x ∷ t)) ≡ s ∷ pieces p t
  unfolding pieces when◌then◌else◌
  pieces_cut [] x t h e = rw e
  pieces_cut (b ∷ s) x t h e = rw (h.0, pieces_cut s x t h.1 e)

  pieces_last : (s : List ℕ) → None p s → pieces p s ≡ s ∷ []
  unfolding pieces when◌then◌else◌
  pieces_last [] h = refl
  pieces_last (b ∷ s) h = rw (h.0, pieces_last s h.1)

-- ---- bytes of words: digits and letters are neither blank nor a line feed
abbrev Plain : List ℕ → Type 0
Plain [] = Unit {0}
Plain (b ∷ s) = (33 ≤ b) × Plain s

plain_blank : (s : List ℕ) → Plain s → None is_blank s
unfolding is_blank
plain_blank [] h = tt
plain_blank (b ∷ s) h = (let l = h.0 in rw (ne_eqb b 32 (λ e. omega arith), ne_eqb b 9 (λ e. omega arith), ne_eqb b 13 (λ e. omega arith)), plain_blank s h.1)

plain_line : (s : List ℕ) → Plain s → None is_line_feed s
unfolding is_line_feed
plain_line [] h = tt
plain_line (b ∷ s) h = (let l = h.0 in ne_eqb b 10 (λ e. omega arith), plain_line s h.1)

digits_plain : (s : List ℕ) → Digits s → Plain s
digits_plain [] h = tt
digits_plain (b ∷ s) h = (let l = h.0 in omega arith, digits_plain s h.2)

decimal_plain : (n : ℕ) → Plain (decimal_of n)
decimal_plain n = digits_plain (decimal_of n) (decimal n).digits

-- a word that is there
record Word (w : List ℕ) : Type 0 where
  plain : Plain w
  first : ℕ
  rest : List ℕ
  is : w ≡ first ∷ rest

blank : is_blank space ≡ true
unfolding is_blank
blank = refl

space_line : is_line_feed space ≡ false
unfolding is_line_feed
space_line = refl

line_end : is_line_feed line_feed ≡ true
unfolding is_line_feed
line_end = refl

not_empty_lem : (w : List ℕ) → Word w → (ws : List (List ℕ)) → not_empty (w ∷ ws) ≡ w ∷ not_empty ws
not_empty_lem w h ws = rw h.is

-- the words of a line: one and the others, or one alone
words_more : (w : List ℕ) → Word w → (s : List ℕ) → words_of (w ++ (space ∷ s)) ≡ w ∷ words_of s
unfolding words_of
words_more w h s = ap not_empty (pieces_cut is_blank w space s (plain_blank w h.plain) blank) ∙ not_empty_lem w h (pieces is_blank s)

words_one : (w : List ℕ) → Word w → words_of w ≡ w ∷ []
unfolding words_of
words_one w h = ap not_empty (pieces_last is_blank w (plain_blank w h.plain)) ∙ not_empty_lem w h []

-- ---- literals
abbrev literal_word : Literal ℕ → List ℕ
literal_word (pos v) = decimal_of v
literal_word (neg v) = minus ∷ decimal_of v

abbrev decimal_word : (n : ℕ) → Word (decimal_of n)
decimal_word n =
    let d = decimal n in record { plain = decimal_plain n; first = d.first; rest = d.rest; is = d.is }

-- no digit is a c
decimal_letter : (n : ℕ) → (decimal_word n).first ≡ 99 → ⊥
decimal_letter n e = let d = decimal n in let h : Digits (d.first ∷ d.rest) = subst Digits d.is d.digits in let l = h.1 in omega arith

abbrev literal_word_lem : (l : Literal ℕ) → Word (literal_word l)
literal_word_lem (pos v) = decimal_word v
literal_word_lem (neg v) = record { plain = (omega arith, decimal_plain v); first = minus; rest = decimal_of v; is = refl }

literal_letter : (l : Literal ℕ) → (literal_word_lem l).first ≡ 99 → ⊥
literal_letter (pos v) e = decimal_letter v e
literal_letter (neg v) e = omega arith

abbrev zero_word : Word (digit 0 ∷ [])
zero_word = record { plain = (omega arith, tt); first = digit 0; rest = []; is = refl }

literal_reads : (l : Literal ℕ) → integer (literal_word l) ≡ some l
literal_reads (pos v) = positive_is v
literal_reads (neg v) = negative_is v

zero_reads : integer (digit 0 ∷ []) ≡ some (pos 0)
zero_reads = ap integer (decimal_one 0 (omega arith)) ∙ positive_is 0

-- ---- a clause's line
abbrev line_of : List (Literal ℕ) → List ℕ
line_of [] = digit 0 ∷ []
line_of (l ∷ ls) = literal_word l ++ (space ∷ line_of ls)

literal_text_lem : (l : Literal ℕ) → literal_text l ≡ literal_word l ++ (space ∷ [])
unfolding literal_text
literal_text_lem (pos v) = refl
literal_text_lem (neg v) = refl

clause_line : (c : List (Literal ℕ)) (s : List ℕ) → clause_text c ++ s ≡ line_of c ++ (line_feed ∷ s)
unfolding clause_text
clause_line [] s = refl
clause_line (l ∷ ls) s =
    append_assoc (literal_text l) (clause_text ls) s
    ∙ (ap (λ t. t ++ (clause_text ls ++ s)) (literal_text_lem l)
    ∙ (append_assoc (literal_word l) (space ∷ []) (clause_text ls ++ s)
    ∙ (ap (λ t. literal_word l ++ (space ∷ t)) (clause_line ls s) ∙ sym (append_assoc (literal_word l) (space ∷ line_of ls) (line_feed ∷ s)))))

line_plain : (c : List (Literal ℕ)) → None is_line_feed (line_of c)
line_plain [] = plain_line (digit 0 ∷ []) zero_word.plain
line_plain (l ∷ ls) = none_append is_line_feed (literal_word l) (space ∷ line_of ls) (plain_line (literal_word l) (literal_word_lem l).plain) (space_line, line_plain ls)

-- its words
abbrev clause_words : List (Literal ℕ) → List (List ℕ)
clause_words [] = (digit 0 ∷ []) ∷ []
clause_words (l ∷ ls) = literal_word l ∷ clause_words ls

line_words : (c : List (Literal ℕ)) → words_of (line_of c) ≡ clause_words c
line_words [] = words_one (digit 0 ∷ []) zero_word
line_words (l ∷ ls) = words_more (literal_word l) (literal_word_lem l) (line_of ls) ∙ ap (λ ws. literal_word l ∷ ws) (line_words ls)

-- no comment
no_comment : (w : List ℕ) (h : Word w) → (h.first ≡ 99 → ⊥) → (s : List ℕ) → is_comment (w ++ s) ≡ false
no_comment w h l s = ap (λ v. is_comment (v ++ s)) h.is ∙ ne_eqb h.first 99 l

line_kept : (c : List (Literal ℕ)) → is_comment (line_of c) ≡ false
line_kept [] = no_comment (digit 0 ∷ []) zero_word (λ e. omega arith) []
line_kept (l ∷ ls) = no_comment (literal_word l) (literal_word_lem l) (literal_letter l) (space ∷ line_of ls)

kept : (l : List ℕ) (ls : List (List ℕ)) → is_comment l ≡ false → words_in (l ∷ ls) ≡ words_of l ++ words_in ls
unfolding words_in when◌then◌else◌
kept l ls e = rw e

-- ---- all clauses
abbrev all_words : List (List (Literal ℕ)) → List (List ℕ)
all_words [] = []
all_words (c ∷ cs) = clause_words c ++ all_words cs

end_words : words_in (pieces is_line_feed []) ≡ []
unfolding words_in words_of pieces when◌then◌else◌
end_words = refl

pub clauses_words : (cs : List (List (Literal ℕ))) → words_in (pieces is_line_feed (clauses_text cs)) ≡ all_words cs
unfolding clauses_text
clauses_words [] = end_words
clauses_words (c ∷ cs) =
    ap (λ s. words_in (pieces is_line_feed s)) (clause_line c (clauses_text cs))
    ∙ (ap words_in (pieces_cut is_line_feed (line_of c) line_feed (clauses_text cs) (line_plain c) line_end)
    ∙ (kept (line_of c) (pieces is_line_feed (clauses_text cs)) (line_kept c) ∙ rw (line_words c, clauses_words cs)))

-- ---- read: clauses without the variable 0
abbrev pub Proper : List (Literal ℕ) → Type 0
Proper [] = Unit {0}
Proper (l ∷ ls) = (wire l ≡ 0 → ⊥) × Proper ls

abbrev pub AllProper : List (List (Literal ℕ)) → Type 0
AllProper [] = Unit {0}
AllProper (c ∷ cs) = Proper c × AllProper cs

before_literal : (l : Literal ℕ) (c : List (Literal ℕ)) (cs : List (List (Literal ℕ))) → (wire l ≡ 0 → ⊥) → before (some l) (some (c ∷ cs)) ≡ some ((l ∷ c) ∷ cs)
unfolding if◌equals◌then◌else◌
before_literal l c cs h = rw (ne_eqb (wire l) 0 h)

before_zero : (cs : List (List (Literal ℕ))) → before (some (pos 0)) (some cs) ≡ some ([] ∷ cs)
unfolding if◌equals◌then◌else◌
before_zero cs = refl

clause_read : (c : List (Literal ℕ)) → Proper c → (ws : List (List ℕ)) (cs : List (List (Literal ℕ))) → clauses_from ws ≡ some cs → clauses_from (clause_words c ++ ws) ≡ some (c ∷ cs)
unfolding clauses_from
clause_read [] h ws cs e = rw (zero_reads, e) (before_zero cs)
clause_read (l ∷ ls) h ws cs e = rw (literal_reads l, clause_read ls h.1 ws cs e) (before_literal l ls cs h.0)

nothing_read : clauses_from [] ≡ some []
unfolding clauses_from
nothing_read = refl

pub clauses_read : (cs : List (List (Literal ℕ))) → AllProper cs → clauses_from (all_words cs) ≡ some cs
clauses_read [] h = nothing_read
clauses_read (c ∷ cs) h = clause_read c h.0 (all_words cs) cs (clauses_read cs h.1)

-- ---- the problem line
p_word : Word (ascii "p")
p_word = record { plain = (omega arith, tt); first = 112; rest = []; is = refl }

cnf_word : Word (ascii "cnf")
cnf_word = record { plain = (omega arith, (omega arith, (omega arith, tt))); first = 99; rest = 110 ∷ 102 ∷ []; is = refl }

abbrev head_line : ℕ → ℕ → List ℕ
head_line v n = ascii "p" ++ (space ∷ (ascii "cnf" ++ (space ∷ (decimal_of v ++ (space ∷ decimal_of n)))))

header_line : (v n : ℕ) (s : List ℕ) → header_text v n ++ s ≡ head_line v n ++ (line_feed ∷ s)
unfolding header_text
header_line v n s =
    ap (λ t. ascii "p cnf " ++ t) (append_assoc (decimal_of v) (space ∷ (decimal_of n ++ (line_feed ∷ []))) s ∙ ap (λ t. decimal_of v ++ (space ∷ t)) (append_assoc (decimal_of n) (line_feed ∷ []) s))
    ∙ sym (ap (λ t. ascii "p cnf " ++ t) (append_assoc (decimal_of v) (space ∷ decimal_of n) (line_feed ∷ s)))

head_plain : (v n : ℕ) → None is_line_feed (head_line v n)
head_plain v n =
    let last = space ∷ decimal_of n in
    let third = space ∷ (decimal_of v ++ last) in
    let second = space ∷ (ascii "cnf" ++ third) in
    none_append is_line_feed (ascii "p") second (plain_line (ascii "p") p_word.plain) (
      space_line,
      none_append is_line_feed (ascii "cnf") third (plain_line (ascii "cnf") cnf_word.plain) (
        space_line,
        none_append is_line_feed (decimal_of v) last (plain_line (decimal_of v) (decimal_plain v)) (space_line, plain_line (decimal_of n) (decimal_plain n)),
      ),
    )

head_words : (v n : ℕ) → words_of (head_line v n) ≡ ascii "p" ∷ ascii "cnf" ∷ decimal_of v ∷ decimal_of n ∷ []
head_words v n =
    words_more (ascii "p") p_word (ascii "cnf" ++ (space ∷ (decimal_of v ++ (space ∷ decimal_of n))))
    ∙ ap (λ ws. ascii "p" ∷ ws) (words_more (ascii "cnf") cnf_word (decimal_of v ++ (space ∷ decimal_of n))
    ∙ ap (λ ws. ascii "cnf" ∷ ws) (words_more (decimal_of v) (decimal_word v) (decimal_of n) ∙ ap (λ ws. decimal_of v ∷ ws) (words_one (decimal_of n) (decimal_word n))))

pub header_words : (v n : ℕ) (s : List ℕ) → words_in (pieces is_line_feed (header_text v n ++ s)) ≡ ascii "p" ∷ ascii "cnf" ∷ decimal_of v ∷ decimal_of n ∷ words_in (pieces is_line_feed s)
header_words v n s =
    ap (λ t. words_in (pieces is_line_feed t)) (header_line v n s)
    ∙ (ap words_in (pieces_cut is_line_feed (head_line v n) line_feed s (head_plain v n) line_end)
    ∙ (kept (head_line v n) (pieces is_line_feed s) refl ∙ ap (λ ws. ws ++ words_in (pieces is_line_feed s)) (head_words v n)))
