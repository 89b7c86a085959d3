-- The operation whole: the count of free bits, and each way out. Assumes nothing.
use mathlib.Core.Path.{◌≡◌, refl, sym, ap}
use mathlib.Core.Bool.{Bool}
use mathlib.Core.List.{List}
use Prim.Native.Nat.{ℕ, suc, ◌+◌, ◌<◌, ◌≤◌}
use native.Mathlib.Numerals.{add-one}
use native.Mathlib.Omega.{arith}
use lib.ListN.{length, drop, get_or, replicate, drop_of_length-le}
use lib.Seq.{drop-cons}
use borrow.Author.Tests.{ne_eqb}
use Rattle.std.specs.declared.option.Option.{Option}
use Rattle.notation.specs.Notation.{if◌equals◌then◌else◌}
use Rattle.semantics.specs.declared.Input.{Input}
use Rattle.semantics.specs.declared.Goal.{Goal}
use Rattle.semantics.specs.declared.Result.{Result}
use Rattle.semantics.specs.declared.Session.{Session}
use Rattle.semantics.specs.declared.Witness.{Witness}
use Rattle.semantics.specs.declared.refusal.Refusal.{Refusal}
use Rattle.semantics.specs.declared.refusal.Refusal.TheVariants.{TableSize, BadInput, Misfit, RuleSize, BadRecord, BadTree, BadPlace, BadAllowance, RulesSpent, CallTooWide, TableFull, DepthSpent, BadNumber, BadResult, WorkShort, StoreFull, BadSpan, TextLong, TooManyBits, NoValue, WrongLength}
use Rattle.semantics.specs.Refusals.{number_of}
use Rattle.firsts.specs.Witness.{First, none, some, bits_in, bits_of, hit_of, least_of, greatest_of, witness_refused, witness_refusal, witness_of}
use Rattle.firsts.proofs.Taken.{Taken, witness_taken}
use Rattle.under.specs.Marks.{MarksUnder}
use Rattle.marked.specs.Marked.{Under}
use Rattle.marked.proofs.Marked.{under_by}
use Rattle.witness.specs.Told.{hit_told, numbers_of}
use Rattle.witness.specs.Search.{Searched}

-- ---- the bits from input i on
pub bits_next : (xs : List Input) (i n : ℕ) {t : ℕ} → n + bits_of (drop i xs) ≡ t → (d : Input) → i < length xs → {b : ℕ} → b ≡ bits_in (get_or xs i d) → (n + b) + bits_of (drop (i + 1) xs) ≡ t
unfolding bits_of
bits_next xs i n {t} inv d h {b} e =
    let z : n + (bits_in (get_or xs i d) + bits_of (drop (suc i) xs)) ≡ t = rw (drop-cons xs i d h) at inv in
    rw (add-one, e) (omega arith)

pub bits_all : (xs : List Input) (i n : ℕ) {t : ℕ} → n + bits_of (drop i xs) ≡ t → length xs ≤ i → n ≡ t
unfolding bits_of
bits_all xs i n {t} inv h = let z : n + 0 ≡ t = rw (drop_of_length-le xs h) at inv in omega arith

-- ---- the ways out

-- the numbers that are told are the hit
hit_numbers : (f : First) → hit_told (numbers_of f) ≡ hit_of f
hit_numbers none = refl
hit_numbers (some ns) = refl

-- no refusal has the number 0
pub number_some : (k : Refusal) → number_of k ≡ 0 → ⊥
number_some TableSize e = omega arith
number_some BadInput e = omega arith
number_some Misfit e = omega arith
number_some RuleSize e = omega arith
number_some BadRecord e = omega arith
number_some BadTree e = omega arith
number_some BadPlace e = omega arith
number_some BadAllowance e = omega arith
number_some RulesSpent e = omega arith
number_some CallTooWide e = omega arith
number_some TableFull e = omega arith
number_some DepthSpent e = omega arith
number_some BadNumber e = omega arith
number_some BadResult e = omega arith
number_some WorkShort e = omega arith
number_some StoreFull e = omega arith
number_some BadSpan e = omega arith
number_some TextLong e = omega arith
number_some TooManyBits e = omega arith
number_some NoValue e = omega arith
number_some WrongLength e = omega arith

module _ (x : Session) (s : List ℕ) (r : Result) (g : Goal) (spanned : Bool) (lows highs work : List ℕ) where
  pub way_refused : {k : ℕ} → k ≡ witness_refusal x s r spanned lows highs (length work) → (k ≡ 0 → ⊥) → witness_refused k ≡ (witness_of x s r g spanned lows highs work).0
  unfolding witness_of if◌equals◌then◌else◌
  way_refused {k} ek n = rw (← ek, ne_eqb k 0 n)

  -- the work list is zero then
  pub way_wiped : {w : Witness} → w ≡ (witness_of x s r g spanned lows highs work).0 → {y : List ℕ} → y ≡ replicate (length work) 0 → (w, y) ≡ witness_of x s r g spanned lows highs work
  unfolding witness_of
  way_wiped ew ey = rw (ew, ey)

  module _ (h : 0 ≡ witness_refusal x s r spanned lows highs (length work)) where
    pub way_taken : Taken x s r spanned lows highs (length work)
    way_taken = witness_taken x s r spanned lows highs (length work) (sym h)

    pub way_marked : {m : List ℕ} → MarksUnder s x.count r work m → Under s x.count r m
    way_marked = under_by s x.count r way_taken.enough

    pub way_found : {ls hs : List ℕ} → ls ≡ least_of spanned x.inputs lows → hs ≡ greatest_of spanned x.inputs highs → {i : Option (List ℕ)} → Searched s x.count r g ls hs i
        → record { refusal = 0; hit = hit_told i } ≡ (witness_of x s r g spanned lows highs work).0
    unfolding witness_of if◌equals◌then◌else◌
    way_found el eh ei = rw (← h, ei, el, eh) (ap (λ i. record { refusal = 0; hit = i }) (hit_numbers _))
