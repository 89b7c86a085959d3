-- What opening leaves, once its terms are made on a table of zeros: the terms of document 01's opening, and zeros after them. Assumes nothing.
use mathlib.Core.Path.{◌≡◌, refl, sym, ap, ◌∙◌}
use mathlib.Core.Bool.{Bool, true, false, not, ◌||◌}
use mathlib.Core.List.{List, []}
use Prim.Native.Nat.{ℕ, zero, ◌-◌, ◌%◌, ◌≤◌}
use native.Mathlib.Omega.{arith}
use lib.ListN.{length, replicate, length-replicate}
use lib.Dec.{eqb, ltb}
use borrow.Author.Tests.{eqb-true, ltb-false}
use Rattle.notation.specs.Notation.{pick, with, when◌then◌else◌, unless◌then◌else◌, every}
use Rattle.semantics.specs.declared.Term.{Term}
use Rattle.semantics.specs.declared.Input.{Input}
use Rattle.std.specs.declared.result.Result.{Result}
use Rattle.std.specs.declared.result.Result.TheVariants.{Ok, Err}
use Rattle.std.specs.Prelude.{IsOk}
use Rattle.semantics.specs.declared.Session.{Session}
use Rattle.semantics.specs.declared.refusal.Refusal.{Refusal}
use Rattle.semantics.specs.Refusals.{number_of}
use Rattle.semantics.specs.declared.Opened.{Opened}
use Rattle.semantics.specs.Numbers.{least_table, most_table, table_size, bad_input}
use Rattle.semantics.specs.Terms.{terms_in, image_of}
use Rattle.semantics.specs.Steps.{Got, gave, refused, setting_of}
use Rattle.semantics.specs.Opening.{bad_table_size, input_taken, opening, opening_from, session_of, open_of}
use Rattle.terms.specs.Search.{code_setting}
use Rattle.slices.specs.Wiped.{wiped}
use Rattle.slices.proofs.Wiped.{wiped_all}
use Rattle.terms.specs.Gives.{held, shown, Gives}
use Rattle.terms.specs.declared.table.Table.{Table}
use Rattle.terms.proofs.Tables.{terms_length}
use Rattle.opening.specs.Openings.{open_all, opened_of}
use Rattle.opening.proofs.Order.{same_opening}
use Rattle.opening.proofs.Room.{Roomy, roomy, Link, all_roomy}

-- a table that 1 takes
pub record Sized (l : ℕ) : Type 0 where
  pub least : least_table ≤ l
  pub most : l ≤ most_table
  pub whole : l % 8 ≡ 0

pub sized : (l : ℕ) → bad_table_size l ≡ false → Sized l
unfolding bad_table_size
sized l h = go (eqb (l % 8) 0) (ltb l least_table) (ltb most_table l) refl refl refl h
  where
    go : (a b c : Bool) → eqb (l % 8) 0 ≡ a → ltb l least_table ≡ b → ltb most_table l ≡ c → (not a || (b || c)) ≡ false → Sized l
    go true false false p q r e =
        record { least = omega (arith, ltb-false l least_table q); most = omega (arith, ltb-false most_table l r); whole = eqb-true _ _ p }
    go true false true p q r e = let w : ◌≡◌ {A = ℕ} 0 1 = cc in absurd (omega arith)
    go true true c p q r e = let w : ◌≡◌ {A = ℕ} 0 1 = cc in absurd (omega arith)
    go false b c p q r e = let w : ◌≡◌ {A = ℕ} 0 1 = cc in absurd (omega arith)

-- the code answers, with these terms
record Answered (r : Result ℕ Refusal) (a : ℕ) (ts us : List Term) : Type 0 where
  same : ts ≡ us
  answer : r ≡ Ok a

answered : (r : Result ℕ Refusal) (ts us : List Term) (a : ℕ) → shown ts 0 r ≡ gave us a 0 → Answered r a ts us
answered (Ok e) ts us a h = record { same = cc; answer = ap Ok (cc) }
answered (Err k) ts us a h = let w : ◌≡◌ {A = ℕ} 0 1 = cc in absurd (omega arith)

module _ (xs : List Input) (s : List ℕ) (f z : Table) (ew : f.bytes.now ≡ wiped s 0) (fc : f.count ≡ 0) (size : bad_table_size (length s) ≡ false) (n : length xs ≡ 16)
    {r : Result ℕ Refusal} (g : Gives (open_all xs) f 0 r z) where
  long : length f.bytes.now ≡ length s
  long = ap length (ew ∙ wiped_all s) ∙ length-replicate (length s) 0

  image : z.bytes.now ≡ image_of (length s) (held z)
  unfolding image_of terms_in
  image =
      let k : f.bytes.now ≡ replicate (length f.bytes.now) 0 = ew ∙ (wiped_all s ∙ ap (λ (l : ℕ). replicate l 0) (sym long)) in
      let none : image_of (length f.bytes.now) (held f) ≡ replicate (length f.bytes.now) 0 = rw fc refl in
      g.kept.whole (k ∙ sym none) ∙ ap (λ (l : ℕ). image_of l (held z)) (g.kept.long ∙ long)

  made : shown (held z) 0 r ≡ open_all xs (code_setting (length f.bytes.now)) []
  unfolding terms_in
  made = rw fc at g.is

  ends : Answered r (opening xs).environment (held z) (opening xs).terms
  unfolding opening
  ends =
      let q = sized (length s) size in
      let a = q.least in let b = q.most in
      rw (same_opening xs (setting_of most_table) []) (go (open_all xs (code_setting (length f.bytes.now)) []) (open_all xs (setting_of most_table) [])
      (all_roomy (length f.bytes.now) xs n (rw long (omega arith))) made)
    where
      go : (x m : Got ℕ) → Roomy 34 [] Link x m → shown (held z) 0 r ≡ x → Answered r (opening_from m).environment (held z) (opening_from m).terms
      go x m (roomy {us = us} {a = a} _ _ _ _) h = answered r (held z) us a h

  pub terms : held z ≡ (opening xs).terms
  terms = ends.same

  pub answer : r ≡ Ok (opening xs).environment
  answer = ends.answer

  -- it is not refused
  pub made_ok : IsOk r
  made_ok = rw answer refl

  pub opened : every input_taken xs ≡ true → ◌≡◌ {A = Opened × List ℕ} (record { refusal = 0; session = session_of xs z.count }, z.bytes.now) (open_of xs s)
  unfolding open_of when◌then◌else◌ unless◌then◌else◌ with
  opened t = rw (size, t, ← terms, terms_length z.bytes.now z.count, ← image)

-- ---- as the code comes to it
module _ (xs : List Input) (s : List ℕ) {b : Bool} (eb : b ≡ bad_table_size (length s)) where
  pub refused_size : b ≡ true → ◌≡◌ {A = Opened × List ℕ} (opened_of xs (Err Refusal.TableSize), s) (open_of xs s)
  unfolding open_of when◌then◌else◌
  refused_size h = rw (← eb, h)

  module _ (h : b ≡ false) {d : Bool} (ed : d ≡ every input_taken xs) where
    pub refused_input : d ≡ false → ◌≡◌ {A = Opened × List ℕ} (opened_of xs (Err Refusal.BadInput), s) (open_of xs s)
    unfolding open_of when◌then◌else◌ unless◌then◌else◌
    refused_input k = rw (← eb, h, ← ed, k)

    pub opened_now : d ≡ true → length xs ≡ 16 → (f z : Table) → f.bytes.now ≡ wiped s 0 → f.count ≡ 0 → {r : Result ℕ Refusal} → Gives (open_all xs) f 0 r z
        → {v : Session} → v ≡ session_of xs z.count → {t : List ℕ} → t ≡ z.bytes.now → ◌≡◌ {A = Opened × List ℕ} (opened_of xs (Ok v), t) (open_of xs s)
    opened_now k n f z ew fc g ev et = rw (ev, et) (opened xs s f z ew fc (sym eb ∙ h) n g (sym ed ∙ k))
