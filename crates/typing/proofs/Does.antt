-- What a step leaves: a table that grew, is well formed and keeps K; of the answer Q holds, or of the refusal N; and the same with the code's
-- search as with document 01's. A rule for each form of a step. Assumes nothing.
use mathlib.Core.Path.{◌≡◌, refl, ◌∙◌}
use mathlib.Core.Bool.{Bool, true, false}
use mathlib.Core.List.{List, ◌∷◌}
use Prim.Native.Nat.{ℕ, ◌<◌, ◌≤◌}
use native.Mathlib.Omega.{arith}
use lib.ListN.{length}
use lib.Dec.{eqb, ltb}
use borrow.Author.Tests.{eqb-true, eqb-false, ltb-true, ltb-false}
use Rattle.notation.specs.Notation.{pick, with, when◌then◌else◌, if◌equals◌then◌else◌, if◌below◌then◌else◌}
use Rattle.semantics.specs.declared.Term.{Term}
use Rattle.semantics.specs.Numbers.{truth_term, false_number, true_number, term_limit, table_full}
use Rattle.semantics.specs.Terms.{term, find_of, laid_out, well_formed}
use Rattle.semantics.specs.Steps.{setting_of, room_of, Got, gave, refused, Make, deeper, next, ◌>>=◌, ◌▹◌, give, refuse, reads, up, up_of, make_of}
use Rattle.terms.specs.Search.{code_setting}
use Rattle.typing.proofs.Grown.{Grown, still, more, grown_on, grown_length, at_newest, at_grown}
use Rattle.typing.proofs.Formed.{There, find_there, find_same}

-- a term that is laid out over a table
pub record Lies (n : ℕ) (ts : List Term) (t : Term) : Type 0 where
  pub is : laid_out n ts t ≡ true

-- a table that steps are taken on; n is more than the rules accepted before
pub record Fit (n : ℕ) (ts : List Term) : Type 0 where
  pub formed : well_formed n ts ≡ true
  pub no : There (term truth_term 0 0 0 0) ts false_number
  pub yes : There (term truth_term 0 1 0 0) ts true_number
  pub short : length ts ≤ term_limit

pub there_grown : {t : Term} {ts us : List Term} {a : ℕ} → Grown ts us → There t ts a → There t us a
there_grown {a = a} g h = let l = grown_length g in let k = h.low in record { low = omega arith; is = at_grown a g h.low ∙ h.is }

fit_more : {n : ℕ} {t : Term} {ts : List Term} → Fit n ts → Lies n ts t → (find_of ts t).is ≡ false → length ts < term_limit → Fit n (t ∷ ts)
unfolding well_formed
fit_more f h k l =
    record { formed = rw (h.is, k, f.formed); no = there_grown (more still) f.no; yes = there_grown (more still) f.yes; short = omega arith }

-- What a step leaves of a table: it grew, it fits, and if K held of it before, K holds of it now.
pub record StepKeeping (K : List Term → Type 0) (n : ℕ) (ts us : List Term) : Type 0 where
  pub grown : Grown ts us
  pub fit : Fit n us
  pub keeps : K ts → K us

-- What a step gives in two settings: in both the same terms, answer and depth, with Q of the answer; or in both the same refusal, with N of it.
pub data Post {A : Type 0} (K : List Term → Type 0) (n : ℕ) (ts : List Term) (Q : List Term → A → Type 0) (N : ℕ → Type 0) : Got A → Got A → Type 0 where
  did : {us : List Term} {a : A} {u : ℕ} → StepKeeping K n ts us → Q us a → Post K n ts Q N (gave us a u) (gave us a u)
  not_did : {k : ℕ} → N k → Post K n ts Q N (refused k) (refused k)

-- The step m, from the terms ts of a table of l bytes, with the code's search and with document 01's.
pub record DoesKeeping (K : List Term → Type 0) (l n : ℕ) {A : Type 0} (m : Make A) (ts : List Term) (Q : List Term → A → Type 0) (N : ℕ → Type 0) : Type 0 where
  pub post : Post K n ts Q N (m (code_setting l) ts) (m (setting_of l) ts)

module _ {K : List Term → Type 0} {n : ℕ} where
  pub stay : {ts : List Term} → Fit n ts → StepKeeping K n ts ts
  stay f = record { grown = still; fit = f; keeps = λ k. k }

  pub step_on : {ts us ws : List Term} → StepKeeping K n ts us → StepKeeping K n us ws → StepKeeping K n ts ws
  step_on p q = record { grown = grown_on p.grown q.grown; fit = q.fit; keeps = λ k. q.keeps (p.keeps k) }

  post_weaken : {A : Type 0} {ts us : List Term} {Q R : List Term → A → Type 0} {N M : ℕ → Type 0} {x y : Got A} → StepKeeping K n ts us
      → ((ws : List Term) (a : A) → StepKeeping K n us ws → Q ws a → R ws a) → ((i : ℕ) → N i → M i) → Post K n us Q N x y → Post K n ts R M x y
  post_weaken g k j (did {us = ws} {a = a} h q) = did (step_on g h) (k ws a h q)
  post_weaken g k j (not_did {k = i} e) = not_did (j i e)

  module _ {A : Type 0} {ts : List Term} {Q : List Term → A → Type 0} {N : ℕ → Type 0} where
    post_deeper : {x y : Got A} (u : ℕ) → Post K n ts Q N x y → Post K n ts Q N (deeper u x) (deeper u y)
    post_deeper u (did g q) = did g q
    post_deeper u (not_did e) = not_did e

    post_up : {x y : Got A} → Post K n ts Q N x y → Post K n ts Q N (up_of x) (up_of y)
    post_up (did g q) = did g q
    post_up (not_did e) = not_did e

    post_same : {x y : Got A} → Post K n ts Q N x y → x ≡ y
    post_same (did g q) = refl
    post_same (not_did e) = refl

-- the code's search makes no difference
pub does_same : {K : List Term → Type 0} {l n : ℕ} {A : Type 0} {m : Make A} {ts : List Term} {Q : List Term → A → Type 0} {N : ℕ → Type 0}
    → DoesKeeping K l n m ts Q N → m (code_setting l) ts ≡ m (setting_of l) ts
does_same d = post_same d.post

module _ {K : List Term → Type 0} {l n : ℕ} {N : ℕ → Type 0} where
  pub does_give : {A : Type 0} {ts : List Term} {Q : List Term → A → Type 0} (a : A) → Fit n ts → Q ts a → DoesKeeping K l n (give a) ts Q N
  unfolding give
  does_give a f q = record { post = did (stay f) q }

  pub does_refuse : {A : Type 0} {ts : List Term} {Q : List Term → A → Type 0} (k : ℕ) → N k → DoesKeeping K l n (refuse k) ts Q N
  unfolding refuse
  does_refuse k e = record { post = not_did e }

  -- one step after another
  pub does_then : {A B : Type 0} {m : Make A} {f : A → Make B} {ts : List Term} {Q : List Term → A → Type 0} {R : List Term → B → Type 0}
      → DoesKeeping K l n m ts Q N → ((us : List Term) (a : A) → StepKeeping K n ts us → Q us a → DoesKeeping K l n (f a) us R N) → DoesKeeping K l n (m >>= f) ts R N
  unfolding ◌>>=◌
  does_then {A} {B} {m} {f} {ts} {Q} {R} d k = record { post = go (m (code_setting l) ts) (m (setting_of l) ts) d.post }
    where
      go : (x y : Got A) → Post K n ts Q N x y → Post K n ts R N (next (code_setting l) x f) (next (setting_of l) y f)
      go x y (did {us = us} {a = a} {u = u} g q) = post_deeper u (post_weaken g (λ ws b i r. r) (λ i e. e) (k us a g q).post)
      go x y (not_did e) = not_did e

  -- a step whose answer is a function of another's
  pub does_map : {A B : Type 0} {m : Make A} (f : A → B) {ts : List Term} {Q : List Term → A → Type 0} {R : List Term → B → Type 0}
      → DoesKeeping K l n m ts Q N → ((us : List Term) (a : A) → StepKeeping K n ts us → Q us a → R us (f a)) → DoesKeeping K l n (m ▹ f) ts R N
  unfolding ◌▹◌
  does_map f d k = does_then d (λ us a g q. does_give (f a) g.fit (k us a g q))

  pub does_weaken : {A : Type 0} {m : Make A} {ts : List Term} {Q R : List Term → A → Type 0} → Fit n ts
      → ((us : List Term) (a : A) → StepKeeping K n ts us → Q us a → R us a) → DoesKeeping K l n m ts Q N → DoesKeeping K l n m ts R N
  does_weaken f k d = record { post = post_weaken (stay f) k (λ i e. e) d.post }

  pub does_read : {A B : Type 0} (f : List Term → B) (k : B → Make A) {ts : List Term} {Q : List Term → A → Type 0}
      → DoesKeeping K l n (k (f ts)) ts Q N → DoesKeeping K l n (reads f k) ts Q N
  unfolding reads
  does_read f k d = record { post = d.post }

  pub does_with : {A B : Type 0} (v : B) (k : B → Make A) {ts : List Term} {Q : List Term → A → Type 0} → DoesKeeping K l n (k v) ts Q N → DoesKeeping K l n (with v k) ts Q N
  unfolding with
  does_with v k d = d

  pub does_up : {A : Type 0} {m : Make A} {ts : List Term} {Q : List Term → A → Type 0} → DoesKeeping K l n m ts Q N → DoesKeeping K l n (up m) ts Q N
  unfolding up
  does_up d = record { post = post_up d.post }

  -- a step after a test, by what the test gave
  module _ {A : Type 0} {x y : Make A} {ts : List Term} {Q : List Term → A → Type 0} where
    pub does_if : (b : Bool) → (b ≡ true → DoesKeeping K l n x ts Q N) → (b ≡ false → DoesKeeping K l n y ts Q N) → DoesKeeping K l n (when b then x else y) ts Q N
    unfolding when◌then◌else◌
    does_if true f g = f refl
    does_if false f g = g refl

    pub does_eq : (i j : ℕ) → (i ≡ j → DoesKeeping K l n x ts Q N) → ((i ≡ j → ⊥) → DoesKeeping K l n y ts Q N) → DoesKeeping K l n (if i equals j then x else y) ts Q N
    unfolding if◌equals◌then◌else◌
    does_eq i j f g = go (eqb i j) refl
      where
        go : (b : Bool) → eqb i j ≡ b → DoesKeeping K l n (pick b x y) ts Q N
        go true e = f (eqb-true i j e)
        go false e = g (eqb-false i j e)

    pub does_below : (i j : ℕ) → (i < j → DoesKeeping K l n x ts Q N) → (j ≤ i → DoesKeeping K l n y ts Q N) → DoesKeeping K l n (if i below j then x else y) ts Q N
    unfolding if◌below◌then◌else◌
    does_below i j f g = go (ltb i j) refl
      where
        go : (b : Bool) → ltb i j ≡ b → DoesKeeping K l n (pick b x y) ts Q N
        go true e = f (omega (arith, ltb-true i j e))
        go false e = g (omega (arith, ltb-false i j e))

  -- a term that is laid out over the table, and with which the table keeps K
  pub does_make : {ts : List Term} {t : Term} → N table_full → Fit n ts → Lies n ts t → (K ts → K (t ∷ ts)) → DoesKeeping K l n (make_of t) ts (There t) N
  unfolding make_of
  does_make {ts} {t} e f h k = record { post = rw (find_same n t ts f.formed) (go (find_of ts t).is (ltb (length ts) (room_of l)) refl refl) }
    where
      go : (i j : Bool) → (find_of ts t).is ≡ i → ltb (length ts) (room_of l) ≡ j
          → Post K n ts (There t) N (pick i (gave ts (find_of ts t).at 0) (pick j (gave (t ∷ ts) (length ts) 0) (refused table_full)))
          (pick i (gave ts (find_of ts t).at 0) (pick j (gave (t ∷ ts) (length ts) 0) (refused table_full)))
      go true j p q = did (stay f) (find_there t ts p)
      go false true p q =
          did {a = length ts} (record { grown = more still; fit = fit_more f h p (omega (arith, ltb-true (length ts) (room_of l) q)); keeps = k })
          (record { low = omega arith; is = at_newest t ts })
      go false false p q = not_did e

-- what is said of a refusal may be weakened
pub does_refused : {K : List Term → Type 0} {l n : ℕ} {A : Type 0} {m : Make A} {ts : List Term} {Q : List Term → A → Type 0} {N M : ℕ → Type 0} → Fit n ts
    → ((i : ℕ) → N i → M i) → DoesKeeping K l n m ts Q N → DoesKeeping K l n m ts Q M
does_refused f k d = record { post = post_weaken (stay f) (λ ws a g q. q) k d.post }
