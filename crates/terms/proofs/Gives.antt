-- Steps over a lent table: one that stays, one after another, one that makes a term. The ruleset `steps` answers the return of a function that
-- follows the text of its definition, `runs` that of one whose parts use depth. Assumes nothing.
use mathlib.Core.Path.{◌≡◌, refl, sym, ap, subst, ◌∙◌}
use mathlib.Core.Bool.{Bool, true, false}
use mathlib.Core.List.{List, [], ◌∷◌, ◌++◌}
use Prim.Native.Nat.{ℕ, zero, suc, ◌+◌, ◌-◌, ◌*◌, ◌<◌, ◌≤◌, max}
use native.Mathlib.Numerals.{add-one}
use native.Mathlib.Omega.{arith}
use lib.ListN.{length, take, drop}
use lib.Dec.{eqb}
use borrow.Author.Tests.{eq-eqb, ne_eqb, lt-ltb, le-ltb}
use Rattle.std.specs.declared.option.Option.{Option}
use Rattle.std.specs.declared.option.Option.TheVariants.{None, Some}
use Rattle.std.specs.declared.result.Result.{Result}
use Rattle.std.specs.declared.result.Result.TheVariants.{Ok, Err}
use Rattle.std.specs.declared.ops.ControlFlow.{ControlFlow}
use Rattle.std.specs.declared.ops.ControlFlow.TheVariants.{Continue, Break}
use Rattle.std.specs.Prelude.{IsErr, IsErrAnd}
use Rattle.std.specs.Result.{result_from_control_flow}
use Rattle.std.proofs.lemmas.Result.{err_from_is_err_and}
use Rattle.notation.specs.Notation.{with, when◌then◌else◌, if◌equals◌then◌else◌, if◌below◌then◌else◌}
use Rattle.semantics.specs.declared.Term.{Term}
use Rattle.semantics.specs.declared.refusal.Refusal.{Refusal}
use Rattle.semantics.specs.Refusals.{number_of}
use Rattle.semantics.specs.Records.{record_bytes}
use Rattle.semantics.specs.Numbers.{known_false, known_true, unknown}
use Rattle.semantics.specs.Terms.{at, bytes_of, put, image_of, terms_in, known_of}
use Rattle.semantics.specs.Steps.{Got, gave, refused, Make, deeper, next, ◌>>=◌, give, refuse, make_of, each, up, up_of, reads, seen, ◌▹◌, room_of}
use Rattle.terms.specs.Search.{find_above, code_setting, found_of}
use Rattle.terms.specs.Known.{known_number}
use Rattle.terms.specs.Gives.{held, shown, OnlyAppends, Gives, Leads}
use Rattle.terms.specs.declared.table.Table.{Table}
use Rattle.terms.proofs.Tables.{terms_length, terms_same, tail_lent, tail_back}
use Rattle.terms.proofs.Put.{put_length, put_below, put_past, term_below, term_there}

pub stays : (s : Table) → OnlyAppends s s
stays s = record { same = refl; long = refl; grows = omega arith; fits = λ f. f; whole = λ h. h; low = λ k h. refl; high = λ k h. refl }

pub appends_on : {s y z : Table} → OnlyAppends s y → OnlyAppends y z → OnlyAppends s z
appends_on p q =
    let g = p.grows in
    let h = q.grows in
    record {
      same = q.same ∙ p.same;
      long = q.long ∙ p.long;
      grows = omega arith;
      fits = λ f. q.fits (p.fits f);
      whole = λ f. q.whole (p.whole f);
      low = λ k l. q.low k (omega arith) ∙ p.low k l;
      high = λ k l. q.high k l ∙ p.high k (omega arith);
    }

max_last : (u : ℕ) → max u 0 ≡ u
max_last u = omega arith

max_zero : (u : ℕ) → max 0 u ≡ u
max_zero u = omega arith

pub deeper_zero : {A : Type 0} (g : Got A) → deeper 0 g ≡ g
deeper_zero (gave ts a u) = ap (gave ts a) (max_zero u)
deeper_zero (refused k) = refl

-- a value, and a refusal, at once
module _ {A : Type 0} (s : Table) where
  pub gives_value : (a : A) → Gives (give a) s 0 (Ok a) s
  unfolding give
  gives_value a = record { is = refl; kept = stays s }

  pub gives_none : (k : Refusal) (u : ℕ) → Gives {A = A} (refuse (number_of k)) s u (Err k) s
  unfolding refuse
  gives_none k u = record { is = refl; kept = stays s }

-- A step by another definition that is the same here.
pub gives_as : {A : Type 0} {m l : Make A} {s y : Table} {u : ℕ} {r : Result A Refusal}
    → m (code_setting (length s.bytes.now)) (held s) ≡ l (code_setting (length s.bytes.now)) (held s) → Gives m s u r y → Gives l s u r y
gives_as e g = record { is = g.is ∙ e; kept = g.kept }

-- an answer that is known to be another
pub gives_is : {A : Type 0} {m : Make A} {s y : Table} {u : ℕ} {r q : Result A Refusal} → r ≡ q → Gives m s u r y → Gives m s u q y
gives_is {A} {m} {s} {y} {u} e g = subst (λ (q : Result A Refusal). Gives m s u q y) e g

module _ {A B : Type 0} (f : A → Make B) {m : Make A} {s : Table} {u : ℕ} {y : Table} where
  -- a refused first step
  pub gives_stop : {k : Refusal} → Gives m s u (Err k) y → (w : ℕ) → Gives (m >>= f) s w (Err k) y
  unfolding ◌>>=◌
  gives_stop g w = record { is = rw (← g.is) refl; kept = g.kept }

  -- one after another
  pub gives_on : {a : A} → Gives m s u (Ok a) y → {w : ℕ} {r : Result B Refusal} {z : Table} → Gives (f a) y w r z
      → {v : ℕ} → shown (held z) v r ≡ deeper u (shown (held z) w r) → Gives (m >>= f) s v r z
  unfolding ◌>>=◌
  gives_on {a} g {w} {r} {z} k d =
      record {
        is = rw (← g.is) (d ∙ ap (deeper u) (subst (λ (l : ℕ). shown (held z) w r ≡ f a (code_setting l) (held y)) g.kept.long k.is));
        kept = appends_on g.kept k.kept;
      }

room_in : (n l : ℕ) → n < 8192 → n * 8 + 8 ≤ l → n < room_of l
room_in n l h k = omega arith

room_out : (n l : ℕ) → 8192 ≤ n → room_of l ≤ n
room_out n l h = omega arith

room_short : (n l : ℕ) → l < n * 8 + 8 → room_of l ≤ n
room_short n l h = omega arith

-- a table that is left as it was
module _ (s y : Table) (name : y.bytes.ghost_name ≡ s.bytes.ghost_name) (bytes : y.bytes.now ≡ s.bytes.now) (count : y.count ≡ s.count) where
  lasts : OnlyAppends s y
  lasts =
      record {
        same = name;
        long = ap length bytes;
        grows = omega (arith, count);
        fits = λ f. rw (bytes, count) f;
        whole = λ h. rw (bytes, count) h;
        low = λ k h. rw bytes refl;
        high = λ k h. rw bytes refl;
      }

  lasting : held y ≡ held s
  lasting = rw (bytes, count) refl

  module _ (t : Term) where
    pub make_found : (at : ℕ) → found_of (Some at) ≡ find_above (held s) t → Gives (make_of t) s 0 (Ok at) y
    unfolding make_of
    make_found at e = record { is = rw (← e, lasting) refl; kept = lasts }

    module _ (e : found_of None ≡ find_above (held s) t) where
      pub make_many : 8192 ≤ s.count → Gives (make_of t) s 0 (Err Refusal.TableFull) y
      unfolding make_of
      make_many m = record { is = simp (sym e, terms_length s.bytes.now s.count, le-ltb _ _ (room_out s.count (length s.bytes.now) m)); kept = lasts }

      pub make_short : s.count < 8192 → length s.bytes.now < s.count * 8 + 8 → Gives (make_of t) s 0 (Err Refusal.TableFull) y
      unfolding make_of
      make_short m l = record { is = simp (sym e, terms_length s.bytes.now s.count, le-ltb _ _ (room_short s.count (length s.bytes.now) l)); kept = lasts }

-- a new term
module _ (s y : Table) (t : Term) (e : found_of None ≡ find_above (held s) t) (m : s.count < 8192) (l : s.count * 8 + 8 ≤ length s.bytes.now)
    (name : y.bytes.ghost_name ≡ s.bytes.ghost_name) (bytes : y.bytes.now ≡ put s.bytes.now s.count t) (count : y.count ≡ s.count + 1) where
  newest : held y ≡ t ∷ held s
  unfolding terms_in
  newest =
      let b = s.bytes.now in
      let n = s.count in
      rw (count, bytes, add-one) (simp (terms_same b (put b n t) n (term_below b n t l), term_there b n t l))

  put_whole : s.bytes.now ≡ image_of (length s.bytes.now) (held s) → y.bytes.now ≡ image_of (length y.bytes.now) (held y)
  unfolding image_of
  put_whole q =
      let b = s.bytes.now in
      let n = s.count in
      let e : length y.bytes.now ≡ length b = ap length bytes ∙ put_length b n t l in
      let i : put (image_of (length b) (held s)) (length (held s)) t ≡ image_of (length b) (t ∷ held s) = refl in
      bytes ∙ ap (λ (x : List ℕ). put x n t) q ∙ ap (λ (k : ℕ). put (image_of (length b) (held s)) k t) (sym (terms_length b n)) ∙ i
      ∙ ap (λ (k : ℕ). image_of k (t ∷ held s)) (sym e) ∙ ap (image_of (length y.bytes.now)) (sym newest)

  pub make_new : Gives (make_of t) s 0 (Ok s.count) y
  unfolding make_of
  make_new =
      let b = s.bytes.now in
      let n = s.count in
      record {
        is = simp (sym e, terms_length b n, lt-ltb _ _ (room_in n (length b) m l), newest);
        kept =
            record {
              same = name;
              long = rw bytes (put_length b n t l);
              grows = omega (arith, count);
              fits = λ f. rw (count, bytes, put_length b n t l) (omega arith);
              whole = put_whole;
              low = rw bytes (put_below b n t l);
              high = λ k i. rw bytes (put_past b n t l k (omega (arith, rw count at i)));
            };
      }

-- what is written at the count is what a put table reads
pub put_written : (s : List ℕ) (n : ℕ) (t : Term) (y : List ℕ) → n * 8 + 8 ≤ length s → y ≡ record_bytes t.kind t.op t.a t.b t.c ++ drop 8 (take (length s - n * 8) (drop (n * 8) s))
    → take (n * 8) s ++ (y ++ drop (length s - n * 8) (drop (n * 8) s)) ≡ put s n t
unfolding put bytes_of
put_written s n t y l w = rw (tail_back s (n * 8) y, w, tail_lent s (n * 8)) refl

-- ---- Following a definition step by step: each rule gives what code that went one way has to show.
module _ {A : Type 0} (m l : Make A) {s : Table} {u : ℕ} {r : Result A Refusal} {y : Table} where
  pub if_eq : (i j : ℕ) → i ≡ j → Gives m s u r y → Gives (if i equals j then m else l) s u r y
  unfolding if◌equals◌then◌else◌
  if_eq i j h g = rw (eq-eqb _ _ h) g

  pub if_ne : (i j : ℕ) → (i ≡ j → ⊥) → Gives l s u r y → Gives (if i equals j then m else l) s u r y
  unfolding if◌equals◌then◌else◌
  if_ne i j h g = rw (ne_eqb _ _ h) g

  -- one that is known to be another number
  pub if_other : (i j : ℕ) {k : ℕ} → i ≡ k → eqb k j ≡ false → Gives l s u r y → Gives (if i equals j then m else l) s u r y
  unfolding if◌equals◌then◌else◌
  if_other i j h e g = rw (h, e) g

  -- two numbers that are written out
  pub if_apart : (i j : ℕ) → eqb i j ≡ false → Gives l s u r y → Gives (if i equals j then m else l) s u r y
  unfolding if◌equals◌then◌else◌
  if_apart i j e g = rw e g

  pub if_lt : (i j : ℕ) → i < j → Gives m s u r y → Gives (if i below j then m else l) s u r y
  unfolding if◌below◌then◌else◌
  if_lt i j h g = rw (lt-ltb _ _ h) g

  pub if_ge : (i j : ℕ) → j ≤ i → Gives l s u r y → Gives (if i below j then m else l) s u r y
  unfolding if◌below◌then◌else◌
  if_ge i j h g = rw (le-ltb _ _ h) g

  pub if_true : (b : Bool) → b ≡ true → Gives m s u r y → Gives (when b then m else l) s u r y
  unfolding when◌then◌else◌
  if_true b h g = rw h g

  pub if_false : (b : Bool) → b ≡ false → Gives l s u r y → Gives (when b then m else l) s u r y
  unfolding when◌then◌else◌
  if_false b h g = rw h g

module _ {A B : Type 0} {s : Table} {u : ℕ} {r : Result A Refusal} {y : Table} where
  pub on_read : (f : List Term → B) (k : B → Make A) {b : B} → b ≡ f (held s) → Gives (k b) s u r y → Gives (reads f k) s u r y
  unfolding reads
  on_read f k e g = record { is = rw e at g.is; kept = g.kept }

  pub on_value : (v : B) (k : B → Make A) {b : B} → b ≡ v → Gives (k b) s u r y → Gives (with v k) s u r y
  unfolding with
  on_value v k e g = rw e at g

-- with what is known of a term, as the code says it
module _ {A : Type 0} (x : ℕ) (k : ℕ → Make A) {s : Table} {u : ℕ} {r : Result A Refusal} {y : Table} {o : Option Bool} (e : known_number o ≡ known_of (at (held s) x)) where
  pub seen_false : {b : Bool} → o ≡ Some b → b ≡ false → Gives (k known_false) s u r y → Gives (seen x k) s u r y
  seen_false i j g = on_read _ k (rw (i, j) at e) g

  pub seen_true : {b : Bool} → o ≡ Some b → b ≡ true → Gives (k known_true) s u r y → Gives (seen x k) s u r y
  seen_true i j g = on_read _ k (rw (i, j) at e) g

  pub seen_none : o ≡ None → Gives (k unknown) s u r y → Gives (seen x k) s u r y
  seen_none i g = on_read _ k (rw i at e) g

-- after a first step that used no depth
module _ {A B : Type 0} {m : Make A} (f : A → Make B) {s : Table} {q : Result A Refusal} {y : Table} (g : Gives m s 0 q y) where
  pub then_stop : {k : Refusal} → q ≡ Err k → {w : ℕ} → Gives (m >>= f) s w (Err k) y
  then_stop e {w} = gives_stop f (gives_is e g) w

  pub then_on : {a : A} → q ≡ Ok a → {w : ℕ} {r : Result B Refusal} {z : Table} → Gives (f a) y w r z → Gives (m >>= f) s w r z
  then_on e {w} {r} {z} k = gives_on f (gives_is e g) k (sym (deeper_zero (shown (held z) w r)))

-- after a `?`: the steps stop with its refusal, or go on with its answer
module _ {A B : Type 0} {m : Make A} (f : A → Make B) {s : Table} {q : Result A Refusal} {y : Table} {b : ControlFlow _ A}
    (h : q ≡ result_from_control_flow b) where
  module _ (g : Gives m s 0 q y) where
    pub try_err : {e : _} → b ≡ Break e → {w : ℕ} → Gives (m >>= f) s w (Err e.0) y
    try_err i {w} = then_stop f g (rw i at h) {w = w}

    pub try_stop : {e : _} → b ≡ Break e → {r : Result B Refusal} → IsErr r × IsErrAnd r (λ k. k ≡ e.0) → {w : ℕ} → Gives (m >>= f) s w r y
    try_stop i {r} j {w} = let p = err_from_is_err_and r j.1 in rw (p.1, p.2) (then_stop f g (rw i at h) {w = w})

    pub try_on : {a : A} → b ≡ Continue a → {w : ℕ} {r : Result B Refusal} {z : Table} → Gives (f a) y w r z → Gives (m >>= f) s w r z
    try_on i k = then_on f g (rw i at h) k

-- after a `?` on the last step, whose answer is handed on as h of it
module _ {A B : Type 0} {m : Make A} (h : A → B) {s : Table} {q : Result A Refusal} {y : Table} {b : ControlFlow _ A} (i : q ≡ result_from_control_flow b)
    (g : Gives m s 0 q y) where
  pub try_map_err : {e : _} → b ≡ Break e → {w : ℕ} → Gives (m ▹ h) s w (Err e.0) y
  unfolding ◌▹◌
  try_map_err j {w} = try_err (λ a. give (h a)) i g j {w = w}

  pub try_map_stop : {e : _} → b ≡ Break e → {r : Result B Refusal} → IsErr r × IsErrAnd r (λ k. k ≡ e.0) → {w : ℕ} → Gives (m ▹ h) s w r y
  unfolding ◌▹◌
  try_map_stop j k {w} = try_stop (λ a. give (h a)) i g j k {w = w}

  pub try_map : {a : A} → b ≡ Continue a → {v : B} → v ≡ h a → Gives (m ▹ h) s 0 (Ok v) y
  unfolding ◌▹◌
  try_map {a} j k = rw k (try_on (λ a. give (h a)) i g j (gives_value y (h a)))

-- after a first step that used some
module _ {A B : Type 0} {m : Make A} (f : A → Make B) {s : Table} {u : ℕ} {q : Result A Refusal} {y : Table} (g : Gives m s u q y) where
  pub run_stop : {k : Refusal} → q ≡ Err k → {w : ℕ} → Gives (m >>= f) s w (Err k) y
  run_stop e {w} = gives_stop f (gives_is e g) w

  pub run_on : {a : A} → q ≡ Ok a → {w : ℕ} {r : Result B Refusal} {z : Table} → Gives (f a) y w r z → {v : ℕ} → v ≡ max u w → Gives (m >>= f) s v r z
  run_on e {w} {r} {z} k {v} i = gives_on f (gives_is e g) k (go r)
    where
      go : (r : Result B Refusal) → shown (held z) v r ≡ deeper u (shown (held z) w r)
      go (Ok b) = ap (gave (held z) b) i
      go (Err k) = refl

  pub run_end : {a : A} → q ≡ Ok a → {r : Result B Refusal} {z : Table} → Gives (f a) y 0 r z → Gives (m >>= f) s u r z
  run_end e k = run_on e k (sym (max_last u))

-- one expression more
pub up_on : {A : Type 0} {m : Make A} {s : Table} {u : ℕ} {r : Result A Refusal} {y : Table} → Gives m s u r y → Gives (up m) s (u + 1) r y
unfolding up
up_on {A} {m} {s} {u} {r} {y} g = record { is = rw (← g.is) (go r); kept = g.kept }
  where
    go : (r : Result A Refusal) → shown (held y) (u + 1) r ≡ up_of (shown (held y) u r)
    go (Ok a) = refl
    go (Err k) = refl

-- a step whose answer is f of another's
module _ {A B : Type 0} {m : Make A} (h : A → B) {s : Table} {u : ℕ} {q : Result A Refusal} {y : Table} (g : Gives m s u q y) where
  pub map_on : {a : A} → q ≡ Ok a → {b : B} → b ≡ h a → Gives (m ▹ h) s u (Ok b) y
  unfolding ◌▹◌
  map_on {a} i {b} e = rw e (run_end (λ a. give (h a)) g i (gives_value y (h a)))

  pub map_stop : {k : Refusal} → q ≡ Err k → {w : ℕ} → Gives (m ▹ h) s w (Err k) y
  unfolding ◌▹◌
  map_stop i {w} = run_stop (λ a. give (h a)) g i {w = w}

-- ---- Where a loop stands: what is left leads from the start.
pub leads_start : {A : Type 0} (m : Make A) (s : Table) → Leads m s 0 m s
leads_start m s = record { on = λ u v r z h g. rw (h ∙ max_zero u) g }

max_by : (d u w v : ℕ) → v ≡ max (max d u) w → v ≡ max d (max u w)
max_by d u w v h = omega arith

module _ {A B : Type 0} (f : A → B → Make A) {m : Make A} {s y : Table} {d : ℕ} {p : A} where
  pub each_end : Leads m s d (each f p []) y → Gives m s d (Ok p) y
  unfolding each
  each_end inv = inv.on 0 d (Ok p) y (sym (max_last d)) (gives_value y p)

  module _ (x : B) (l : List B) (inv : Leads m s d (each f p (x ∷ l)) y) {u : ℕ} {q : Result A Refusal} {w : Table} (g : Gives (f p x) y u q w) where
    turn : Leads m s d (f p x >>= λ a. each f a l) y
    unfolding each
    turn = inv

    pub each_stop : {k : Refusal} → q ≡ Err k → {v : ℕ} → Gives m s v (Err k) w
    each_stop {k} e {v} = let i = turn.on v (max d v) (Err k) w refl (run_stop (λ a. each f a l) g e) in record { is = i.is; kept = i.kept }

    pub each_next : {a : A} → q ≡ Ok a → {t : ℕ} → t ≡ max d u → Leads m s t (each f a l) w
    each_next e {t} ht = record { on = λ u' v r z hv j. turn.on (max u u') v r z (max_by d u u' v (rw ht at hv)) (run_on _ g e j refl) }

pub ruleset steps = (if_eq, if_ne, if_other, if_apart, if_lt, if_ge, if_true, if_false, seen_false, seen_true, seen_none, on_read, on_value, gives_value, gives_none, then_stop, then_on, try_err, try_stop, try_on, try_map_err, try_map_stop, try_map, map_stop, map_on, up_on)

pub ruleset runs = (steps, run_stop, run_end, run_on)
