-- Gates in order can always be met: each gives a wire that no gate before it gave or looked at. The order is a test that antt computes.
-- Assumes nothing.
use mathlib.Core.Path.{◌≡◌, refl, sym, ap, ◌∙◌}
use mathlib.Core.Bool.{Bool, true, false, not, ◌&&◌, cond}
use mathlib.Core.List.{List, [], ◌∷◌}
use Prim.Native.Nat.{ℕ, suc, ◌≤◌}
use native.Mathlib.Omega.{arith}
use lib.Dec.{eqb, ltb, leb}
use borrow.Author.Tests.{eq-eqb, ne_eqb, ltb-true, lt-ltb, leb-true}
use Rattle.circuits.specs.Gates.{Literal, pos, neg, literal_true, wire, Gate, fix, gate, value_of}
use Rattle.circuits.specs.Templates.{Wire, wire_a, wire_b, wire_c, wire_true, helper, own}
use Rattle.circuits.proofs.Gates.{never, and_l, and_r, Holds}

-- ---- the test: helpers and wires of the term in rising order, operands given before. u: the term names lower ones, of w wires each
abbrev pub settled : Bool → ℕ → ℕ → Wire → Bool
settled u w p (wire_a i) = u && ltb i w
settled u w p (wire_b i) = u && ltb i w
settled u w p (wire_c i) = u && ltb i w
settled u w p wire_true = u
settled u w p (helper k) = ltb k p
settled u w p (own i) = false

abbrev fresh : ℕ → ℕ → Wire → Bool
fresh p q (wire_a i) = false
fresh p q (wire_b i) = false
fresh p q (wire_c i) = false
fresh p q wire_true = false
fresh p q (helper k) = leb p k
fresh p q (own i) = leb q i

abbrev next_helper : ℕ → Wire → ℕ
next_helper p (wire_a i) = p
next_helper p (wire_b i) = p
next_helper p (wire_c i) = p
next_helper p wire_true = p
next_helper p (helper k) = suc k
next_helper p (own i) = p

abbrev next_out : ℕ → Wire → ℕ
next_out q (wire_a i) = q
next_out q (wire_b i) = q
next_out q (wire_c i) = q
next_out q wire_true = q
next_out q (helper k) = q
next_out q (own i) = suc i

-- from helper p and wire q on, up to h helpers and w wires
unfoldable pub ordered : Bool → ℕ → ℕ → ℕ → ℕ → List (Gate Wire) → Bool
ordered u w h p q [] = leb p h && leb q w
ordered u w h p q (fix t v ∷ gs) = fresh p q t && ordered u w h (next_helper p t) (next_out q t) gs
ordered u w h p q (gate f t a b c ∷ gs) =
    fresh p q t && (settled u w p (wire a) && (settled u w p (wire b) && (settled u w p (wire c) && ordered u w h (next_helper p t) (next_out q t) gs)))

-- ---- the values that meet the gates
abbrev is_helper : ℕ → Wire → Bool
is_helper k (wire_a i) = false
is_helper k (wire_b i) = false
is_helper k (wire_c i) = false
is_helper k wire_true = false
is_helper k (helper j) = eqb j k
is_helper k (own i) = false

abbrev is_out : ℕ → Wire → Bool
is_out k (wire_a i) = false
is_out k (wire_b i) = false
is_out k (wire_c i) = false
is_out k wire_true = false
is_out k (helper j) = false
is_out k (own i) = eqb i k

abbrev same_wire : Wire → Wire → Bool
same_wire (wire_a i) l = false
same_wire (wire_b i) l = false
same_wire (wire_c i) l = false
same_wire wire_true l = false
same_wire (helper k) l = is_helper k l
same_wire (own i) l = is_out i l

abbrev put : (Wire → Bool) → Wire → Bool → Wire → Bool
put α t v = λ l. cond (same_wire t l) v (α l)

abbrev pub meet : (Wire → Bool) → List (Gate Wire) → Wire → Bool
meet α [] = α
meet α (fix t v ∷ gs) = meet (put α t v) gs
meet α (gate f t a b c ∷ gs) = meet (put α t (value_of f (literal_true α a) (literal_true α b) (literal_true α c))) gs

-- given already, before helper p and wire q
abbrev pub old : ℕ → ℕ → Wire → Bool
old p q (wire_a i) = true
old p q (wire_b i) = true
old p q (wire_c i) = true
old p q wire_true = true
old p q (helper k) = ltb k p
old p q (own i) = ltb i q

settled_old : (u : Bool) (w p q : ℕ) (l : Wire) → settled u w p l ≡ true → old p q l ≡ true
settled_old u w p q (wire_a i) e = refl
settled_old u w p q (wire_b i) e = refl
settled_old u w p q (wire_c i) e = refl
settled_old u w p q wire_true e = refl
settled_old u w p q (helper k) e = e
settled_old u w p q (own i) e = never e

module _ (p q : ℕ) (t : Wire) (f : fresh p q t ≡ true) where
  put_old : (α : Wire → Bool) (v : Bool) (l : Wire) → old p q l ≡ true → put α t v l ≡ α l
  put_old α v l o = go t f l o
    where
      go : (t : Wire) → fresh p q t ≡ true → (l : Wire) → old p q l ≡ true → put α t v l ≡ α l
      go (wire_a i) f l o = never f
      go (wire_b i) f l o = never f
      go (wire_c i) f l o = never f
      go wire_true f l o = never f
      go (helper k) f (wire_a i) o = refl
      go (helper k) f (wire_b i) o = refl
      go (helper k) f (wire_c i) o = refl
      go (helper k) f wire_true o = refl
      go (helper k) f (helper j) o = let a = leb-true p k f in let b = ltb-true j p o in rw (ne_eqb j k (λ e. omega arith))
      go (helper k) f (own i) o = refl
      go (own k) f (wire_a i) o = refl
      go (own k) f (wire_b i) o = refl
      go (own k) f (wire_c i) o = refl
      go (own k) f wire_true o = refl
      go (own k) f (helper j) o = refl
      go (own k) f (own i) o = let a = leb-true q k f in let b = ltb-true i q o in rw (ne_eqb i k (λ e. omega arith))

  old_next : (l : Wire) → old p q l ≡ true → old (next_helper p t) (next_out q t) l ≡ true
  old_next l o = go t f l o
    where
      go : (t : Wire) → fresh p q t ≡ true → (l : Wire) → old p q l ≡ true → old (next_helper p t) (next_out q t) l ≡ true
      go (wire_a i) f l o = never f
      go (wire_b i) f l o = never f
      go (wire_c i) f l o = never f
      go wire_true f l o = never f
      go (helper k) f (wire_a i) o = refl
      go (helper k) f (wire_b i) o = refl
      go (helper k) f (wire_c i) o = refl
      go (helper k) f wire_true o = refl
      go (own k) f (wire_a i) o = refl
      go (own k) f (wire_b i) o = refl
      go (own k) f (wire_c i) o = refl
      go (own k) f wire_true o = refl
      go (helper k) f (helper j) o = let a = leb-true p k f in let b = ltb-true j p o in lt-ltb j (suc k) (omega arith)
      go (helper k) f (own i) o = o
      go (own k) f (helper j) o = o
      go (own k) f (own i) o = let a = leb-true q k f in let b = ltb-true i q o in lt-ltb i (suc k) (omega arith)

  old_self : old (next_helper p t) (next_out q t) t ≡ true
  old_self = go t f
    where
      go : (t : Wire) → fresh p q t ≡ true → old (next_helper p t) (next_out q t) t ≡ true
      go (wire_a i) f = never f
      go (wire_b i) f = never f
      go (wire_c i) f = never f
      go wire_true f = never f
      go (helper k) f = lt-ltb k (suc k) (omega arith)
      go (own i) f = lt-ltb i (suc i) (omega arith)

  put_same : (α : Wire → Bool) (v : Bool) → put α t v t ≡ v
  put_same α v = go t f
    where
      go : (t : Wire) → fresh p q t ≡ true → put α t v t ≡ v
      go (wire_a i) f = never f
      go (wire_b i) f = never f
      go (wire_c i) f = never f
      go wire_true f = never f
      go (helper k) f = rw (eq-eqb k k refl)
      go (own i) f = rw (eq-eqb i i refl)

  next_over : (p ≤ next_helper p t) × (q ≤ next_out q t)
  next_over = go t f
    where
      go : (t : Wire) → fresh p q t ≡ true → (p ≤ next_helper p t) × (q ≤ next_out q t)
      go (wire_a i) f = never f
      go (wire_b i) f = never f
      go (wire_c i) f = never f
      go wire_true f = never f
      go (helper k) f = let a = leb-true p k f in (omega arith, omega arith)
      go (own i) f = let a = leb-true q i f in (omega arith, omega arith)

module _ (u : Bool) (w h : ℕ) where
  -- what a test of a gate says
  record Gated (p q : ℕ) (t a b c : Wire) (rest : Bool) : Type 0 where
    target : fresh p q t ≡ true
    first : settled u w p a ≡ true
    second : settled u w p b ≡ true
    third : settled u w p c ≡ true
    later : rest ≡ true

  gated : (p q : ℕ) (t a b c : Wire) (rest : Bool) → (fresh p q t && (settled u w p a && (settled u w p b && (settled u w p c && rest)))) ≡ true → Gated p q t a b c rest
  gated p q t a b c rest e =
      let x = settled u w p a in let y = settled u w p b in let z = settled u w p c in
      let e1 = and_r (fresh p q t) (x && (y && (z && rest))) e in
      let e2 = and_r x (y && (z && rest)) e1 in
      let e3 = and_r y (z && rest) e2 in
      record { target = and_l (fresh p q t) (x && (y && (z && rest))) e; first = and_l x (y && (z && rest)) e1; second = and_l y (z && rest) e2; third = and_l z rest e3; later = and_r z rest e3 }

  pub meet_old : (α : Wire → Bool) (p q : ℕ) (gs : List (Gate Wire)) → ordered u w h p q gs ≡ true → (l : Wire) → old p q l ≡ true → meet α gs l ≡ α l
  unfolding ordered
  meet_old α p q [] e l o = refl
  meet_old α p q (fix t v ∷ gs) e l o =
      let rest = ordered u w h (next_helper p t) (next_out q t) gs in
      let f = and_l (fresh p q t) rest e in
      meet_old (put α t v) (next_helper p t) (next_out q t) gs (and_r (fresh p q t) rest e) l (old_next p q t f l o) ∙ put_old p q t f α v l o
  meet_old α p q (gate g t a b c ∷ gs) e l o =
      let d = gated p q t (wire a) (wire b) (wire c) (ordered u w h (next_helper p t) (next_out q t) gs) e in
      let v = value_of g (literal_true α a) (literal_true α b) (literal_true α c) in
      meet_old (put α t v) (next_helper p t) (next_out q t) gs d.later l (old_next p q t d.target l o) ∙ put_old p q t d.target α v l o

  literal_as : (α β : Wire → Bool) (l : Literal Wire) → β (wire l) ≡ α (wire l) → literal_true β l ≡ literal_true α l
  literal_as α β (pos x) e = e
  literal_as α β (neg x) e = ap not e

  -- any values of the wires that are given extend to values that meet the gates
  pub met : (α : Wire → Bool) (p q : ℕ) (gs : List (Gate Wire)) → ordered u w h p q gs ≡ true → Holds (meet α gs) gs
  unfolding ordered
  met α p q [] e = tt
  met α p q (fix t v ∷ gs) e =
      let rest = ordered u w h (next_helper p t) (next_out q t) gs in
      let f = and_l (fresh p q t) rest e in
      let k = and_r (fresh p q t) rest e in
      (meet_old (put α t v) (next_helper p t) (next_out q t) gs k t (old_self p q t f) ∙ put_same p q t f α v, met (put α t v) (next_helper p t) (next_out q t) gs k)
  met α p q (gate g t a b c ∷ gs) e =
      let d = gated p q t (wire a) (wire b) (wire c) (ordered u w h (next_helper p t) (next_out q t) gs) e in
      let v = value_of g (literal_true α a) (literal_true α b) (literal_true α c) in
      let later : Wire → Bool = meet (put α t v) gs in
      let still : (l : Literal Wire) → settled u w p (wire l) ≡ true → literal_true later l ≡ literal_true α l =
      λ l s. (let o = settled_old u w p q (wire l) s in
      literal_as α later l (meet_old (put α t v) (next_helper p t) (next_out q t) gs d.later (wire l) (old_next p q t d.target (wire l) o) ∙ put_old p q t d.target α v (wire l) o)) in (
        meet_old (put α t v) (next_helper p t) (next_out q t) gs d.later t (old_self p q t d.target) ∙ (put_same p q t d.target α v ∙ sym (rw (still a d.first, still b d.second, still c d.third))),
        met (put α t v) (next_helper p t) (next_out q t) gs d.later,
      )

  -- ---- every wire is one that the term owns, names or has for a helper
  abbrev pub valid : Wire → Bool
  valid (wire_a i) = u && ltb i w
  valid (wire_b i) = u && ltb i w
  valid (wire_c i) = u && ltb i w
  valid wire_true = u
  valid (helper k) = ltb k h
  valid (own i) = ltb i w

  ends : (p q : ℕ) (gs : List (Gate Wire)) → ordered u w h p q gs ≡ true → (p ≤ h) × (q ≤ w)
  unfolding ordered
  ends p q [] e = (leb-true p h (and_l (leb p h) (leb q w) e), leb-true q w (and_r (leb p h) (leb q w) e))
  ends p q (fix t v ∷ gs) e =
      let rest = ordered u w h (next_helper p t) (next_out q t) gs in
      let n = next_over p q t (and_l (fresh p q t) rest e) in
      let k = ends (next_helper p t) (next_out q t) gs (and_r (fresh p q t) rest e) in
      (let a = n.0 in let b = k.0 in omega arith, let a = n.1 in let b = k.1 in omega arith)
  ends p q (gate g t a b c ∷ gs) e =
      let d = gated p q t (wire a) (wire b) (wire c) (ordered u w h (next_helper p t) (next_out q t) gs) e in
      let n = next_over p q t d.target in
      let k = ends (next_helper p t) (next_out q t) gs d.later in
      (let a = n.0 in let b = k.0 in omega arith, let a = n.1 in let b = k.1 in omega arith)

  settled_valid : (p : ℕ) → p ≤ h → (l : Wire) → settled u w p l ≡ true → valid l ≡ true
  settled_valid p n (wire_a i) e = e
  settled_valid p n (wire_b i) e = e
  settled_valid p n (wire_c i) e = e
  settled_valid p n wire_true e = e
  settled_valid p n (helper k) e = let a = ltb-true k p e in lt-ltb k h (omega arith)
  settled_valid p n (own i) e = never e

  target_valid : (p q : ℕ) (t : Wire) → fresh p q t ≡ true → next_helper p t ≤ h → next_out q t ≤ w → valid t ≡ true
  target_valid p q (wire_a i) f m n = never f
  target_valid p q (wire_b i) f m n = never f
  target_valid p q (wire_c i) f m n = never f
  target_valid p q wire_true f m n = never f
  target_valid p q (helper k) f m n = lt-ltb k h (omega arith)
  target_valid p q (own i) f m n = lt-ltb i w (omega arith)

  -- all wires of gates that stand in order are
  abbrev pub Valid : List (Gate Wire) → Type 0
  Valid [] = Unit {0}
  Valid (fix t v ∷ gs) = (valid t ≡ true) × Valid gs
  Valid (gate f t a b c ∷ gs) = (valid t ≡ true) × (valid (wire a) ≡ true) × (valid (wire b) ≡ true) × (valid (wire c) ≡ true) × Valid gs

  pub ordered_valid : (p q : ℕ) (gs : List (Gate Wire)) → ordered u w h p q gs ≡ true → Valid gs
  unfolding ordered
  ordered_valid p q [] e = tt
  ordered_valid p q (fix t v ∷ gs) e =
      let rest = ordered u w h (next_helper p t) (next_out q t) gs in
      let f = and_l (fresh p q t) rest e in
      let k = and_r (fresh p q t) rest e in
      let n = ends (next_helper p t) (next_out q t) gs k in
      (target_valid p q t f n.0 n.1, ordered_valid (next_helper p t) (next_out q t) gs k)
  ordered_valid p q (gate g t a b c ∷ gs) e =
      let d = gated p q t (wire a) (wire b) (wire c) (ordered u w h (next_helper p t) (next_out q t) gs) e in
      let n = ends (next_helper p t) (next_out q t) gs d.later in
      let m = ends p q (gate g t a b c ∷ gs) e in (
        target_valid p q t d.target n.0 n.1,
        settled_valid p m.0 (wire a) d.first,
        settled_valid p m.0 (wire b) d.second,
        settled_valid p m.0 (wire c) d.third,
        ordered_valid (next_helper p t) (next_out q t) gs d.later,
      )

  module _ (α ρ : Wire → Bool) (agree : (l : Wire) → valid l ≡ true → ρ l ≡ α l) where
    -- values that agree on those wires meet the gates too
    pub met_as : (p q : ℕ) (gs : List (Gate Wire)) → ordered u w h p q gs ≡ true → Holds α gs → Holds ρ gs
    unfolding ordered
    met_as p q [] e H = tt
    met_as p q (fix t v ∷ gs) e H =
        let rest = ordered u w h (next_helper p t) (next_out q t) gs in
        let f = and_l (fresh p q t) rest e in
        let k = and_r (fresh p q t) rest e in
        let n = ends (next_helper p t) (next_out q t) gs k in
        (agree t (target_valid p q t f n.0 n.1) ∙ H.0, met_as (next_helper p t) (next_out q t) gs k H.1)
    met_as p q (gate g t a b c ∷ gs) e H =
        let d = gated p q t (wire a) (wire b) (wire c) (ordered u w h (next_helper p t) (next_out q t) gs) e in
        let n = ends (next_helper p t) (next_out q t) gs d.later in
        let m = ends p q (gate g t a b c ∷ gs) e in
        let still : (l : Literal Wire) → settled u w p (wire l) ≡ true → literal_true ρ l ≡ literal_true α l = λ l s. literal_as α ρ l (agree (wire l) (settled_valid p m.0 (wire l) s)) in (
          agree t (target_valid p q t d.target n.0 n.1) ∙ (H.0 ∙ sym (rw (still a d.first, still b d.second, still c d.third))),
          met_as (next_helper p t) (next_out q t) gs d.later H.1,
        )
