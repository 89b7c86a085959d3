-- Circuits on words of any width, lowest bit first. A builder takes the wires h of the helpers and the number k of the next one, and gives the
-- result's literals, the gates, and the next number. Assumes nothing.
use Rattle.std.specs.Prelude.{List, [], ◌∷◌, ◌++◌, ℕ, zero, suc, ◌+◌}
use Rattle.circuits.specs.Gates.{Literal, pos, flip, Gate, gate, Function, and2, and3, xor2, and_xor, choose, majority}

pub record Built (W : Type 0) : Type 0 where
  pub outs : List (Literal W)
  pub gates : List (Gate W)
  pub next : ℕ

-- with one literal more: a carry
pub record Carried (W : Type 0) : Type 0 where
  pub outs : List (Literal W)
  pub carry : Literal W
  pub gates : List (Gate W)
  pub next : ℕ

-- with the literals that are left over
pub record Part (W : Type 0) : Type 0 where
  pub outs : List (Literal W)
  pub left : List (Literal W)
  pub gates : List (Gate W)
  pub next : ℕ

-- all but the highest
abbrev pub low : {A : Type 0} → List A → List A
low [] = []
low (x ∷ []) = []
low (x ∷ (y ∷ ys)) = x ∷ low (y ∷ ys)

-- shifted by d places towards the highest bit, z put in
unfoldable pub shifted_up : {A : Type 0} → A → ℕ → List A → List A
shifted_up z zero xs = xs
shifted_up z (suc d) xs = low (z ∷ shifted_up z d xs)

-- by one towards the lowest
abbrev pub down : {A : Type 0} → A → List A → List A
down z [] = []
down z (x ∷ xs) = xs ++ (z ∷ [])

-- by d
unfoldable pub shifted_down : {A : Type 0} → A → ℕ → List A → List A
shifted_down z zero xs = xs
shifted_down z (suc d) xs = down z (shifted_down z d xs)

module _ {W : Type 0} (h : ℕ → W) where
  -- x + y + c, and the last carry: where x and y differ the carry goes on, else it is y
  unfoldable pub add_with : ℕ → Literal W → List (Literal W) → List (Literal W) → Carried W
  add_with k c [] ys = record { outs = []; carry = c; gates = []; next = k }
  add_with k c (x ∷ xs) [] = record { outs = []; carry = c; gates = []; next = k }
  add_with k c (x ∷ xs) (y ∷ ys) =
      let r = add_with (3 + k) (pos (h (2 + k))) xs ys in
      record {
        outs = pos (h (1 + k)) ∷ r.outs;
        carry = r.carry;
        gates = gate xor2 (h k) x y y ∷ gate xor2 (h (1 + k)) (pos (h k)) c c ∷ gate choose (h (2 + k)) (pos (h k)) c y ∷ r.gates;
        next = r.next;
      }

  -- x + y
  unfoldable pub add : ℕ → Literal W → List (Literal W) → List (Literal W) → Carried W
  add k z [] ys = record { outs = []; carry = z; gates = []; next = k }
  add k z (x ∷ xs) [] = record { outs = []; carry = z; gates = []; next = k }
  add k z (x ∷ xs) (y ∷ ys) =
      let r = add_with (2 + k) (pos (h (1 + k))) xs ys in
      record { outs = pos (h k) ∷ r.outs; carry = r.carry; gates = gate xor2 (h k) x y y ∷ gate and2 (h (1 + k)) x y y ∷ r.gates; next = r.next }

  -- the carries alone
  unfoldable pub carries : ℕ → Literal W → List (Literal W) → List (Literal W) → Carried W
  carries k c [] ys = record { outs = []; carry = c; gates = []; next = k }
  carries k c (x ∷ xs) [] = record { outs = []; carry = c; gates = []; next = k }
  carries k c (x ∷ xs) (y ∷ ys) =
      let r = carries (1 + k) (pos (h k)) xs ys in
      record { outs = []; carry = r.carry; gates = gate majority (h k) x y c ∷ r.gates; next = r.next }

  -- each bit and g
  unfoldable pub ands : ℕ → Literal W → List (Literal W) → Built W
  ands k g [] = record { outs = []; gates = []; next = k }
  ands k g (x ∷ xs) =
      let r = ands (1 + k) g xs in
      record { outs = pos (h k) ∷ r.outs; gates = gate and2 (h k) g x x ∷ r.gates; next = r.next }

  -- x * y, as wide as they are: the rows of y's bits, from the highest down
  unfoldable pub product : Literal W → ℕ → List (Literal W) → List (Literal W) → Built W
  product z k xs [] = record { outs = []; gates = []; next = k }
  product z k [] (y ∷ ys) = record { outs = []; gates = []; next = k }
  product z k (x ∷ xs) (y ∷ ys) =
      let r = product z k (low (x ∷ xs)) ys in
      let p = ands (1 + r.next) y xs in
      let s = add p.next z p.outs r.outs in
      record { outs = pos (h r.next) ∷ s.outs; gates = r.gates ++ (gate and2 (h r.next) y x x ∷ (p.gates ++ s.gates)); next = s.next }

  -- the first word where s is true, else the second
  unfoldable pub chosen : ℕ → Literal W → List (Literal W) → List (Literal W) → Built W
  chosen k s [] ys = record { outs = []; gates = []; next = k }
  chosen k s (x ∷ xs) [] = record { outs = []; gates = []; next = k }
  chosen k s (x ∷ xs) (y ∷ ys) =
      let r = chosen (1 + k) s xs ys in
      record { outs = pos (h k) ∷ r.outs; gates = gate choose (h k) s x y ∷ r.gates; next = r.next }

  -- shifted, stage by stage, the amount's bits lowest first
  unfoldable pub barrel : (Literal W → ℕ → List (Literal W) → List (Literal W)) → Literal W → ℕ → ℕ → List (Literal W) → List (Literal W) → Built W
  barrel sh z k d xs [] = record { outs = xs; gates = []; next = k }
  barrel sh z k d xs (s ∷ ss) =
      let m = chosen k s (sh z d xs) xs in
      let r = barrel sh z m.next (d + d) m.outs ss in
      record { outs = r.outs; gates = m.gates ++ r.gates; next = r.next }

  -- how many of the first 2 ^ d literals are true, in d + 1 bits, and the literals left over
  unfoldable pub tree : Literal W → ℕ → ℕ → List (Literal W) → Part W
  tree z k zero [] = record { outs = z ∷ []; left = []; gates = []; next = k }
  tree z k zero (x ∷ xs) = record { outs = x ∷ []; left = xs; gates = []; next = k }
  tree z k (suc d) xs =
      let a = tree z k d xs in
      let b = tree z a.next d a.left in
      let s = add b.next z a.outs b.outs in
      record { outs = s.outs ++ (s.carry ∷ []); left = b.left; gates = a.gates ++ (b.gates ++ s.gates); next = s.next }

  -- flag i: no bit at i or above is set; made from the highest down
  unfoldable pub flags : Literal W → ℕ → List (Literal W) → Carried W
  flags t k [] = record { outs = []; carry = t; gates = []; next = k }
  flags t k (x ∷ xs) =
      let r = flags t k xs in
      record { outs = pos (h r.next) ∷ r.outs; carry = pos (h r.next); gates = r.gates ++ (gate and2 (h r.next) r.carry (flip x) (flip x) ∷ []); next = 1 + r.next }

  -- c, and none of these
  unfoldable pub clear : ℕ → Literal W → List (Literal W) → Carried W
  clear k c [] = record { outs = []; carry = c; gates = []; next = k }
  clear k c (y ∷ ys) =
      let r = clear (1 + k) (pos (h k)) ys in
      record { outs = []; carry = r.carry; gates = gate and2 (h k) c (flip y) (flip y) ∷ r.gates; next = r.next }

  -- c, and equal bit for bit
  unfoldable pub same_bits : ℕ → Literal W → List (Literal W) → List (Literal W) → Carried W
  same_bits k c [] ys = record { outs = []; carry = c; gates = []; next = k }
  same_bits k c (x ∷ xs) [] = record { outs = []; carry = c; gates = []; next = k }
  same_bits k c (x ∷ xs) (y ∷ ys) =
      let r = same_bits (1 + k) (pos (h k)) xs ys in
      record { outs = []; carry = r.carry; gates = gate and_xor (h k) c x (flip y) ∷ r.gates; next = r.next }

-- ---- the last gates, of the wires o from number s on: zero where g is false
module _ {W : Type 0} (h o : ℕ → W) (g : Literal W) where
  -- x + y + c
  unfoldable pub sums : ℕ → ℕ → Literal W → List (Literal W) → List (Literal W) → List (Gate W)
  sums s k c [] ys = []
  sums s k c (x ∷ xs) [] = []
  sums s k c (x ∷ xs) (y ∷ ys) =
      gate xor2 (h k) x y y ∷ gate and_xor (o s) g (pos (h k)) c ∷ gate choose (h (1 + k)) (pos (h k)) c y ∷ sums (suc s) (2 + k) (pos (h (1 + k))) xs ys

  -- a function of each pair of bits, and of g
  unfoldable pub pairs : Function → ℕ → List (Literal W) → List (Literal W) → List (Gate W)
  pairs f s [] ys = []
  pairs f s (x ∷ xs) [] = []
  pairs f s (x ∷ xs) (y ∷ ys) = gate f (o s) g x y ∷ pairs f (suc s) xs ys

  -- each bit
  unfoldable pub masks : ℕ → List (Literal W) → List (Gate W)
  masks s [] = []
  masks s (r ∷ rs) = gate and2 (o s) g r r ∷ masks (suc s) rs

  -- x * y
  unfoldable pub products : Literal W → ℕ → ℕ → List (Literal W) → List (Literal W) → List (Gate W)
  products z s k xs [] = []
  products z s k [] (y ∷ ys) = []
  products z s k (x ∷ xs) (y ∷ ys) =
      let r = product h z k (low (x ∷ xs)) ys in
      let p = ands h r.next y xs in
      r.gates ++ (p.gates ++ (gate and3 (o s) g y x ∷ sums (suc s) p.next z p.outs r.outs))
