-- A gate's text, slot by slot. Assumes nothing.
use mathlib.Core.Path.{◌≡◌}
use mathlib.Core.List.{[], ◌++◌}
use Prim.Native.Nat.{ℕ, suc, ◌+◌, ◌-◌, ◌%◌, ◌<◌, ◌≤◌}
use native.Mathlib.Omega.{arith}
use lib.ListN.{get_or}
use Rattle.gates.specs.declared.Places.{Places}
use Rattle.gate_tables.specs.Tables.{slots, slot_starts}
use Rattle.gates.specs.Slots.{slot_text, slots_text, gate_text}

module _ (p : Places) (g : ℕ) where
  pub slots_start : (f e i : ℕ) → f ≡ g % 16 → e ≡ get_or slot_starts (f + 1) 0 → i ≡ get_or slot_starts f 0 → gate_text p g ≡ slots_text p g i (e - i)
  unfolding gate_text
  slots_start f e i h k l = rw (k, l, h)

  pub slots_more : (i e s : ℕ) → i < e → s ≡ get_or slots i 0 → slots_text p g i (e - i) ≡ slot_text p g s ++ slots_text p g (i + 1) (e - (i + 1))
  unfolding slots_text
  slots_more i e s h k = let q : e - i ≡ suc (e - (i + 1)) = omega arith in rw (q, k)

  pub slots_end : (i e : ℕ) → e ≤ i → slots_text p g i (e - i) ≡ []
  unfolding slots_text
  slots_end i e h = let q : e - i ≡ 0 = omega arith in rw q
