-- Text after text, and a byte. Assumes nothing.
use mathlib.Core.Path.{◌≡◌, refl, sym, ap, ◌∙◌}
use mathlib.Core.List.{List, [], ◌∷◌, ◌++◌}
use Prim.Native.Nat.{ℕ, ◌+◌, ◌<◌, ◌≤◌}
use native.Mathlib.Numerals.{add-one}
use lib.ListN.{length, set, get_or, drop, drop_of_length-le}
use lib.Seq.{set_out, drop-cons}
use borrow.Author.Tests.{lt-ltb, le-ltb}
use Rattle.notation.specs.Notation.{if◌below◌then◌else◌}
use Rattle.cursor.specs.declared.Cursor.{Cursor}
use Rattle.cursor.specs.Sink.{most_text, Sink, put_one, wrote, sink_at, Writes}

wrote_append : (k : Sink) (a b : List ℕ) → wrote k (a ++ b) ≡ wrote (wrote k a) b
unfolding wrote
wrote_append k [] b = refl
wrote_append k (x ∷ a) b = wrote_append (put_one k x) a b

-- ---- text after text
pub none_written : {c : Cursor} → Writes [] c c
unfolding wrote
none_written = record { same = refl; is = refl }

pub onward : {t u : List ℕ} {c d e : Cursor} → Writes t c d → Writes u d e → Writes (t ++ u) c e
onward {t} {u} {c} p q =
    record { same = q.same ∙ p.same; is = q.is ∙ (ap (λ k. wrote k u) p.is ∙ sym (wrote_append (sink_at c) t u)) }

-- the same text, said in another way
pub said : {t u : List ℕ} {c d : Cursor} → Writes t c d → t ≡ u → Writes u c d
said {c = c} p e = record { same = p.same; is = p.is ∙ ap (wrote (sink_at c)) e }

-- ---- a text that is being written: what is left of it, from here, gives what the whole gives
pub record Leads (whole : List ℕ) (c d : Cursor) (rest : List ℕ) : Type 0 where
  pub same : d.buffer.ghost_name ≡ c.buffer.ghost_name
  pub is : wrote (sink_at d) rest ≡ wrote (sink_at c) whole

pub leads_from : {whole rest : List ℕ} {c : Cursor} → whole ≡ rest → Leads whole c c rest
leads_from {c = c} e = record { same = refl; is = ap (wrote (sink_at c)) (sym e) }

module _ {whole : List ℕ} {c : Cursor} where
  pub leads_start : Leads whole c c whole
  leads_start = record { same = refl; is = refl }

  pub leads_step : {d e : Cursor} {t rest all : List ℕ} → all ≡ t ++ rest → Leads whole c d all → Writes t d e → Leads whole c e rest
  leads_step {d} {t = t} {rest} q h w =
      record { same = w.same ∙ h.same; is = ap (λ k. wrote k rest) w.is ∙ (sym (wrote_append (sink_at d) t rest) ∙ (ap (wrote (sink_at d)) (sym q) ∙ h.is)) }

  pub leads_end : {d : Cursor} {rest : List ℕ} → rest ≡ [] → Leads whole c d rest → Writes whole c d
  unfolding wrote
  leads_end {d} q h = record { same = h.same; is = ap (wrote (sink_at d)) (sym q) ∙ h.is }

-- ---- a byte
module _ {c d : Cursor} {b : ℕ} where
  pub put_in : c.at < most_text → d.buffer.ghost_name ≡ c.buffer.ghost_name → d.buffer.now ≡ set c.buffer.now c.at b → d.at ≡ c.at + 1 → Writes (b ∷ []) c d
  unfolding wrote put_one if◌below◌then◌else◌
  put_in h g s e = record { same = g; is = rw (lt-ltb c.at most_text h, s, e) }

  pub put_past : c.at < most_text → length c.buffer.now ≤ c.at → d.buffer.ghost_name ≡ c.buffer.ghost_name → d.buffer.now ≡ c.buffer.now → d.at ≡ c.at + 1 → Writes (b ∷ []) c d
  unfolding wrote put_one if◌below◌then◌else◌
  put_past h l g s e = record { same = g; is = rw (lt-ltb c.at most_text h, set_out c.buffer.now c.at b l, s, e) }

pub put_none : {c : Cursor} {b : ℕ} → most_text ≤ c.at → Writes (b ∷ []) c c
unfolding wrote put_one if◌below◌then◌else◌
put_none {c} h = record { same = refl; is = rw (le-ltb c.at most_text h) }

-- ---- bytes in turn
pub bytes_more : (s : List ℕ) (i : ℕ) → i < length s → drop i s ≡ (get_or s i 0 ∷ []) ++ drop (i + 1) s
bytes_more s i h = rw (add-one i, drop-cons s i 0 h)

pub bytes_end : (s : List ℕ) (i : ℕ) → length s ≤ i → drop i s ≡ []
bytes_end s i h = drop_of_length-le s h
