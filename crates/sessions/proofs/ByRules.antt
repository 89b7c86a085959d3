-- An evaluation by the code, from a session and a table that fit, is document 01's: the answer, the session then and every byte of the table.
-- Assumes nothing.
use mathlib.Core.Path.{◌≡◌, sym, ap, subst, ◌∙◌}
use mathlib.Core.Bool.{true}
use mathlib.Core.List.{List}
use Prim.Native.Nat.{ℕ, ◌*◌, ◌<◌, ◌≤◌}
use lib.ListN.{length, get_or}
use Rattle.std.specs.declared.result.Result.{Result}
use Rattle.std.specs.declared.result.Result.TheVariants.{Ok, Err}
use Rattle.semantics.specs.declared.Term.{Term}
use Rattle.semantics.specs.declared.Result.{Result as Ending}
use Rattle.semantics.specs.declared.refusal.Refusal.{Refusal}
use Rattle.semantics.specs.Refusals.{number_of}
use Rattle.semantics.specs.declared.Session.{Session}
use Rattle.semantics.specs.declared.Answer.{Answer}
use Rattle.semantics.specs.declared.Answer.TheVariants.{Refused}
use Rattle.semantics.specs.declared.Evaluated.{Evaluated}
use Rattle.semantics.specs.Rules.{rule_refusal_of}
use Rattle.semantics.specs.Terms.{terms_in, image_of}
use Rattle.semantics.specs.Steps.{setting_of}
use Rattle.semantics.specs.Opening.{opening}
use Rattle.semantics.specs.Evaluation.{eval_of}
use Rattle.semantics.specs.Fits.{fits_of}
use Rattle.semantics.specs.Answers.{answer_of}
use Rattle.semantics.specs.Evaluate.{refused_by, advanced, evaluated}
use Rattle.terms.specs.Search.{code_setting}
use Rattle.slices.specs.Wiped.{wiped}
use Rattle.terms.specs.Gives.{held, shown, Gives}
use Rattle.terms.specs.declared.table.Table.{Table}
use Rattle.terms.proofs.Tables.{terms_length}
use Rattle.terms.proofs.Wiped.{restored}
use Rattle.terms.proofs.Image.{image_whole}
use Rattle.typing.proofs.Ruled.{ruled}
use Rattle.typing.proofs.Does.{does_same}
use Rattle.soundness.proofs.Evaluation.{eval_does}
use Rattle.fitting.specs.Opens.{Enters}
use Rattle.sessions.proofs.Facts.{Fitting, fitting}

module _ (x : Session) (f z : Table) (fc : f.count ≡ x.count) (rule : List ℕ) (allowance : ℕ) (h : fits_of x f.bytes.now ≡ true) (r : rule_refusal_of rule ≡ 0) {e : ℕ} (en : Enters x.inputs e)
    (byte : (k : ℕ) → get_or f.bytes.now k 0 < 256) where
  facts : Fitting x f.bytes.now
  facts = fitting x f.bytes.now en.sixteen h

  module _ {u : ℕ} {v : Result Ending Refusal} (g : Gives (eval_of rule x.accepted allowance 0 e x.state) f u v z) where
    -- the code's search makes no difference
    same : shown (held z) u v ≡ eval_of rule x.accepted allowance 0 (opening x.inputs).environment x.state (setting_of (length f.bytes.now)) (terms_in f.bytes.now x.count)
    same =
        let q = facts in
        let i = en.is q.taken in
        rw fc at g.is ∙ (ap (λ (m : ℕ). eval_of rule x.accepted allowance 0 m x.state (code_setting (length f.bytes.now)) (terms_in f.bytes.now x.count)) i
        ∙ does_same (eval_does (length f.bytes.now) x.accepted rule (ruled rule r) allowance (terms_in f.bytes.now x.count) 0 (opening x.inputs).environment x.state q.fit q.environment q.state))

  pub evaluated_out : {u : ℕ} {v : Ending} → Gives (eval_of rule x.accepted allowance 0 e x.state) f u (Ok v) z → {w : Answer} → w ≡ answer_of v u → {t : Session} → t ≡ advanced x z.count v → {y : List ℕ} → y ≡ z.bytes.now
      → ◌≡◌ {A = Evaluated × List ℕ} (record { answer = w; session = t }, y) (evaluated rule allowance x f.bytes.now)
  unfolding evaluated
  evaluated_out g ew et ey =
      let q = facts in
      let b = f.bytes.now in
      let full : b ≡ image_of (length b) (held f) = image_whole b byte x.count q.room q.tail ∙ ap (λ (n : ℕ). image_of (length b) (terms_in b n)) (sym fc) in
      let image : z.bytes.now ≡ image_of (length b) (held z) = g.kept.whole full ∙ ap (λ (l : ℕ). image_of l (held z)) g.kept.long in
      rw (← same g, ew, et, ey, terms_length z.bytes.now z.count, ← image)

  pub evaluated_refused : {u : ℕ} {k : Refusal} → Gives (eval_of rule x.accepted allowance 0 e x.state) f u (Err k) z → {y : List ℕ} → y ≡ z.bytes.now → {w : List ℕ} → w ≡ wiped y (x.count * 8)
      → {v : Evaluated} → v ≡ record { answer = Refused (number_of k); session = x } → ◌≡◌ {A = Evaluated × List ℕ} (v, w) (evaluated rule allowance x f.bytes.now)
  unfolding evaluated refused_by
  evaluated_refused g {y} ey {w} ew ev =
      let q = facts in
      let room : f.count * 8 ≤ length f.bytes.now = subst (λ (n : ℕ). n * 8 ≤ length f.bytes.now) (sym fc) q.room in
      let tail : (k : ℕ) → f.count * 8 ≤ k → get_or f.bytes.now k 0 ≡ 0 = subst (λ (n : ℕ). (k : ℕ) → n * 8 ≤ k → get_or f.bytes.now k 0 ≡ 0) (sym fc) q.tail in
      let e : w ≡ f.bytes.now = ew ∙ ap (λ (b : List ℕ). wiped b (x.count * 8)) ey ∙ ap (λ (n : ℕ). wiped z.bytes.now (n * 8)) (sym fc) ∙ restored f z g.kept room tail in
      rw (← same g, ev, e)
