-- Each way out of the operation. Assumes nothing.
use mathlib.Core.Path.{◌≡◌, refl, sym, ap, ◌∙◌}
use mathlib.Core.List.{List, map}
use Prim.Native.Nat.{ℕ, ◌*◌, ◌/◌}
use native.Mathlib.Omega.{arith}
use lib.ListN.{length, replicate, length-map}
use lib.Seq.{ext_get_or}
use borrow.Author.Tests.{le-ltb}
use Rattle.std.specs.Prelude.{true, false, eqb, is_ok}
use Rattle.std.specs.declared.result.Result.{Result as Fallible}
use Rattle.std.specs.declared.result.Result.TheVariants.{Ok, Err}
use Rattle.semantics.specs.declared.refusal.Refusal.{Refusal}
use Rattle.semantics.specs.Refusals.{answer_number}
use Rattle.notation.specs.Notation.{if◌equals◌then◌else◌, if◌below◌then◌else◌, unless◌then◌else◌}
use Rattle.semantics.specs.declared.Result.{Result}
use Rattle.semantics.specs.declared.Session.{Session}
use Rattle.semantics.specs.Numbers.{input_count}
use Rattle.semantics.specs.Reading.{read_outcome, read_of}
use Rattle.semantics.specs.Samples.{sample_at, samples_from, answer_place, sample_answer, sample_refusal, read_all_of}
use Rattle.semantics.proofs.Samples.{SamplesTaken, samples_length, sample_mapped, samples_taken}
use Rattle.samples.proofs.Refusals.{above_zero}
use Rattle.under.specs.Marks.{MarksUnder}
use Rattle.marked.specs.Marked.{Under}
use Rattle.marked.proofs.Marked.{under_by}
use Rattle.samples.specs.Answers.{sample_outcome, Answers}

-- an answer's number is 0 where nothing was refused, and there alone
pub number_ok : {A : Type 0} (a : Fallible A Refusal) → is_ok a ≡ true → answer_number a ≡ 0
number_ok (Ok x) h = refl
number_ok (Err k) h = cc

pub number_err : {A : Type 0} (a : Fallible A Refusal) → is_ok a ≡ false → eqb (answer_number a) 0 ≡ false
number_err (Ok x) h = cc
number_err (Err k) h = above_zero k

module _ (x : Session) (s : List ℕ) (r : Result) (numbers work answers : List ℕ) {k : ℕ} (ek : k ≡ sample_refusal x s r (length numbers) (length work) (length answers)) where
  pub all_refused : eqb k 0 ≡ false → {y : List ℕ} → y ≡ replicate (length work) 0 → (k, y, answers) ≡ read_all_of x s r numbers work answers
  unfolding read_all_of if◌equals◌then◌else◌
  all_refused n ey = rw (← ek, n, ey)

  module _ (h : k ≡ 0) where
    given : SamplesTaken x s r (length numbers) (length work) (length answers)
    given = samples_taken x s r (length numbers) (length work) (length answers) (sym ek ∙ h)

    pub all_marked : {m : List ℕ} → MarksUnder s x.count r work m → Under s x.count r m
    all_marked = under_by s x.count r given.enough

    pub all_whole : length numbers ≡ input_count * length answers
    all_whole = given.whole

    -- a single reading goes the same way
    single : (sample : List ℕ) → answer_place (sample_outcome x.inputs s x.count r sample) ≡ sample_answer x s r work sample
    unfolding read_of read_outcome sample_outcome unless◌then◌else◌ if◌below◌then◌else◌
    single sample = rw (given.fits, given.taken, le-ltb (length work) x.count given.enough)

    pub all_read : {y z : List ℕ} → y ≡ replicate (length work) 0 → Answers x.inputs s x.count r numbers answers (length answers) z → (k, y, z) ≡ read_all_of x s r numbers work answers
    unfolding read_all_of if◌equals◌then◌else◌
    all_read {y} {z} ey g = rw (← ek, h, ey) (ap (λ l. (0, replicate (length work) 0, l)) each)
      where
        long : length z ≡ length (map (sample_answer x s r work) (samples_from (length numbers / input_count) numbers))
        long = g.long ∙ (given.count ∙ sym (length-map (samples_from (length numbers / input_count) numbers) (sample_answer x s r work) ∙ samples_length (length numbers / input_count) numbers))

        each : z ≡ map (sample_answer x s r work) (samples_from (length numbers / input_count) numbers)
        each = ext_get_or 0 z _ long λ j l.
            let a = g.long in let c = given.count in
            g.is j (omega arith) ∙ (single (sample_at numbers j) ∙ sym (sample_mapped (sample_answer x s r work) (length numbers / input_count) numbers j (omega arith)))
