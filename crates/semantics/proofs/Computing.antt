-- Every definition of documents 01 and 02, opened for the checker to compute with: name `computing` on an `unfolding` line. Each line below has the
-- unfoldable definitions of one file, in its order. Assumes nothing.
use Prim.Native.Nat.{ℕ}
use lib.Count.{ones, ones_in, count_leading_zeros}
use Rattle.notation.specs.Notation as Notation
use Rattle.words.specs.Words as Words
use Rattle.operators.specs.Operators as Operators
use Rattle.semantics.specs.Records as Records
use Rattle.semantics.specs.Rules as Rules
use Rattle.semantics.specs.Terms as Terms
use Rattle.semantics.specs.Steps as Steps
use Rattle.semantics.specs.Factory as Factory
use Rattle.semantics.specs.Opening as Opening
use Rattle.semantics.specs.States as States
use Rattle.semantics.specs.Walk as Walk
use Rattle.semantics.specs.Merge as Merge
use Rattle.semantics.specs.Evaluation as Evaluation
use Rattle.semantics.specs.Fits as Fits
use Rattle.semantics.specs.Evaluate as Evaluate
use Rattle.semantics.specs.Fold as Fold
use Rattle.semantics.specs.Reading as Reading
use Rattle.semantics.specs.Under as Under
use Rattle.semantics.specs.Samples as Samples
use Rattle.semantics.specs.Spans as Spans
use Rattle.semantics.specs.Run as Run
use Rattle.semantics.specs.PlainRun as PlainRun
use Rattle.semantics.specs.History as History
use Rattle.semantics.specs.Print as Print

unfoldable notation : ℕ
unfolding Notation.when◌then◌else◌ Notation.if◌equals◌then◌else◌ Notation.if◌below◌then◌else◌ Notation.unless◌then◌else◌ Notation.with Notation.up_to Notation.every
notation = 0

unfoldable words : ℕ
unfolding Words.low_of Words.high_of Words.join_of
words = 0

unfoldable operators : ℕ
unfolding ones ones_in count_leading_zeros Operators.row_of Operators.operands_of Operators.gives_truth_of Operators.operate_of
operators = 0

unfoldable records : ℕ
unfolding Records.record_at Records.field_of
records = 0

unfoldable rules : ℕ
unfolding Rules.bad_rule_size Rules.uses_of Rules.shaped_of Rules.parts_of Rules.inside_of Rules.times_in Rules.times_below Rules.once_of Rules.linked_of Rules.places_of Rules.more_in Rules.parent_below Rules.entered_of Rules.in_scope_at Rules.scoped_of Rules.tests_of Rules.rule_refusal_of
rules = 0

unfoldable terms : ℕ
unfolding Terms.truth_number Terms.term_at Terms.bytes_of Terms.terms_in Terms.put Terms.image_of Terms.at Terms.same_of Terms.find_of Terms.sort_of Terms.known_of Terms.names_truth Terms.names_choice Terms.names_binding Terms.names_value Terms.operands_laid_out Terms.laid_out Terms.well_formed
terms = 0

unfoldable steps : ℕ
unfolding Steps.◌>>=◌ Steps.give Steps.refuse Steps.◌▹◌ Steps.each Steps.reads Steps.up Steps.make_of
steps = 0

unfoldable factory : ℕ
unfolding Factory.is_not_of Factory.not_of Factory.and_of Factory.or_of Factory.implies_of Factory.choice_of Factory.truth_of Factory.is_word_of Factory.is_procedure_of Factory.constant_of Factory.is_zero_of Factory.zero_absorbs_of Factory.zero_fold_of Factory.operator_term_of
factory = 0

unfoldable opening : ℕ
unfolding Opening.bad_table_size Opening.input_taken Opening.input_term Opening.inputs_of Opening.chain_of Opening.opening_of Opening.opening Opening.open_of
opening = 0

unfoldable states : ℕ
unfolding States.merge_assumed_of States.merge_asserted_of States.assume_of States.assert_of States.halts_of
states = 0

unfoldable walk : ℕ
unfolding Walk.leaf_of Walk.side_of Walk.left_side_of Walk.right_side_of Walk.sides_of Walk.node_of Walk.walk_of Walk.or_target_of Walk.aim_of
walk = 0

unfoldable merge : ℕ
unfolding Merge.merge_states_of Merge.value_step_of Merge.merge_values_of Merge.finish_of Merge.merge_of
merge = 0

unfoldable evaluation : ℕ
unfolding Evaluation.place_of Evaluation.datum_of Evaluation.procedure_of Evaluation.abort_of Evaluation.error_of Evaluation.words_of Evaluation.operation_of Evaluation.test_of Evaluation.operator_of Evaluation.second_of Evaluation.under_of Evaluation.let_of Evaluation.fork_of Evaluation.branches_of Evaluation.both_of Evaluation.if_of Evaluation.apply_of Evaluation.target_of Evaluation.targets_of Evaluation.call_of Evaluation.expression_of Evaluation.live_of Evaluation.eval_of
evaluation = 0

unfoldable fits : ℕ
unfolding Fits.same_terms Fits.no_free Fits.is_zero Fits.fits_of
fits = 0

unfoldable evaluate : ℕ
unfolding Evaluate.refused_by Evaluate.halted_again Evaluate.evaluated Evaluate.bad_depth Evaluate.evaluate_of
evaluate = 0

unfoldable fold : ℕ
unfolding Fold.numbered Fold.fold_terms
fold = 0

unfoldable reading : ℕ
unfolding Reading.is_true Reading.is_truth Reading.is_word Reading.passes Reading.result_reading Reading.operands_are_words Reading.operation_reading Reading.operator_reading Reading.term_reading Reading.readings Reading.value_outcome Reading.result_outcome Reading.numbers_taken Reading.result_taken Reading.read_in Reading.read_outcome Reading.read_of
reading = 0

unfoldable under : ℕ
unfolding Under.from_first Under.from_second Under.from_third Under.with_term Under.with_lower Under.down_from Under.named_by Under.under_of
under = 0

unfoldable samples : ℕ
unfolding Samples.samples_from Samples.outcome_told Samples.sample_refusal Samples.read_all_of
samples = 0

unfoldable spans : ℕ
unfolding Spans.only_true Spans.only_false Spans.are_spans Spans.are_truths Spans.sum_report Spans.difference_report Spans.less_report Spans.not_report Spans.and_report Spans.or_report Spans.other_report Spans.operator_report Spans.cover_of Spans.choice_report Spans.term_report Spans.reports Spans.end_of Spans.ends_of Spans.laid Spans.span_taken Spans.spans_taken Spans.spans_of
spans = 0

unfoldable run : ℕ
unfolding Run.after Run.placed_or Run.is_false Run.is_aword Run.is_aprocedure Run.word_in Run.operation_value Run.words_run Run.operator_run Run.datum_value Run.call_run Run.expression_run Run.run_by Run.input_value Run.inputs_bound
run = 0

unfoldable plain_run : ℕ
unfolding PlainRun.onward PlainRun.taking PlainRun.call_stored PlainRun.expression_stored PlainRun.stored_of PlainRun.started_of PlainRun.value_given PlainRun.ended_outcome PlainRun.stored_outcome PlainRun.run_outcome PlainRun.run_plainly_of
plain_run = 0

unfoldable history : ℕ
unfolding History.called History.called_all History.ran_on History.ran_all History.run_of_rules
history = 0

unfoldable print : ℕ
unfolding Print.inputs_from Print.inputs_whole Print.term_line Print.term_lines Print.answer_lines Print.evaluation_lines Print.opening_lines Print.printed_of
print = 0

unfoldable pub computing : ℕ
unfolding notation words operators records rules terms steps factory opening states walk merge evaluation fits evaluate fold reading under samples spans run plain_run history print
computing = 0
