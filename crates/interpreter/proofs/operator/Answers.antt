-- Each way through an operator. Assumes nothing.
use Rattle.interpreter.proofs.Values.{operator_no_word, operator_words, operator_one, operator_second, operator_not, operator_is_word, operator_is_procedure}
use Rattle.interpreter.proofs.operator.Goals as goal

pub returns-in_default : goal.returns-in_default
returns-in_default c = record { end = operator_no_word _ c.if-op-lt-NOT_CODE.true _ _ c.in_default.not-Word; plain = tt }

pub returns-in-Word-y-clause-end : goal.returns-in-Word-y-clause-end
returns-in-Word-y-clause-end c = operator_words _ c.if-op-lt-NOT_CODE.true c.in-Word.is c.in-Word-y.is c.operation.ensures.value

pub returns-in_default-y : goal.returns-in_default-y
returns-in_default-y c =
    record {
      end = operator_one _ c.if-op-lt-NOT_CODE.true c.in-Word.is _ c.in_default-y.not-Word c.operands.ensures c.if-operands-eq1.true c.operation-in_default-y.ensures.value;
      plain = c.operation-in_default-y.ensures.plain;
    }

pub returns-in_default-2 : goal.returns-in_default-2
returns-in_default-2 c =
    record {
      end = operator_second _ c.if-op-lt-NOT_CODE.true c.in-Word.is _ c.in_default-2.not-Word c.operands.ensures c.if-operands-eq1.false;
      plain = tt;
    }

pub returns-in-13-clause-end : goal.returns-in-13-clause-end
returns-in-13-clause-end c = search (operator_not)

pub returns-in-14-clause-end : goal.returns-in-14-clause-end
returns-in-14-clause-end c = search (operator_is_word)

pub returns-in_default-op-clause-end : goal.returns-in_default-op-clause-end
returns-in_default-op-clause-end c = search (operator_is_procedure)
