-- The inputs are written, then five numbers, of which the last is the halted mark. Assumes nothing.
use Rattle.std.proofs.Common.{rules}
use Rattle.forms.proofs.Written.{session_length_lem, put_session}
use Rattle.forms.proofs.put_session.Goals as goal

pub returns : goal.returns
returns c = (search session_length_lem, search (rules, put_session))
