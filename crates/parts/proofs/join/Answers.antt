-- `parts::join` meets its contract. Assumes nothing.
use Rattle.std.proofs.lemmas.Result.{err_from_is_err_and}
use Rattle.parts.proofs.join.Goals as goal

pub returns-in_err-result : goal.returns-in_err-result
returns-in_err-result c =
    let p = err_from_is_err_and c.from_residual.result c.from_residual.ensures.1 in
    rw (p.1, p.2) (record { merged = rw (c.branch-yes.ensures, c.branch-no.ensures, c.branch-result.ensures, c.in_err-result.is) at c.merge.ensures; used = tt })

pub returns : goal.returns
returns c = record { merged = rw (c.branch-yes.ensures, c.branch-no.ensures, c.branch-result.ensures, c.in_ok-result.is) at c.merge.ensures; used = c.max.ensures }
