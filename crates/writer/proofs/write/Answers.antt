-- `writer::write` meets its contract: 3, 14, 18, or the text. Assumes nothing.
use Rattle.writer.proofs.Whole.{refused_misfit, refused_result, refused_long, written}
use Rattle.writer.proofs.write.Goals as goal

pub returns-then-not-fits : goal.returns-then-not-fits
returns-then-not-fits c = refused_misfit c.args.session c.args.table.now c.args.res c.args.goal c.args.buffer.now c.fits.ensures c.if-not-fits.true

pub returns-then-not-result_taken : goal.returns-then-not-result_taken
returns-then-not-result_taken c =
    refused_result c.args.session c.args.table.now c.args.res c.args.goal c.args.buffer.now c.fits.ensures c.if-not-fits.false c.result_taken.ensures c.if-not-result_taken.true

pub returns-then-buffer-length : goal.returns-then-buffer-length
returns-then-buffer-length c =
    refused_long c.args.session c.args.table.now c.args.res c.args.goal c.args.buffer.now c.fits.ensures c.if-not-fits.false c.result_taken.ensures c.if-not-result_taken.false c.measure-length.ensures.0 c.if-buffer-length.true

pub returns : goal.returns
returns c =
    written c.args.session c.args.table.now c.args.res c.args.goal c.args.buffer.now c.fits.ensures c.if-not-fits.false c.result_taken.ensures c.if-not-result_taken.false c.measure-length.ensures.0 c.if-buffer-length.false c.measure-length.ensures.1 c.put_text.ensures.text
