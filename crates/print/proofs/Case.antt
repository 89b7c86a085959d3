-- The printed case, byte for byte: a fact about the definitions. Assumes nothing.
use mathlib.Core.Path.{◌≡◌, ap}
use Rattle.notation.specs.Notation.{with, if◌below◌then◌else◌}
use Rattle.cases.specs.Marked.{printed_input, printed_lines}
use Rattle.cases.proofs.Computed.{computed}
use Rattle.text.specs.Text.{ascii, decimal_within, decimal_of, joined, numbers_text}
use Rattle.lines.specs.Lines.{line_text, lines_text}
use Rattle.print.specs.Written.{written_of}

pub printed_case : written_of printed_input ≡ ascii "out 23 2 20 24\n19 5 32 2 0 0\n20 2 0 7 0 0\n21 5 34 19 2 0\n22 5 34 2 19 0\n23 5 33 21 22 0\n"
unfolding written_of lines_text line_text numbers_text joined decimal_of decimal_within with if◌below◌then◌else◌ printed_lines
printed_case = ap lines_text computed.printed_case
