use Rattle.std.proofs.Common.{◌↔◌, drop}
use Rattle.sql_grammar.specs.Fits.{FitsMarks}
use Rattle.sql_read_writer.proofs.fits.fits_marks.Given as goal

abbrev pub invariant-loop-mark : goal.invariant-loop-mark
invariant-loop-mark l = FitsMarks l.dialect (drop l.mark-index l.marks) ↔ FitsMarks l.dialect l.marks
