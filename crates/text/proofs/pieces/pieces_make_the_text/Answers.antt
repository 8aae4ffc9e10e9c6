use Rattle.text.proofs.Whole.{cuts_make_the_text, fields_make_the_line, lines_make_the_text, told_lines_are_the_lines}
use Rattle.text.proofs.pieces.pieces_make_the_text.Goals as goal

pub returns : goal.returns
returns c = record { cuts = cuts_make_the_text; fields = fields_make_the_line; lines = lines_make_the_text; told = told_lines_are_the_lines }
