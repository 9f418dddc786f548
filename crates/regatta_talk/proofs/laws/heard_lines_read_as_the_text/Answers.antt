use Rattle.regatta_talk.proofs.HeardLines.{heard_of_text, heard_reads}
use Rattle.regatta_talk.proofs.laws.heard_lines_read_as_the_text.Goals as goal

pub returns : goal.returns
returns c = record { lines = heard_of_text; read = heard_reads }
