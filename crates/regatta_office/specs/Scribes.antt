-- What a contract sees of a `Scribe`.
use Rattle.std.specs.Prelude.{ℕ, List, Result}
use Rattle.regatta_terms.specs.declared.line.Line.{Line}
use Rattle.regatta_terms.specs.declared.line.LineFault.{LineFault}
use Rattle.regatta_office.specs.declared.scribe.Scribe.{Scribe}
use Rattle.regatta_office.specs.Coming.{Point}
use Rattle.regatta_office.specs.Turns.{talk_after}

-- the point that its run has come to
abbrev pub point : Scribe → Point
point scribe = record {
  rules = scribe.board.rules;
  talk = record { role = scribe.role; journal = scribe.board.entries };
  line = scribe.cutter;
}

-- the point after a line that asks for this, with this buffered part of the next line
abbrev pub point_after : Point → Result Line LineFault → List ℕ → Point
point_after before asked line = record {
  rules = before.rules;
  talk = talk_after before.rules before.talk asked;
  line = line;
}
