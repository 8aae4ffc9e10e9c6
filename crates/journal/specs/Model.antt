-- What a journal holds, as the books of the rules.
use Rattle.rules.specs.Books.{Books}
use Rattle.journal.specs.declared.held.Journal.{Journal}

abbrev pub model : Journal → Books
model j = record {
  intervals = j.intervals.records;
  lines = j.lines.records;
  interval_room = j.intervals.room;
  line_room = j.lines.room;
  first_year = j.first_year;
  next = j.next;
  figures = j.figures;
}
