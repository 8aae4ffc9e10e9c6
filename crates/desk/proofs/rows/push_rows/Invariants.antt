use Rattle.std.proofs.Common.{◌≡◌, ◌++◌, take, vec_items}
use Rattle.std.specs.List.{flat_map}
use Rattle.desk.proofs.rows.push_rows.Given as goal

-- the rows of the records so far
abbrev pub invariant-loop-record : goal.invariant-loop-record
invariant-loop-record g l = vec_items l.out ≡ vec_items l.initial.out ++ flat_map g.R.Row.text (take l.record-index l.records)
