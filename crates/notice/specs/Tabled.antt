-- A table's records.
use Rattle.std.specs.Prelude.{◌-◌, List, length, slice_get, vec_items, Option}
use Rattle.lookup.specs.declared.keyed.Keyed.{Ghosts}
use Rattle.notice.specs.declared.table.Table.{Table}

-- the records, in their order
abbrev pub records_of : {T : Type 0} {g : Ghosts T} → Table T g → List T
records_of t = vec_items t.records

-- the last of a list
abbrev pub last_of : {T : Type 0} → List T → Option T
last_of xs = slice_get xs (length xs - 1)
