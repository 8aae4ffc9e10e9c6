-- What a write leaves. Assumes nothing.
use Rattle.std.specs.Prelude.{ℕ, Bool, cond, List, ◌++◌}

-- the text stands behind what was there, or nothing was written
abbrev pub appended : Bool → List ℕ → List ℕ → List ℕ
appended done was text = cond done (was ++ text) was
